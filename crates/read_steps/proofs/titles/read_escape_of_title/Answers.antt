use Rattle.std.proofs.Common.{◌≡◌, ◌∙◌, sym, rules, subst}
use Rattle.input_escapes.specs.Escapes.{escape_of}
use Rattle.input_escapes.specs.declared.escapes.Escape.{Escape as Kind}
use Rattle.input_escapes.specs.declared.escapes.Escape.TheVariants.{Text}
use Rattle.input_escapes.specs.declared.escapes.TextUse.TheVariants.{LeftOut}
use Rattle.read_lines.specs.Reader.Taken.{TakesAs}
use Rattle.run_model.specs.Reading.Titles.{escape_in_title}
use Rattle.read_steps.proofs.titles.read_escape_of_title.Goals as goal

pub returns-in-Prints : goal.returns-in-Prints
returns-in-Prints c = λ es u.
    let done = c.put_in_title in
    subst (λ (kind : Kind). TakesAs (λ k. escape_in_title u.input c.args.delimiter c.args.byte kind) es c.args.reader.now done.new.reader u u done.result)
    (sym c.in-Prints.is ∙ c.escape_of.ensures) (done.ensures es u)

pub returns-in-Blank : goal.returns-in-Blank
returns-in-Blank c = λ es u.
    let done = c.put_in_title-in-Blank in
    subst (λ (kind : Kind). TakesAs (λ k. escape_in_title u.input c.args.delimiter c.args.byte kind) es c.args.reader.now done.new.reader u u done.result)
    (sym c.in-Blank.is ∙ c.escape_of.ensures) (done.ensures es u)

pub returns-in-LeftOut : goal.returns-in-LeftOut
returns-in-LeftOut c = λ es u.
    let done = c.say_of_title in
    subst (λ (kind : Kind). TakesAs (λ k. escape_in_title u.input c.args.delimiter c.args.byte kind) es c.args.reader.now done.new.reader u u done.result)
    (sym c.in-LeftOut.is ∙ c.escape_of.ensures) (done.ensures es u)

pub returns-in-Text-LeftOut : goal.returns-in-Text-LeftOut
returns-in-Text-LeftOut c = λ es u.
    let done = c.say_of_title-in-Text-LeftOut in
    let is : Text (LeftOut c.in-Text-LeftOut.left_out) ≡ escape_of c.args.byte = search rules in
    subst (λ (kind : Kind). TakesAs (λ k. escape_in_title u.input c.args.delimiter c.args.byte kind) es c.args.reader.now done.new.reader u u done.result)
    is (done.ensures es u)
