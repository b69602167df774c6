use Rattle.std.proofs.Common.{subst}
use Rattle.input_escapes.specs.declared.escapes.NameUse.TheVariants.{Argument, Register, Text}
use Rattle.read_lines.specs.Reader.Taken.{TakesAs}
use Rattle.run_model.specs.Reading.Escapes.{asking}
use Rattle.run_model.specs.declared.line_state.LineState.{LineState}
use Rattle.read_steps.proofs.titles.read_name_of_title.Goals as goal

pub returns-in-Character : goal.returns-in-Character
returns-in-Character c = rw c.in-Character.is (c.read_character_of_title.ensures c.args.composer.now c.args.unread.now)

pub returns-in-LeftOut : goal.returns-in-LeftOut
returns-in-LeftOut c = rw c.in-LeftOut.is (c.say_of_title.ensures c.args.composer.now c.args.unread.now)

pub returns-in-Register : goal.returns-in-Register
returns-in-Register c =
    let u = c.args.unread.now in
    let done = c.ask in
    rw c.in-Register.is
    (subst (λ (r : LineState). TakesAs (λ k. asking k u.input r (Register c.in-Register.field-0) c.args.name) c.args.composer.now c.args.reader.now done.new.self u done.new.unread done.result)
    c.requires (rw c.in-Register.is at done.ensures))

pub returns-in-Text : goal.returns-in-Text
returns-in-Text c =
    let u = c.args.unread.now in
    let done = c.ask-in-Text in
    rw c.in-Text.is
    (subst (λ (r : LineState). TakesAs (λ k. asking k u.input r Text c.args.name) c.args.composer.now c.args.reader.now done.new.self u done.new.unread done.result)
    c.requires (rw c.in-Text.is at done.ensures))

pub returns-in-Argument : goal.returns-in-Argument
returns-in-Argument c =
    let u = c.args.unread.now in
    let done = c.ask-in-Argument in
    rw c.in-Argument.is
    (subst (λ (r : LineState). TakesAs (λ k. asking k u.input r Argument c.args.name) c.args.composer.now c.args.reader.now done.new.self u done.new.unread done.result)
    c.requires (rw c.in-Argument.is at done.ensures))
