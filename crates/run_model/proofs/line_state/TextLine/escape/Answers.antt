use Rattle.std.proofs.Common.{◌≡◌, rules, sym, ap, ◌∙◌}
use Rattle.input_escapes.specs.Escapes.{escape_of}
use Rattle.input_escapes.specs.declared.escapes.Escape.TheVariants.{Text}
use Rattle.input_escapes.specs.declared.escapes.TextUse.TheVariants.{LeftOut, Motion}
use Rattle.run_model.specs.Reading.TextLines.{escape_meant}
use Rattle.run_model.proofs.line_state.TextLine.escape.Goals as goal

pub returns-in-Prints : goal.returns-in-Prints
returns-in-Prints c = λ i.
    c.glyph.ensures i ∙ ap (escape_meant i c.args.self c.args.byte) (sym c.in-Prints.is ∙ c.escape_of.ensures)

pub returns-in-Blank : goal.returns-in-Blank
returns-in-Blank c = λ i.
    c.glyph-in-Blank.ensures i ∙ ap (escape_meant i c.args.self c.args.byte) (sym c.in-Blank.is ∙ c.escape_of.ensures)

pub returns-in-NoWidth : goal.returns-in-NoWidth
returns-in-NoWidth c = λ i.
    c.glyph-in-NoWidth.ensures i ∙ ap (escape_meant i c.args.self c.args.byte) (sym c.in-NoWidth.is ∙ c.escape_of.ensures)

pub returns-in-LeftOut : goal.returns-in-LeftOut
returns-in-LeftOut c = λ i.
    c.left_out.ensures i ∙ ap (escape_meant i c.args.self c.args.byte) (sym c.in-LeftOut.is ∙ c.escape_of.ensures)

pub returns-in-Nothing : goal.returns-in-Nothing
returns-in-Nothing c = λ i.
    c.other.ensures i ∙ ap (escape_meant i c.args.self c.args.byte) (sym c.in-Nothing.is ∙ c.escape_of.ensures)

pub returns-in-Comment : goal.returns-in-Comment
returns-in-Comment c = λ i.
    c.other-in-Comment.ensures i ∙ ap (escape_meant i c.args.self c.args.byte) (sym c.in-Comment.is ∙ c.escape_of.ensures)

pub returns-in-Name : goal.returns-in-Name
returns-in-Name c = λ i.
    c.other-in-Name.ensures i ∙ ap (escape_meant i c.args.self c.args.byte) (sym c.in-Name.is ∙ c.escape_of.ensures)

pub returns-in-Size : goal.returns-in-Size
returns-in-Size c = λ i.
    c.other-in-Size.ensures i ∙ ap (escape_meant i c.args.self c.args.byte) (sym c.in-Size.is ∙ c.escape_of.ensures)

pub returns-in-Text-LeftOut : goal.returns-in-Text-LeftOut
returns-in-Text-LeftOut c = λ i.
    let is : Text (LeftOut c.in-Text-LeftOut.left_out) ≡ escape_of c.args.byte = search rules in
    c.left_out-in-Text-LeftOut.ensures i ∙ ap (escape_meant i c.args.self c.args.byte) is

pub returns-in-Text-Motion : goal.returns-in-Text-Motion
returns-in-Text-Motion c = λ i.
    let is : Text Motion ≡ escape_of c.args.byte = search rules in
    c.other-in-Text-Motion.ensures i ∙ ap (escape_meant i c.args.self c.args.byte) is

pub returns-in-Width : goal.returns-in-Width
returns-in-Width c = λ i.
    c.other-in-Width.ensures i ∙ ap (escape_meant i c.args.self c.args.byte) (sym c.in-Width.is ∙ c.escape_of.ensures)

pub returns-in-Brace : goal.returns-in-Brace
returns-in-Brace c = λ i.
    c.brace.ensures i ∙ ap (escape_meant i c.args.self c.args.byte) (sym c.in-Brace.is ∙ c.escape_of.ensures)

pub returns-in-Tab : goal.returns-in-Tab
returns-in-Tab c = λ i.
    c.tab.ensures i ∙ ap (escape_meant i c.args.self c.args.byte) (sym c.in-Tab.is ∙ c.escape_of.ensures)

pub returns-in-Interrupts : goal.returns-in-Interrupts
returns-in-Interrupts c = λ i.
    c.interrupt.ensures i ∙ ap (escape_meant i c.args.self c.args.byte) (sym c.in-Interrupts.is ∙ c.escape_of.ensures)
