use Rattle.std.proofs.Common.{List, ap, ◌∙◌}
use Rattle.std.specs.Option.{option_to_list}
use Rattle.run_model.specs.Reading.Items.{Taking}
use Rattle.run_model.specs.Reading.TextLines.{glyph_taking}
use Rattle.run_model.specs.declared.message.Message.{Message}
use Rattle.page_model.specs.declared.glyph.Glyph.TheVariants.{Blanks}
use Rattle.run_model.proofs.line_state.TextLine.motion.Goals as goal

pub returns : goal.returns
returns c = λ i.
    let saying = λ (messages : List Message) (t : Taking). record t { effect = record t.effect { messages = messages } } in
    let moved = glyph_taking i c.args.self (Blanks c.args.columns) in
    ap (saying (option_to_list c.message_of-step.result)) (c.glyph-step.ensures i) ∙ ap (λ (messages : List Message). saying messages moved) c.message_of-step.ensures
