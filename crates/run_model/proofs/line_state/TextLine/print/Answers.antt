use Rattle.std.proofs.Common.{true, List, ◌++◌, sym, ap, ◌∙◌}
use Rattle.run_model.specs.Reading.Items.{meaning_events}
use Rattle.run_model.specs.Reading.TextLines.{leading_glyph}
use Rattle.run_model.specs.Requests.{PageEvent}
use Rattle.run_model.specs.declared.line_state.LineState.TheVariants.{Text}
use Rattle.run_model.proofs.Printing.{prints-glyphs}
use Rattle.run_model.proofs.line_state.TextLine.print.Goals as goal

pub returns : goal.returns
returns c = λ i.
    let at = λ (events : List PageEvent). meaning_events i (Text (record c.args.self { has_glyph = true; leading = 0 })) events in
    c.printed.ensures i
    ∙ ap at c.bytes_printed.ensures
    ∙ ap (λ (events : List PageEvent). at (leading_glyph c.args.self.leading ++ events)) (sym (prints-glyphs c.args.text.now))
