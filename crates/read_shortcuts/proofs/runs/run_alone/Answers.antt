use Rattle.std.proofs.Common.{List, ◌∙◌, subst, sym, IfSome}
use Rattle.input_escapes.specs.OpenEscape.{OpenEscape}
use Rattle.run_model.specs.declared.line_state.LineState.{LineState}
use Rattle.run_model.specs.declared.line_state.LineState.TheVariants.{Collecting}
use Rattle.read_shortcuts.specs.Runs.{IsRun}
use Rattle.read_shortcuts.proofs.runs.run_alone.Goals as goal

pub returns-in-Collecting : goal.returns-in-Collecting
returns-in-Collecting c =
    let is = sym c.reading.ensures ∙ c.in-Collecting.is in
    let found = c.run_collected in
    subst (λ (reading : LineState). IfSome found.result (λ kind. IsRun kind reading c.args.unread.now.input.escapes)) (sym is)
    (subst (λ (half : List OpenEscape). IfSome found.result (λ kind. IsRun kind (Collecting c.in-Collecting.purpose) half)) (sym c.requires.none_half) found.ensures)
