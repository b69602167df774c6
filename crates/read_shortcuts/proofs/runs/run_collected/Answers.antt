use Rattle.std.proofs.Common.{ap, refl}
use Rattle.run_model.specs.declared.line_state.LineState.TheVariants.{Collecting}
use Rattle.run_model.specs.declared.purpose.Purpose.{Purpose}
use Rattle.read_shortcuts.proofs.HeldRuns.{holds_call_where}
use Rattle.read_shortcuts.proofs.runs.run_collected.Goals as goal

pub returns-in-Calling : goal.returns-in-Calling
returns-in-Calling c = record {
  does = holds_call_where (Collecting c.args.purpose) c.in-Calling.name (ap (λ (purpose : Purpose). Collecting purpose) c.in-Calling.is);
  half_read = refl;
  none_due = refl;
}
