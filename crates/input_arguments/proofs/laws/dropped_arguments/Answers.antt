use Rattle.input_model.proofs.KeptArguments.{only_kept-with_unit, only_kept-settled, only_kept-finished, held-only_kept}
use Rattle.input_arguments.proofs.laws.dropped_arguments.Goals as goal

pub returns : goal.returns
returns c = record {
  unit = only_kept-with_unit;
  settled = only_kept-settled;
  finished = only_kept-finished;
  held = held-only_kept;
}
