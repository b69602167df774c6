-- What holds of what was found where a line collects units: what holds of all that units do there, and of what is none.
use Rattle.std.proofs.Common.{Option, Some, None}
use Rattle.input_escapes.specs.declared.open_escape.CopyUnit.{CopyUnit}
use Rattle.input_escapes.specs.declared.open_escape.Found.{Found}
use Rattle.run_model.specs.Reading.Collecting.{collected, unit_taking}
use Rattle.run_model.specs.Reading.Items.{PageInput, Taking}
use Rattle.run_model.specs.Reading.Units.{interrupted, no_unit_found, unit_in, unit_or}
use Rattle.run_model.specs.Registers.{Known}
use Rattle.run_model.specs.declared.line_state.LineState.{LineState}

pub of-unit_or : (P : Taking → Type 0) (does : CopyUnit → Taking) (none : Taking) (unit : Option CopyUnit) → ((unit : CopyUnit) → P (does unit)) → P none
    → P (unit_or does none unit)
of-unit_or P does none (Some unit) units others = units unit
of-unit_or P does none None units others = others

pub of-collected : (P : Taking → Type 0) (k : Known) (i : PageInput) (reading : LineState) (found : Found) → ((unit : CopyUnit) → P (unit_taking k i reading unit))
    → P (no_unit_found k (interrupted reading i) reading found) → P (collected k i reading found)
of-collected P k i reading found units others =
    of-unit_or P (unit_taking k i reading) (no_unit_found k (interrupted reading i) reading found) (unit_in found) units others
