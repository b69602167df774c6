-- What is read behind the name of a control line.
use Rattle.std.specs.Prelude.{◌≡◌, Bool, true, false, List, [], ◌∷◌}
use Rattle.input_escapes.specs.OpenEscape.{OpenEscape, Condition}
use Rattle.input_escapes.specs.declared.open_escape.ConditionPart.TheVariants.{Choice}
use Rattle.input_model.specs.Input.Calls.{last_result, without_last}
use Rattle.run_model.specs.Reading.Branches.{branch_of, reads_else}
use Rattle.run_model.specs.Reading.Items.{PageInput, Taking, going_on}
use Rattle.run_model.specs.Requests.{row_of}
use Rattle.run_model.specs.declared.request.Called.{Called}
use Rattle.run_model.specs.declared.request.Called.TheVariants.{Request as ARequest}
use Rattle.run_model.specs.declared.request.LineReading.{LineReading}
use Rattle.run_model.specs.declared.request.LineReading.TheVariants.{ByElse}
use Rattle.run_model.specs.declared.line_state.LineState.{LineState}
use Rattle.run_model.specs.declared.line_state.LineState.TheVariants.{Deciding}

-- whether a condition is read
abbrev pub is_deciding : LineState → Bool
is_deciding (Deciding keeps) = true
is_deciding (_) = false

-- what is half read behind a name, by whether a condition is read then
abbrev pub half_begun : Bool → List OpenEscape → List OpenEscape
half_begun true half = Condition (Choice false) [] ∷ []
half_begun false half = half

-- the input behind a name, where this is read then
abbrev pub input_begun : LineState → PageInput → PageInput
input_begun reading i = record i { escapes = half_begun (is_deciding reading) i.escapes }

-- behind something only what is half read changes, and this is read
abbrev pub LeadsTo : (PageInput → Taking) → LineState → Type 0
LeadsTo behind reading = (i : PageInput) → behind i ≡ going_on (input_begun reading i) reading

-- behind something the other branch is read of the last condition whose result was kept
abbrev pub LeadsToElse : (PageInput → Taking) → Type 0
LeadsToElse behind = (i : PageInput) → behind i ≡ going_on (without_last i) (branch_of (reads_else (last_result i)))

-- whether what is read behind a request's name is the other branch of a condition
abbrev pub is_by_else : LineReading → Bool
is_by_else ByElse = true
is_by_else (_) = false

-- and behind a name that stands for this
abbrev pub reads_other_branch : Called → Bool
reads_other_branch (ARequest request) = is_by_else (row_of request).line
reads_other_branch (_) = false
