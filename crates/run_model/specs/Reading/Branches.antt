-- Conditions, and the branches that are read or skipped (manual, section 16).
use Rattle.std.specs.Prelude.{ℕ, ◌+◌, Bool, true, false, ◌&&◌, not, nat_le, min, Some, None, Option, if◌then◌else◌, ◌==◌}
use Rattle.input_source.specs.Bytes.{newline, backslash}
use Rattle.input_escapes.specs.OpenEscapes.{byte_read}
use Rattle.input_model.specs.Input.{choosing}
use Rattle.input_model.specs.Input.Calls.{with_result}
use Rattle.input_escapes.specs.declared.open_escape.Decision.{Decision}
use Rattle.input_escapes.specs.declared.open_escape.Decision.TheVariants.{Is, OnPages}
use Rattle.input_escapes.specs.declared.open_escape.Found.{Found}
use Rattle.input_escapes.specs.declared.open_escape.Found.TheVariants.{Decides}
use Rattle.input_escapes.specs.declared.open_escape.Surroundings.TheVariants.{Arguments as AboveArguments}
use Rattle.run_model.specs.declared.line_state.LineState.{LineState}
use Rattle.run_model.specs.declared.line_state.LineState.TheVariants.{LineStart, Branch, Deciding, Skipping}
use Rattle.run_model.specs.Reading.Beginnings.{at_start, beginning_found}
use Rattle.run_model.specs.Reading.Items.{PageInput, Taking, going_on, read_by}
use Rattle.run_model.specs.Reading.Units.{no_unit_found}
use Rattle.run_model.specs.Registers.{Known, is_page_odd}

-- a count of braces in a skipped branch above this stays
abbrev pub most_braces : ℕ
most_braces = 4294967295

-- a brace more is counted, if this is so
abbrev pub counted_if : Bool → ℕ → ℕ
counted_if so count = if so then min (count + 1) most_braces else count

-- a byte of a branch that is skipped, in which so many braces were opened and closed: one behind a backslash belongs to
-- that, and a newline ends the branch unless more were opened
abbrev pub skipping_taking : PageInput → ℕ → ℕ → Bool → ℕ → Taking
skipping_taking i opened closed true b = going_on i (Skipping (counted_if (b == 123) opened) (counted_if (b == 125) closed) false)
skipping_taking i opened closed false b =
    if b == backslash then going_on i (Skipping opened closed true)
    else if b == newline && nat_le opened closed then going_on i LineStart
    else going_on i (Skipping opened closed false)

-- where a branch begins that is read, or skipped
abbrev pub branch_of : Bool → LineState
branch_of true = Branch
branch_of false = Skipping 0 0 false

-- its first byte
abbrev pub branch_taking : Known → PageInput → Bool → ℕ → Taking
branch_taking k i true b = read_by (λ j. beginning_found k j Branch) i (byte_read (at_start k) i.escapes b)
branch_taking k i false b = skipping_taking i 0 0 false b

-- whether a condition is so that asks this
abbrev pub is_so : Known → Decision → Bool
is_so k (Is so) = so
is_so k (OnPages odd) = if odd then is_page_odd k else not (is_page_odd k)

-- a condition decided: its result is kept, if it is to be, and the branch comes, of which a byte was taken already or none
abbrev pub decided : Known → PageInput → Bool → Option ℕ → Taking
decided k i so None = going_on i (branch_of so)
decided k i so (Some b) = branch_taking k i so b

-- the input with a result kept, if it is to be
abbrev pub with_result_if : Bool → Bool → PageInput → PageInput
with_result_if keeps so i = if keeps then with_result so i else i

-- what was found of a condition
abbrev pub condition_found : Known → PageInput → Bool → Found → Taking
condition_found k i keeps (Decides decision freed) = decided k (with_result_if keeps (is_so k decision) i) (is_so k decision) freed
condition_found k i keeps found = no_unit_found k i (Deciding keeps) found

-- the first byte of a condition behind a name of one byte: one that isn't there is false
abbrev pub condition_begun : Known → PageInput → Bool → ℕ → Taking
condition_begun k i keeps b =
    if b == newline then condition_found k i keeps (Decides (Is false) (Some b))
    else read_by (λ j. condition_found k j keeps) i (byte_read AboveArguments (choosing i).escapes b)

-- whether the other branch is read: a result was kept, and was that it isn't so
abbrev pub reads_else : Option Bool → Bool
reads_else None = false
reads_else (Some so) = not so
