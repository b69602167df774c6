-- The escapes that step a register on a text line (manual, section 8).
use Rattle.std.specs.Prelude.{◌≡◌, ℕ, ◌≤◌, ◌++◌, false, List, [], ◌∷◌, length, take, Option, Some, None}
use Rattle.input_escapes.specs.Waiting.{is_ended_by}
use Rattle.roff_num.specs.declared.direction.Direction.{Direction}
use Rattle.roff_num.specs.declared.direction.Direction.TheVariants.{Up, Down}
use Rattle.roff_num.specs.declared.short_name.ShortName.{ShortName}
use Rattle.run_model.specs.Reading.{byte_taking}
use Rattle.run_model.specs.Reading.Ends.{due}
use Rattle.run_model.specs.Reading.Escapes.{interpolating}
use Rattle.run_model.specs.Reading.Items.{PageInput}
use Rattle.run_model.specs.Registers.{Known}
use Rattle.run_model.specs.Stages.{Stage, Turned, held_at, input_at}
use Rattle.roff_store.specs.Named.{Named}
use Rattle.roff_store.specs.Texts.{Entry}
use Rattle.read_shortcuts.specs.Registers.{IsRegisterName}

-- the sign of a step
abbrev pub sign_of : Direction → ℕ
sign_of Up = 43
sign_of Down = 45

-- the bytes of the escape that steps the register of a name, behind its sign, and all of them
abbrev pub name_behind : ℕ → Option ℕ → List ℕ
name_behind first None = first ∷ []
name_behind first (Some second) = 40 ∷ first ∷ second ∷ []

abbrev pub step_behind : Direction → ℕ → Option ℕ → List ℕ
step_behind direction first second = 92 ∷ 110 ∷ sign_of direction ∷ name_behind first second

abbrev pub step_escape : Direction → ShortName → List ℕ
step_escape direction name = step_behind direction name.first name.second

-- bytes begin with the escape that steps the register of a name
pub record BeginsStep (bytes : List ℕ) (direction : Direction) (name : ShortName) : Type 0 where
  pub named : IsRegisterName name
  pub among : length (step_escape direction name) ≤ length bytes
  pub is : take (length (step_escape direction name)) bytes ≡ step_escape direction name

-- These bytes lead to where a register is stepped on a text line and its text put in front: all but the last one from stage to stage.
pub record AsksStep (direction : Direction) (names : Named Entry) (p : Stage) (bytes name : List ℕ) : Type 0 where
  pub front : List ℕ
  pub last : ℕ
  pub is : bytes ≡ front ++ last ∷ []
  pub there : Stage
  pub turned : Turned names p front there
  pub none_due : due there.reading ≡ None
  pub stays : is_ended_by there.escapes (Some last) ≡ false
  pub held : held_at there ≤ held_at p
  pub texts : there.texts ≡ p.texts
  pub asks : (k : Known) (i : PageInput)
      → byte_taking k there.reading (input_at names there i) last ≡ interpolating k (input_at names p i) p.reading (Some direction) name
