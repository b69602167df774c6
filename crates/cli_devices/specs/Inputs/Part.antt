-- The parts of the input.
use Rattle.std.specs.Prelude.{◌≡◌, ℕ, true, false, List, [], ◌∷◌}
use Rattle.cli_devices.specs.declared.inputs.Part.{Part}
use Rattle.cli_devices.specs.declared.inputs.Part.TheVariants.{File, Standard}
use Rattle.cli_devices.specs.Inputs.Name.{names_standard_input}
use Rattle.input_source.specs.BlockRead.{SomeTape}
use Rattle.input_source.specs.Tape.{Tape}

-- what the part's own reader may give
abbrev pub part_gives : {F S : Type 0} → (F → Tape → Type 0) → (S → Tape → Type 0) → Part F S → Tape → Type 0
part_gives file standard (File f) = file f
part_gives file standard (Standard s) = standard s

-- something may always come
pub some_part : {F S : Type 0} (file : F → Tape → Type 0) (standard : S → Tape → Type 0)
    → ((f : F) → SomeTape (file f)) → ((s : S) → SomeTape (standard s)) → (part : Part F S) → SomeTape (part_gives file standard part)
some_part file standard some_file some_standard (File f) = some_file f
some_part file standard some_file some_standard (Standard s) = some_standard s

-- the part is what a name stands for: standard input, or what was opened under the name
abbrev pub IsNamed : {F S : Type 0} → (List ℕ → F → Type 0) → (S → Type 0) → List ℕ → Part F S → Type 0
IsNamed opens stands name (File f) = (names_standard_input name ≡ false) × opens name f
IsNamed opens stands name (Standard s) = (names_standard_input name ≡ true) × stands s

-- the parts are what the names stand for, one for each, in their order
abbrev pub AreNamed : {F S : Type 0} → (List ℕ → F → Type 0) → (S → Type 0) → List (List ℕ) → List (Part F S) → Type 0
AreNamed opens stands [] [] = Unit {0}
AreNamed opens stands [] (part ∷ parts) = ⊥
AreNamed opens stands (name ∷ names) [] = ⊥
AreNamed opens stands (name ∷ names) (part ∷ parts) = IsNamed opens stands name part × AreNamed opens stands names parts
