-- What a fault of the start names, and what is told of it.
use Rattle.std.specs.Prelude.{◌≡◌, ℕ, List, [], ◌∷◌, ◌++◌, Result, Ok, Err, codes, string_bytes}
use Rattle.roff_num.specs.declared.num.Num.{Num}
use Rattle.cli_devices.specs.Inputs.Part.{AreNamed}
use Rattle.cli_devices.specs.declared.inputs.Part.{Part}
use Rattle.roff_tools.specs.declared.fault.StartFault.{StartFault}
use Rattle.roff_tools.specs.declared.fault.StartFault.TheVariants.{CannotOpen, BadPages, BadRegister, NotText, OutOfMemory}

-- the file that cannot be opened is this one, which was refused; or memory ran out
abbrev pub NamesFile : (List ℕ → Type 0) → List ℕ → StartFault → Type 0
NamesFile refuses name (CannotOpen s) = (string_bytes s ≡ name) × refuses name
NamesFile refuses name (BadPages s) = ⊥
NamesFile refuses name (BadRegister s) = ⊥
NamesFile refuses name NotText = ⊥
NamesFile refuses name OutOfMemory = Unit {0}

-- this name was refused, and those in front of it stand for parts
pub record IsFirstRefused {F S : Type 0} (opens : List ℕ → F → Type 0) (refuses : List ℕ → Type 0) (stands : S → Type 0)
    (names : List (List ℕ)) (name : List ℕ) : Type 0 where
  pub front : List (List ℕ)
  pub back : List (List ℕ)
  pub split : names ≡ front ++ name ∷ back
  pub parts : List (Part F S)
  pub opened : AreNamed opens stands front parts
  pub refused : refuses name

-- the file that cannot be opened is the first of these that was refused; or memory ran out
abbrev pub NamesFirstRefused : {F S : Type 0} → (List ℕ → F → Type 0) → (List ℕ → Type 0) → (S → Type 0) → List (List ℕ) → StartFault → Type 0
NamesFirstRefused opens refuses stands names (CannotOpen s) = IsFirstRefused opens refuses stands names (string_bytes s)
NamesFirstRefused opens refuses stands names (BadPages s) = ⊥
NamesFirstRefused opens refuses stands names (BadRegister s) = ⊥
NamesFirstRefused opens refuses stands names NotText = ⊥
NamesFirstRefused opens refuses stands names OutOfMemory = Unit {0}

-- the text that is no list of pages is this one, or memory ran out
abbrev pub NamesPages : List ℕ → StartFault → Type 0
NamesPages text (CannotOpen s) = ⊥
NamesPages text (BadPages s) = string_bytes s ≡ text
NamesPages text (BadRegister s) = ⊥
NamesPages text NotText = ⊥
NamesPages text OutOfMemory = Unit {0}

-- the text that asks for no register is this one, or memory ran out
abbrev pub NamesRegister : List ℕ → StartFault → Type 0
NamesRegister text (CannotOpen s) = ⊥
NamesRegister text (BadPages s) = ⊥
NamesRegister text (BadRegister s) = string_bytes s ≡ text
NamesRegister text NotText = ⊥
NamesRegister text OutOfMemory = Unit {0}

-- The list of pages is bad, or else a register is, or what is told is the fault of the files: where one is bad nothing behind it is
-- looked at.
abbrev pub NamesBad : Result (List (Num × Num)) (List ℕ) → Result (List (ℕ × Num)) (List ℕ) → (StartFault → Type 0) → StartFault → Type 0
NamesBad (Err text) registers of_files fault = NamesPages text fault
NamesBad (Ok pages) (Err text) of_files fault = NamesRegister text fault
NamesBad (Ok pages) (Ok registers) of_files fault = of_files fault

-- the words of the command line cannot be had: one of them is no text, or memory ran out
abbrev pub NamesWords : StartFault → Type 0
NamesWords (CannotOpen s) = ⊥
NamesWords (BadPages s) = ⊥
NamesWords (BadRegister s) = ⊥
NamesWords NotText = Unit {0}
NamesWords OutOfMemory = Unit {0}

-- what is told of a fault
abbrev pub fault_text : StartFault → List ℕ
fault_text (CannotOpen s) = codes "cannot open " ++ string_bytes s
fault_text (BadPages s) = codes "bad page list: " ++ string_bytes s
fault_text (BadRegister s) = codes "bad register: " ++ string_bytes s
fault_text NotText = codes "an argument is not UTF-8 text"
fault_text OutOfMemory = codes "out of memory"

-- its line
abbrev pub fault_line : StartFault → List ℕ
fault_line fault = codes "roff: " ++ fault_text fault ++ 10 ∷ []
