-- Laws over the number registers (manual, section 8).
use Rattle.std.specs.Prelude.{◌≡◌, ℕ, true, false, List, [], ◌∷◌, ◌++◌, codes, Option, None}
use Rattle.roff_num.specs.RegisterText.{register_text}
use Rattle.roff_num.specs.declared.format.Format.{Format}
use Rattle.roff_num.specs.declared.num.Num.{Num}
use Rattle.roff_store.specs.Named.{entry_of}
use Rattle.roff_num.specs.declared.direction.Direction.{Direction}
use Rattle.run_model.specs.Registers.{AllRegisters, Known, Change, SetTo, FormatAs, Remove, StepBy, changed_by, is_page, is_read_only, known_behind, known_stepped, numbered, page_register, settable, step_messages, text_of_register}
use Rattle.run_model.specs.Requests.Numbering.{number_of_page}

-- what is known behind a register's value and increment: the page number's value is the layout's
abbrev pub known_set : List ℕ → Num → Num → Known → Known
known_set name value increment k =
    record (known_behind (SetTo name value increment ∷ []) k) { layout = numbered (number_of_page name value) k.layout }

-- a value that is set is read back as its text in the register's format
abbrev pub ValuesReadBack : Type 0
ValuesReadBack = (k : Known) (name : List ℕ) (value increment : Num) → is_read_only name ≡ false
    → text_of_register (known_set name value increment k) name ≡ register_text (settable name k).format value.0

-- a format that is set is the one in which the register's value is read back
abbrev pub FormatsReadBack : Type 0
FormatsReadBack = (k : Known) (name : List ℕ) (format : Format) → is_read_only name ≡ false
    → text_of_register (known_behind (FormatAs name format ∷ []) k) name
    ≡ register_text format (settable name k).value.0

-- a register's format stays as its value is set
abbrev pub FormatsStay : Type 0
FormatsStay = (k : Known) (name : List ℕ) (value increment : Num)
    → (settable name (known_set name value increment k)).format ≡ (settable name k).format

-- a name isn't a register: neither read-only nor the page number, and nothing was set
pub record IsUndefined (name : List ℕ) (rs : AllRegisters) : Type 0 where
  pub not_read_only : is_read_only name ≡ false
  pub not_page : is_page name ≡ false
  pub absent : entry_of name rs.named ≡ None

-- a name that isn't a register reads as 0
abbrev pub UndefinedReadAsZero : Type 0
UndefinedReadAsZero = (k : Known) (name : List ℕ) → IsUndefined name k.registers → text_of_register k name ≡ codes "0"

-- reading it makes none, with a step or without
abbrev pub ReadingMakesNone : Type 0
ReadingMakesNone = (k : Known) (name : List ℕ) (direction : Option Direction) → IsUndefined name k.registers
    → known_stepped direction name k ≡ k

-- and says nothing
abbrev pub ReadingIsSilent : Type 0
ReadingIsSilent = (k : Known) (name : List ℕ) (direction : Option Direction) → IsUndefined name k.registers
    → step_messages direction name k ≡ []

-- no change of the registers changes what a read-only one reads as
abbrev pub ReadOnlyStay : Type 0
ReadOnlyStay = (k : Known) (name : List ℕ) (changes : List Change) → is_read_only name ≡ true
    → text_of_register (known_behind changes k) name ≡ text_of_register k name

-- whoever sets, formats or steps this register changes nothing
pub record IsLeftAlone (name : List ℕ) (rs : AllRegisters) : Type 0 where
  pub set : (value increment : Num) → changed_by (SetTo name value increment) rs ≡ rs
  pub formatted : (format : Format) → changed_by (FormatAs name format) rs ≡ rs
  pub stepped : (direction : Direction) → changed_by (StepBy name direction) rs ≡ rs

-- a read-only register is left alone
abbrev pub ReadOnlyAreLeftAlone : Type 0
ReadOnlyAreLeftAlone = (rs : AllRegisters) (name : List ℕ) → is_read_only name ≡ true → IsLeftAlone name rs

-- a register that is removed reads as 0
abbrev pub RemovedReadAsZero : Type 0
RemovedReadAsZero = (k : Known) (before : List (List ℕ)) (name : List ℕ) (behind : List (List ℕ))
    → is_read_only name ≡ false → is_page name ≡ false
    → text_of_register (known_behind (Remove (before ++ name ∷ behind) ∷ []) k) name ≡ codes "0"

-- the page number can't be removed
abbrev pub PageNumberStays : Type 0
PageNumberStays = (k : Known) (names : List (List ℕ)) → page_register (known_behind (Remove names ∷ []) k) ≡ page_register k
