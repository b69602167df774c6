-- The byte behind the mark of the line that ends a definition: it is a blank, a tab or a newline, and begins nothing.
use Rattle.std.proofs.Common.{◌≡◌, ℕ, ◌+◌, Bool, true, false, List, [], ◌∷◌, Option, Some, None, inl, inr, refl, subst, ◌==◌, arith, drop, if◌then◌else◌, eqb-true}
use Rattle.std.proofs.lemmas.Bool.{cases_Bool}
use Rattle.input_source.specs.Bytes.{backslash}
use Rattle.input_escapes.specs.OpenEscape.{Condition, unit_bytes}
use Rattle.input_escapes.specs.OpenEscapes.{byte_read}
use Rattle.input_escapes.specs.declared.open_escape.ConditionPart.TheVariants.{Choice}
use Rattle.input_escapes.specs.declared.open_escape.CopyUnit.{CopyUnit}
use Rattle.input_escapes.specs.declared.open_escape.Surroundings.{Surroundings}
use Rattle.input_escapes.specs.declared.open_escape.Surroundings.TheVariants.{Arguments as AboveArguments}
use Rattle.run_model.specs.Definitions.{ends_mark, line_from, line_with}
use Rattle.run_model.specs.declared.definition.DefinitionLine.{DefinitionLine}
use Rattle.run_model.specs.declared.definition.DefinitionLine.TheVariants.{IsLast, IsText}
use Rattle.run_model.proofs.EscapeCounts.{Leaves, Leaves-choice_made}

-- behind the whole mark a byte that ends the definition is one that may stand there
IsLast-byte : (b c : ℕ) (ends : Bool) → ends ≡ ends_mark c → (if ends then IsLast c else IsText) ≡ IsLast b → ends_mark b ≡ true
IsLast-byte b c true is last = cc
IsLast-byte b c false is last = cc

-- where a byte is the next one of the mark, or isn't
IsLast-next : (b : ℕ) (same : Bool) (line : DefinitionLine) → (line ≡ IsLast b → ends_mark b ≡ true) → (if same then line else IsText) ≡ IsLast b → ends_mark b ≡ true
IsLast-next b true line behind last = behind last
IsLast-next b false line behind last = cc

ends-line_with : (mark : List ℕ) (matched : ℕ) (bytes : List ℕ) (b : ℕ) → line_with mark matched bytes ≡ IsLast b → ends_mark b ≡ true
ends-line_with mark matched [] b last = cc
ends-line_with [] matched (c ∷ bytes) b last = IsLast-byte b c (ends_mark c) refl last
ends-line_with (m ∷ mark) matched (c ∷ bytes) b last =
    IsLast-next b (c == m) (line_with mark (matched + 1) bytes) (ends-line_with mark (matched + 1) bytes b) last

pub ends-line_from : (mark : List ℕ) (matched : Option ℕ) (unit : CopyUnit) (b : ℕ) → line_from mark matched unit ≡ IsLast b → ends_mark b ≡ true
ends-line_from mark None unit b last = cc
ends-line_from mark (Some matched) unit b last = ends-line_with (drop matched mark) matched (unit_bytes unit) b last

-- it is no backslash, which begins an escape
no_backslash : (b : ℕ) → ends_mark b ≡ true → (b == backslash) ≡ false
no_backslash b ends = elim (cases_Bool (b == backslash)) [
  | inl is ↦ let no : false ≡ true = subst (λ (c : ℕ). ends_mark c ≡ true) (eqb-true b backslash is) ends in cc
  | inr differs ↦ differs
]

pub ends_mark-begins_nothing : (base : Surroundings) (b : ℕ) → ends_mark b ≡ true → Leaves 0 (byte_read base [] b)
ends_mark-begins_nothing base b ends = rw (no_backslash b ends) (omega arith)

-- nor does it begin anything where it is the first byte of a condition
pub ends_mark-chooses_nothing : (b : ℕ) → ends_mark b ≡ true
    → Leaves 2 (byte_read AboveArguments (Condition (Choice false) [] ∷ []) b)
ends_mark-chooses_nothing b ends = rw (no_backslash b ends) (Leaves-choice_made [] false [] b)
