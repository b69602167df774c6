-- The page number's step: what is said of it, and its text.
use Rattle.std.proofs.Common.{◌≡◌, ℕ, Bool, true, false, not, List, [], ◌∷◌, Some, inl, inr, refl, sym, ap, ◌∙◌, if◌then◌else◌}
use Rattle.roff_num.specs.Ranges.{is_in_range}
use Rattle.roff_num.specs.declared.direction.Direction.{Direction}
use Rattle.run_model.specs.Registers.{Known, is_page, page_name, page_register, step_messages}
use Rattle.run_model.specs.declared.message.Message.TheVariants.{BadNumber}
use Rattle.roff_store.proofs.Entries.{bytes_eq_tells}
use Rattle.roff_store.specs.Registers.{next_value}

-- the name is the page number's
pub page_named : (name : List ℕ) → is_page name ≡ true → name ≡ page_name
page_named name is = elim (bytes_eq_tells name page_name) [ inl same ↦ same.1 | inr other ↦ absurd (cc) ]

-- what is said of a step of it
said_by : (within : Bool) → (if within then [] else BadNumber ∷ []) ≡ (if not within then BadNumber ∷ [] else [])
said_by true = refl
said_by false = refl

pub page_said : (direction : Direction) (name : List ℕ) (k : Known) → is_page name ≡ true
    → (if is_in_range (next_value direction (page_register k)) then [] else BadNumber ∷ []) ≡ step_messages (Some direction) name k
page_said direction name k is =
    said_by (is_in_range (next_value direction (page_register k)))
    ∙ ap (λ (n : List ℕ). step_messages (Some direction) n k) (sym (page_named name is))
