-- Registers that are removed one after another, by the arguments that name them.
use Rattle.std.proofs.Common.{◌≡◌, ℕ, ◌≤◌, ◌+◌, List, [], ◌∷◌, ◌++◌, fold, length, take, slice_get, Some, None, sym, ap, ◌∙◌, add-one, arith, le-ltb, ltb-false}
use Rattle.std.proofs.lemmas.List.Sums.{fold-append}
use Rattle.read_names.proofs.GivenNames.{named_by, names_given-next, not_named, take_past}
use Rattle.roff_num.specs.Names.{name_of}
use Rattle.read_obeying.specs.Acting.{ChangedTo}
use Rattle.roff_store.proofs.Calls.{length-without_entry_le}
use Rattle.roff_store.specs.Named.{without_entry}
use Rattle.roff_store.specs.Registers.{Registers}
use Rattle.run_model.specs.Registers.{AllRegisters, Remove}
use Rattle.run_model.specs.Registers.Capped.{Capped, is_past_cap, with_change}
use Rattle.run_model.specs.Requests.Numbering.{name_given, names_given}

-- the registers that the first so many arguments name are gone
abbrev pub Removed : ℕ → List (List ℕ) → Capped → Capped → Type 0
Removed n texts old now = now ≡ with_change (Remove (names_given (take n texts))) old

-- these go from some registers
abbrev removed_from : List (List ℕ) → Capped → Capped
removed_from names r = with_change (Remove names) r

-- names go from registers, and then one more
removed-append : (names others : List (List ℕ)) (r : Capped) → removed_from others (removed_from names r) ≡ removed_from (names ++ others) r
removed-append names others r =
    let without : Registers → List ℕ → Registers = λ named name. without_entry name named in
    ap (λ (named : Registers). (let all : AllRegisters = record r.all { named = named } in let capped : Capped = record r { all = all } in capped))
    (sym (fold-append without r.all.named names others))

-- behind an argument that names one
pub Removed-named : (n : ℕ) (texts : List (List ℕ)) (old now behind : Capped) (text name : List ℕ)
    → Removed n texts old now → slice_get texts n ≡ Some text → name_of (name_given text) ≡ Some name
    → behind ≡ with_change (Remove (name ∷ [])) now → Removed (n + 1) texts old behind
Removed-named n texts old now behind text name removed is named goes =
    let names : names_given (take (n + 1) texts) ≡ names_given (take n texts) ++ name ∷ [] =
    ap (λ m. names_given (take m texts)) (add-one n) ∙ names_given-next n texts text is
    ∙ ap (λ one. names_given (take n texts) ++ one) (named_by text name named) in
    goes
    ∙ ap (removed_from (name ∷ [])) removed
    ∙ removed-append (names_given (take n texts)) (name ∷ []) old
    ∙ ap (λ all. removed_from all old) (sym names)

-- behind another
pub Removed-unnamed : (n : ℕ) (texts : List (List ℕ)) (old now : Capped) (text : List ℕ)
    → Removed n texts old now → slice_get texts n ≡ Some text → name_of (name_given text) ≡ None
    → Removed (n + 1) texts old now
Removed-unnamed n texts old now text removed is unnamed =
    let names : names_given (take (n + 1) texts) ≡ names_given (take n texts) ++ [] =
    ap (λ m. names_given (take m texts)) (add-one n) ∙ names_given-next n texts text is
    ∙ ap (λ one. names_given (take n texts) ++ one) (not_named text unnamed) in
    removed
    ∙ removed-append (names_given (take n texts)) [] old
    ∙ ap (λ all. removed_from all old) (sym names)

-- where there is none
pub Removed-past : (n : ℕ) (texts : List (List ℕ)) (old now : Capped)
    → Removed n texts old now → slice_get texts n ≡ None → Removed (n + 1) texts old now
Removed-past n texts old now removed past =
    removed
    ∙ ap (λ (taken : List (List ℕ)). removed_from (names_given taken) old) (sym (ap (λ m. take m texts) (add-one n) ∙ take_past n texts past))

-- where names go, no more have a register
length-without : (names : List (List ℕ)) (named : Registers) → length (fold (λ named name. without_entry name named) named names) ≤ length named
length-without [] named = omega arith
length-without (name ∷ names) named =
    let one = length-without_entry_le name named in let others = length-without names (without_entry name named) in omega arith

-- so a removal passes no limit
pub Changed-removed : (names : List (List ℕ)) (old new : Capped) → new ≡ with_change (Remove names) old → ChangedTo (Remove names ∷ []) old new
Changed-removed names old new goes = record {
  registers = goes;
  within = λ few.
      ap is_past_cap goes ∙ le-ltb old.cap _ (let fewer = length-without names old.all.named in omega (arith, ltb-false old.cap (length old.all.named) few));
}
