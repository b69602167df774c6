-- Calls on names and on texts in the making: what the store answers is what the limits on the input refuse.
use Rattle.std.proofs.Common.{◌≡◌, inl, inr, ℕ, ◌+◌, ◌-◌, ◌≤◌, true, false, zero, suc, List, [], ◌∷◌, length, Ok, Err, refl, sym, ap, subst, ◌∙◌, arith, Bool, Result, nat_lt, remove, if◌then◌else◌, le-ltb, lt-ltb, ltb-false, ltb-true}
use Rattle.std.proofs.lemmas.Bool.{cases_Bool}
use Rattle.roff_num.specs.declared.limit.Limit.{Limit}
use Rattle.roff_num.specs.declared.limit.Limit.TheVariants.{Store}
use Rattle.roff_num.specs.declared.limits.Limits.{Limits}
use Rattle.roff_store.specs.Named.{EachOnce}
use Rattle.roff_store.specs.TextCalls.{Call, after, answered, made, unless_refused}
use Rattle.roff_store.specs.TextLaws.{IsCounted}
use Rattle.roff_store.specs.Texts.{Texts, used}
use Rattle.roff_store.proofs.CountedTexts.{IsCounted-after, limits-after, limits-made}
use Rattle.roff_store.proofs.TextRefusals.{answer_by, answer_of}
use Rattle.input_model.specs.Input.{Input}
use Rattle.input_model.specs.Input.Names.{calling, with_texts}
use Rattle.input_model.specs.Unread.{Unread, IsWithin, changing, texts_within, unless_passed}
use Rattle.roff_scan.proofs.Changing.{changing_texts, texts_refusal}

-- the answer of a store that is past a limit or not
abbrev answer_by_tests : Bool → Bool → Result (Unit {0}) Limit
answer_by_tests bytes names = if bytes then Err Store else answer_by names

-- as many more than a limit as beyond some that don't count
nat_lt-beyond : (limit first count : ℕ) → nat_lt (limit + first) count ≡ nat_lt limit (count - first)
nat_lt-beyond limit first count = elim (cases_Bool (nat_lt (limit + first) count)) [
  | inl above ↦ let more = ltb-true (limit + first) count above in above ∙ sym (lt-ltb limit (count - first) (omega (arith, more)))
  | inr within ↦ let few = ltb-false (limit + first) count within in within ∙ sym (le-ltb limit (count - first) (omega (arith, few)))
]

module _ {E : Type 0} (u : Unread E) where
  by_tests : (m : Texts) (bytes names : Bool)
      → unless_passed (texts_refusal bytes names) (with_texts m u.input) u
      ≡ (answer_by_tests bytes names, record u { input = with_texts (unless_refused (answer_by_tests bytes names) (texts_within u.limits u.input) m) u.input })
  by_tests m true names = refl
  by_tests m false true = refl
  by_tests m false false = refl

  -- the input with other texts: what a store with them answers
  pub changing_to : (m : Texts) → IsWithin u → m.cap_bytes ≡ u.limits.store → m.names.cap ≡ u.limits.names + u.input.first_names
      → length m.open_texts ≤ u.limits.diversions + 1
      → changing (with_texts m u.input) u
      ≡ (answer_of m, record u { input = with_texts (unless_refused (answer_of m) (texts_within u.limits u.input) m) u.input })
  changing_to m within bytes names making =
      let first = u.input.first_names in
      let count = length m.names.entries in
      let answer : answer_of m ≡ answer_by_tests (nat_lt u.limits.store (used m)) (nat_lt u.limits.names (count - first)) =
      ap (λ (cap : ℕ). answer_by_tests (nat_lt cap (used m)) (nat_lt m.names.cap (length m.names.entries))) bytes
      ∙ ap (λ (cap : ℕ). answer_by_tests (nat_lt u.limits.store (used m)) (nat_lt cap count)) names
      ∙ ap (λ (full : Bool). answer_by_tests (nat_lt u.limits.store (used m)) full) (nat_lt-beyond u.limits.names first count) in
      changing_texts u (with_texts m u.input) within.pushed within.depth making within.results
      ∙ by_tests m (nat_lt u.limits.store (used m)) (nat_lt u.limits.names (count - first))
      ∙ ap (λ (a : Result (Unit {0}) Limit). (a, record u { input = with_texts (unless_refused a (texts_within u.limits u.input) m) u.input })) (sym answer)

  -- the texts of what is within the limits
  pub counted_within : IsWithin u → EachOnce u.input.names → IsCounted (texts_within u.limits u.input)
  counted_within within once = record { once = once; names = omega (arith, within.names); bytes = within.stored }

  -- a call that the store answers by what it would make
  pub changing_called : (call : Call) → IsWithin u
      → calling call u.input ≡ with_texts (made call (texts_within u.limits u.input)) u.input
      → answered call (texts_within u.limits u.input) ≡ answer_of (made call (texts_within u.limits u.input))
      → length (made call (texts_within u.limits u.input)).open_texts ≤ u.limits.diversions + 1
      → changing (calling call u.input) u
      ≡ (answered call (texts_within u.limits u.input), record u { input = with_texts (after call (texts_within u.limits u.input)) u.input })
  changing_called call within called answers making =
      let t : Texts = texts_within u.limits u.input in
      let same = limits-made call t in
      ap (λ (i : Input E). changing i u) called
      ∙ changing_to (made call t) within same.bytes same.names making
      ∙ ap (λ (a : Result (Unit {0}) Limit). (a, record u { input = with_texts (unless_refused a t (made call t)) u.input })) (sym answers)

  -- behind a call no limit is passed
  pub IsWithin-called : (call : Call) → IsWithin u → EachOnce u.input.names
      → length (after call (texts_within u.limits u.input)).open_texts ≤ u.limits.diversions + 1
      → IsWithin (record u { input = with_texts (after call (texts_within u.limits u.input)) u.input })
  IsWithin-called call within once making =
      let t : Texts = texts_within u.limits u.input in
      let counted = IsCounted-after call t (counted_within within once) in
      let same = limits-after call t in
      let bytes : used (after call t) ≤ (after call t).cap_bytes = counted.bytes in
      let names : length (after call t).names.entries ≤ (after call t).names.cap = counted.names in
      record {
        charge = within.charge;
        newlines = within.newlines;
        pushed = within.pushed;
        depth = within.depth;
        results = within.results;
        stored = subst (λ (cap : ℕ). used (after call t) ≤ cap) same.bytes bytes;
        names = omega (arith, names, same.names);
        making = making;
      }

-- texts that came of those of an input within some limits are those of the input with them
pub same_store : {E : Type 0} (l : Limits) (i : Input E) (answer : Result (Unit {0}) Limit) (m : Texts)
    → m ≡ texts_within l (with_texts m i)
    → unless_refused answer (texts_within l i) m ≡ texts_within l (with_texts (unless_refused answer (texts_within l i) m) i)
same_store l i (Ok done) m same = same
same_store l i (Err limit) m same = refl

-- and no more are in the making than before
pub making_unless : (l : Limits) (answer : Result (Unit {0}) Limit) (t m : Texts) (most : ℕ) → length t.open_texts ≤ most → length m.open_texts ≤ most
    → length (unless_refused answer t m).open_texts ≤ most
making_unless l (Ok done) t m most before now = now
making_unless l (Err limit) t m most before now = before

-- texts without one of them are no more
removed-few : (texts : List (List ℕ)) (id : ℕ) → length (remove texts id) ≤ length texts
removed-few [] zero = omega arith
removed-few [] (suc id) = omega arith
removed-few (text ∷ texts) zero = omega arith
removed-few (text ∷ texts) (suc id) = let others = removed-few texts id in omega arith

pub removed_few : (texts : List (List ℕ)) (id most : ℕ) → length texts ≤ most → length (remove texts id) ≤ most
removed_few texts id most few = let fewer = removed-few texts id in omega arith
