-- The requests get their names one after another, before anything is read.
use Rattle.std.proofs.Common.{◌≡◌, ◌+◌, ℕ, false, List, [], ◌∷◌, length, zero, suc, zero-add, subst, take, Option, Some, None, Ok, refl, ap, ◌∙◌, arith, nat_lt, slice_get, le-ltb}
use Rattle.roff_num.specs.declared.limit.Limit.{Limit}
use Rattle.roff_num.specs.declared.limits.Limits.{Limits}
use Rattle.input_model.specs.Input.{initial_input}
use Rattle.input_model.specs.Input.Names.{calling, names_added, stored}
use Rattle.input_model.specs.declared.looked.Looked.TheVariants.{Nothing}
use Rattle.input_model.specs.Unread.{changing, input_refusal, unless_passed}
use Rattle.roff_store.specs.Named.{Named, with_entry}
use Rattle.roff_store.specs.TextCalls.{Set}
use Rattle.roff_store.specs.Texts.{Entry, Request as RequestEntry, bytes_in}
use Rattle.run_model.specs.Reading.Items.{PageUnread, PageInput}
use Rattle.run_model.specs.Requests.{first_entries, requests, row_of}
use Rattle.run_model.specs.declared.request.Request.{Request}

-- the input once so many requests have their names
abbrev pub input_at : ℕ → PageInput
input_at count = record (initial_input (length requests)) { names = take count first_entries }

abbrev pub unread_at : Limits → ℕ → PageUnread
unread_at l count = record { input = input_at count; looked = Nothing; limits = l }

-- one more gets its name: it is behind all others, none has bytes, and the limit counts none
abbrev IsNamedNext : ℕ → Request → Type 0
IsNamedNext count request =
    (with_entry (row_of request).name (RequestEntry count) (take count first_entries) ≡ take (count + 1) first_entries)
    × ((bytes_in (take (count + 1) first_entries) ≡ 0) × (names_added (input_at (count + 1)) ≡ 0))

-- so it is with each of these
abbrev AreNamedNext : ℕ → List Request → Type 0
AreNamedNext count [] = Unit {0}
AreNamedNext count (request ∷ others) = IsNamedNext count request × AreNamedNext (count + 1) others

are_named : AreNamedNext 0 requests
are_named = search

named_next : (count before : ℕ) (some : List Request) (request : Request) → AreNamedNext before some → slice_get some count ≡ Some request
    → IsNamedNext (before + count) request
named_next count before [] request each is = cc
named_next zero before (first ∷ others) request each is =
    let same : first ≡ request = cc in subst (λ (r : Request). IsNamedNext (before + zero) r) same (subst (λ (n : ℕ). IsNamedNext n first) (omega arith) each.0)
named_next (suc count) before (first ∷ others) request each is =
    let later : before + 1 + count ≡ before + suc count = omega arith in
    subst (λ (n : ℕ). IsNamedNext n request) later (named_next count (before + 1) others request each.1 is)

-- no count is above its limit there
none_passed : (l : Limits) (count : ℕ) → bytes_in (take count first_entries) ≡ 0 → names_added (input_at count) ≡ 0 → input_refusal l (input_at count) ≡ None
none_passed l count bytes names =
    let none : (limit : ℕ) → nat_lt limit 0 ≡ false = λ limit. le-ltb limit 0 (omega arith) in
    let few_bytes : nat_lt l.store (stored (input_at count)) ≡ false = le-ltb l.store (stored (input_at count)) (omega (arith, bytes)) in
    let few_names : nat_lt l.names (names_added (input_at count)) ≡ false = le-ltb l.names (names_added (input_at count)) (omega (arith, names)) in
    rw (none l.diversions, few_bytes, few_names, none l.stack, none l.depth, none l.conditions) refl

-- so the next one gets its name
pub names_next : (l : Limits) (count : ℕ) (request : Request) → slice_get requests count ≡ Some request
    → changing (calling (Set (row_of request).name (RequestEntry count)) (input_at count)) (unread_at l count) ≡ (Ok tt, unread_at l (count + 1))
names_next l count request is =
    let next = subst (λ (n : ℕ). IsNamedNext n request) (zero-add count) (named_next count 0 requests request are_named is) in
    ap (λ (names : Named Entry). changing (record (initial_input (length requests)) { names = names }) (unread_at l count)) next.0
    ∙ ap (λ (refusal : Option Limit). unless_passed refusal (input_at (count + 1)) (unread_at l count)) (none_passed l (count + 1) next.1.0 next.1.1)
