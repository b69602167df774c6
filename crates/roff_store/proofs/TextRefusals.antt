-- Which limit a call on names or texts in the making answers, by what it would make.
use Rattle.std.proofs.Common.{◌≡◌, ℕ, ◌≤◌, true, false, List, ◌++◌, length, refl, sym, ap, ◌∙◌, arith, Bool, Result, Ok, Err, is_some, nat_lt, not, if◌then◌else◌, length-append}
use Rattle.std.proofs.lemmas.Bool.Decides.{nat_tests}
use Rattle.roff_num.specs.declared.limit.Limit.{Limit}
use Rattle.roff_num.specs.declared.limit.Limit.TheVariants.{Names, Store}
use Rattle.roff_store.specs.Named.{Table, admitted, entry_of, has_room, with_entry}
use Rattle.roff_store.specs.TextCalls.{Set, Enter, answered, made, open_text, text_before, within_bytes}
use Rattle.roff_store.specs.TextLaws.{IsCounted}
use Rattle.roff_store.specs.Texts.{Entry, Body, Texts, used}
use Rattle.roff_store.proofs.CountedTexts.{before-few, bytes-with, sum-dropped}
use Rattle.roff_store.proofs.Entries.{length-with_entry}

-- the limit on names, if there are more than may be
abbrev pub answer_by : Bool → Result (Unit {0}) Limit
answer_by many = if many then Err Names else Ok tt

abbrev pub names_answer : Texts → Result (Unit {0}) Limit
names_answer t = answer_by (nat_lt t.names.cap (length t.names.entries))

-- the limit that a store is past: that on bytes before that on names
abbrev pub answer_of : Texts → Result (Unit {0}) Limit
answer_of t = within_bytes t (names_answer t)

-- a store that is past none
within_answer : (t : Texts) (answer : Result (Unit {0}) Limit) → used t ≤ t.cap_bytes → within_bytes t answer ≡ answer
within_answer t answer within =
    let no : nat_lt t.cap_bytes (used t) ≡ false = grind (arith, nat_tests) in
    ap (λ (b : Bool). if b then Err Store else answer) no

-- a name that finds no room would be one too many
room-counts : (name : List ℕ) (entry : Entry) (names : Table Entry) → length names.entries ≤ names.cap
    → nat_lt names.cap (length (with_entry name entry names.entries)) ≡ not (has_room name names)
room-counts name entry names few =
    let long = length-with_entry name entry names.entries in
    elim (is_some (entry_of name names.entries)) as (λ b. is_some (entry_of name names.entries) ≡ b
    → nat_lt names.cap (length (with_entry name entry names.entries)) ≡ not (has_room name names)) [
      | true ↦ (λ there. grind (arith, nat_tests))
      | false ↦ (λ new. grind (arith, nat_tests))
    ] refl

by_room : (name : List ℕ) (names : Table Entry) → admitted name names ≡ answer_by (not (has_room name names))
by_room name names =
    elim (has_room name names) as (λ b. ◌≡◌ {A = Result (Unit {0}) Limit} (if b then Ok tt else Err Names) (answer_by (not b))) [
      | true ↦ refl
      | false ↦ refl
    ]

pub admitted-counts : (name : List ℕ) (entry : Entry) (names : Table Entry) → length names.entries ≤ names.cap
    → admitted name names ≡ answer_by (nat_lt names.cap (length (with_entry name entry names.entries)))
admitted-counts name entry names few = by_room name names ∙ ap answer_by (sym (room-counts name entry names few))

-- a call answers the limit that what it would make is past
pub answered-set : (name : List ℕ) (entry : Entry) (t : Texts) → IsCounted t
    → answered (Set name entry) t ≡ answer_of (made (Set name entry) t)
answered-set name entry t counted =
    ap (within_bytes (made (Set name entry) t)) (admitted-counts name entry t.names counted.names)

-- a text that is entered makes no more bytes
pub enter-bytes : (id : ℕ) (name : List ℕ) (append : Bool) (t : Texts) → IsCounted t → used (made (Enter id name append) t) ≤ t.cap_bytes
enter-bytes id name append t counted =
    let entry : Entry = Body (text_before append name t ++ open_text id t) in
    let most = counted.bytes in
    let names = bytes-with name entry t.names.entries counted.once in
    let texts = sum-dropped t.open_texts id in
    let before = before-few append name t in
    let long = length-append (text_before append name t) (open_text id t) in
    omega arith

pub answered-enter : (id : ℕ) (name : List ℕ) (append : Bool) (t : Texts) → IsCounted t
    → answered (Enter id name append) t ≡ answer_of (made (Enter id name append) t)
answered-enter id name append t counted =
    let entry : Entry = Body (text_before append name t ++ open_text id t) in
    admitted-counts name entry t.names counted.names
    ∙ sym (within_answer (made (Enter id name append) t) (names_answer (made (Enter id name append) t)) (enter-bytes id name append t counted))
