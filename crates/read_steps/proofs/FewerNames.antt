-- Where names are removed and renamed, no count grows.
use Rattle.std.proofs.Common.{◌≡◌, ℕ, ◌+◌, ◌≤◌, true, false, List, [], ◌∷◌, length, Option, Some, None, refl, ap, arith, bytes_eq, if◌then◌else◌}
use Rattle.std.proofs.lemmas.List.Sums.{sum_by-cons}
use Rattle.input_model.specs.Input.Names.{calling}
use Rattle.roff_store.specs.Named.{Named, entry_of, with_entry, without_entry}
use Rattle.roff_store.specs.TextCalls.{Remove, Rename, moved_to}
use Rattle.roff_store.specs.Texts.{Entry, bytes_in, bytes_of}
use Rattle.roff_store.proofs.Calls.{length-with_entry_le, length-without_entry_le}
use Rattle.run_model.specs.Reading.Arguments.{calling_all}
use Rattle.run_model.specs.Reading.Items.{PageInput}
use Rattle.read_requests.specs.Request.Coded.{calls_of}
use Rattle.run_model.specs.Requests.Naming.{removals}
use Rattle.run_model.specs.Requests.Numbering.{names_given}
use Rattle.read_requests.specs.declared.requests.effects.Changes.{Changes}
use Rattle.read_requests.specs.declared.requests.effects.Changes.TheVariants.{Nothing, One, RemoveGiven, RemoveNamesGiven, Rename as RenameGiven}
use Rattle.run_model.proofs.InputCounts.{NoMore, NoMore-same, NoMore-trans, one_of}

-- the bytes of one entry and of the others
bytes_in-cons : (e : List ℕ × Entry) (es : Named Entry) → bytes_in (e ∷ es) ≡ length (bytes_of e.1) + bytes_in es
bytes_in-cons e es = sum_by-cons (λ (e : List ℕ × Entry). length (bytes_of e.1)) e es

-- where a name goes, no bytes come
bytes-without : (name : List ℕ) (es : Named Entry) → bytes_in (without_entry name es) ≤ bytes_in es
bytes-without name [] = omega arith
bytes-without name (e ∷ es) =
    let others = bytes-without name es in
    one_of (λ (left : Named Entry). bytes_in left ≤ bytes_in (e ∷ es)) (bytes_eq name e.0) (without_entry name es) (e ∷ without_entry name es)
    (omega (arith, others, bytes_in-cons e es)) (omega (arith, others, bytes_in-cons e es, bytes_in-cons e (without_entry name es)))

-- where a name stands for something else, no bytes come but its own
bytes-with : (name : List ℕ) (entry : Entry) (es : Named Entry) → bytes_in (with_entry name entry es) ≤ bytes_in es + length (bytes_of entry)
bytes-with name entry [] = omega (arith, bytes_in-cons (name, entry) [])
bytes-with name entry (e ∷ es) =
    let others = bytes-with name entry es in
    one_of (λ (now : Named Entry). bytes_in now ≤ bytes_in (e ∷ es) + length (bytes_of entry)) (bytes_eq name e.0) ((name, entry) ∷ es) (e ∷ with_entry name entry es)
    (omega (arith, bytes_in-cons (name, entry) es, bytes_in-cons e es)) (omega (arith, others, bytes_in-cons e es, bytes_in-cons e (with_entry name entry es)))

-- these entries are without an entry: they have its bytes less, and one name less
record IsWithout (entry : Entry) (now before : Named Entry) : Type 0 where
  names : length now + 1 ≤ length before
  bytes : bytes_in now + length (bytes_of entry) ≤ bytes_in before

-- so it is where a name goes that stands for something
without_found : (name : List ℕ) (entry : Entry) (es : Named Entry) → entry_of name es ≡ Some entry → IsWithout entry (without_entry name es) es
without_found name entry [] is = cc
without_found name entry (e ∷ es) is =
    elim (bytes_eq name e.0) as (λ c. (if c then Some e.1 else entry_of name es) ≡ Some entry → IsWithout entry (if c then without_entry name es else e ∷ without_entry name es) (e ∷ es)) [
      | true ↦ λ same.
          let is_it : e.1 ≡ entry = cc in
          record {
            names = let few = length-without_entry_le name es in omega arith;
            bytes =
                let its : length (bytes_of e.1) ≡ length (bytes_of entry) = ap (λ (entry : Entry). length (bytes_of entry)) is_it in
                omega (arith, bytes-without name es, bytes_in-cons e es, its);
          }
      | false ↦ λ found.
          let others = without_found name entry es found in
          record {
            names = omega (arith, others.names);
            bytes = omega (arith, others.bytes, bytes_in-cons e es, bytes_in-cons e (without_entry name es));
          }
    ] is

-- no more names, and no more bytes
record AreFewer (now before : Named Entry) : Type 0 where
  names : length now ≤ length before
  bytes : bytes_in now ≤ bytes_in before

-- so it is where one name gets what another one stood for
fewer_moved : (from to : List ℕ) (found : Option Entry) (es : Named Entry) → entry_of from es ≡ found → AreFewer (moved_to from to found es) es
fewer_moved from to None es is = record { names = omega arith; bytes = omega arith }
fewer_moved from to (Some entry) es is =
    let without = without_found from entry es is in
    record {
      names = let with = length-with_entry_le to entry (without_entry from es) in omega (arith, without.names);
      bytes = omega (arith, without.bytes, bytes-with to entry (without_entry from es));
    }

-- so no count is more behind such a call
NoMore-removed : (name : List ℕ) (i : PageInput) → NoMore (calling (Remove name) i) i
NoMore-removed name i =
    let names = length-without_entry_le name i.names in let bytes = bytes-without name i.names in
    record { bytes = omega arith; texts = omega arith; results = omega arith; stored = omega arith; names = omega arith; open_texts = omega arith }

NoMore-renamed : (from to : List ℕ) (i : PageInput) → NoMore (calling (Rename from to) i) i
NoMore-renamed from to i =
    one_of (λ (names : Named Entry). (let now : PageInput = record i { names = names } in NoMore now i)) (bytes_eq from to) i.names (moved_to from to (entry_of from i.names) i.names)
    (NoMore-same i)
    (let fewer = fewer_moved from to (entry_of from i.names) i.names refl in
    record { bytes = omega arith; texts = omega arith; results = omega arith; stored = omega (arith, fewer.bytes); names = omega (arith, fewer.names); open_texts = omega arith })

NoMore-removals : (names : List (List ℕ)) (i : PageInput) → NoMore (calling_all (removals names) i) i
NoMore-removals [] i = NoMore-same i
NoMore-removals (name ∷ names) i = NoMore-trans _ _ i (NoMore-removals names (calling (Remove name) i)) (NoMore-removed name i)

-- nor behind the calls of a request
pub NoMore-calls : (texts : List (List ℕ)) (changes : Changes) (i : PageInput) → NoMore (calling_all (calls_of texts changes) i) i
NoMore-calls texts Nothing i = NoMore-same i
NoMore-calls texts (One change) i = NoMore-same i
NoMore-calls texts RemoveGiven i = NoMore-same i
NoMore-calls texts RemoveNamesGiven i = NoMore-removals (names_given texts) i
NoMore-calls texts (RenameGiven from to) i = NoMore-renamed from to i
