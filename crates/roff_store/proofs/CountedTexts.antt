-- What calls on a store of texts keep: each name stands once, and no limit is passed.
use Rattle.std.proofs.Common.{◌≡◌, ℕ, zero, suc, ◌+◌, ◌≤◌, true, false, cond, List, [], ◌∷◌, ◌++◌, length, get_or, Some, None, refl, sym, ap, ◌∙◌, arith, Bool, Option, Result, Ok, Err, is_some, nat_lt, remove, sum_by, if◌then◌else◌, length-append}
use Rattle.std.specs.Str.{bytes_eq}
use Rattle.std.proofs.lemmas.Bool.Decides.{nat_tests}
use Rattle.std.proofs.lemmas.List.Sums.{sum_by-cons, sum_by_push}
use Rattle.roff_num.specs.declared.limit.Limit.{Limit}
use Rattle.roff_num.specs.declared.limit.Limit.TheVariants.{Names, Store}
use Rattle.roff_store.specs.Named.{Named, Table, EachOnce, admitted, entry_of, has_room, with_entry, without_entry}
use Rattle.roff_store.specs.TextCalls.{Call, Set, Append, Remove, Rename, Open, PushOpen, Enter, DropOpen, Lease, Take, Release, after, after_all, answered, made, moved_to, open_text, renamed, text_before, unless_refused, within_bytes}
use Rattle.roff_store.specs.TextLaws.{IsCounted, entry_after, entry_moved}
use Rattle.roff_store.specs.Texts.{Entry, Body, Texts, body_if_any, body_of, bytes_in, bytes_of, used}
use Rattle.roff_store.proofs.Calls.{length-with_entry_le, length-without_entry_le}
use Rattle.roff_store.proofs.Entries.{entry_of-with_entry, entry_of-without_entry, length-with_entry, length-without_entry, EachOnce-with_entry, EachOnce-without_entry}
use Rattle.roff_store.proofs.NameSums.{if_any, sum-with, sum-without}

-- the store behind a call that isn't refused, or the one before it
IsCounted-unless : (answer : Result (Unit {0}) Limit) (before now : Texts) → IsCounted before
    → (answer ≡ Ok tt → IsCounted now) → IsCounted (unless_refused answer before now)
IsCounted-unless (Ok done) before now counted then_now = then_now refl
IsCounted-unless (Err limit) before now counted then_now = counted

-- bytes that are allowed are within the limit
within-allowed : (t : Texts) (answer : Result (Unit {0}) Limit) → within_bytes t answer ≡ Ok tt
    → (used t ≤ t.cap_bytes) × (answer ≡ Ok tt)
within-allowed t answer =
    elim (nat_lt t.cap_bytes (used t)) as (λ b. nat_lt t.cap_bytes (used t) ≡ b
    → (if b then Err Store else answer) ≡ Ok tt → (used t ≤ t.cap_bytes) × (answer ≡ Ok tt)) [
      | true ↦ (λ past is. cc)
      | false ↦ (λ room is. (grind (arith, nat_tests), is))
    ] refl

-- and so are names
admitted-allowed : (name : List ℕ) (entry : Entry) (names : Table Entry) → length names.entries ≤ names.cap
    → admitted name names ≡ Ok tt → length (with_entry name entry names.entries) ≤ names.cap
admitted-allowed name entry names few =
    elim (has_room name names) as (λ b. has_room name names ≡ b
    → (if b then Ok tt else Err Names) ≡ Ok tt → length (with_entry name entry names.entries) ≤ names.cap) [
      | true ↦ (λ room is. let n = length-with_entry name entry names.entries in grind (arith, nat_tests))
      | false ↦ (λ full is. absurd (let e : ◌≡◌ {A = Result (Unit {0}) Limit} (Err Names) (Ok tt) = is in cc))
    ] refl

-- the bytes of what a name stands for are those of its body
bytes-any : (entry : Option Entry) → if_any (λ e. length (bytes_of e)) entry ≡ length (body_if_any entry)
bytes-any None = refl
bytes-any (Some entry) = refl

-- the bytes of bodies without that of a name, and with another one in its place
bytes-without : (name : List ℕ) (es : Named Entry) → EachOnce es
    → bytes_in (without_entry name es) + length (body_if_any (entry_of name es)) ≡ bytes_in es
bytes-without name es once =
    let sum = sum-without (λ (e : Entry). length (bytes_of e)) name es once in
    omega (arith, sum, bytes-any (entry_of name es))

pub bytes-with : (name : List ℕ) (entry : Entry) (es : Named Entry) → EachOnce es
    → bytes_in (with_entry name entry es) + length (body_if_any (entry_of name es)) ≡ bytes_in es + length (bytes_of entry)
bytes-with name entry es once =
    let sum = sum-with (λ (e : Entry). length (bytes_of e)) name entry es once in
    let without = bytes-without name es once in
    omega arith

-- the bytes of texts in the making without one of them
pub sum-dropped : (texts : List (List ℕ)) (id : ℕ) → sum_by length (remove texts id) + length (get_or texts id []) ≡ sum_by length texts
sum-dropped [] zero = refl
sum-dropped [] (suc id) = refl
sum-dropped (text ∷ texts) zero = omega (arith, sum_by-cons (λ (x : List ℕ). length x) text texts)
sum-dropped (text ∷ texts) (suc id) =
    let others = sum-dropped texts id in
    omega (
      arith,
      others,
      sum_by-cons (λ (x : List ℕ). length x) text texts,
      sum_by-cons (λ (x : List ℕ). length x) text (remove texts id),
    )

-- what a text is put behind is no longer than the body
pub before-few : (append : Bool) (name : List ℕ) (t : Texts) → length (text_before append name t) ≤ length (body_of name t)
before-few true name t = omega arith
before-few false name t = omega arith

-- the names once one is renamed
moved-once : (from to : List ℕ) (found : Option Entry) (es : Named Entry) → EachOnce es → EachOnce (moved_to from to found es)
moved-once from to None es once = once
moved-once from to (Some entry) es once = EachOnce-with_entry to entry (without_entry from es) (EachOnce-without_entry from es once)

module _ (from to : List ℕ) (es : Named Entry) (once : EachOnce es) where
  -- no more names, and no more bytes
  moved-few : (found : Option Entry) → found ≡ entry_of from es → length (moved_to from to found es) ≤ length es
  moved-few None is = omega arith
  moved-few (Some entry) is =
      let without = length-without_entry from es once in
      let with = length-with_entry_le to entry (without_entry from es) in
      let there : is_some (entry_of from es) ≡ true = ap is_some (sym is) in
      let one : ◌≡◌ {A = ℕ} (cond (is_some (entry_of from es)) 1 0) 1 = ap (λ (b : Bool). cond b 1 0) there in
      omega arith

  moved-bytes : (found : Option Entry) → found ≡ entry_of from es → bytes_in (moved_to from to found es) ≤ bytes_in es
  moved-bytes None is = omega arith
  moved-bytes (Some entry) is =
      let without = bytes-without from es once in
      let others = EachOnce-without_entry from es once in
      let with = bytes-with to entry (without_entry from es) others in
      let same : length (body_if_any (entry_of from es)) ≡ length (bytes_of entry) =
      ap (λ (e : Option Entry). length (body_if_any e)) (sym is) in
      omega arith

-- a store after a call
pub IsCounted-after : (call : Call) (t : Texts) → IsCounted t → IsCounted (after call t)
IsCounted-after (Set name entry) t counted =
    IsCounted-unless (answered (Set name entry) t) t (made (Set name entry) t) counted
    (λ allowed.
    let within = within-allowed (made (Set name entry) t) (admitted name t.names) allowed in
    record {
      once = EachOnce-with_entry name entry t.names.entries counted.once;
      names = admitted-allowed name entry t.names counted.names within.1;
      bytes = within.0;
    })
IsCounted-after (Append name bytes) t counted =
    let entry : Entry = Body (body_of name t ++ bytes) in
    IsCounted-unless (answered (Append name bytes) t) t (made (Append name bytes) t) counted
    (λ allowed.
    let within = within-allowed (made (Append name bytes) t) (admitted name t.names) allowed in
    record {
      once = EachOnce-with_entry name entry t.names.entries counted.once;
      names = admitted-allowed name entry t.names counted.names within.1;
      bytes = within.0;
    })
IsCounted-after (Remove name) t counted = record {
  once = EachOnce-without_entry name t.names.entries counted.once;
  names = let few = length-without_entry_le name t.names.entries in let most = counted.names in omega arith;
  bytes = let less = bytes-without name t.names.entries counted.once in let most = counted.bytes in omega arith;
}
IsCounted-after (Rename from to) t counted =
    elim (bytes_eq from to) as (λ b. IsCounted (record t {
      names = record t.names {
        entries = if b then t.names.entries else moved_to from to (entry_of from t.names.entries) t.names.entries;
      };
    })) [
      | true ↦ counted
      | false ↦ record {
        once = moved-once from to (entry_of from t.names.entries) t.names.entries counted.once;
        names =
            let few = moved-few from to t.names.entries counted.once (entry_of from t.names.entries) refl in
            let most = counted.names in
            omega arith;
        bytes =
            let less = moved-bytes from to t.names.entries counted.once (entry_of from t.names.entries) refl in
            let most = counted.bytes in
            omega arith;
      }
    ]
IsCounted-after Open t counted = record {
  once = counted.once;
  names = counted.names;
  bytes = let sum = sum_by_push (λ (x : List ℕ). length x) t.open_texts [] in let most = counted.bytes in omega arith;
}
IsCounted-after (PushOpen id bytes) t counted =
    IsCounted-unless (answered (PushOpen id bytes) t) t (made (PushOpen id bytes) t) counted
    (λ allowed. record {
      once = counted.once;
      names = counted.names;
      bytes = (within-allowed (made (PushOpen id bytes) t) (Ok tt) allowed).0;
    })
IsCounted-after (Enter id name append) t counted =
    let entry : Entry = Body (text_before append name t ++ open_text id t) in
    IsCounted-unless (answered (Enter id name append) t) t (made (Enter id name append) t) counted
    (λ allowed. record {
      once = EachOnce-with_entry name entry t.names.entries counted.once;
      names = admitted-allowed name entry t.names counted.names allowed;
      bytes =
          let most = counted.bytes in
          let names = bytes-with name entry t.names.entries counted.once in
          let texts = sum-dropped t.open_texts id in
          let before = before-few append name t in
          let long = length-append (text_before append name t) (open_text id t) in
          omega arith;
    })
IsCounted-after (DropOpen id) t counted = record {
  once = counted.once;
  names = counted.names;
  bytes = let texts = sum-dropped t.open_texts id in let most = counted.bytes in omega arith;
}
IsCounted-after (Lease name id) t counted = record { once = counted.once; names = counted.names; bytes = counted.bytes }
IsCounted-after (Take id count) t counted = record { once = counted.once; names = counted.names; bytes = counted.bytes }
IsCounted-after (Release id) t counted = record { once = counted.once; names = counted.names; bytes = counted.bytes }

-- a store after calls in turn
pub IsCounted-after_all : (calls : List Call) (t : Texts) → IsCounted t → IsCounted (after_all calls t)
IsCounted-after_all [] t counted = counted
IsCounted-after_all (call ∷ calls) t counted = IsCounted-after_all calls (after call t) (IsCounted-after call t counted)

-- what a name stands for once another one is renamed
entry-moved : (from to name : List ℕ) (found : Option Entry) (es : Named Entry)
    → entry_of name (moved_to from to found es) ≡ entry_moved from to name found (entry_of name es)
entry-moved from to name None es = refl
entry-moved from to name (Some entry) es =
    entry_of-with_entry name to entry (without_entry from es)
    ∙ ap (λ (e : Option Entry). cond (bytes_eq name to) (Some entry) e) (entry_of-without_entry name from es)

entry-renamed : (from to name : List ℕ) (es : Named Entry)
    → entry_of name (renamed from to es)
    ≡ (if bytes_eq from to then entry_of name es else entry_moved from to name (entry_of from es) (entry_of name es))
entry-renamed from to name es =
    elim (bytes_eq from to) as (λ b. entry_of name (if b then es else moved_to from to (entry_of from es) es)
    ≡ (if b then entry_of name es else entry_moved from to name (entry_of from es) (entry_of name es))) [
      | true ↦ refl
      | false ↦ entry-moved from to name (entry_of from es) es
    ]

-- what a name stands for behind a call that would make this, if nothing had a limit
entry-made : (call : Call) (t : Texts) (name : List ℕ) → entry_of name (made call t).names.entries ≡ entry_after call name t
entry-made (Set changed entry) t name = entry_of-with_entry name changed entry t.names.entries
entry-made (Append changed bytes) t name =
    entry_of-with_entry name changed (Body (body_of changed t ++ bytes)) t.names.entries
entry-made (Remove changed) t name = entry_of-without_entry name changed t.names.entries
entry-made (Rename from to) t name = entry-renamed from to name t.names.entries
entry-made Open t name = refl
entry-made (PushOpen id bytes) t name = refl
entry-made (Enter id changed append) t name =
    entry_of-with_entry name changed (Body (text_before append changed t ++ open_text id t)) t.names.entries
entry-made (DropOpen id) t name = refl
entry-made (Lease changed id) t name = refl
entry-made (Take id count) t name = refl
entry-made (Release id) t name = refl

-- what a name stands for behind a call that isn't refused
pub entry-after : (call : Call) (t : Texts) (name : List ℕ) → answered call t ≡ Ok tt
    → entry_of name (after call t).names.entries ≡ entry_after call name t
entry-after call t name allowed =
    ap (λ (answer : Result (Unit {0}) Limit). entry_of name (unless_refused answer t (made call t)).names.entries) allowed
    ∙ entry-made call t name

-- no call changes a limit
pub record AreSameLimits (t u : Texts) : Type 0 where
  pub names : u.names.cap ≡ t.names.cap
  pub bytes : u.cap_bytes ≡ t.cap_bytes
  pub kept : u.cap_kept ≡ t.cap_kept
  pub open_texts : u.cap_open ≡ t.cap_open
  pub leases : u.cap_leases ≡ t.cap_leases

limits-unless : (answer : Result (Unit {0}) Limit) (before now : Texts) → AreSameLimits before now
    → AreSameLimits before (unless_refused answer before now)
limits-unless (Ok done) before now same = same
limits-unless (Err limit) before now same =
    record { names = refl; bytes = refl; kept = refl; open_texts = refl; leases = refl }

pub limits-made : (call : Call) (t : Texts) → AreSameLimits t (made call t)
limits-made (Set name entry) t = record { names = refl; bytes = refl; kept = refl; open_texts = refl; leases = refl }
limits-made (Append name bytes) t = record { names = refl; bytes = refl; kept = refl; open_texts = refl; leases = refl }
limits-made (Remove name) t = record { names = refl; bytes = refl; kept = refl; open_texts = refl; leases = refl }
limits-made (Rename from to) t = record { names = refl; bytes = refl; kept = refl; open_texts = refl; leases = refl }
limits-made Open t = record { names = refl; bytes = refl; kept = refl; open_texts = refl; leases = refl }
limits-made (PushOpen id bytes) t = record { names = refl; bytes = refl; kept = refl; open_texts = refl; leases = refl }
limits-made (Enter id name append) t = record { names = refl; bytes = refl; kept = refl; open_texts = refl; leases = refl }
limits-made (DropOpen id) t = record { names = refl; bytes = refl; kept = refl; open_texts = refl; leases = refl }
limits-made (Lease name id) t = record { names = refl; bytes = refl; kept = refl; open_texts = refl; leases = refl }
limits-made (Take id count) t = record { names = refl; bytes = refl; kept = refl; open_texts = refl; leases = refl }
limits-made (Release id) t = record { names = refl; bytes = refl; kept = refl; open_texts = refl; leases = refl }

pub limits-after : (call : Call) (t : Texts) → AreSameLimits t (after call t)
limits-after call t = limits-unless (answered call t) t (made call t) (limits-made call t)
