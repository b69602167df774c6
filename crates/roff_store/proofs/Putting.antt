-- A store of texts once a name stands for something else.
use Rattle.std.proofs.Common.{◌≡◌, ℕ, ◌+◌, ◌-◌, ◌*◌, ◌<◌, ◌≤◌, true, false, Bool, List, [], ◌++◌, length, map, All, Option, Some, is_some, nat_lt, Ok, Err, Result, refl, sym, ap, subst, ◌∙◌, arith, Vec, Global, take, drop, length-append, vec_len, vec_capacity, IsPermutation, ◌||◌, if◌then◌else◌}
use Rattle.std.proofs.lemmas.Bool.Decides.{nat_tests}
use Rattle.std.proofs.lemmas.List.{nil_from_length}
use Rattle.std.proofs.lemmas.List.Elements.{All-nil}
use Rattle.std.proofs.lemmas.List.Sums.{sum_by-append}
use Rattle.roff_num.specs.declared.limit.Limit.{Limit}
use Rattle.roff_num.specs.declared.limit.Limit.TheVariants.{Names, Store}
use Rattle.roff_store.specs.declared.strand.Strand.{Strand}
use Rattle.roff_store.specs.declared.text_store.Meaning.{Meaning}
use Rattle.roff_store.specs.declared.text_store.Meaning.TheVariants.{Body as BodyIn, Request as RequestOf}
use Rattle.roff_store.specs.declared.text_store.TextStore.TheInside.{Inside}
use Rattle.roff_store.specs.Pool.{chunks_in, Holds, IsHeld, IsLeft, IsLonger, rest_in, shares_by}
use Rattle.roff_store.specs.Chains.{Chunks, bytes_of, chain_bytes, share, shares_in, AreSameChunks, IsStrand, IsText}
use Rattle.roff_store.specs.Leases.{living}
use Rattle.roff_store.specs.Named.{Table, admitted, entry_of, has_room, put_into, with_entry, without_entry}
use Rattle.roff_store.specs.Texts.{Entry, Body, Request, Texts, body_of, bytes_of as bytes_in_entry, used}
use Rattle.roff_store.specs.TextCalls.{Append, Set, answered, made, with_name, within_bytes}
use Rattle.roff_store.specs.TextStore.Kept.{IsSound, kept_by}
use Rattle.roff_store.specs.TextStore.Strands.{bodies, entries_in, entry_in, strands_of}
use Rattle.roff_store.proofs.CountedTexts.{bytes-with}
use Rattle.roff_store.proofs.Entries.{EachOnce-with_entry, length-with_entry}
use Rattle.roff_store.proofs.Keeping.{Comes, IsChanged, admitted-kept, body-kept, body-long, changed, old-few, out, room-left, used-kept, used-out}
use Rattle.roff_store.proofs.Leaving.{chunks-enough}
use Rattle.roff_store.proofs.NameSums.{map-with, once-map}
use Rattle.roff_store.proofs.Places.{back, beside, name-in, same-order, same-sum}
use Rattle.roff_store.proofs.Pool.{All-behind, All-front, Holds-order, all-left, blank-held, blank-text, entries-left, held-text, left-on, opens-left, reshared}

-- a name is to stand for an entry: what it stands for lies in the chunks, beside all else
pub record IsReady (a : Inside) (name : List ℕ) (entry : Entry) (meaning : Meaning) (m : Chunks) (opens : List Strand) : Type 0 where
  pub held : Holds m (strands_of (Some meaning) ++ (bodies (without_entry name a.names.entries) ++ opens)) (living a.leases.items)
  pub texts : All (IsLeft a.chunks m) (bodies (without_entry name a.names.entries) ++ opens)
  pub leases : All (IsLeft a.chunks m) (living a.leases.items)
  pub entry_is : entry_in m meaning ≡ entry
  pub most : m.most ≡ a.chunks.most

-- what a table answers that has room
pub put-answer : (name : List ℕ) (names : Table Meaning) {answer : Result (Unit {0}) Limit} → answer ≡ admitted name names
    → has_room name names ≡ true → answer ≡ Ok tt
put-answer name names is room = is ∙ ap (λ b. if b then Ok tt else Err Names) room

-- and for a name that it knows
pub put-found : (name : List ℕ) (names : Table Meaning) {meaning : Meaning} {answer : Result (Unit {0}) Limit}
    → answer ≡ admitted name names → Some meaning ≡ entry_of name names.entries → answer ≡ Ok tt
put-found name names is found = put-answer name names is (rw (← found) refl)

-- whether there is room, by what is known of a name
pub known-room : (name : List ℕ) (names : Table Meaning) {old : Option Meaning} {known answer room : Bool}
    → old ≡ entry_of name names.entries → known ≡ is_some old
    → answer ≡ (known || nat_lt (length names.entries) names.cap) → answer ≡ room → has_room name names ≡ room
known-room name names was some tells test =
    ap (λ o. is_some o || nat_lt (length names.entries) names.cap) (sym was)
    ∙ ap (λ k. k || nat_lt (length names.entries) names.cap) (sym some) ∙ sym tells ∙ test

module _ {a : Inside} (sound : IsSound a) {name : List ℕ} {entry : Entry} {meaning : Meaning} {m : Chunks} (opens : Vec Strand Global)
    (ready : IsReady a name entry meaning m opens.items) where
  -- the strands of all texts
  order : IsPermutation (strands_of (Some meaning) ++ (bodies (without_entry name a.names.entries) ++ opens.items))
      (bodies (with_entry name meaning a.names.entries) ++ opens.items)
  order =
      back (beside (bodies (with_entry name meaning a.names.entries)) (strands_of (Some meaning))
      (bodies (without_entry name a.names.entries)) opens.items (back (name-in name meaning a.names.entries sound.once)))

  -- the name is given what is ready
  pub put-changed : has_room name a.names ≡ true → (count : ℕ)
      → count ≡ rest_in (strands_of (Some meaning)) + rest_in (bodies (without_entry name a.names.entries) ++ opens.items)
      → count ≤ a.cap_bytes → vec_len opens ≤ a.cap_open → vec_capacity opens ≡ a.cap_open
      → IsChanged a m (with_entry name meaning a.names.entries) opens count
  put-changed room count counted within taken reserved =
      let rest : Strand → ℕ = λ x. x.rest in
      record {
        held = Holds-order order same-order ready.held;
        leases = ready.leases;
        most = ready.most;
        once = EachOnce-with_entry name meaning a.names.entries sound.once;
        few =
            let long = length-with_entry name meaning a.names.entries in
            let few = sound.few in grind (arith, nat_tests);
        counted =
            omega (
              arith,
              counted,
              same-sum rest order,
              sum_by-append rest (strands_of (Some meaning)) (bodies (without_entry name a.names.entries) ++ opens.items),
            );
        within = within;
        taken = taken;
        reserved = reserved;
      }

  pub put-texts : record (kept_by a) {
    names = record { entries = entries_in m (with_entry name meaning a.names.entries); cap = a.names.cap };
    open_texts = map (bytes_of m) opens.items;
  } ≡ record (with_name name entry (kept_by a)) { open_texts = map (bytes_of a.chunks) opens.items }
  put-texts =
      let names : entries_in m (with_entry name meaning a.names.entries)
      ≡ with_entry name entry (entries_in a.chunks a.names.entries) =
      map-with (entry_in a.chunks) (entry_in m) name meaning a.names.entries sound.once
      (entries-left a.chunks m (without_entry name a.names.entries)
      (All-front (IsLeft a.chunks m) (bodies (without_entry name a.names.entries)) opens.items ready.texts))
      ∙ ap (λ (x : Entry). with_entry name x (entries_in a.chunks a.names.entries)) ready.entry_is in
      let texts = opens-left a.chunks m opens.items
      (All-behind (IsLeft a.chunks m) (bodies (without_entry name a.names.entries)) opens.items ready.texts) in
      cc

-- a table is the one in which the name is put
pub put-table : (name : List ℕ) (meaning : Meaning) (table : Table Meaning) {names : Table Meaning} → has_room name table ≡ true
    → names ≡ put_into name meaning table → names ≡ record table { entries = with_entry name meaning table.entries }
put-table name meaning table room put =
    put ∙ ap (λ b. if b then record table { entries = with_entry name meaning table.entries } else table) room

-- a name is set
pub set-comes : {a : Inside} {t : Texts} → IsSound a → kept_by a ≡ t → {name : List ℕ} {entry : Entry} {meaning : Meaning} {m : Chunks}
    → IsReady a name entry meaning m a.open.items → has_room name a.names ≡ true → (count : ℕ)
    → count ≡ rest_in (strands_of (Some meaning)) + rest_in (bodies (without_entry name a.names.entries) ++ a.open.items)
    → count ≤ a.cap_bytes → {names : Table Meaning} → names ≡ put_into name meaning a.names
    → Comes (Set name entry) t (record a { names = names; chunks = m; used = count })
set-comes {a} {t} sound is {name} {entry} {meaning} ready room count counted within put =
    changed (Set name entry) sound is
    (put-changed sound a.open ready room count counted within sound.opens sound.opens_reserved) (put-texts sound a.open ready)
    (λ fits. ap (within_bytes (made (Set name entry) (kept_by a))) (admitted-kept sound name true room) ∙ fits)
    (put-table name meaning a.names room put)

module _ {a : Inside} {t : Texts} (sound : IsSound a) (is : kept_by a ≡ t) (name : List ℕ) {old : Option Meaning}
    (was : old ≡ entry_of name a.names.entries) {len : ℕ} (long : len ≡ rest_in (strands_of old)) where
  -- the bytes that the store would have
  used-set : (entry : Entry) → used (made (Set name entry) (kept_by a)) + len ≡ a.used + length (bytes_in_entry entry)
  used-set entry =
      omega (
        arith,
        bytes-with name entry (entries_in a.chunks a.names.entries) (once-map (entry_in a.chunks) a.names.entries sound.once),
        body-long sound name was,
        used-kept sound,
        long,
      )

  pub old-within : len ≤ a.used
  old-within = omega (arith, used-out sound name was, long)

  -- there are too many
  pub store-refused : (entry : Entry) → a.cap_bytes - (a.used - len) < length (bytes_in_entry entry)
      → Err Store ≡ answered (Set name entry) t
  store-refused entry over =
      let set = used-set entry in
      let within = sound.within in
      let less = old-within in
      let test : nat_lt a.cap_bytes (used (made (Set name entry) (kept_by a))) ≡ true = grind (arith, nat_tests) in
      subst (λ (x : Texts). Err Store ≡ answered (Set name entry) x) is
      (sym (ap (λ b. if b then Err Store else admitted name (kept_by a).names) test))

  -- or no more names may come
  pub names-refused : (entry : Entry) → length (bytes_in_entry entry) ≤ a.cap_bytes - (a.used - len)
      → has_room name a.names ≡ false → Err Names ≡ answered (Set name entry) t
  names-refused entry fits full =
      let set = used-set entry in
      let within = sound.within in
      let less = old-within in
      let test : nat_lt a.cap_bytes (used (made (Set name entry) (kept_by a))) ≡ false = grind (arith, nat_tests) in
      subst (λ (x : Texts). Err Names ≡ answered (Set name entry) x) is
      (sym (ap (λ b. if b then Err Store else admitted name (kept_by a).names) test ∙ admitted-kept sound name false full))

  -- what the name stood for is let go
  module _ {m : Chunks}
      (shares : (chunk : ℕ) → share m chunk ≡ share a.chunks chunk - shares_by a.chunks chunk (strands_of old))
      (sum : shares_in m + chunks_in (strands_of old) ≡ shares_in a.chunks) (same : AreSameChunks a.chunks m) where
    pub gone : Holds m (bodies (without_entry name a.names.entries) ++ a.open.items) (living a.leases.items)
    gone =
        reshared (strands_of old) [] [] (living a.leases.items) (out sound name was) same (All-nil (IsStrand m))
        (λ chunk. omega (arith, shares chunk)) (omega (arith, sum))

    -- a request has no strand
    pub ready-request : (number : ℕ) → IsReady a name (Request number) (RequestOf number) m a.open.items
    ready-request number = record {
      held = gone;
      texts = all-left (bodies (without_entry name a.names.entries) ++ a.open.items) same;
      leases = all-left (living a.leases.items) same;
      entry_is = refl;
      most = same.most;
    }

    module _ (blank : Strand) (none : blank.chunks ≡ 0) (at : blank.at ≡ 0) (rest : blank.rest ≡ 0)
        (last : blank.last ≡ 18446744073709551615) where
      -- a text begins without a chunk
      pub blank-begun : IsText m blank
      blank-begun = blank-text m blank (omega (arith, sound.most, same.most, last)) none at rest

      -- there is room for it
      pub blank-room : (count : ℕ) → count ≤ a.cap_bytes - (a.used - len)
          → 120 * shares_in m + blank.rest + count + 119 ≤ 120 * (m.most + blank.chunks)
      blank-room count fits =
          omega (arith, fits, room-left sound, sum, old-few sound name was, old-within, long, same.most, rest, none, sound.within)

      pub blank-held-out : IsHeld m blank []
      blank-held-out = record {
        ts = bodies (without_entry name a.names.entries) ++ a.open.items;
        ls = living a.leases.items;
        held = blank-held blank gone blank-begun none;
      }

      -- and bytes are put behind it
      pub ready-body : {m' : Chunks} {longer : Strand} {bytes : List ℕ} → IsLonger m blank [] bytes m' longer []
          → IsReady a name (Body bytes) (BodyIn longer) m' a.open.items
      ready-body {m'} {longer} {bytes} more =
          let rests = bodies (without_entry name a.names.entries) ++ a.open.items in
          let had = more.leaves rests (living a.leases.items) (blank-held blank gone blank-begun none) in
          let empty : bytes_of m blank ≡ [] = ap (λ n. take n (drop blank.at (chain_bytes m blank.chunks blank.first))) rest in
          record {
            held = had.held;
            texts = left-on rests (all-left rests same) had.texts_left;
            leases = left-on (living a.leases.items) (all-left (living a.leases.items) same) had.leases_left;
            entry_is = ap (λ (x : List ℕ). Body x) (more.bytes_are ∙ ap (λ (x : List ℕ). x ++ bytes) empty);
            most = more.most ∙ same.most;
          }

-- what is put behind nothing is the new body
pub behind-none : {a : Inside} {t : Texts} → IsSound a → kept_by a ≡ t → (name : List ℕ) {old : Option Meaning} (bytes : List ℕ)
    → old ≡ entry_of name a.names.entries → strands_of old ≡ [] → Body bytes ≡ Body (body_of name t ++ bytes)
behind-none {a} sound is name bytes was none =
    let empty = nil_from_length (body_of name (kept_by a)) (body-long sound name was ∙ ap rest_in none) in
    subst (λ (x : Texts). Body bytes ≡ Body (body_of name x ++ bytes)) is (ap (λ (x : List ℕ). Body (x ++ bytes)) (sym empty))

-- bytes are put behind a body
module _ {a : Inside} {t : Texts} (sound : IsSound a) (is : kept_by a ≡ t) (name : List ℕ) {strand : Strand}
    (found : Some (BodyIn strand) ≡ entry_of name a.names.entries) where
  pub body-held : IsHeld a.chunks strand []
  body-held = record {
    ts = bodies (without_entry name a.names.entries) ++ a.open.items;
    ls = living a.leases.items;
    held = out sound name found;
  }

  used-body : a.used ≡ strand.rest + rest_in (bodies (without_entry name a.names.entries) ++ a.open.items)
  used-body = omega (arith, used-out sound name found)

  long-behind : (bytes : List ℕ) → length (body_of name t ++ bytes) ≡ strand.rest + length bytes
  long-behind bytes =
      subst (λ (x : Texts). length (body_of name x ++ bytes) ≡ strand.rest + length bytes) is
      (omega (arith, length-append (body_of name (kept_by a)) bytes, body-long sound name found))

  -- there are too many
  pub append-refused : (bytes : List ℕ) → a.cap_bytes - a.used < length bytes → Err Store ≡ answered (Append name bytes) t
  append-refused bytes over =
      store-refused sound is name found {len = strand.rest} (omega arith) (Body (body_of name t ++ bytes))
      (omega (arith, used-body, long-behind bytes, sound.within, over))

  -- there is room
  pub append-room : (count : ℕ) → count ≤ a.cap_bytes - a.used
      → 120 * shares_in a.chunks + strand.rest + count + 119 ≤ 120 * (a.chunks.most + strand.chunks)
  append-room count fits = let text = held-text body-held in omega (arith, fits, room-left sound, chunks-enough a.chunks strand text.strand)

  pub append-short : (count : ℕ) → count ≤ a.cap_bytes - a.used → strand.rest + count ≤ a.cap_bytes
  append-short count fits = omega (arith, fits, used-body, sound.within)

  pub appended : {m : Chunks} {longer : Strand} {bytes : List ℕ} → length bytes ≤ a.cap_bytes - a.used
      → IsLonger a.chunks strand [] bytes m longer [] → {names : Table Meaning}
      → names ≡ put_into name (BodyIn longer) a.names
      → Comes (Append name bytes) t (record a { names = names; chunks = m; used = a.used + length bytes })
  appended {m} {longer} {bytes} fits more {names} put =
      let had = more.leaves (bodies (without_entry name a.names.entries) ++ a.open.items) (living a.leases.items) (out sound name found) in
      let ready : IsReady a name (Body (body_of name (kept_by a) ++ bytes)) (BodyIn longer) m a.open.items = record {
        held = had.held;
        texts = had.texts_left;
        leases = had.leases_left;
        entry_is = ap (λ (x : List ℕ). Body x) (more.bytes_are ∙ ap (λ (x : List ℕ). x ++ bytes) (sym (body-kept sound name found)));
        most = more.most;
      } in
      let room : has_room name a.names ≡ true = rw (← found) refl in
      let set = set-comes sound refl ready room (a.used + length bytes)
      (omega (arith, used-body, more.len)) (omega (arith, fits, sound.within)) put in
      subst (λ (x : Texts). Comes (Append name bytes) x (record a { names = names; chunks = m; used = a.used + length bytes })) is
      (record { sound = set.sound; answer = set.answer; texts = set.texts })
