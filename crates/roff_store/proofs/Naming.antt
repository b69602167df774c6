-- A store of texts once a name is removed or renamed, and what is read of one.
use Rattle.std.proofs.Common.{◌≡◌, ℕ, ◌+◌, ◌-◌, ◌<◌, ◌≤◌, true, false, Bool, All, inl, inr, List, [], ◌∷◌, ◌++◌, length, Some, None, refl, sym, ap, subst, ◌∙◌, arith, Option, Ok, IsTrue, IsPermutation, option_map}
use Rattle.std.specs.Str.{bytes_eq}
use Rattle.std.proofs.lemmas.Bool.Decides.{nat_tests}
use Rattle.std.proofs.lemmas.List.Elements.{All-head}
use Rattle.std.proofs.lemmas.List.Sorted.{IsPermutation-append_left}
use Rattle.roff_store.specs.declared.strand.Strand.{Strand}
use Rattle.roff_store.specs.declared.text_store.Meaning.{Meaning}
use Rattle.roff_store.specs.declared.text_store.Meaning.TheVariants.{Body as BodyIn, Request as RequestIn}
use Rattle.roff_store.specs.declared.text_store.TextStore.TheInside.{Inside}
use Rattle.roff_store.specs.Pool.{chunks_in, rest_in, shares_by}
use Rattle.roff_store.specs.Chains.{Chunks, share, shares_in, AreSameChunks, IsText}
use Rattle.roff_store.specs.Leases.{living}
use Rattle.roff_store.specs.Named.{Named, Table, EachOnce, admitted, entry_of, has_room, put_into, removed_from, with_entry, without_entry}
use Rattle.roff_store.specs.Texts.{Texts, Kind, BodyOf, RequestOf, body_if_any, body_of, kind_of}
use Rattle.roff_store.specs.TextCalls.{Remove, Rename, after, renamed}
use Rattle.roff_store.specs.TextStore.Kept.{IsSound, kept_by}
use Rattle.roff_store.specs.TextStore.Strands.{bodies, entries_in, entry_in, strands_of}
use Rattle.roff_store.proofs.Calls.{length-with_entry_le, length-without_entry_le}
use Rattle.roff_store.proofs.Entries.{EachOnce-with_entry, EachOnce-without_entry, bytes_eq_tells, entry_of-without_entry, length-without_entry}
use Rattle.roff_store.proofs.Keeping.{Comes, IsChanged, body-kept, body-long, changed, entry-kept, texts-out, used-out}
use Rattle.roff_store.proofs.Leaving.{length-bytes_of}
use Rattle.roff_store.proofs.NameSums.{map-with, map-without}
use Rattle.roff_store.proofs.Places.{name-in, name-out, onward, same-order, same-sum}
use Rattle.roff_store.proofs.Pool.{Holds-order, all-left, entries-left, opens-left}
use Rattle.roff_store.proofs.Putting.{gone}

-- names that a test tells apart
pub names-apart : (from to : List ℕ) (same : Bool) → (IsTrue same → from ≡ to) × (from ≡ to → IsTrue same) → same ≡ false
    → bytes_eq from to ≡ false
names-apart from to same tells differ =
    elim (bytes_eq_tells from to) [ inl both ↦ (let it = tells.1 both.1 in cc) | inr other ↦ other.0 ]

-- two names are taken away in either order
without-both : {E : Type 0} (from to : List ℕ) (es : Named E)
    → without_entry from (without_entry to es) ≡ without_entry to (without_entry from es)
without-both from to [] = refl
without-both from to (e ∷ es) = let others = without-both from to es in grind arith

-- there is room for a name where one is taken away
room-renamed : (from to : List ℕ) (names : Table Meaning) (meaning : Meaning) → EachOnce names.entries
    → entry_of from names.entries ≡ Some meaning → length names.entries ≤ names.cap → has_room to (removed_from from names) ≡ true
room-renamed from to names meaning once found few =
    let fewer = rw found at (length-without_entry from names.entries once) in
    let less : length (without_entry from names.entries) < names.cap = omega (arith, fewer, few) in
    grind (arith, nat_tests)

pub admitted-renamed : (from to : List ℕ) (names : Table Meaning) (meaning : Meaning) → EachOnce names.entries
    → entry_of from names.entries ≡ Some meaning → length names.entries ≤ names.cap
    → admitted to (removed_from from names) ≡ Ok tt
admitted-renamed from to names meaning once found few = rw (room-renamed from to names meaning once found few) refl

module _ {a : Inside} {t : Texts} (sound : IsSound a) (is : kept_by a ≡ t) (name : List ℕ) {old : Option Meaning}
    (was : old ≡ entry_of name a.names.entries) {len : ℕ} (long : len ≡ rest_in (strands_of old)) {m : Chunks}
    (shares : (chunk : ℕ) → share m chunk ≡ share a.chunks chunk - shares_by a.chunks chunk (strands_of old))
    (sum : shares_in m + chunks_in (strands_of old) ≡ shares_in a.chunks) (same : AreSameChunks a.chunks m) where
  -- a name goes
  without-name : IsChanged a m (without_entry name a.names.entries) a.open (a.used - len)
  without-name = record {
    held = gone sound is name was long shares sum same;
    leases = all-left (living a.leases.items) same;
    most = same.most;
    taken = sound.opens;
    reserved = sound.opens_reserved;
    once = EachOnce-without_entry name a.names.entries sound.once;
    few = omega (arith, length-without_entry_le name a.names.entries, sound.few);
    counted = omega (arith, used-out sound name was, long);
    within = omega (arith, sound.within);
  }

  pub removed : {names : Table Meaning} → names ≡ removed_from name a.names
      → Comes (Remove name) t (record a { names = names; chunks = m; used = a.used - len })
  removed is_gone =
      let names : entries_in m (without_entry name a.names.entries) ≡ without_entry name (entries_in a.chunks a.names.entries) =
      entries-left a.chunks m (without_entry name a.names.entries) (all-left (bodies (without_entry name a.names.entries)) same)
      ∙ map-without (entry_in a.chunks) name a.names.entries in
      let opens = opens-left a.chunks m a.open.items (all-left a.open.items same) in
      changed (Remove name) sound is without-name (cc) (λ _. refl) is_gone

  -- or another name stands for what it stood for
  module _ (from : List ℕ) (other : bytes_eq from name ≡ false) (meaning : Meaning) (found : entry_of from a.names.entries ≡ Some meaning) where
    once-from : EachOnce (without_entry from a.names.entries)
    once-from = EachOnce-without_entry from a.names.entries sound.once

    order : IsPermutation (bodies (without_entry name a.names.entries)) (bodies (with_entry name meaning (without_entry from a.names.entries)))
    order =
        let still : entry_of from (without_entry name a.names.entries) ≡ Some meaning =
        entry_of-without_entry from name a.names.entries ∙ (rw other found) in
        let taken : IsPermutation (bodies (without_entry name a.names.entries))
        (strands_of (Some meaning) ++ bodies (without_entry name (without_entry from a.names.entries))) =
        rw (still, without-both from name a.names.entries) at
        (name-out from (without_entry name a.names.entries) (EachOnce-without_entry name a.names.entries sound.once)) in
        onward taken (name-in name meaning (without_entry from a.names.entries) once-from)

    order-beside : IsPermutation (bodies (without_entry name a.names.entries) ++ a.open.items)
        (bodies (with_entry name meaning (without_entry from a.names.entries)) ++ a.open.items)
    order-beside =
        IsPermutation-append_left a.open.items (bodies (without_entry name a.names.entries))
        (bodies (with_entry name meaning (without_entry from a.names.entries))) order

    with-name : IsChanged a m (with_entry name meaning (without_entry from a.names.entries)) a.open (a.used - len)
    with-name = record {
      held = Holds-order order-beside same-order (gone sound is name was long shares sum same);
      leases = all-left (living a.leases.items) same;
      most = same.most;
      taken = sound.opens;
      reserved = sound.opens_reserved;
      once = EachOnce-with_entry name meaning (without_entry from a.names.entries) once-from;
      few =
          let fewer = rw found at (length-without_entry from a.names.entries sound.once) in
          omega (arith, fewer, length-with_entry_le name meaning (without_entry from a.names.entries), sound.few);
      counted =
          omega (arith, used-out sound name was, long, same-sum (λ (x : Strand). x.rest) order-beside);
      within = omega (arith, sound.within);
    }

    entries-renamed : entries_in a.chunks (with_entry name meaning (without_entry from a.names.entries))
        ≡ renamed from name (entries_in a.chunks a.names.entries)
    entries-renamed =
        let there = entry-kept sound from (sym found) in
        let set = map-with (entry_in a.chunks) (entry_in a.chunks) name meaning (without_entry from a.names.entries) once-from refl in
        rw (other, there) (set ∙ ap (with_entry name (entry_in a.chunks meaning)) (map-without (entry_in a.chunks) from a.names.entries))

    pub moved : {names : Table Meaning} → names ≡ put_into name meaning (removed_from from a.names)
        → Comes (Rename from name) t (record a { names = names; chunks = m; used = a.used - len })
    moved {names} put =
        let table : names ≡ record a.names { entries = with_entry name meaning (without_entry from a.names.entries) } =
        put ∙ (rw (room-renamed from name a.names meaning sound.once found sound.few) refl) in
        let all = with_entry name meaning (without_entry from a.names.entries) in
        let entries : entries_in m (with_entry name meaning (without_entry from a.names.entries))
        ≡ renamed from name (entries_in a.chunks a.names.entries) =
        entries-left a.chunks m (with_entry name meaning (without_entry from a.names.entries)) (all-left (bodies all) same)
        ∙ entries-renamed in
        let opens = opens-left a.chunks m a.open.items (all-left a.open.items same) in
        changed (Rename from name) sound is with-name (cc) (λ _. refl) table

module _ {a : Inside} {t : Texts} (sound : IsSound a) (is : kept_by a ≡ t) (name : List ℕ) {old : Option Meaning}
    (was : old ≡ entry_of name a.names.entries) where
  -- a name that stands for nothing
  pub nothing-moved : (to : List ℕ) → bytes_eq name to ≡ false → old ≡ None → t ≡ after (Rename name to) t
  nothing-moved to other none =
      let there = entry-kept sound name was ∙ ap (option_map (entry_in a.chunks)) none in
      let same : renamed name to (entries_in a.chunks a.names.entries) ≡ entries_in a.chunks a.names.entries = rw (other, there) refl in
      subst (λ (x : Texts). x ≡ after (Rename name to) x) is
      (sym (ap (λ e. record (kept_by a) { names = record { entries = e; cap = a.names.cap } }) same))

  -- the body of a name, its length and its kind
  pub body-read : body_of name t ≡ body_if_any (option_map (entry_in a.chunks) old)
  body-read = subst (λ (x : Texts). body_of name x ≡ body_if_any (option_map (entry_in a.chunks) old)) is (body-kept sound name was)

  pub body-length : length (body_of name t) ≡ rest_in (strands_of old)
  body-length = subst (λ (x : Texts). length (body_of name x) ≡ rest_in (strands_of old)) is (body-long sound name was)

  pub entry-read : entry_of name t.names.entries ≡ option_map (entry_in a.chunks) old
  entry-read = subst (λ (x : Texts). entry_of name x.names.entries ≡ option_map (entry_in a.chunks) old) is (entry-kept sound name was)

-- the kind of what a name stands for
abbrev pub kind_in : Meaning → Kind
kind_in (BodyIn strand) = BodyOf strand.rest
kind_in (RequestIn number) = RequestOf number

kind-entry : (m : Chunks) (old : Option Meaning) → All (IsText m) (strands_of old)
    → option_map kind_in old ≡ option_map kind_of (option_map (entry_in m) old)
kind-entry m None texts = refl
kind-entry m (Some (BodyIn strand)) texts =
    ap (λ n. Some (BodyOf n)) (sym (length-bytes_of m strand (All-head (IsText m) strand [] texts).strand))
kind-entry m (Some (RequestIn number)) texts = refl

pub kind-of-entry : {a : Inside} {t : Texts} → IsSound a → kept_by a ≡ t → (name : List ℕ) {old : Option Meaning}
    → old ≡ entry_of name a.names.entries → option_map kind_in old ≡ option_map kind_of (entry_of name t.names.entries)
kind-of-entry {a} sound is name {old} was =
    kind-entry a.chunks old (texts-out sound name was) ∙ ap (option_map kind_of) (sym (entry-read sound is name was))
