-- What a sound store of texts tells of its parts.
use Rattle.std.proofs.Common.{◌≡◌, ℕ, ◌+◌, ◌-◌, ◌*◌, ◌<◌, ◌≤◌, false, Bool, List, [], ◌∷◌, ◌++◌, length, map, get_or, All, Option, Some, None, is_some, nat_lt, Ok, Err, Result, refl, sym, ap, subst, ◌∙◌, arith, Vec, Global, length-append, count_by, option_map, remove, cond, vec_len, vec_capacity, IsPermutation, if◌then◌else◌}
use Rattle.std.proofs.lemmas.Bool.Decides.{nat_tests}
use Rattle.std.proofs.lemmas.List.{length-map}
use Rattle.std.proofs.lemmas.List.Elements.{All-head, All-weaker}
use Rattle.std.proofs.lemmas.List.Sums.{sum_by-append, sum_by-cons}
use Rattle.roff_num.specs.declared.limit.Limit.{Limit}
use Rattle.roff_num.specs.declared.limit.Limit.TheVariants.{Names, Store}
use Rattle.roff_store.specs.declared.strand.Strand.{Strand}
use Rattle.roff_store.specs.declared.text_store.Meaning.{Meaning}
use Rattle.roff_store.specs.declared.text_store.Meaning.TheVariants.{Body as BodyIn, Request as RequestOf}
use Rattle.roff_store.specs.declared.text_store.TextStore.TheInside.{Inside}
use Rattle.roff_store.specs.Pool.{chunks_in, Holds, IsLeft, rest_in}
use Rattle.roff_store.specs.Chains.{Chunks, bytes_of, shares_in, IsShared, IsStrand, IsText}
use Rattle.roff_store.specs.Leases.{living}
use Rattle.roff_store.specs.Named.{EachOnce, Named, Table, admitted, entry_of, has_room, without_entry}
use Rattle.roff_store.specs.Texts.{Texts, Entry, body_if_any, body_of, kept, live, used}
use Rattle.roff_store.specs.TextCalls.{Call, after, answered, made, unless_refused, within_bytes}
use Rattle.roff_store.specs.TextStore.Kept.{IsSound, kept_by, texts_in}
use Rattle.roff_store.specs.TextStore.Strands.{bodies, entries_in, entry_in, lease_in, strands_of}
use Rattle.roff_store.proofs.Leaving.{chunks-enough, length-bytes_of}
use Rattle.roff_store.proofs.NameSums.{entry-map}
use Rattle.roff_store.proofs.Places.{beside, length-bodies, name-out, open-out, same-order, same-sum}
use Rattle.roff_store.proofs.Pool.{All-behind, All-front, Holds-order, chunks-held, leases-left, leases-rest, names-rest, opens-rest, texts-shared}

-- what a call that isn't refused has made of a store
pub record Comes (call : Call) (t : Texts) (b : Inside) : Type 0 where
  pub sound : IsSound b
  pub answer : Ok tt ≡ answered call t
  pub texts : kept_by b ≡ after call t

pub comes : (a : Inside) {b : Inside} {t : Texts} (call : Call) → kept_by a ≡ t → IsSound b → kept_by b ≡ made call (kept_by a)
    → answered call (kept_by a) ≡ Ok tt → Comes call t b
comes a {b} call is sound texts allowed =
    subst (λ (x : Texts). Comes call x b) is (record {
      sound = sound;
      answer = sym allowed;
      texts = texts ∙ sym (ap (λ r. unless_refused r (kept_by a) (made call (kept_by a))) allowed);
    })

-- a refused call leaves a store as it was
pub refused : {limit : Limit} (call : Call) (t : Texts) → Err limit ≡ answered call t → t ≡ after call t
refused call t answer = ap (λ r. unless_refused r t (made call t)) answer

-- as many leases live as have a strand
pub count-living : (m : Chunks) (leases : List (Option Strand)) → count_by is_some (map (lease_in m) leases) ≡ length (living leases)
count-living m [] = refl
count-living m (None ∷ leases) =
    omega (arith, count-living m leases, sum_by-cons (λ (x : Option (List ℕ)). cond (is_some x) 1 0) None (map (lease_in m) leases))
count-living m (Some strand ∷ leases) =
    omega (arith, count-living m leases, sum_by-cons (λ (x : Option (List ℕ)). cond (is_some x) 1 0) (Some (bytes_of m strand)) (map (lease_in m) leases))

-- whether there is something stays as it changes
is_some-map : {X Y : Type 0} (f : X → Y) (x : Option X) → is_some (option_map f x) ≡ is_some x
is_some-map f None = refl
is_some-map f (Some x) = refl

-- how many bytes what a name stands for has
body-rest : (m : Chunks) (old : Option Meaning) → All (IsText m) (strands_of old)
    → length (body_if_any (option_map (entry_in m) old)) ≡ rest_in (strands_of old)
body-rest m None texts = refl
body-rest m (Some (BodyIn strand)) texts = omega (arith, length-bytes_of m strand (All-head (IsText m) strand [] texts).strand)
body-rest m (Some (RequestOf number)) texts = refl

-- and no more than its chunks have room for
strands-few : (m : Chunks) (old : Option Meaning) → All (IsText m) (strands_of old)
    → rest_in (strands_of old) ≤ 120 * chunks_in (strands_of old)
strands-few m None texts = omega arith
strands-few m (Some (BodyIn strand)) texts =
    let text = All-head (IsText m) strand [] texts in omega (arith, chunks-enough m strand text.strand)
strands-few m (Some (RequestOf number)) texts = omega arith

module _ {a : Inside} (sound : IsSound a) where
  -- the bytes are counted
  pub used-kept : used (kept_by a) ≡ a.used
  used-kept =
      let names = names-rest a.chunks a.names.entries
      (All-front (IsText a.chunks) (bodies a.names.entries) a.open.items sound.held.texts) in
      let opens = opens-rest a.chunks a.open.items
      (All-behind (IsText a.chunks) (bodies a.names.entries) a.open.items sound.held.texts) in
      omega (arith, names, opens, sound.counted, sum_by-append (λ (x : Strand). x.rest) (bodies a.names.entries) a.open.items)

  pub kept-is : kept (kept_by a) ≡ a.kept
  kept-is = leases-rest a.chunks a.leases.items sound.held.leases ∙ sym sound.given

  pub live-is : live (kept_by a) ≡ length (living a.leases.items)
  live-is = count-living a.chunks a.leases.items

  -- so no limit of bytes is passed
  pub within-sound : (answer : Result (Unit {0}) Limit) → within_bytes (kept_by a) answer ≡ answer
  within-sound answer =
      let test : nat_lt a.cap_bytes (used (kept_by a)) ≡ false =
      let all = used-kept in let within = sound.within in grind (arith, nat_tests) in
      ap (λ b. if b then Err Store else answer) test

  -- and there is room for the bytes that are left, and for three chunks more
  pub room-left : 120 * shares_in a.chunks + (a.cap_bytes - a.used) + (a.cap_kept - a.kept)
      + 240 * (a.leases.cap - length (living a.leases.items)) + 360 ≤ 120 * a.chunks.most
  room-left =
      omega (
        arith,
        chunks-held sound.held,
        sound.counted,
        sound.within,
        sound.given,
        sound.kept_within,
        sound.few,
        sound.opens,
        sound.leases,
        sound.room.enough,
        length-bodies a.names.entries,
        length-append (bodies a.names.entries) a.open.items,
        a.open.ok.0,
      )

  module _ (name : List ℕ) {old : Option Meaning} (was : old ≡ entry_of name a.names.entries) where
    -- what a name stands for is in hand
    pub order-out : IsPermutation (texts_in a) (strands_of old ++ (bodies (without_entry name a.names.entries) ++ a.open.items))
    order-out =
        subst (λ x. IsPermutation (texts_in a) (strands_of x ++ (bodies (without_entry name a.names.entries) ++ a.open.items)))
        (sym was)
        (beside (bodies a.names.entries) (strands_of (entry_of name a.names.entries))
        (bodies (without_entry name a.names.entries)) a.open.items (name-out name a.names.entries sound.once))

    pub out : Holds a.chunks (strands_of old ++ (bodies (without_entry name a.names.entries) ++ a.open.items)) (living a.leases.items)
    out = Holds-order order-out same-order sound.held

    pub used-out : a.used ≡ rest_in (strands_of old) + rest_in (bodies (without_entry name a.names.entries) ++ a.open.items)
    used-out =
        let rest : Strand → ℕ = λ x. x.rest in
        omega (
          arith,
          sound.counted,
          same-sum rest order-out,
          sum_by-append rest (strands_of old) (bodies (without_entry name a.names.entries) ++ a.open.items),
        )

    pub texts-out : All (IsText a.chunks) (strands_of old)
    texts-out = All-front (IsText a.chunks) (strands_of old) (bodies (without_entry name a.names.entries) ++ a.open.items) out.texts

    pub strands-out : All (IsStrand a.chunks) (strands_of old)
    strands-out = All-weaker (IsText a.chunks) (IsStrand a.chunks) (λ x text. text.strand) (strands_of old) texts-out

    pub shared-out : All (IsShared a.chunks) (strands_of old)
    shared-out =
        All-front (IsShared a.chunks) (strands_of old) (bodies (without_entry name a.names.entries) ++ a.open.items) (texts-shared out)

    pub old-few : rest_in (strands_of old) ≤ 120 * chunks_in (strands_of old)
    old-few = strands-few a.chunks old texts-out

    -- it is what the name stands for
    pub entry-kept : entry_of name (kept_by a).names.entries ≡ option_map (entry_in a.chunks) old
    entry-kept = entry-map (entry_in a.chunks) name a.names.entries ∙ ap (option_map (entry_in a.chunks)) (sym was)

    pub body-kept : body_of name (kept_by a) ≡ body_if_any (option_map (entry_in a.chunks) old)
    body-kept = ap body_if_any entry-kept

    pub body-long : length (body_of name (kept_by a)) ≡ rest_in (strands_of old)
    body-long = ap length body-kept ∙ body-rest a.chunks old texts-out

  -- there is as much room for a name's entry as for what it stands for
  pub room-kept : (name : List ℕ) → has_room name (kept_by a).names ≡ has_room name a.names
  room-kept name =
      rw (
        entry-map (entry_in a.chunks) name a.names.entries,
        is_some-map (entry_in a.chunks) (entry_of name a.names.entries),
        length-map {B = List ℕ × Entry} a.names.entries (λ e. (e.0, entry_in a.chunks e.1)),
      ) refl

  pub admitted-kept : (name : List ℕ) (room : Bool) → has_room name a.names ≡ room
      → admitted name (kept_by a).names ≡ (if room then Ok tt else Err Names)
  admitted-kept name room known = ap (λ (b : Bool). if b then Ok tt else Err Names) (room-kept name ∙ known)

  module _ (id : ℕ) {text : Strand} (inside : id < length a.open.items) (was : text ≡ get_or a.open.items id text) where
    -- a text in the making is in hand
    open-order : IsPermutation (texts_in a) (text ∷ (bodies a.names.entries ++ remove a.open.items id))
    open-order = open-out (bodies a.names.entries) a.open.items id text inside was

    pub open-held : Holds a.chunks (text ∷ (bodies a.names.entries ++ remove a.open.items id)) (living a.leases.items)
    open-held = Holds-order open-order same-order sound.held

    pub open-used : a.used ≡ text.rest + rest_in (bodies a.names.entries ++ remove a.open.items id)
    open-used =
        let rest : Strand → ℕ = λ x. x.rest in
        omega (
          arith,
          sound.counted,
          same-sum rest open-order,
          sum_by-cons rest text (bodies a.names.entries ++ remove a.open.items id),
        )

-- other texts in the chunks, beside the same leases
pub record IsChanged (a : Inside) (m : Chunks) (entries : Named Meaning) (opens : Vec Strand Global) (count : ℕ) : Type 0 where
  pub held : Holds m (bodies entries ++ opens.items) (living a.leases.items)
  pub leases : All (IsLeft a.chunks m) (living a.leases.items)
  pub most : m.most ≡ a.chunks.most
  pub once : EachOnce entries
  pub few : length entries ≤ a.names.cap
  pub counted : count ≡ rest_in (bodies entries ++ opens.items)
  pub within : count ≤ a.cap_bytes
  pub taken : vec_len opens ≤ a.cap_open
  pub reserved : vec_capacity opens ≡ a.cap_open

-- a call has made them
pub changed : {a : Inside} {t : Texts} {m : Chunks} {entries : Named Meaning} {opens : Vec Strand Global} {count : ℕ} (call : Call)
    → IsSound a → kept_by a ≡ t → IsChanged a m entries opens count
    → record (kept_by a) {
      names = record { entries = entries_in m entries; cap = a.names.cap };
      open_texts = map (bytes_of m) opens.items;
    } ≡ made call (kept_by a)
    → (within_bytes (made call (kept_by a)) (Ok tt) ≡ Ok tt → answered call (kept_by a) ≡ Ok tt) → {names : Table Meaning}
    → names ≡ record a.names { entries = entries }
    → Comes call t (record a { names = names; chunks = m; «open» = opens; used = count })
changed {a} {t} {m} {entries} {opens} {count} call sound is now texts allowed {names} table =
    let b : Inside = record a { names = record a.names { entries = entries }; chunks = m; «open» = opens; used = count } in
    let b_sound : IsSound b = record {
      held = now.held;
      once = now.once;
      few = now.few;
      counted = now.counted;
      within = now.within;
      given = sound.given;
      kept_within = sound.kept_within;
      opens = now.taken;
      opens_reserved = now.reserved;
      leases = sound.leases;
      room = rw now.most sound.room;
      most = rw now.most sound.most;
    } in
    let b_texts : kept_by b ≡ made call (kept_by a) =
    ap (λ (l : List (Option (List ℕ))). record (kept_by b) { leases = l }) (leases-left a.chunks m a.leases.items now.leases) ∙ texts in
    let fits = subst (λ (x : Texts). within_bytes x (Ok tt) ≡ Ok tt) b_texts (within-sound b_sound (Ok tt)) in
    subst (λ (n : Table Meaning). Comes call t (record a { names = n; chunks = m; «open» = opens; used = count })) (sym table)
    (comes a call is b_sound b_texts (allowed fits))
