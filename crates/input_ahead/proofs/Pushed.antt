-- A body is leased, and put in front.
use Rattle.std.proofs.Common.{◌≡◌, ◌≢◌, ◌<◌, ◌≤◌, ◌+◌, ◌*◌, ℕ, zero, suc, Bool, true, false, cond, List, [], ◌∷◌, ◌++◌, length, map, get_or, refl, sym, ap, ◌∙◌, subst, arith, All, Some, None, is_some, Option, AllPairs, set, sum_by, ◌==◌, if◌then◌else◌, get_or-set_same, get_or-set_other}
use Rattle.std.proofs.lemmas.Bool.Decides.{nat_tests}
use Rattle.std.proofs.lemmas.List.{get_or_append_left, get_or_push}
use Rattle.std.proofs.lemmas.List.Sums.{sum_by-cons, sum_by-set, sum_by_push}
use Rattle.input_model.specs.Input.{Ahead, ByteAhead, DoAhead, bytes_ahead, ends_ahead, events_ahead}
use Rattle.input_ahead.specs.InputAhead.Bodies.{leases_in, with_bodies}
use Rattle.input_ahead.specs.InputAhead.Calls.{PutsBytes}
use Rattle.input_ahead.specs.InputAhead.Kept.{Gives, IsSound, is_end_next, kept_by}
use Rattle.input_ahead.specs.declared.input_ahead.EventOrBody.{EventOrBody}
use Rattle.input_ahead.specs.declared.input_ahead.EventOrBody.TheVariants.{Body}
use Rattle.input_ahead.specs.declared.input_ahead.InputAhead.TheInside.{Inside}
use Rattle.input_ahead.proofs.Bodies.{bodies-few, bodies-fewer, bytes-with_bodies, ends-with_bodies, events-with_bodies}
use Rattle.input_model.proofs.Counts.{bytes_ahead-bytes, ends_ahead-bytes, events_ahead-bytes, frees_ahead-bytes}
use Rattle.input_ahead.proofs.Leased.{with_bodies-same}
use Rattle.roff_store.proofs.LyingSums.{sum_by-same}
use Rattle.roff_store.specs.declared.text.LeaseId.{LeaseId}
use Rattle.roff_store.specs.Texts.{IsFree, Texts, body_of, kept, lease_bytes, lease_of, live, rest_of}
use Rattle.roff_store.specs.TextCalls.{Lease, after}

module _ {X : Type 0} (leases : List (Option X)) (id : ℕ) (known : id ≤ length leases) (free : get_or leases id None ≡ None)
    (lease : Option X) where
  -- the lease stands under its number
  same_by : (test : Bool) → (id == length leases) ≡ test
      → get_or (if test then leases ++ lease ∷ [] else set leases id lease) id None ≡ lease
  same_by true last = get_or_push leases lease None id (grind (arith, nat_tests))
  same_by false inside = get_or-set_same leases id lease None (grind (arith, nat_tests))

  -- any other one that gives something gives the same
  other_by : (test : Bool) → (id == length leases) ≡ test → (other : ℕ) → other ≢ id → other < length leases
      → get_or (if test then leases ++ lease ∷ [] else set leases id lease) other None ≡ get_or leases other None
  other_by true last other apart within = get_or_append_left leases (lease ∷ []) None other within
  other_by false inside other apart within = get_or-set_other leases id other lease None apart

  -- a sum grows by the lease
  sum_of : (test : Bool) → (id == length leases) ≡ test → (f : Option X → ℕ) → f None ≡ 0
      → sum_by f (if test then leases ++ lease ∷ [] else set leases id lease) ≡ sum_by f leases + f lease
  sum_of true last f none = sum_by_push f leases lease
  sum_of false inside f none =
      let changed = sum_by-set f leases id lease None (grind (arith, nat_tests)) in
      let was : f (get_or leases id None) ≡ 0 = ap f free ∙ none in
      omega (arith, changed, was)

-- a place where something is lies inside
inside-giving : (leases : List (Option (List ℕ))) (id : ℕ) → 0 < rest_of (get_or leases id None) → id < length leases
inside-giving [] id gives = absurd (omega (arith, gives))
inside-giving (lease ∷ leases) zero gives = omega arith
inside-giving (lease ∷ leases) (suc id) gives = let n = inside-giving leases id gives in omega arith

module _ {E : Type 0} (a : Inside E) (sound : IsSound a) where
  -- where one more end has room, one more body may be leased
  pub room-for-one : ends_ahead (kept_by a).ahead < a.pushed_texts.most_texts → live a.texts < a.texts.cap_leases
  room-for-one few =
      omega (
        arith,
        few,
        ends-with_bodies a.texts a.pushed_texts.ahead,
        bodies-few a.pushed_texts.ahead sound.ended,
        sound.live,
        sound.cap_leases,
      )

  -- of so many bytes, where these have room
  pub room-for-most : (most : ℕ) → most + bytes_ahead (kept_by a).ahead ≤ a.pushed_texts.most_bytes
      → kept a.texts + most ≤ a.texts.cap_kept
  room-for-most most fits = omega (arith, fits, bytes-with_bodies a.texts a.pushed_texts.ahead, sound.sum, sound.cap_kept)

module _ {E : Type 0} (a : Inside E) (sound : IsSound a) (name : List ℕ) (ended : is_end_next a.pushed_texts.ahead ≡ true)
    (fits : length (body_of name a.texts) + bytes_ahead (kept_by a).ahead ≤ a.pushed_texts.most_bytes) where
  -- there is room for the lease and the bytes
  pub room-for-lease : live a.texts < a.texts.cap_leases
  room-for-lease =
      omega (
        arith,
        sound.ends,
        ends-with_bodies a.texts a.pushed_texts.ahead,
        bodies-fewer a.pushed_texts.ahead ended sound.ended,
        sound.live,
        sound.cap_leases,
      )

  pub room-for-body : kept a.texts + length (body_of name a.texts) ≤ a.texts.cap_kept
  room-for-body = omega (arith, fits, bytes-with_bodies a.texts a.pushed_texts.ahead, sound.sum, sound.cap_kept)

  pub room-for-mark : events_ahead a.pushed_texts.ahead < 8 * (a.pushed_texts.most_texts + 1) + 21
  room-for-mark =
      omega (
        arith,
        sound.ends,
        ends-with_bodies a.texts a.pushed_texts.ahead,
        bodies-fewer a.pushed_texts.ahead ended sound.ended,
        sound.events,
        events-with_bodies a.texts a.pushed_texts.ahead,
      )

  module _ (some : 0 < length (body_of name a.texts)) (id : LeaseId) (free : IsFree id.0 a.texts) where
    abbrev items : List (Ahead (EventOrBody E))
    items = DoAhead (Body id) ∷ a.pushed_texts.ahead

    abbrev leased : Texts
    leased = after (Lease name id.0) a.texts

    now : lease_of id.0 leased ≡ Some (body_of name a.texts)
    now = same_by a.texts.leases id.0 free.known free.free (Some (body_of name a.texts)) (id.0 == length a.texts.leases) refl

    -- bodies that stood ahead have other leases
    others : All (λ other. lease_of other leased ≡ lease_of other a.texts) (leases_in a.pushed_texts.ahead)
    others k d within =
        let other = get_or (leases_in a.pushed_texts.ahead) k d in
        let gives : 0 < rest_of (lease_of other a.texts) = sound.give k d within in
        let apart : other ≢ id.0 = λ same.
        let none : rest_of (lease_of other a.texts) ≡ 0 =
        ap (λ n. rest_of (lease_of n a.texts)) same ∙ ap rest_of free.free in
        omega (arith, gives, none) in
        other_by a.texts.leases id.0 free.known free.free (Some (body_of name a.texts)) (id.0 == length a.texts.leases) refl other
        apart (inside-giving a.texts.leases other gives)

    apart-all : All (λ other. id.0 ≢ other) (leases_in a.pushed_texts.ahead)
    apart-all k d within same =
        let gives : 0 < rest_of (lease_of (get_or (leases_in a.pushed_texts.ahead) k d) a.texts) = sound.give k d within in
        let none : rest_of (lease_of (get_or (leases_in a.pushed_texts.ahead) k d) a.texts) ≡ 0 =
        ap (λ n. rest_of (lease_of n a.texts)) (sym same) ∙ ap rest_of free.free in
        omega (arith, gives, none)

    stands : with_bodies leased items ≡ map ByteAhead (body_of name a.texts) ++ with_bodies a.texts a.pushed_texts.ahead
    stands =
        ap (λ (lease : Option (List ℕ)). map ByteAhead (lease_bytes lease) ++ with_bodies leased a.pushed_texts.ahead) now
        ∙ ap (λ (rest : List (Ahead E)). map ByteAhead (body_of name a.texts) ++ rest)
        (with_bodies-same a.texts leased a.pushed_texts.ahead others)

    abbrev inside : Inside E
    inside = record a { pushed_texts = record a.pushed_texts { ahead = items }; texts = leased }

    kept-leased : kept leased ≡ kept a.texts + length (body_of name a.texts)
    kept-leased =
        sum_of a.texts.leases id.0 free.known free.free (Some (body_of name a.texts)) (id.0 == length a.texts.leases) refl
        rest_of refl

    live-leased : live leased ≡ live a.texts + 1
    live-leased =
        sum_of a.texts.leases id.0 free.known free.free (Some (body_of name a.texts)) (id.0 == length a.texts.leases) refl
        (λ (x : Option (List ℕ)). cond (is_some x) 1 0) refl

    gives-leased : All (Gives leased) (leases_in items)
    gives-leased zero d within = rw now some
    gives-leased (suc k) d within =
        let inside : k < length (leases_in a.pushed_texts.ahead) = omega (arith, within) in
        subst (λ (lease : Option (List ℕ)). 0 < rest_of lease) (sym (others k d inside)) (sound.give k d inside)

    sum-leased : sum_by (λ other. rest_of (lease_of other leased)) (leases_in a.pushed_texts.ahead)
        ≡ sum_by (λ other. rest_of (lease_of other a.texts)) (leases_in a.pushed_texts.ahead)
    sum-leased =
        sum_by-same (λ other. rest_of (lease_of other leased)) (λ other. rest_of (lease_of other a.texts)) (leases_in a.pushed_texts.ahead)
        (λ k d within. ap rest_of (others k d within))

    once-leased : AllPairs (λ n later. n ≢ later) (leases_in items)
    once-leased zero zero d before within = absurd (omega (arith, before))
    once-leased zero (suc j) d before within = apart-all j d (omega (arith, within))
    once-leased (suc i) zero d before within = absurd (omega (arith, before))
    once-leased (suc i) (suc j) d before within = sound.once i j d (omega (arith, before)) (omega (arith, within))

    sound-leased : IsSound inside
    sound-leased = record {
      ended = (ended, sound.ended);
      give = gives-leased;
      once = once-leased;
      live = omega (arith, live-leased, sound.live);
      sum =
          let one : rest_of (lease_of id.0 leased) ≡ length (body_of name a.texts) = ap rest_of now in
          omega (
            arith,
            kept-leased,
            sound.sum,
            sum-leased,
            one,
            sum_by-cons (λ other. rest_of (lease_of other leased)) id.0 (leases_in a.pushed_texts.ahead),
          );
      cap_leases = sound.cap_leases;
      cap_kept = sound.cap_kept;
      bytes = rw (stands, bytes_ahead-bytes (body_of name a.texts) (with_bodies a.texts a.pushed_texts.ahead)) fits;
      ends = rw (stands, ends_ahead-bytes (body_of name a.texts) (with_bodies a.texts a.pushed_texts.ahead)) sound.ends;
      events = rw (stands, events_ahead-bytes (body_of name a.texts) (with_bodies a.texts a.pushed_texts.ahead)) sound.events;
      frees = rw (stands, frees_ahead-bytes (body_of name a.texts) (with_bodies a.texts a.pushed_texts.ahead)) sound.frees;
      small = sound.small;
      store = sound.store;
    }

    -- so its bytes are put in front
    pub PutsBytes-leased : PutsBytes a inside (body_of name a.texts)
    PutsBytes-leased = record {
      sound = sound-leased;
      kept = ap (λ (ahead : List (Ahead E)). record (kept_by a) { ahead = ahead }) stands;
    }

-- a body without bytes changes nothing
pub PutsBytes-none : {E : Type 0} (a : Inside E) (bytes : List ℕ) → length bytes ≡ 0 → IsSound a → PutsBytes a a bytes
PutsBytes-none a [] none sound = record { sound = sound; kept = refl }
PutsBytes-none a (b ∷ bytes) none sound = absurd (omega (arith, none))
