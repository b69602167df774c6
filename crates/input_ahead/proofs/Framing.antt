-- Items are put in front of what frames keep; the front item has its cost.
use Rattle.std.proofs.Common.{◌≡◌, ◌<◌, ◌≤◌, ◌+◌, ◌^◌, ℕ, Bool, true, false, List, [], ◌∷◌, ◌++◌, length, length-append, map, append_assoc, refl, ap, ◌∙◌, arith, All, Some, if◌then◌else◌}
use Rattle.std.proofs.lemmas.List.{map-append}
use Rattle.input_source.specs.Bytes.{newline}
use Rattle.input_model.specs.Input.{Ahead, ByteAhead, FreeAhead, EndAhead, ReturnAhead, DoAhead, bytes_ahead, ends_ahead, frees_ahead, most_frees, cost, first, front_cost}
use Rattle.input_model.specs.Input.Calls.{called_text, lacks_newline}
use Rattle.input_ahead.specs.InputAhead.Bodies.{leases_in, with_bodies}
use Rattle.input_ahead.specs.InputAhead.Kept.{Gives, IsSound, kept_by}
use Rattle.input_ahead.specs.declared.input_ahead.EventOrBody.{EventOrBody}
use Rattle.input_ahead.specs.declared.input_ahead.EventOrBody.TheVariants.{Event, Body}
use Rattle.input_ahead.specs.declared.input_ahead.InputAhead.TheInside.{Inside}
use Rattle.input_ahead.proofs.Bodies.{rest_is, with_bodies-bytes, with_bodies-frees, leases-bytes, leases-frees, ended-bytes, ended-frees}
use Rattle.input_model.proofs.Counts.{bytes_ahead-bytes, ends_ahead-bytes, events_ahead-bytes, frees_ahead-bytes, bytes_ahead-frees, ends_ahead-frees, events_ahead-frees, frees_ahead-frees}
use Rattle.roff_store.specs.Texts.{Texts, lease_bytes, lease_of, rest_of}

module _ {E : Type 0} where
  -- nothing stands ahead
  pub IsSound-none : (most_bytes most_texts names open_texts store : ℕ) → most_bytes < 2 ^ 32 → store < 2 ^ 32
      → IsSound {E = E} (record {
        pushed_texts = record { ahead = []; most_bytes = most_bytes; most_texts = most_texts };
        texts = record {
          names = record { entries = []; cap = names };
          open_texts = [];
          leases = [];
          cap_bytes = store;
          cap_kept = most_bytes;
          cap_open = open_texts;
          cap_leases = most_texts;
        };
      })
  IsSound-none most_bytes most_texts names open_texts store small small_store = record {
    ended = tt;
    give = λ k d within. absurd (omega (arith, within));
    once = λ i j d before within. absurd (omega (arith, within));
    live = refl;
    sum = refl;
    cap_leases = refl;
    cap_kept = refl;
    bytes = omega arith;
    ends = omega arith;
    events = omega arith;
    frees = omega arith;
    small = small;
    store = small_store;
  }

  -- a text and its end are put in front
  pub IsSound-pushing : (a : Inside E) (text : List ℕ) → IsSound a
      → length text + bytes_ahead (kept_by a).ahead ≤ a.pushed_texts.most_bytes → ends_ahead (kept_by a).ahead < a.pushed_texts.most_texts
      → IsSound (record a { pushed_texts = record a.pushed_texts { ahead = map ByteAhead text ++ EndAhead ∷ a.pushed_texts.ahead } })
  IsSound-pushing a text sound fits few =
      let items = EndAhead ∷ a.pushed_texts.ahead in
      let ahead = EndAhead ∷ with_bodies a.texts a.pushed_texts.ahead in
      let stands = with_bodies-bytes a.texts text items in
      let same = leases-bytes text items in
      record {
        ended = ended-bytes text items sound.ended;
        give = rw same sound.give;
        once = rw same sound.once;
        live = rw same sound.live;
        sum = rw same sound.sum;
        cap_leases = sound.cap_leases;
        cap_kept = sound.cap_kept;
        bytes = rw (stands, bytes_ahead-bytes text ahead) fits;
        ends = rw (stands, ends_ahead-bytes text ahead) (omega (arith, few));
        events = rw (stands, events_ahead-bytes text ahead) sound.events;
        frees = rw (stands, frees_ahead-bytes text ahead) sound.frees;
        small = sound.small;
        store = sound.store;
      }

  -- the end of a called body is put in front
  pub IsSound-returning : (back : ℕ) (a : Inside E) → IsSound a → ends_ahead (kept_by a).ahead < a.pushed_texts.most_texts
      → IsSound (record a { pushed_texts = record a.pushed_texts { ahead = ReturnAhead back ∷ a.pushed_texts.ahead } })
  IsSound-returning back a sound few = record {
    ended = sound.ended;
    give = sound.give;
    once = sound.once;
    live = sound.live;
    sum = sound.sum;
    cap_leases = sound.cap_leases;
    cap_kept = sound.cap_kept;
    bytes = sound.bytes;
    ends = omega (arith, few);
    events = sound.events;
    frees = sound.frees;
    small = sound.small;
    store = sound.store;
  }

  -- a byte is put in front
  pub IsSound-byte : (a : Inside E) (b : ℕ) → IsSound a → bytes_ahead (kept_by a).ahead < a.pushed_texts.most_bytes
      → IsSound (record a { pushed_texts = record a.pushed_texts { ahead = ByteAhead b ∷ a.pushed_texts.ahead } })
  IsSound-byte a b sound fits = record {
    ended = sound.ended;
    give = sound.give;
    once = sound.once;
    live = sound.live;
    sum = sound.sum;
    cap_leases = sound.cap_leases;
    cap_kept = sound.cap_kept;
    bytes = omega (arith, fits);
    ends = sound.ends;
    events = sound.events;
    frees = sound.frees;
    small = sound.small;
    store = sound.store;
  }

  -- bytes are put in front again
  pub IsSound-freeing : (a : Inside E) (bytes : List ℕ) → IsSound a
      → frees_ahead (kept_by a).ahead + length bytes ≤ most_frees
      → IsSound (record a { pushed_texts = record a.pushed_texts { ahead = map FreeAhead bytes ++ a.pushed_texts.ahead } })
  IsSound-freeing a bytes sound few =
      let ahead = with_bodies a.texts a.pushed_texts.ahead in
      let stands = with_bodies-frees a.texts bytes a.pushed_texts.ahead in
      let same = leases-frees bytes a.pushed_texts.ahead in
      record {
        ended = ended-frees bytes a.pushed_texts.ahead sound.ended;
        give = rw same sound.give;
        once = rw same sound.once;
        live = rw same sound.live;
        sum = rw same sound.sum;
        cap_leases = sound.cap_leases;
        cap_kept = sound.cap_kept;
        bytes = rw (stands, bytes_ahead-frees bytes ahead) sound.bytes;
        ends = rw (stands, ends_ahead-frees bytes ahead) sound.ends;
        events = rw (stands, events_ahead-frees bytes ahead) sound.events;
        frees = rw (stands, frees_ahead-frees bytes ahead) (omega (arith, few));
        small = sound.small;
        store = sound.store;
      }

  module _ (t : Texts) where
    -- a byte in front costs as much as any other item
    byte_cost : (bytes : List ℕ) (items : List (Ahead E)) → 0 < length bytes
        → front_cost (map ByteAhead bytes ++ items) ≡ 1
    byte_cost [] items some = absurd (omega (arith, some))
    byte_cost (b ∷ bytes) items some = refl

    -- a body in front costs as much as its byte
    pub cost-with_bodies : (items : List (Ahead (EventOrBody E))) → All (Gives t) (leases_in items)
        → front_cost (with_bodies t items) ≡ front_cost items
    cost-with_bodies [] give = refl
    cost-with_bodies (ByteAhead b ∷ items) give = refl
    cost-with_bodies (FreeAhead b ∷ items) give = refl
    cost-with_bodies (EndAhead ∷ items) give = refl
    cost-with_bodies (ReturnAhead back ∷ items) give = refl
    cost-with_bodies (DoAhead (Event event) ∷ items) give = refl
    cost-with_bodies (DoAhead (Body id) ∷ items) give =
        let gives : 0 < rest_of (lease_of id.0 t) = give 0 0 (omega arith) in
        byte_cost (lease_bytes (lease_of id.0 t)) (with_bodies t items) (omega (arith, gives, rest_is (lease_of id.0 t)))

  -- what the front item costs
  pub cost_of_first : (items : List (Ahead E)) (item : Ahead E) → Some item ≡ first items → front_cost items ≡ cost item
  cost_of_first [] item is = cc
  cost_of_first (front ∷ items) item is = cc

-- a body as a line calls it: with a newline behind it where it lacks one
pub called-ended : (body : List ℕ) → lacks_newline body ≡ true → called_text body ≡ body ++ newline ∷ []
called-ended body lacks = ap (λ (so : Bool). if so then body ++ newline ∷ [] else body) lacks

pub called-whole : (body : List ℕ) → lacks_newline body ≡ false → called_text body ≡ body
called-whole body lacks = ap (λ (so : Bool). if so then body ++ newline ∷ [] else body) lacks

-- the newline counts
pub called-len : (body : List ℕ) → lacks_newline body ≡ true → length (called_text body) ≡ length body + 1
called-len body lacks = ap length (called-ended body lacks) ∙ length-append body (newline ∷ [])

-- and stands behind the body
pub called-in-front : {E : Type 0} (body : List ℕ) (items : List (Ahead E)) → lacks_newline body ≡ true
    → map ByteAhead body ++ ByteAhead newline ∷ items ≡ map ByteAhead (called_text body) ++ items
called-in-front body items lacks = rw (called-ended body lacks, map-append, append_assoc) refl
