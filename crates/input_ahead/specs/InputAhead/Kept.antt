-- What frames keep.
use Rattle.std.specs.Prelude.{◌≡◌, ◌≢◌, ℕ, ◌<◌, ◌≤◌, ◌^◌, Bool, true, false, List, [], ◌∷◌, length, All, AllPairs, sum_by}
use Rattle.input_model.specs.Input.{Ahead, ByteAhead, FreeAhead, EndAhead, ReturnAhead, DoAhead, bytes_ahead, ends_ahead, events_ahead, frees_ahead, most_frees}
use Rattle.input_ahead.specs.InputAhead.Bodies.{leases_in, with_bodies}
use Rattle.input_ahead.specs.PushedTexts.Held.{most_used}
use Rattle.input_ahead.specs.declared.input_ahead.EventOrBody.{EventOrBody}
use Rattle.input_ahead.specs.declared.input_ahead.EventOrBody.TheVariants.{Event, Body}
use Rattle.input_ahead.specs.declared.input_ahead.InputAhead.TheInside.{Inside}
use Rattle.roff_store.specs.Texts.{Texts, kept, lease_of, live, rest_of}

-- what stands ahead of the source, and the texts by name; for so many unread bytes, and so many texts, there is room
pub record AheadAndTexts (E : Type 0) : Type 0 where
  pub ahead : List (Ahead E)
  pub texts : Texts
  pub most_bytes : ℕ
  pub most_texts : ℕ

-- the texts, without what leases still give of them
abbrev pub without_leases : Texts → Texts
without_leases t = record t { leases = [] }

-- what the fields keep
abbrev pub kept_by : {E : Type 0} → Inside E → AheadAndTexts E
kept_by a = record {
  ahead = with_bodies a.texts a.pushed_texts.ahead;
  texts = without_leases a.texts;
  most_bytes = a.pushed_texts.most_bytes;
  most_texts = a.pushed_texts.most_texts;
}

-- whether an end comes first, behind any bytes
abbrev pub is_end_next : {E : Type 0} → List (Ahead (EventOrBody E)) → Bool
is_end_next [] = false
is_end_next (ByteAhead b ∷ items) = is_end_next items
is_end_next (FreeAhead b ∷ items) = false
is_end_next (EndAhead ∷ items) = true
is_end_next (ReturnAhead back ∷ items) = true
is_end_next (DoAhead event ∷ items) = false

-- behind each body comes the end of its text
abbrev pub AreEnded : {E : Type 0} → List (Ahead (EventOrBody E)) → Type 0
AreEnded [] = Unit {0}
AreEnded (ByteAhead b ∷ items) = AreEnded items
AreEnded (FreeAhead b ∷ items) = AreEnded items
AreEnded (EndAhead ∷ items) = AreEnded items
AreEnded (ReturnAhead back ∷ items) = AreEnded items
AreEnded (DoAhead (Event event) ∷ items) = AreEnded items
AreEnded (DoAhead (Body id) ∷ items) = (is_end_next items ≡ true) × AreEnded items

-- a lease gives something
abbrev pub Gives : Texts → ℕ → Type 0
Gives t id = 0 < rest_of (lease_of id t)

-- each lease is a body's that stands ahead, and gives something
pub record IsSound {E : Type 0} (a : Inside E) : Type 0 where
  pub ended : AreEnded a.pushed_texts.ahead
  pub give : All (Gives a.texts) (leases_in a.pushed_texts.ahead)
  pub once : AllPairs (λ id later. id ≢ later) (leases_in a.pushed_texts.ahead)
  pub live : live a.texts ≡ length (leases_in a.pushed_texts.ahead)
  pub sum : kept a.texts ≡ sum_by (λ id. rest_of (lease_of id a.texts)) (leases_in a.pushed_texts.ahead)
  pub cap_leases : a.texts.cap_leases ≡ a.pushed_texts.most_texts
  pub cap_kept : a.texts.cap_kept ≡ a.pushed_texts.most_bytes
  pub bytes : bytes_ahead (kept_by a).ahead ≤ a.pushed_texts.most_bytes
  pub ends : ends_ahead (kept_by a).ahead ≤ a.pushed_texts.most_texts
  pub events : events_ahead (kept_by a).ahead ≤ most_used a.pushed_texts.most_texts
  pub frees : frees_ahead (kept_by a).ahead ≤ most_frees
  pub small : a.pushed_texts.most_bytes < 2 ^ 32
  pub store : a.texts.cap_bytes < 2 ^ 32
