-- What is seen ahead, with bodies in the place of their bytes.
use Rattle.std.proofs.Common.{get_or, ◌≡◌, ◌<◌, ℕ, List, [], ◌∷◌, ◌++◌, length, map, refl, arith, All, Some, None, ap, ◌∙◌, sym, subst, Option, take}
use Rattle.input_model.specs.Input.{Ahead, ByteAhead, FreeAhead, EndAhead, ReturnAhead, DoAhead, first_but_ends}
use Rattle.input_model.specs.Shown.{Sighted, SeesByte, seen_ahead}
use Rattle.input_ahead.specs.InputAhead.Bodies.{items_of, leases_in, with_bodies}
use Rattle.input_ahead.specs.InputAhead.Kept.{AheadAndTexts, Gives, IsSound, kept_by}
use Rattle.input_ahead.specs.declared.input_ahead.EventOrBody.{EventOrBody}
use Rattle.input_ahead.specs.declared.input_ahead.EventOrBody.TheVariants.{Event, Body}
use Rattle.input_ahead.specs.declared.input_ahead.InputAhead.TheInside.{Inside}
use Rattle.input_ahead.proofs.Bodies.{rest_is}
use Rattle.roff_store.specs.declared.text.LeaseId.{LeaseId}
use Rattle.roff_store.specs.Texts.{Texts, lease_bytes, lease_of, rest_of}

-- the first byte of what a lease gives is seen
pub front-seen : (E : Type 0) (bytes front : List ℕ) → front ≡ take (length front) bytes → 0 < length front
    → Some (SeesByte (get_or front 0 0)) ≡ seen_ahead {E = E} (map ByteAhead bytes ++ [])
front-seen E bytes [] is some = absurd (omega (arith, some))
front-seen E [] (b ∷ front) is some = cc
front-seen E (x ∷ bytes) (b ∷ front) is some =
    let first : b ≡ x = ap (λ (l : List ℕ). get_or l 0 0) is in ap (λ (n : ℕ). Some (SeesByte n)) first

module _ {E : Type 0} (t : Texts) where
  -- what is seen of an item that stands behind ends alone
  abbrev pub seen_of : Option (Ahead (EventOrBody E)) → Option Sighted
  seen_of None = None
  seen_of (Some item) = seen_ahead (items_of t item ++ [])

  -- bytes are seen whatever stands behind them
  seen-bytes : (bytes : List ℕ) (items : List (Ahead E)) → 0 < length bytes
      → seen_ahead (map ByteAhead bytes ++ items) ≡ seen_ahead {E = E} (map ByteAhead bytes ++ [])
  seen-bytes [] items some = absurd (omega (arith, some))
  seen-bytes (b ∷ bytes) items some = refl

  -- what is seen ahead is seen of the first item behind any ends
  pub seen-with_bodies : (items : List (Ahead (EventOrBody E))) → All (Gives t) (leases_in items)
      → seen_ahead (with_bodies t items) ≡ seen_of (first_but_ends items)
  seen-with_bodies [] give = refl
  seen-with_bodies (ByteAhead b ∷ items) give = refl
  seen-with_bodies (FreeAhead b ∷ items) give = refl
  seen-with_bodies (EndAhead ∷ items) give = seen-with_bodies items give
  seen-with_bodies (ReturnAhead back ∷ items) give = seen-with_bodies items give
  seen-with_bodies (DoAhead (Event event) ∷ items) give = refl
  seen-with_bodies (DoAhead (Body id) ∷ items) give =
      let gives : 0 < rest_of (lease_of id.0 t) = give 0 0 (omega arith) in
      seen-bytes (lease_bytes (lease_of id.0 t)) (with_bodies t items) (omega (arith, gives, rest_is (lease_of id.0 t)))

  -- the first body gives something
  pub first-gives : (items : List (Ahead (EventOrBody E))) (id : LeaseId) → All (Gives t) (leases_in items)
      → Some (DoAhead (Body id)) ≡ first_but_ends items → Gives t id.0
  first-gives [] id give is = cc
  first-gives (ByteAhead b ∷ items) id give is = cc
  first-gives (FreeAhead b ∷ items) id give is = cc
  first-gives (EndAhead ∷ items) id give is = first-gives items id give is
  first-gives (ReturnAhead back ∷ items) id give is = first-gives items id give is
  first-gives (DoAhead (Event event) ∷ items) id give is = cc
  first-gives (DoAhead (Body other) ∷ items) id give is =
      let same : id ≡ other = cc in subst (λ (n : LeaseId). Gives t n.0) (sym same) (give 0 0 (omega arith))

module _ {E : Type 0} where
  -- the first item behind any ends is none
  pub no-end-first : (items : List (Ahead E)) → Some EndAhead ≡ first_but_ends items → ⊥
  no-end-first [] is = cc
  no-end-first (ByteAhead b ∷ items) is = cc
  no-end-first (FreeAhead b ∷ items) is = cc
  no-end-first (EndAhead ∷ items) is = no-end-first items is
  no-end-first (ReturnAhead back ∷ items) is = no-end-first items is
  no-end-first (DoAhead event ∷ items) is = cc

  -- and none is the end of a called body
  pub no-return-first : (back : ℕ) (items : List (Ahead E)) → Some (ReturnAhead back) ≡ first_but_ends items → ⊥
  no-return-first back [] is = cc
  no-return-first back (ByteAhead b ∷ items) is = cc
  no-return-first back (FreeAhead b ∷ items) is = cc
  no-return-first back (EndAhead ∷ items) is = no-return-first back items is
  no-return-first back (ReturnAhead other ∷ items) is = no-return-first back items is
  no-return-first back (DoAhead event ∷ items) is = cc

  -- what frames show
  pub sees : (a : Inside E) (f : AheadAndTexts E) → IsSound a → kept_by a ≡ f → (item : Option (Ahead (EventOrBody E)))
      → item ≡ first_but_ends a.pushed_texts.ahead → seen_of a.texts item ≡ seen_ahead f.ahead
  sees a f sound is item first =
      subst (λ (f : AheadAndTexts E). seen_of a.texts item ≡ seen_ahead f.ahead) is
      (ap (seen_of a.texts) first ∙ sym (seen-with_bodies a.texts a.pushed_texts.ahead sound.give))
