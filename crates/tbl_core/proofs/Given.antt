-- Bytes that are pending and lie together are given at once.
use Rattle.std.proofs.Common.{◌≡◌, ℕ, zero, suc, ◌≤◌, Bool, true, false, List, [], ◌∷◌, Option, length, length-take, map, nat_le, take, drop, refl, sym, ap, ◌∙◌, subst, arith, length-take-le, take-take, take_all}
use Rattle.std.proofs.lemmas.Bool.Decides.{nat_tests}
use Rattle.std.proofs.lemmas.List.{drop-map, drop_all, length-map, take-map}
use Rattle.input_source.specs.Tape.{Item, OneByte, OneNote, Tape}
use Rattle.tbl_format.specs.declared.limits.TblLimits.{TblLimits}
use Rattle.tbl_options.specs.declared.message.Told.{Told}
use Rattle.tbl_format.specs.Parts.{IsFront}
use Rattle.tbl_core.specs.declared.place.Count.{Count}
use Rattle.tbl_core.specs.declared.place.Position.{Position}
use Rattle.tbl_core.specs.NotesLeft.{noted, notes_left}
use Rattle.tbl_core.specs.Source.{IsAlive, IsSourced, NotAsked, WasAsked}
use Rattle.tbl_core.specs.Tables.{TablesState, behind_given, pending_of, standing_of}
use Rattle.tbl_core.specs.Yields.{At}
use Rattle.tbl_core.proofs.Pending.{Bytes}
use Rattle.tbl_table.specs.Reading.{KeptTable}

-- bytes that are the first are so as items
front-map : (front all : List ℕ) → IsFront front all → IsFront (map OneByte front) (map OneByte all)
front-map front all is =
    ap (λ (n : ℕ). take n (map OneByte all)) (length-map front OneByte)
    ∙ take-map OneByte (length front) all
    ∙ ap (map OneByte) is

-- where no message is pending, the bytes of the table are what is
module _ (k : KeptTable) (own : Option Told) (bytes : Bytes k.told own) where
  pub pending_bytes : pending_of k own ≡ map OneByte k.to_come
  pending_bytes = rw (bytes.no_told, bytes.no_own) refl

  pub front_pending : (front : List ℕ) → IsFront front k.to_come → IsFront (map OneByte front) (pending_of k own)
  front_pending front is = subst (IsFront (map OneByte front)) (sym pending_bytes) (front-map front k.to_come is)

  pub length_pending : length (pending_of k own) ≡ length k.to_come
  length_pending = ap (λ (items : List Item). length items) pending_bytes ∙ length-map k.to_come OneByte

  -- and so many fewer are behind those that were given
  pub given_pending : (l : TblLimits) (line_length : ℕ) (count : Count) (position : Position) (new : KeptTable) (n : ℕ)
      → new ≡ record k { to_come = drop n k.to_come }
      → record {
        limits = l;
        line_length = line_length;
        at = record { pending = pending_of new own; standing = standing_of count position new.reading };
      }
      ≡ behind_given n (record {
        limits = l;
        line_length = line_length;
        at = record { pending = pending_of k own; standing = standing_of count position k.reading };
      })
  given_pending l line_length count position new n is =
      let state : List Item → TablesState = λ items. record {
        limits = l;
        line_length = line_length;
        at = record { pending = items; standing = standing_of count position k.reading };
      } in
      let whole : KeptTable → TablesState = λ t. record {
        limits = l;
        line_length = line_length;
        at = record { pending = pending_of t own; standing = standing_of count position t.reading };
      } in
      let behind : KeptTable = record k { to_come = drop n k.to_come } in
      let left : pending_of behind own ≡ drop n (pending_of k own) =
      rw (bytes.no_told, bytes.no_own) (sym (drop-map OneByte n k.to_come)) in
      ap whole is ∙ ap state left

-- messages don't come by that
pub noted-drop : (n : ℕ) (items : List Item) → noted items ≡ 0 → noted (drop n items) ≡ 0
noted-drop zero items none = none
noted-drop (suc n) [] none = refl
noted-drop (suc n) (OneByte b ∷ items) none = noted-drop n items none
noted-drop (suc n) (OneNote m ∷ items) none = absurd (omega (arith, none))

no_items : (n : ℕ) (items : List Item) → items ≡ [] → drop n items ≡ []
no_items n items none =
    let nothing : List Item = [] in
    ap (drop n) none ∙ drop_all n nothing (omega arith)

alive_behind : (gives : Tape → Type 0) (at : At) (n : ℕ) → IsAlive gives at
    → IsAlive gives (record { pending = drop n at.pending; standing = at.standing })
alive_behind gives at n (NotAsked is) =
    NotAsked (
    ap (λ (items : List Item). record { pending = items; standing = at.standing }) (no_items n at.pending (ap (λ (a : At). a.pending) is))
    ∙ ap (λ (a : At). record { pending = []; standing = a.standing }) is
    )
alive_behind gives at n (WasAsked some given) = WasAsked some given

pub sourced_given : (gives : Tape → Type 0) (old new : TablesState) (idle giving : Bool) (n : ℕ) → new ≡ behind_given n old
    → IsSourced gives old.at idle giving → IsSourced gives new.at idle giving
sourced_given gives old new idle giving n is sourced =
    subst (λ (t : TablesState). IsSourced gives t.at idle giving) (sym is) (record {
      alive = alive_behind gives old.at n sourced.alive;
      idles = λ idle. no_items n old.at.pending (sourced.idles idle);
      quiet = λ gives. noted-drop n old.at.pending (sourced.quiet gives);
    })

-- a part of a front is one
fewer-front : {A : Type 0} (t : Bool) (k : ℕ) (front all : List A) → nat_le k (length front) ≡ t → IsFront front all → IsFront (take k front) all
fewer-front true k front all le is =
    let few : k ≤ length front = grind (arith, nat_tests, le) in
    ap (λ (n : ℕ). take n all) (length-take-le k front few)
    ∙ sym (take-take k (length front) all few)
    ∙ ap (take k) is
fewer-front {A = A} false k front all le is =
    let past : length front ≤ k = grind (arith, nat_tests, le) in
    subst (λ (xs : List A). IsFront xs all) (sym (take_all k front past)) is

-- the bytes that there is room for are the first that are pending
pub front-pending : (k : ℕ) (known front : List ℕ) (pending : List Item) → IsFront (map OneByte known) pending → front ≡ take k known
    → IsFront (map OneByte front) pending
front-pending k known front pending is front_is =
    let items : map OneByte front ≡ take k (map OneByte known) = ap (map OneByte) front_is ∙ sym (take-map OneByte k known) in
    subst (λ (xs : List Item). IsFront xs pending) (sym items)
    (fewer-front (nat_le k (length (map OneByte known))) k (map OneByte known) pending refl is)

-- there is one where one of its part is
pub front_some : (k : ℕ) (known front : List ℕ) → front ≡ take k known → 1 ≤ length front → 1 ≤ length known
front_some k known front is some =
    let few = ap (λ (xs : List ℕ). length xs) is in
    omega (arith, few, length-take k known, some)

-- no more messages are to come behind bytes that were given
pub given_fewer : (n : ℕ) (t : TablesState) → noted t.at.pending ≡ 0 → notes_left (behind_given n t) ≤ notes_left t
given_fewer n t none =
    let left = noted-drop n t.at.pending none in
    omega (arith, left, none)
