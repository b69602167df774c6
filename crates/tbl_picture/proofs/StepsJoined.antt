-- Steps of a row, one behind the other.
use Rattle.std.proofs.Common.{◌≡◌, ℕ, ◌+◌, ◌≤◌, ◌<◌, Bool, true, false, List, ◌++◌, sym, ap, subst, ◌∙◌, arith, append_assoc, if◌then◌else◌}
use Rattle.tbl_pieces.specs.PieceQueue.{KeptPieces}
use Rattle.tbl_picture.specs.Walks.{IsUnderWay, KeptWalk, RowEndsOrGoesOn, RowGoesOn, RowSoFar, RowSteps, Stays, WalkedRow, row_left, row_steps}
use Rattle.tbl_picture.specs.Walks.RowGoesOn.{Gone, NotYet}
use Rattle.tbl_pieces.proofs.Adding.{fitting-more}
use Rattle.tbl_picture.proofs.RowSteps.{under-on}
use Rattle.tbl_picture.proofs.RowsOn.{steps-on}

-- what stays in steps, and in those behind them
stay-on : (old mid new : KeptWalk) → Stays old mid → Stays mid new → Stays old new
stay-on old mid new first second = record {
  element = second.element ∙ first.element;
  above = second.above ∙ first.above;
  bars = second.bars ∙ first.bars;
  width = second.width ∙ first.width;
  room = second.room ∙ first.room;
}

-- the steps of a row so far
so-far : (t : Bool) (frame : List ℕ) (row : WalkedRow) (old new : KeptWalk) (before after : KeptPieces)
    → RowEndsOrGoesOn t frame row old new before after → RowSoFar t frame row old new before after
so-far true frame row old new before after does = does
so-far false frame row old new before after does = Gone does

-- steps of a row, and those behind them
module _ (frame : List ℕ) (row : WalkedRow) (old mid new : KeptWalk) (before between after : KeptPieces) where
  steps-join : between.taken + 4 ≤ between.room → RowSteps frame row old mid before between → (t : Bool)
      → RowEndsOrGoesOn t frame row mid new between after → RowEndsOrGoesOn t frame row old new before after
  steps-join room first true second = record {
    added = first.added ++ second.added;
    adds = fitting-more row.bytes frame before between after first.added second.added room first.adds second.adds;
    all = first.joins ∙ ap (λ (rest : List ℕ). first.added ++ rest) second.all;
    stays = stay-on old mid new first.stays second.stays;
  }
  steps-join room first false second = record {
    added = first.added ++ second.added;
    adds = fitting-more row.bytes frame before between after first.added second.added room first.adds second.adds;
    joins = first.joins ∙ ap (λ (rest : List ℕ). first.added ++ rest) second.joins
        ∙ sym (append_assoc first.added second.added (row_left new.next row new));
    on = second.on;
    can = second.can;
    less = omega (arith, first.less, second.less);
    stays = stay-on old mid new first.stays second.stays;
  }

  pub goes-further : between.taken + 4 ≤ between.room → RowGoesOn frame row old mid before between → (t : Bool)
      → RowEndsOrGoesOn t frame row mid new between after → RowSoFar t frame row old new before after
  goes-further room (NotYet walk pieces) t does =
      so-far t frame row old new before after
      (subst (λ (k : KeptWalk). RowEndsOrGoesOn t frame row k new before after) walk
      (subst (λ (q : KeptPieces). RowEndsOrGoesOn t frame row mid new q after) pieces does))
  goes-further room (Gone first) t does = so-far t frame row old new before after (steps-join room first t does)

-- where there is no more room for a step's pieces, some were made
pub some-made : (t : Bool) (frame : List ℕ) (row : WalkedRow) (old new : KeptWalk) (before after : KeptPieces)
    → before.taken + 4 ≤ before.room → after.room < after.taken + 4
    → RowSoFar t frame row old new before after → RowEndsOrGoesOn t frame row old new before after
some-made true frame row old new before after room full s = s
some-made false frame row old new before after room full (NotYet walk pieces) =
    absurd (let is_full = subst (λ (q : KeptPieces). q.room < q.taken + 4) pieces full in omega (arith, room, is_full))
some-made false frame row old new before after room full (Gone s) = s

-- what does not end is under way
pub under-behind : (t : Bool) (frame : List ℕ) (row : WalkedRow) (old new : KeptWalk) (before after : KeptPieces)
    → RowEndsOrGoesOn t frame row old new before after → t ≡ false → IsUnderWay new.next row new
under-behind true frame row old new before after s goes = absurd (cc)
under-behind false frame row old new before after s goes = s.can

-- fewer steps are left behind steps
pub fewer-steps : (t : Bool) (frame : List ℕ) (row : WalkedRow) (old new : KeptWalk) (before after : KeptPieces)
    → IsUnderWay old.next row old → RowEndsOrGoesOn t frame row old new before after → (if t then 0 else row_steps new.next row new) < row_steps old.next row old
fewer-steps true frame row old new before after under s = steps-on old.next row old (under-on old.next row old under) under
fewer-steps false frame row old new before after under s = s.less
