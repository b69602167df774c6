-- Pieces of a picture with cells of several rows, as long as there is room for them.
use Rattle.std.proofs.Common.{◌≡◌, ℕ, suc, nat_lt, ◌+◌, ◌≤◌, ◌<◌, Bool, true, false, List, ◌++◌, refl, sym, ap, subst, ◌∙◌, arith, append_assoc, if◌then◌else◌, le-ltb, ltb-false}
use Rattle.tbl_format.specs.Format.{FormatRow}
use Rattle.tbl_kept.specs.Rows.{KeptRows}
use Rattle.tbl_giving.specs.LinesWalked.{KeptLineByLine, LineSteps, lines_to_come, steps_left}
use Rattle.tbl_picture.specs.Walks.{KeptWalk}
use Rattle.tbl_pieces.specs.PieceQueue.{KeptPieces, bytes_left}
use Rattle.tbl_pieces.specs.Pieces.{AreWithin}

module _ {bytes frame : List ℕ} {formats : List FormatRow} {rows : KeptRows} {old new : KeptLineByLine} {before after : KeptWalk} {pieces others : KeptPieces}
    (step : LineSteps bytes frame formats rows old new before after pieces others) where
  -- what is given and what is to come stay the same
  pub lines-on : AreWithin bytes frame pieces.pieces
      → bytes_left bytes frame others ++ lines_to_come bytes formats rows new after
      ≡ bytes_left bytes frame pieces ++ lines_to_come bytes formats rows old before
  lines-on within =
      ap (λ (front : List ℕ). front ++ lines_to_come bytes formats rows new after) (step.adds.adds.left within)
      ∙ append_assoc (bytes_left bytes frame pieces) step.added (lines_to_come bytes formats rows new after)
      ∙ ap (λ (rest : List ℕ). bytes_left bytes frame pieces ++ rest) (sym step.same)

  -- fewer steps are left, where there is room for another one
  abbrev measure : Bool → ℕ → ℕ
  measure full steps = if full then 0 else suc steps

  fewer-by : (t : Bool) → nat_lt others.room (others.taken + 4) ≡ t
      → measure t (steps_left bytes formats rows new after) < suc (steps_left bytes formats rows old before)
  fewer-by true is = omega arith
  fewer-by false is = omega (arith, step.less (ltb-false others.room (others.taken + 4) is))

  pub fewer-left : pieces.taken + 4 ≤ pieces.room
      → measure (nat_lt others.room (others.taken + 4)) (steps_left bytes formats rows new after)
      < measure (nat_lt pieces.room (pieces.taken + 4)) (steps_left bytes formats rows old before)
  fewer-left room =
      let roomy : nat_lt pieces.room (pieces.taken + 4) ≡ false = le-ltb pieces.room (pieces.taken + 4) room in
      subst (λ (t : Bool). measure (nat_lt others.room (others.taken + 4)) (steps_left bytes formats rows new after)
      < measure t (steps_left bytes formats rows old before)) (sym roomy)
      (fewer-by (nat_lt others.room (others.taken + 4)) refl)
