use Rattle.std.proofs.Common.{◌≡◌, ◌++◌, ◌≤◌, false, length}
use Rattle.tbl_format.specs.RowsServed.{all_rows}
use Rattle.tbl_kept.specs.TableText.{block_of}
use Rattle.tbl_giving.specs.Giving.{lines_left}
use Rattle.tbl_pieces.specs.PieceQueue.{bytes_left}
use Rattle.tbl_pieces.specs.Pieces.{AreWithin}
use Rattle.tbl_picture.specs.ElementsWalked.{CanWalk, steps_left}
use Rattle.tbl_giving.specs.declared.giving.Rest.TheVariants.{Lines}
use Rattle.tbl_giving.proofs.giving.Giving.refill_plain.Given as goal

abbrev pub invariant-loop-self : goal.invariant-loop-self
invariant-loop-self l = record {
  rest : l.self.rest ≡ Lines;
  newline : l.self.has_newline ≡ l.initial.self.has_newline;
  plain : l.self.is_tall ≡ false;
  frame : l.self.frame ≡ l.initial.self.frame;
  frame_end : l.self.frame_end ≡ l.initial.self.frame_end;
  columns : l.self.columns ≡ l.initial.self.columns;
  can : CanWalk (block_of l.text) (all_rows l.format.format) l.rows l.self.walk;
  lines : bytes_left (block_of l.text) l.self.frame l.self.pieces ++ lines_left l.text l.rows l.format l.self.walk
      ≡ lines_left l.text l.rows l.format l.initial.self.walk;
  within : AreWithin (block_of l.text) l.self.frame l.self.pieces.pieces;
  taken : length l.self.pieces.pieces ≡ l.self.pieces.taken;
  room : 4 ≤ l.self.pieces.room;
}

abbrev pub decreases-loop-self : goal.decreases-loop-self
decreases-loop-self l = steps_left (block_of l.text) (all_rows l.format.format) l.rows l.self.walk
