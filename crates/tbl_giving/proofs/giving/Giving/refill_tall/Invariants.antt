use Rattle.std.proofs.Common.{◌≡◌, ◌+◌, ◌++◌, ◌≤◌, suc, nat_lt, true, length, if◌then◌else◌}
use Rattle.tbl_format.specs.RowsServed.{all_rows}
use Rattle.tbl_kept.specs.TableText.{block_of}
use Rattle.tbl_pieces.specs.PieceQueue.{bytes_left}
use Rattle.tbl_pieces.specs.Pieces.{AreWithin}
use Rattle.tbl_giving.specs.LinesWalked.{CanGo, lines_to_come, steps_left}
use Rattle.tbl_giving.specs.declared.giving.Rest.TheVariants.{Lines}
use Rattle.tbl_giving.proofs.giving.Giving.refill_tall.Given as goal

abbrev pub invariant-loop-self : goal.invariant-loop-self
invariant-loop-self l = record {
  rest : l.self.rest ≡ Lines;
  newline : l.self.has_newline ≡ l.initial.self.has_newline;
  tall : l.self.is_tall ≡ true;
  frame : l.self.frame ≡ l.initial.self.frame;
  frame_end : l.self.frame_end ≡ l.initial.self.frame_end;
  columns : l.self.columns ≡ l.initial.self.columns;
  can : CanGo (block_of l.text) (all_rows l.format.format) l.rows l.self.lines l.self.walk;
  lines : bytes_left (block_of l.text) l.self.frame l.self.pieces
      ++ lines_to_come (block_of l.text) (all_rows l.format.format) l.rows l.self.lines l.self.walk
      ≡ lines_to_come (block_of l.text) (all_rows l.format.format) l.rows l.initial.self.lines l.initial.self.walk;
  within : AreWithin (block_of l.text) l.self.frame l.self.pieces.pieces;
  taken : length l.self.pieces.pieces ≡ l.self.pieces.taken;
  room : 4 ≤ l.self.pieces.room;
}

abbrev pub decreases-loop-self : goal.decreases-loop-self
decreases-loop-self l =
    if nat_lt l.self.pieces.room (l.self.pieces.taken + 4) then 0
    else suc (steps_left (block_of l.text) (all_rows l.format.format) l.rows l.self.lines l.self.walk)
