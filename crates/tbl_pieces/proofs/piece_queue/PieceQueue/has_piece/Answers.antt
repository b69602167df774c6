use Rattle.std.proofs.Common.{arith}
use Rattle.tbl_format.proofs.FormatReading.{has_some-drop}
use Rattle.tbl_pieces.proofs.piece_queue.PieceQueue.has_piece.Goals as goal

pub returns : goal.returns
returns c =
    let old = c.self.inside in
    rw (← c.self.view_is) (has_some-drop old.pieces.items old.piece c.len.result (omega (arith, c.len.ensures, old.pieces.ok.0)))
