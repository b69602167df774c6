use Rattle.std.proofs.Common.{subst, arith}
use Rattle.tbl_pieces.specs.PieceQueue.{IsInFirst}
use Rattle.tbl_pieces.proofs.PiecesLeft.{drop-at}
use Rattle.tbl_pieces.proofs.piece_queue.PieceQueue.next.Goals as goal

pub overflow_add-self : goal.overflow_add-self
overflow_add-self c =
    let old = c.self.inside in
    let piece = c.in_ok-piece.field-0.now in
    let front = rw c.deref.ensures.value at (drop-at c.deref.result.now old.piece piece c.in_ok-piece.ensures.lookup.3) in
    let place = subst (IsInFirst old.offset) front c.self.invariant.place in
    omega (arith, place, c.len-len.ensures, c.len-len.type_inv)
