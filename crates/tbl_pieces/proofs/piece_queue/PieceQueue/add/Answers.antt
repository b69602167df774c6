use Rattle.std.proofs.Common.{List, subst, sym}
use Rattle.tbl_pieces.specs.PieceQueue.{Adds, KeptPieces}
use Rattle.tbl_pieces.specs.Pieces.{bytes_of}
use Rattle.tbl_pieces.specs.declared.pieces.Piece.{Piece}
use Rattle.tbl_pieces.proofs.Adding.{adds-piece, kept-more, kept_of}
use Rattle.tbl_pieces.proofs.piece_queue.PieceQueue.add.Goals as goal

pub returns-clause-adds : goal.returns-clause-adds
returns-clause-adds c = λ block frame lies.
    let old = c.self.inside in
    let piece = c.args.piece in
    let before = kept_of old.piece old.offset old.room old.pieces.items in
    let bytes = bytes_of block frame piece in
    subst (λ (k : KeptPieces). Adds block frame 1 k (kept_of old.piece old.offset old.room c.push_some.new.pieces.items) bytes) c.self.view_is
    (subst (λ (items : List Piece). Adds block frame 1 before (kept_of old.piece old.offset old.room items) bytes) (sym c.push_some.ensures.items)
    (subst (λ (k : KeptPieces). Adds block frame 1 before k bytes)
    (kept-more old.piece old.offset old.room old.pieces.items piece c.self.invariant.within)
    (adds-piece block frame before piece c.self.invariant.place lies)))
