use Rattle.std.proofs.Common.{◌-◌, List, ℕ, drop, length, min, replicate, sym, subst, arith}
use Rattle.tbl_format.specs.Parts.{IsFront}
use Rattle.tbl_pieces.specs.Pieces.{bytes_of}
use Rattle.tbl_pieces.specs.declared.pieces.Piece.{Piece}
use Rattle.tbl_pieces.proofs.PiecesLeft.{front-repeated}
use Rattle.tbl_pieces.proofs.pieces.Piece.from.Goals as goal

pub returns-in-Blanks-clause-front : goal.returns-in-Blanks-clause-front
returns-in-Blanks-clause-front c =
    rw (c.in-Blanks.is, c.blanks.ensures) (front-repeated 32 (min (c.in-Blanks.count - c.args.at) 64) c.in-Blanks.count c.args.at (omega arith))

pub returns-in-Repeated-clause-front : goal.returns-in-Repeated-clause-front
returns-in-Repeated-clause-front c =
    let out = c.repeated.ensures in
    let count = c.in-Repeated.count in
    let at = c.args.at in
    subst (λ (p : Piece). IsFront c.repeated.result.now (drop at (bytes_of c.args.block.now c.args.frame.now p))) (sym c.in-Repeated.is)
    (subst (λ (xs : List ℕ). IsFront xs (drop at (replicate count c.in-Repeated.byte))) (sym out.value)
    (front-repeated c.in-Repeated.byte (length c.repeated.result.now) count at (omega (arith, out.few))))
