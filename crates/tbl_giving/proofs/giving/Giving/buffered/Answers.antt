use Rattle.std.proofs.Common.{refl}
use Rattle.tbl_format.specs.Parts.{IsFront}
use Rattle.tbl_kept.specs.TableText.{block_of}
use Rattle.tbl_giving.specs.Giving.{kept_by}
use Rattle.tbl_pieces.specs.PieceQueue.{bytes_left}
use Rattle.tbl_giving.proofs.GivingLeft.{front-more, some_coming}
use Rattle.tbl_giving.proofs.giving.Giving.buffered.Goals as goal

pub returns-clause-front : goal.returns-clause-front
returns-clause-front c =
    let a = c.self.inside in
    let block = block_of c.args.text.now in
    let front : IsFront c.buffered.result.now (bytes_left block a.frame.items a.pieces) =
    rw (c.block.ensures, c.as_slice.ensures.value) at c.buffered.ensures.front in
    rw (← c.self.view_is)
    (front-more c.buffered.result.now (bytes_left block a.frame.items a.pieces) _ front)

pub returns-clause-some : goal.returns-clause-some
returns-clause-some c = λ some.
    let a = c.self.inside in
    let can = rw (← c.self.view_is) at c.requires in
    c.buffered.ensures.some
    (some_coming c.args.text.now c.args._rows.now c.args._format.now (kept_by a) a.pieces.pieces refl can.last (rw (← c.self.view_is) at some))
