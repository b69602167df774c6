use Rattle.std.proofs.Common.{sym}
use Rattle.tbl_kept.specs.TableText.{block_of}
use Rattle.tbl_giving.proofs.GivingLeft.{IsLast-some}
use Rattle.tbl_giving.proofs.giving.Giving.pass_some.Goals as goal

pub returns-else-not-has_piece-clause-can : goal.returns-else-not-has_piece-clause-can
returns-else-not-has_piece-clause-can c =
    let a = c.self.inside in
    let can = rw (← c.self.view_is) at c.requires.can in
    let out = c.pass-count.ensures in
    record {
      within = out.within (block_of c.args.text.now) a.frame.items can.within;
      rest = can.rest;
      last = IsLast-some c.pass-count.new.self.pieces a.rest (sym c.if-not-has_piece.ensures);
    }
