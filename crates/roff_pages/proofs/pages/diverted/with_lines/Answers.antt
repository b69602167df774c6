use Rattle.std.proofs.Common.{arith}
use Rattle.roff_pages.proofs.Diverting.{kept_with}
use Rattle.roff_pages.proofs.pages.diverted.with_lines.Goals as goal

pub returns : goal.returns
returns c d boxes is lines width =
    kept_with c.args.diversion d boxes c.args.lines c.args.width c.min.result c.max.result c.mode_behind.result is lines width
    (omega (arith, c.min.ensures, c.saturating_add.ensures)) (omega (arith, c.max.ensures, c.min-2.ensures)) c.mode_behind.ensures
