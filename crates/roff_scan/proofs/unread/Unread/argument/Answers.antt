use Rattle.roff_scan.specs.Unread.Kept.{kept_by}
use Rattle.roff_scan.proofs.LineCalls.{is_argument_live}
use Rattle.roff_scan.proofs.unread.Unread.argument.Goals as goal

pub returns : goal.returns
returns g c =
    rw (← c.self.view_is)
    (is_argument_live c.args.index (kept_by c.self.inside).input c.arguments.result c.argument_at.result.now c.arguments.ensures c.argument_at.ensures)
