use Rattle.roff_scan.proofs.PushedFronts.{pushed_run}
use Rattle.roff_scan.proofs.unread.Unread.take_condition.Goals as goal

pub returns-then-pushed-gt0-clause-takes : goal.returns-then-pushed-gt0-clause-takes
returns-then-pushed-gt0-clause-takes g c =
    pushed_run (g.S.ByteSource.gives c.args.source.now) (g.S.ByteSource.ready c.args.source.now) c.take_pushed-pushed.result c.args.self.now c.take_pushed-pushed.new.self c.take_pushed-pushed.ensures.takes
