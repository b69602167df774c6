use Rattle.std.proofs.Common.{sym, ◌∙◌}
use Rattle.roff_scan.proofs.Asking.{takes_ready}
use Rattle.roff_scan.proofs.unread.Unread.take_waiting.Goals as goal

pub returns-then-not-is_empty-clause-takes : goal.returns-then-not-is_empty-clause-takes
returns-then-not-is_empty-clause-takes g c =
    takes_ready (g.S.ByteSource.gives c.args.source.now) _ c.args.self.now c.take_waiting_ahead.new.self c.self.view_is
    (sym c.is_empty.ensures ∙ c.if-not-is_empty.true) c.take_waiting_ahead.result c.take_waiting_ahead.ensures.takes
