use Rattle.roff_engine.proofs.Unbounded.{runs_through}
use Rattle.roff_engine.proofs.engine.Engine.format.Goals as goal

pub returns-clause-runs : goal.returns-clause-runs
returns-clause-runs g c =
    let new = c.format_within.new in
    rw c.bound.ensures.same at
    (runs_through c.args.self.limits c.args.self.start c.format_within.result (g.S.ByteSource.gives c.args.source.now) (g.S.ByteSource.gives new.source)
    (g.S.ByteSource.failures c.args.source.now) (g.S.ByteSource.failures new.source) (g.O.ByteSink.sunk c.args.out.now) (g.O.ByteSink.sunk new.out)
    (g.E.MessageSink.sunk c.bound.new.self) (g.E.MessageSink.sunk new.err) (g.E.MessageSink.room c.bound.new.self) (g.E.MessageSink.room new.err)
    c.format_within.ensures.runs)
