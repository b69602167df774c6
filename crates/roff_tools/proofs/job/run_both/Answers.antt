use Rattle.page_bytes.specs.Devices.{seen}
use Rattle.tbl_core.specs.Gathered.{gathered_gives, inner_of, tables_of}
use Rattle.tbl_core.specs.Yields.{at_start}
use Rattle.roff_tools.proofs.Both.{Runs-RunsBoth, Runs-at}
use Rattle.roff_tools.proofs.job.run_both.Goals as goal

pub returns-in-Ok-clause-runs : goal.returns-in-Ok-clause-runs
returns-in-Ok-clause-runs g c =
    let behind = c.format-status.new.source in
    let made = c.in-Ok.ensures in
    let gives = g.S.ByteSource.gives in
    let failures = g.S.ByteSource.failures in
    let now = seen (failures (inner_of behind)) (g.O.ByteSink.sunk c.format-status.new.out) (g.E.MessageSink.sunk c.format-status.new.err) in
    rw c.into_inner.ensures
    (Runs-RunsBoth c.args.engine.limits c.args.engine.start c.args.limits (tables_of behind).limits c.args.line_length (tables_of behind).line_length (tables_of behind).at c.format-status.result
    (gives c.args.source) (gives (inner_of behind))
    (seen (failures c.args.source) (g.O.ByteSink.sunk c.args.out.now) (g.E.MessageSink.sunk c.args.err.now)) now
    (Runs-at c.args.engine.limits c.args.engine.start c.format-status.result gives _ c.args.source _ (record { limits = c.args.limits; line_length = c.args.line_length; at = at_start })
    (gathered_gives gives behind) (λ i. seen (failures i) (g.O.ByteSink.sunk c.args.out.now) (g.E.MessageSink.sunk c.args.err.now)) now
    made.inner made.tables c.format-status.ensures.runs))
