use Rattle.std.proofs.Common.{rules}
use Rattle.roff_tools.proofs.Named.{AreNamed-next, first_refused}
use Rattle.roff_tools.proofs.program.open_all.Goals as goal

pub loop-name-preserved : goal.loop-name-preserved
loop-name-preserved g c =
    AreNamed-next (g.R.Readers.opens c.args.rt.now) (g.R.Readers.stands c.args.rt.now) c.args.names.now c.loop-name.name-index _ c.loop-name.parts.items c.push.new.self.items c.in_ok-open_part.field-0
    c.loop-name-test.true c.in_ok-push.ensures.items c.loop-name.invariant c.in_ok-open_part.ensures.part

pub returns-in_err-open_part-clause-fault : goal.returns-in_err-open_part-clause-fault
returns-in_err-open_part-clause-fault g c =
    let first = first_refused (g.R.Readers.opens c.args.rt.now) (g.R.Readers.refuses c.args.rt.now) (g.R.Readers.stands c.args.rt.now) c.args.names.now c.loop-name.name-index _ c.loop-name.parts.items
    c.in_err-open_part.field-0.0 c.loop-name-test.true c.loop-name.invariant c.in_err-open_part.ensures.fault in
    search rules
