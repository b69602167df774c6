use Rattle.std.proofs.Common.{◌∙◌, arith, sym}
use Rattle.run_turns.proofs.PuttingBack.{puts_at, puts_past}
use Rattle.run_turns.proofs.running.Running.put_back.Goals as goal

pub loop-index-preserved-in-Some : goal.loop-index-preserved-in-Some
loop-index-preserved-in-Some c = (
  omega (arith, c.loop-index-test.true),
  puts_at c.args.self.now c.loop-index.self c.keep_title_of-event.new.self c.put_back.new.self c.loop-index.index c.in-Some.event
      (omega (arith, c.loop-index-test.true)) c.loop-index.invariant.1 (sym c.event.ensures.at ∙ c.in-Some.is)
      c.keep_title_of-event.ensures.kept (rw c.keep_title_of-event.ensures.event at c.put_back.ensures.change),
)

pub loop-index-preserved : goal.loop-index-preserved
loop-index-preserved c = (
  omega (arith, c.loop-index-test.true),
  puts_past c.args.self.now c.loop-index.self c.loop-index.index (omega (arith, c.loop-index-test.true))
      c.loop-index.invariant.1 (sym c.event.ensures.at ∙ c.in_default.is),
)
