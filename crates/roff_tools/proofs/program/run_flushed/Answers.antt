use Rattle.roff_tools.proofs.program.run_flushed.Goals as goal

pub returns : goal.returns
returns g c = record {
  before = c.start-exit.result;
  given = c.start-exit.new.out;
  starts = rw c.new-out.ensures at c.start-exit.ensures;
  flushed = c.finish-stdout.result.1;
  finishes = rw c.into_inner.ensures at c.finish-stdout.ensures;
  ends = c.after_flush.ensures;
}
