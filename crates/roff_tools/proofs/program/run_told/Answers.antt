use Rattle.roff_tools.proofs.program.run_told.Goals as goal

pub returns : goal.returns
returns g c = record {
  before = c.run_buffered-exit.result.0;
  given = c.run_buffered-exit.new.err.sink;
  runs = rw c.new-sink.ensures at c.run_buffered-exit.ensures;
  flushed = c.finish-stderr.result.1;
  finishes = rw c.into_inner.ensures at c.finish-stderr.ensures;
  ends = c.after_flush.ensures;
}
