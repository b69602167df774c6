use Rattle.std.proofs.Common.{◌++◌, take, append_assoc, take-append-drop}
use Rattle.page_bytes.proofs.Appending.{Writes-append}
use Rattle.page_bytes.proofs.sink.WriteSinkByteSink.put.Goals as goal

pub loop-rest-preserved : goal.loop-rest-preserved
loop-rest-preserved g c = record {
  front = c.loop-rest.invariant.front ++ take c.in-Some.count c.loop-rest.rest.now;
  split = rw (c.split_at.ensures.back, append_assoc, take-append-drop) c.loop-rest.invariant.split;
  writes = Writes-append _ _ c.loop-rest.invariant.writes c.in-Some.ensures.some;
}
