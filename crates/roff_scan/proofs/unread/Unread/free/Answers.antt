use Rattle.std.proofs.Common.{◌∙◌}
use Rattle.roff_scan.specs.Unread.Kept.{kept_by}
use Rattle.roff_scan.proofs.Changing.{IsWithin-freeing}
use Rattle.input_model.proofs.Counts.{returns_ahead-frees}
use Rattle.roff_scan.proofs.unread.Unread.free.Goals as goal

pub invariant_of-self : goal.invariant_of-self
invariant_of-self g c = record {
  bytes = rw c.free.ensures c.self.invariant.bytes;
  texts = rw c.free.ensures c.self.invariant.texts;
  arguments = c.self.invariant.arguments;
  begun = c.self.invariant.begun;
  call_bytes = c.self.invariant.call_bytes;
  most_calls = c.self.invariant.most_calls;
  calls = rw c.free.ensures (returns_ahead-frees c.args.bytes.now c.self.inside.input_ahead.ahead ∙ c.self.invariant.calls);
  held = c.self.invariant.held;
  small = c.self.invariant.small;
  store = rw c.free.ensures c.self.invariant.store;
  once = rw c.free.ensures c.self.invariant.once;
  results = c.self.invariant.results;
  within = rw c.free.ensures (IsWithin-freeing (kept_by c.self.inside) c.args.bytes.now c.self.invariant.within);
}
