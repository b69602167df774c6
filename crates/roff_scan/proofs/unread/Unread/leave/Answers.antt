use Rattle.std.proofs.Common.{refl}
use Rattle.roff_scan.specs.Unread.Kept.{kept_by}
use Rattle.roff_scan.proofs.Changing.{IsWithin-leaving}
use Rattle.roff_scan.proofs.unread.Unread.leave.Goals as goal

pub invariant_of-self : goal.invariant_of-self
invariant_of-self g c =
    record {
      bytes = rw c.clear-back.ensures.change c.self.invariant.bytes;
      texts = rw c.clear-back.ensures.change c.self.invariant.texts;
      arguments = c.self.invariant.arguments;
      begun = c.self.invariant.begun;
      call_bytes = rw c.clear.ensures c.self.invariant.call_bytes;
      most_calls = rw c.clear.ensures c.self.invariant.most_calls;
      calls = rw (c.clear-back.ensures.change, c.clear.ensures) refl;
      held = c.self.invariant.held;
      small = c.self.invariant.small;
      store = rw c.clear-back.ensures.change c.self.invariant.store;
      once = rw c.clear-back.ensures.change c.self.invariant.once;
      results = rw c.drop_results.ensures.capacity c.self.invariant.results;
      within =
          rw (c.clear-back.ensures.change, c.clear.ensures, c.drop_results.ensures.results)
          (IsWithin-leaving c.closing-self-inside.result (kept_by c.self.inside) c.self.invariant.within);
    }
