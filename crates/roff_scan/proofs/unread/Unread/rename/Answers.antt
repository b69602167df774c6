use Rattle.std.proofs.Common.{refl}
use Rattle.input_model.specs.Unread.{texts_within}
use Rattle.roff_scan.specs.Unread.Kept.{kept_by}
use Rattle.roff_scan.proofs.Calling.{IsWithin-called, counted_within}
use Rattle.roff_scan.proofs.unread.Unread.rename.Goals as goal
use Rattle.roff_store.specs.TextCalls.{Rename}
use Rattle.roff_store.proofs.CountedTexts.{IsCounted-after}

pub invariant_of-self : goal.invariant_of-self
invariant_of-self g c =
    let kept = kept_by c.self.inside in
    let call = Rename c.args.from.now c.args.to.now in
    let once = rw c.self.invariant.store at c.self.invariant.once in
    record {
      bytes = rw c.rename.ensures c.self.invariant.bytes;
      texts = rw c.rename.ensures c.self.invariant.texts;
      arguments = c.self.invariant.arguments;
      begun = c.self.invariant.begun;
      call_bytes = c.self.invariant.call_bytes;
      most_calls = c.self.invariant.most_calls;
      calls = rw c.rename.ensures c.self.invariant.calls;
      held = c.self.invariant.held;
      small = c.self.invariant.small;
      store = rw (c.rename.ensures, c.self.invariant.store) refl;
      once = rw (c.rename.ensures, c.self.invariant.store) (IsCounted-after call (texts_within kept.limits kept.input) (counted_within kept c.self.invariant.within once)).once;
      results = c.self.invariant.results;
      within = rw (c.rename.ensures, c.self.invariant.store) (IsWithin-called kept call c.self.invariant.within once c.self.invariant.within.making);
    }
