use Rattle.std.proofs.Common.{◌+◌, ◌≤◌, sym, ap, ◌∙◌, arith}
use Rattle.input_model.specs.Input.{returns_ahead}
use Rattle.roff_scan.specs.Unread.Kept.{kept_by}
use Rattle.input_model.proofs.Counts.{returns_ahead-bytes}
use Rattle.roff_scan.proofs.PushedFronts.{IsWithin-given}
use Rattle.roff_scan.proofs.unread.Unread.take_pushed.Goals as goal

pub invariant_of-self : goal.invariant_of-self
invariant_of-self g c =
    let kept = kept_by c.self.inside in
    let given = c.give_front-given.ensures.gives in
    let count = c.give_front-given.result in
    let allowed : kept.input.charge + count ≤ kept.limits.bytes = omega (arith, c.give_front-given.ensures.few, c.self.invariant.within.charge) in
    record {
      bytes = rw given.taken c.self.invariant.bytes;
      texts = rw given.taken c.self.invariant.texts;
      store = rw given.taken c.self.invariant.store;
      once = rw given.taken c.self.invariant.once;
      arguments = c.self.invariant.arguments;
      begun = c.self.invariant.begun;
      call_bytes = c.self.invariant.call_bytes;
      most_calls = c.self.invariant.most_calls;
      calls = rw given.taken (sym (ap returns_ahead given.in_front ∙ returns_ahead-bytes given.bytes given.behind) ∙ c.self.invariant.calls);
      held = given.room ∙ c.self.invariant.held;
      small = c.self.invariant.small;
      results = c.self.invariant.results;
      within =
          rw given.taken
          (IsWithin-given kept c.give_front-given.new.escapes.escapes given.bytes given.behind given.in_front given.takes count given.length_is allowed c.self.invariant.within);
    }
