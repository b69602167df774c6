use Rattle.std.proofs.Common.{◌≤◌, ◌<◌, ◌∷◌, sym, ◌∙◌}
use Rattle.input_model.specs.Input.{EndAhead, depth}
use Rattle.roff_scan.specs.Unread.Kept.{kept_by}
use Rattle.roff_scan.proofs.Changing.{push_past_stack, push_past_depth, push_within, IsWithin-pushing}
use Rattle.input_model.proofs.Counts.{returns_ahead-bytes}
use Rattle.roff_scan.proofs.unread.Unread.push.Goals as goal

pub returns-then-text-self : goal.returns-then-text-self
returns-then-text-self g c =
    let kept = kept_by c.self.inside in
    let counted = rw (← c.self.view_is) at c.pushed.ensures in
    record {
      change =
          rw (← c.self.view_is) (sym (push_past_stack kept c.args.text.now c.self.invariant.within c.pushed.result counted c.if-text-self.true));
    }

pub returns-then-is_deep : goal.returns-then-is_deep
returns-then-is_deep g c =
    let kept = kept_by c.self.inside in
    let counted = rw (← c.self.view_is) at c.pushed.ensures in
    let deep : kept.limits.depth ≤ depth kept.input = rw (← c.self.view_is) at (c.is_deep.ensures.deep c.if-is_deep.true) in
    record {
      change =
          rw (← c.self.view_is) (sym (push_past_depth kept c.args.text.now c.self.invariant.within c.pushed.result counted c.if-text-self.false deep));
    }

pub invariant_of-self : goal.invariant_of-self
invariant_of-self g c =
    let kept = kept_by c.self.inside in
    let counted = rw (← c.self.view_is) at c.pushed.ensures in
    let shallow : depth kept.input < kept.limits.depth = rw (← c.self.view_is) at (c.is_deep.ensures.shallow c.if-is_deep.false) in
    record {
      bytes = rw c.push.ensures c.self.invariant.bytes;
      texts = rw c.push.ensures c.self.invariant.texts;
      arguments = c.self.invariant.arguments;
      begun = c.self.invariant.begun;
      call_bytes = c.self.invariant.call_bytes;
      most_calls = c.self.invariant.most_calls;
      calls = rw c.push.ensures (returns_ahead-bytes c.args.text.now (EndAhead ∷ c.self.inside.input_ahead.ahead) ∙ c.self.invariant.calls);
      held = c.self.invariant.held;
      small = c.self.invariant.small;
      store = rw c.push.ensures c.self.invariant.store;
      once = rw c.push.ensures c.self.invariant.once;
      results = c.self.invariant.results;
      within = rw c.push.ensures (IsWithin-pushing kept c.args.text.now c.self.invariant.within c.pushed.result counted c.if-text-self.false shallow);
    }

pub returns : goal.returns
returns g c =
    let kept = kept_by c.self.inside in
    let counted = rw (← c.self.view_is) at c.pushed.ensures in
    let shallow : depth kept.input < kept.limits.depth = rw (← c.self.view_is) at (c.is_deep.ensures.shallow c.if-is_deep.false) in
    record {
      change =
          rw (← c.self.view_is, c.push.ensures) (sym (push_within kept c.args.text.now c.self.invariant.within c.pushed.result counted c.if-text-self.false shallow));
    }
