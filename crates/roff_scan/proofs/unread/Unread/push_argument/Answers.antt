use Rattle.std.proofs.Common.{◌≤◌, ◌<◌, ◌-◌, ◌∷◌, length, sym, ◌∙◌}
use Rattle.input_model.specs.Input.{EndAhead, depth}
use Rattle.input_model.specs.Input.Calls.{argument_live}
use Rattle.roff_scan.specs.Unread.Kept.{kept_by}
use Rattle.roff_scan.proofs.Changing.{push_past_stack, push_past_depth, push_within, IsWithin-pushing}
use Rattle.input_model.proofs.Counts.{returns_ahead-bytes}
use Rattle.roff_scan.proofs.LineCalls.{is_argument_live}
use Rattle.roff_scan.proofs.unread.Unread.push_argument.Goals as goal

pub returns-then-text-self : goal.returns-then-text-self
returns-then-text-self g c =
    let kept = kept_by c.self.inside in
    let text = argument_live c.args.index kept.input in
    let same =
    is_argument_live c.args.index kept.input c.arguments.result c.argument_at-text.result.now c.arguments.ensures
    c.argument_at-text.ensures in
    let counted = rw (← c.self.view_is) at c.pushed-pushed.ensures in
    let long : kept.limits.stack - c.pushed-pushed.result < length text = rw (← same) c.if-text-self.true in
    record {
      change =
          rw (← c.self.view_is)
          (sym (push_past_stack kept text c.self.invariant.within c.pushed-pushed.result counted long));
    }

pub returns-then-is_deep : goal.returns-then-is_deep
returns-then-is_deep g c =
    let kept = kept_by c.self.inside in
    let text = argument_live c.args.index kept.input in
    let same =
    is_argument_live c.args.index kept.input c.arguments.result c.argument_at-text.result.now c.arguments.ensures
    c.argument_at-text.ensures in
    let counted = rw (← c.self.view_is) at c.pushed-pushed.ensures in
    let short : length text ≤ kept.limits.stack - c.pushed-pushed.result = rw (← same) c.if-text-self.false in
    let deep : kept.limits.depth ≤ depth kept.input =
    rw (← c.self.view_is) at (c.is_deep-is_deep.ensures.deep c.if-is_deep.true) in
    record {
      change =
          rw (← c.self.view_is)
          (sym (push_past_depth kept text c.self.invariant.within c.pushed-pushed.result counted short deep));
    }

pub invariant_of-self : goal.invariant_of-self
invariant_of-self g c =
    let kept = kept_by c.self.inside in
    let text = argument_live c.args.index kept.input in
    let same =
    is_argument_live c.args.index kept.input c.arguments.result c.argument_at-text.result.now c.arguments.ensures
    c.argument_at-text.ensures in
    let counted = rw (← c.self.view_is) at c.pushed-pushed.ensures in
    let short : length text ≤ kept.limits.stack - c.pushed-pushed.result = rw (← same) c.if-text-self.false in
    let shallow : depth kept.input < kept.limits.depth =
    rw (← c.self.view_is) at (c.is_deep-is_deep.ensures.shallow c.if-is_deep.false) in
    record {
      bytes = rw c.push.ensures c.self.invariant.bytes;
      texts = rw c.push.ensures c.self.invariant.texts;
      arguments = c.self.invariant.arguments;
      begun = c.self.invariant.begun;
      call_bytes = c.self.invariant.call_bytes;
      most_calls = c.self.invariant.most_calls;
      calls =
          rw (c.push.ensures, same)
          (returns_ahead-bytes text (EndAhead ∷ c.self.inside.input_ahead.ahead) ∙ c.self.invariant.calls);
      held = c.self.invariant.held;
      small = c.self.invariant.small;
      store = rw c.push.ensures c.self.invariant.store;
      once = rw c.push.ensures c.self.invariant.once;
      results = c.self.invariant.results;
      within =
          rw (c.push.ensures, same)
          (IsWithin-pushing kept text c.self.invariant.within c.pushed-pushed.result counted short shallow);
    }

pub returns : goal.returns
returns g c =
    let kept = kept_by c.self.inside in
    let text = argument_live c.args.index kept.input in
    let same =
    is_argument_live c.args.index kept.input c.arguments.result c.argument_at-text.result.now c.arguments.ensures
    c.argument_at-text.ensures in
    let counted = rw (← c.self.view_is) at c.pushed-pushed.ensures in
    let short : length text ≤ kept.limits.stack - c.pushed-pushed.result = rw (← same) c.if-text-self.false in
    let shallow : depth kept.input < kept.limits.depth =
    rw (← c.self.view_is) at (c.is_deep-is_deep.ensures.shallow c.if-is_deep.false) in
    record {
      change =
          rw (← c.self.view_is, c.push.ensures, same)
          (sym (push_within kept text c.self.invariant.within c.pushed-pushed.result counted short shallow));
    }
