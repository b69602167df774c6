use Rattle.std.proofs.Common.{◌≤◌, ◌<◌, ◌-◌, ◌∷◌, length, sym, ◌∙◌}
use Rattle.input_model.specs.Input.{EndAhead, depth}
use Rattle.input_model.specs.Input.Names.{body_named}
use Rattle.roff_scan.specs.Unread.Kept.{kept_by}
use Rattle.roff_scan.proofs.Changing.{push_past_stack, push_past_depth, push_within, IsWithin-pushing}
use Rattle.input_model.proofs.Counts.{returns_ahead-bytes}
use Rattle.roff_scan.proofs.unread.Unread.push_body.Goals as goal

pub returns-then-body_len-room : goal.returns-then-body_len-room
returns-then-body_len-room g c =
    let kept = kept_by c.self.inside in
    let body = body_named c.args.name.now kept.input in
    let counted = rw (← c.self.view_is) at c.pushed.ensures in
    let long : kept.limits.stack - c.pushed.result < length body = rw (← c.body_len.ensures) c.if-body_len-room.true in
    record {
      change =
          rw (← c.self.view_is) (sym (push_past_stack kept body c.self.invariant.within c.pushed.result counted long));
    }

pub returns-then-is_deep : goal.returns-then-is_deep
returns-then-is_deep g c =
    let kept = kept_by c.self.inside in
    let body = body_named c.args.name.now kept.input in
    let counted = rw (← c.self.view_is) at c.pushed.ensures in
    let short : length body ≤ kept.limits.stack - c.pushed.result = rw (← c.body_len.ensures) c.if-body_len-room.false in
    let deep : kept.limits.depth ≤ depth kept.input = rw (← c.self.view_is) at (c.is_deep.ensures.deep c.if-is_deep.true) in
    record {
      change =
          rw (← c.self.view_is) (sym (push_past_depth kept body c.self.invariant.within c.pushed.result counted short deep));
    }

pub returns-then-not-push_body : goal.returns-then-not-push_body
returns-then-not-push_body g c =
    let kept = kept_by c.self.inside in
    let body = body_named c.args.name.now kept.input in
    let counted = rw (← c.self.view_is) at c.pushed.ensures in
    let long : kept.limits.stack - c.pushed.result < length body = c.push_body.ensures.long c.if-not-push_body.true in
    record {
      change =
          rw (← c.self.view_is, c.push_body.ensures.unchanged c.if-not-push_body.true)
          (sym (push_past_stack kept body c.self.invariant.within c.pushed.result counted long));
    }

pub invariant_of-self-2 : goal.invariant_of-self-2
invariant_of-self-2 g c =
    let kept = kept_by c.self.inside in
    let body = body_named c.args.name.now kept.input in
    let counted = rw (← c.self.view_is) at c.pushed.ensures in
    let put = c.push_body.ensures.put c.if-not-push_body.false in
    let short : length body ≤ kept.limits.stack - c.pushed.result = c.push_body.ensures.short c.if-not-push_body.false in
    let shallow : depth kept.input < kept.limits.depth = rw (← c.self.view_is) at (c.is_deep.ensures.shallow c.if-is_deep.false) in
    record {
      bytes = rw put c.self.invariant.bytes;
      texts = rw put c.self.invariant.texts;
      arguments = c.self.invariant.arguments;
      begun = c.self.invariant.begun;
      call_bytes = c.self.invariant.call_bytes;
      most_calls = c.self.invariant.most_calls;
      calls = rw put (returns_ahead-bytes body (EndAhead ∷ c.self.inside.input_ahead.ahead) ∙ c.self.invariant.calls);
      held = c.self.invariant.held;
      small = c.self.invariant.small;
      store = rw put c.self.invariant.store;
      once = rw put c.self.invariant.once;
      results = c.self.invariant.results;
      within = rw put (IsWithin-pushing kept body c.self.invariant.within c.pushed.result counted short shallow);
    }

pub returns : goal.returns
returns g c =
    let kept = kept_by c.self.inside in
    let body = body_named c.args.name.now kept.input in
    let counted = rw (← c.self.view_is) at c.pushed.ensures in
    let put = c.push_body.ensures.put c.if-not-push_body.false in
    let short : length body ≤ kept.limits.stack - c.pushed.result = c.push_body.ensures.short c.if-not-push_body.false in
    let shallow : depth kept.input < kept.limits.depth = rw (← c.self.view_is) at (c.is_deep.ensures.shallow c.if-is_deep.false) in
    record {
      change =
          rw (← c.self.view_is, put) (sym (push_within kept body c.self.invariant.within c.pushed.result counted short shallow));
    }
