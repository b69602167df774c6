use Rattle.std.proofs.Common.{◌≤◌, ◌<◌, ◌-◌, length, sym, arith}
use Rattle.input_model.specs.Input.{depth}
use Rattle.input_model.specs.Input.Calls.{called_text}
use Rattle.input_model.specs.Input.Names.{body_named}
use Rattle.roff_scan.specs.Unread.Kept.{kept_by}
use Rattle.input_model.proofs.Counts.{returns-few}
use Rattle.roff_scan.proofs.LineCalls.{IsWithin-springing, returns-springing, spring_past_depth, spring_past_stack, spring_within}
use Rattle.roff_scan.proofs.unread.Unread.spring.Goals as goal

pub returns-then-called-room : goal.returns-then-called-room
returns-then-called-room g c =
    let kept = kept_by c.self.inside in
    let body = body_named c.args.name.now kept.input in
    let counted = rw (← c.self.view_is) at c.pushed.ensures in
    let long : kept.limits.stack - c.pushed.result < length (called_text body) =
    rw (← c.called.ensures.len) c.if-called-room.true in
    record {
      change =
          rw (← c.self.view_is) (sym (spring_past_stack kept body c.args.back c.self.invariant.within c.pushed.result counted long));
    }

pub returns-then-is_deep : goal.returns-then-is_deep
returns-then-is_deep g c =
    let kept = kept_by c.self.inside in
    let body = body_named c.args.name.now kept.input in
    let counted = rw (← c.self.view_is) at c.pushed.ensures in
    let short : length (called_text body) ≤ kept.limits.stack - c.pushed.result =
    rw (← c.called.ensures.len) c.if-called-room.false in
    let deep : kept.limits.depth ≤ depth kept.input =
    rw (← c.self.view_is) at (c.is_deep.ensures.deep c.if-is_deep.true) in
    record {
      change =
          rw (← c.self.view_is) (sym (spring_past_depth kept body c.args.back c.self.invariant.within c.pushed.result counted short deep));
    }

pub returns-then-not-call : goal.returns-then-not-call
returns-then-not-call g c =
    let kept = kept_by c.self.inside in
    let body = body_named c.args.name.now kept.input in
    let counted = rw (← c.self.view_is) at c.pushed.ensures in
    let long : kept.limits.stack - c.pushed.result < length (called_text body) = c.call.ensures.long c.if-not-call.true in
    record {
      change =
          rw (← c.self.view_is, c.call.ensures.unchanged c.if-not-call.true)
          (sym (spring_past_stack kept body c.args.back c.self.invariant.within c.pushed.result counted long));
    }

pub push-requires-clause-calls : goal.push-requires-clause-calls
push-requires-clause-calls g c =
    let kept = kept_by c.self.inside in
    let shallow : depth kept.input < kept.limits.depth =
    rw (← c.self.view_is) at (c.is_deep.ensures.shallow c.if-is_deep.false) in
    omega (arith, shallow, returns-few c.self.inside.input_ahead.ahead, c.self.invariant.calls, c.self.invariant.most_calls)

pub invariant_of-self-2 : goal.invariant_of-self-2
invariant_of-self-2 g c =
    let kept = kept_by c.self.inside in
    let body = body_named c.args.name.now kept.input in
    let counted = rw (← c.self.view_is) at c.pushed.ensures in
    let put = c.call.ensures.put c.if-not-call.false in
    let short : length (called_text body) ≤ kept.limits.stack - c.pushed.result = c.call.ensures.short c.if-not-call.false in
    let shallow : depth kept.input < kept.limits.depth =
    rw (← c.self.view_is) at (c.is_deep.ensures.shallow c.if-is_deep.false) in
    record {
      bytes = rw put c.self.invariant.bytes;
      texts = rw put c.self.invariant.texts;
      arguments = c.self.invariant.arguments;
      begun = c.self.invariant.begun;
      call_bytes = rw c.push.ensures c.self.invariant.call_bytes;
      most_calls = rw c.push.ensures c.self.invariant.most_calls;
      calls = rw (put, c.push.ensures) (returns-springing body c.args.back kept.input c.self.invariant.calls);
      held = c.self.invariant.held;
      small = c.self.invariant.small;
      store = rw put c.self.invariant.store;
      once = rw put c.self.invariant.once;
      results = c.self.invariant.results;
      within = rw (put, c.push.ensures, c.new.ensures)
          (IsWithin-springing kept body c.args.back c.self.invariant.within c.pushed.result counted short shallow);
    }

pub returns : goal.returns
returns g c =
    let kept = kept_by c.self.inside in
    let body = body_named c.args.name.now kept.input in
    let counted = rw (← c.self.view_is) at c.pushed.ensures in
    let put = c.call.ensures.put c.if-not-call.false in
    let short : length (called_text body) ≤ kept.limits.stack - c.pushed.result = c.call.ensures.short c.if-not-call.false in
    let shallow : depth kept.input < kept.limits.depth =
    rw (← c.self.view_is) at (c.is_deep.ensures.shallow c.if-is_deep.false) in
    record {
      change =
          rw (← c.self.view_is, put, c.push.ensures, c.new.ensures)
          (sym (spring_within kept body c.args.back c.self.invariant.within c.pushed.result counted short shallow));
    }
