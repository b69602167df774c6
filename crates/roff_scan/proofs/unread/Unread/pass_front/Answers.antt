use Rattle.std.proofs.Common.{◌≡◌, false, sym, ◌∙◌}
use Rattle.input_model.specs.Input.{is_none_ahead}
use Rattle.roff_scan.specs.Unread.Calls.{IsFront, OfSource}
use Rattle.roff_scan.specs.Unread.Kept.{kept_by}
use Rattle.roff_scan.proofs.Fronts.{IsWithin-texts, among-ahead, passes_none, passes_texts, returns-behind}
use Rattle.roff_scan.proofs.unread.Unread.pass_front.Goals as goal

pub returns-then-count-eq0-clause-passes : goal.returns-then-count-eq0-clause-passes
returns-then-count-eq0-clause-passes g c =
    rw (← c.self.view_is)
    (passes_none (g.S.ByteSource.ready c.args.source.now) (kept_by c.self.inside) (g.S.ByteSource.gives c.args.source.now) c.args.count
    c.if-count-eq0.true c.self.invariant.within.charge)

pub pass-requires : goal.pass-requires
pass-requires g c =
    let kept = kept_by c.self.inside in
    let ready = g.S.ByteSource.ready c.args.source.now in
    let front : IsFront c.args.count ready kept = rw (← c.self.view_is) at c.requires.front in
    among-ahead ready kept c.args.count front (sym c.is_empty.ensures ∙ c.if-not-is_empty.true)

pub invariant_of-self : goal.invariant_of-self
invariant_of-self g c =
    let kept = kept_by c.self.inside in
    let ready = g.S.ByteSource.ready c.args.source.now in
    let front : IsFront c.args.count ready kept = rw (← c.self.view_is) at c.requires.front in
    let some : is_none_ahead kept.input.ahead ≡ false = sym c.is_empty.ensures ∙ c.if-not-is_empty.true in
    record {
      bytes = rw c.pass.ensures c.self.invariant.bytes;
      texts = rw c.pass.ensures c.self.invariant.texts;
      arguments = c.self.invariant.arguments;
      begun = c.self.invariant.begun;
      call_bytes = c.self.invariant.call_bytes;
      most_calls = c.self.invariant.most_calls;
      calls = rw c.pass.ensures (returns-behind ready kept c.args.count front some ∙ c.self.invariant.calls);
      held = c.self.invariant.held;
      small = c.self.invariant.small;
      store = rw c.pass.ensures c.self.invariant.store;
      once = rw c.pass.ensures c.self.invariant.once;
      results = c.self.invariant.results;
      within = rw c.pass.ensures (IsWithin-texts ready kept c.args.count front some c.self.invariant.within);
    }

pub returns-then-not-is_empty-clause-passes : goal.returns-then-not-is_empty-clause-passes
returns-then-not-is_empty-clause-passes g c =
    let kept = kept_by c.self.inside in
    let ready = g.S.ByteSource.ready c.args.source.now in
    let front : IsFront c.args.count ready kept = rw (← c.self.view_is) at c.requires.front in
    let some : is_none_ahead kept.input.ahead ≡ false = sym c.is_empty.ensures ∙ c.if-not-is_empty.true in
    rw (← c.self.view_is, c.pass.ensures) (passes_texts ready kept c.args.count front some (g.S.ByteSource.gives c.args.source.now))

pub returns-else-newlines-clause-passes : goal.returns-else-newlines-clause-passes
returns-else-newlines-clause-passes g c = OfSource c.pass_source.ensures.passes

pub returns-then-newlines-clause-passes : goal.returns-then-newlines-clause-passes
returns-then-newlines-clause-passes g c = OfSource c.pass_lines.ensures.passes
