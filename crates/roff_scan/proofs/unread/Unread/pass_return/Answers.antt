use Rattle.std.proofs.Common.{◌≡◌, ◌∙◌, ◌+◌, ◌≤◌, ◌<◌, ◌∷◌, sym, subst, ap, arith}
use Rattle.input_ahead.specs.InputAhead.Kept.{AheadAndTexts}
use Rattle.input_model.specs.Input.{ReturnAhead, item_taken}
use Rattle.input_model.specs.Unread.{IsWithin, texts_within}
use Rattle.roff_scan.specs.Unread.Calls.{PassesReturn}
use Rattle.roff_scan.specs.Unread.Kept.{kept_by}
use Rattle.roff_scan.proofs.CallsOver.{IsWithin-over, returns-over}
use Rattle.roff_scan.proofs.TextEnds.{takes_return}
use Rattle.roff_scan.proofs.unread.Unread.pass_return.Goals as goal
use Rattle.roff_store.specs.Named.{EachOnce}

pub invariant_of-self-2 : goal.invariant_of-self-2
invariant_of-self-2 g c =
    let kept = kept_by c.self.inside in
    let new = c.pass_return.new.self in
    let taken : c.self.inside.input_ahead ≡ record new { ahead = ReturnAhead 0 ∷ new.ahead } = c.pass_return.ensures.taken c.if-not-pass_return.false in
    let first : c.self.inside.input_ahead.ahead ≡ ReturnAhead 0 ∷ new.ahead = ap (λ (f : AheadAndTexts _). f.ahead) taken in
    let room : kept.input.charge + 1 ≤ kept.limits.bytes = omega (arith, c.self.invariant.within.charge) in
    record {
      bytes = ap (λ (f : AheadAndTexts _). f.most_bytes) (sym taken) ∙ c.self.invariant.bytes;
      texts = ap (λ (f : AheadAndTexts _). f.most_texts) (sym taken) ∙ c.self.invariant.texts;
      store =
          subst (λ (f : AheadAndTexts _). f.texts
          ≡ texts_within kept.limits (record kept.input { names = f.texts.names.entries; open_texts = f.texts.open_texts })) taken c.self.invariant.store;
      once = subst (λ (f : AheadAndTexts _). EachOnce f.texts.names.entries) taken c.self.invariant.once;
      arguments = c.self.invariant.arguments;
      begun = c.self.invariant.begun;
      call_bytes = rw c.end_call.ensures.calls c.self.invariant.call_bytes;
      most_calls = rw c.end_call.ensures.calls c.self.invariant.most_calls;
      calls =
          rw c.end_call.ensures.calls
          (returns-over 0 c.self.inside.input_ahead.ahead new.ahead c.self.inside.calls.calls first c.self.invariant.calls);
      held = c.self.invariant.held;
      small = c.self.invariant.small;
      results = rw c.end_call.ensures.capacity c.self.invariant.results;
      within =
          rw (c.end_call.ensures.calls, c.end_call.ensures.results)
          (subst (λ (f : AheadAndTexts _). IsWithin (record kept {
            input = record (item_taken (ReturnAhead 0) new.ahead kept.input) {
              names = f.texts.names.entries;
              open_texts = f.texts.open_texts;
            };
          })) taken
          (IsWithin-over 0 kept new.ahead first c.self.invariant.within room));
    }

pub returns-clause-passes : goal.returns-clause-passes
returns-clause-passes g c = λ did.
    let kept = kept_by c.self.inside in
    let new = c.pass_return.new.self in
    let taken : c.self.inside.input_ahead ≡ record new { ahead = ReturnAhead 0 ∷ new.ahead } = c.pass_return.ensures.taken c.if-not-pass_return.false in
    let front : kept.input.ahead ≡ ReturnAhead 0 ∷ new.ahead = ap (λ (f : AheadAndTexts _). f.ahead) taken in
    let room : kept.input.charge < kept.limits.bytes = omega (arith, c.self.invariant.within.charge) in
    rw (c.end_call.ensures.calls, c.end_call.ensures.results)
    (subst (λ (f : AheadAndTexts _). PassesReturn c.args.self.now (record kept {
      input = record (item_taken (ReturnAhead 0) new.ahead kept.input) {
        names = f.texts.names.entries;
        open_texts = f.texts.open_texts;
      };
    })) taken
    (takes_return new.ahead kept c.args.self.now c.self.view_is front room))
