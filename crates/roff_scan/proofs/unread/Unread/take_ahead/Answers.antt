use Rattle.std.proofs.Common.{◌≡◌, ◌∷◌, sym, subst, ap, ◌∙◌, arith}
use Rattle.input_ahead.specs.InputAhead.Kept.{AheadAndTexts}
use Rattle.input_model.specs.Input.{Ahead, ReturnAhead, front_cost, item_taken}
use Rattle.input_model.specs.Unread.{IsWithin, texts_within}
use Rattle.roff_scan.specs.Unread.Kept.{kept_by}
use Rattle.roff_scan.proofs.CallsOver.{IsWithin-over, returns-over, shows_return}
use Rattle.roff_scan.proofs.unread.Unread.take_ahead.Goals as goal
use Rattle.roff_store.specs.Named.{EachOnce}

pub invariant_of-self : goal.invariant_of-self
invariant_of-self g c =
    let kept = kept_by c.self.inside in
    let new = c.take.new.self in
    let back = c.in-Return.back in
    let over = shows_return back c.in-Return.ensures.front c.in-Return.ensures.shows in
    let taken : c.self.inside.input_ahead ≡ record new { ahead = ReturnAhead back ∷ new.ahead } =
    c.in-Return.ensures.taken ∙ ap (λ (item : Ahead _). record new { ahead = item ∷ new.ahead }) over in
    let first : c.self.inside.input_ahead.ahead ≡ ReturnAhead back ∷ new.ahead = ap (λ (f : AheadAndTexts _). f.ahead) taken in
    let one : c.cost-cost.result ≡ 1 = c.cost-cost.ensures ∙ ap front_cost first in
    record {
      bytes = ap (λ (f : AheadAndTexts _). f.most_bytes) (sym taken) ∙ c.self.invariant.bytes;
      texts = ap (λ (f : AheadAndTexts _). f.most_texts) (sym taken) ∙ c.self.invariant.texts;
      store =
          subst (λ (f : AheadAndTexts _). f.texts
          ≡ texts_within kept.limits (record kept.input { names = f.texts.names.entries; open_texts = f.texts.open_texts })) taken c.self.invariant.store;
      once = subst (λ (f : AheadAndTexts _). EachOnce f.texts.names.entries) taken c.self.invariant.once;
      arguments = c.self.invariant.arguments;
      begun = c.self.invariant.begun;
      call_bytes = rw c.end_call.ensures.calls c.self.invariant.call_bytes;
      most_calls = rw c.end_call.ensures.calls c.self.invariant.most_calls;
      calls =
          rw c.end_call.ensures.calls
          (returns-over back c.self.inside.input_ahead.ahead new.ahead c.self.inside.calls.calls first c.self.invariant.calls);
      held = c.self.invariant.held;
      small = c.self.invariant.small;
      results = rw c.end_call.ensures.capacity c.self.invariant.results;
      within =
          rw (c.end_call.ensures.calls, c.end_call.ensures.results, one)
          (subst (λ (f : AheadAndTexts _). IsWithin (record kept {
            input = record (item_taken (ReturnAhead back) new.ahead kept.input) {
              names = f.texts.names.entries;
              open_texts = f.texts.open_texts;
            };
          })) taken
          (IsWithin-over back kept new.ahead first c.self.invariant.within
          (omega (arith, one, c.if-cost-self.false, c.self.invariant.within.charge))));
    }
