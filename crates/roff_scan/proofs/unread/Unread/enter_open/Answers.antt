use Rattle.std.proofs.Common.{◌≡◌, ◌+◌, ℕ, Some, refl, sym, ◌∙◌, ap, Option}
use Rattle.input_model.specs.Input.Names.{calling_on, open_numbered}
use Rattle.input_model.specs.Unread.{changing, texts_within}
use Rattle.roff_scan.specs.Unread.Kept.{kept_by}
use Rattle.roff_scan.proofs.Calling.{IsWithin-called, changing_called, counted_within, making_unless, removed_few, same_store}
use Rattle.roff_scan.proofs.unread.Unread.enter_open.Goals as goal
use Rattle.roff_store.specs.TextCalls.{Enter, answered, made}
use Rattle.roff_store.proofs.CountedTexts.{IsCounted-after}
use Rattle.roff_store.proofs.TextRefusals.{answered-enter}

pub invariant_of-self : goal.invariant_of-self
invariant_of-self g c =
    let kept = kept_by c.self.inside in
    let t = texts_within kept.limits kept.input in
    let call = Enter c.in-Some.numbered.0 c.args.name.now c.args.append in
    let once = rw c.self.invariant.store at c.self.invariant.once in
    let few = removed_few kept.input.open_texts c.in-Some.numbered.0 (kept.limits.diversions + 1) c.self.invariant.within.making in
    let making = making_unless kept.limits (answered call t) t (made call t) (kept.limits.diversions + 1) c.self.invariant.within.making few in
    record {
      bytes = rw c.enter.ensures.texts c.self.invariant.bytes;
      texts = rw c.enter.ensures.texts c.self.invariant.texts;
      arguments = c.self.invariant.arguments;
      begun = c.self.invariant.begun;
      call_bytes = c.self.invariant.call_bytes;
      most_calls = c.self.invariant.most_calls;
      calls = rw c.enter.ensures.texts c.self.invariant.calls;
      held = c.self.invariant.held;
      small = c.self.invariant.small;
      store = rw (c.enter.ensures.texts, c.self.invariant.store) (same_store kept.limits kept.input (answered call t) (made call t) refl);
      once = rw (c.enter.ensures.texts, c.self.invariant.store) (IsCounted-after call t (counted_within kept c.self.invariant.within once)).once;
      results = c.self.invariant.results;
      within = rw (c.enter.ensures.texts, c.self.invariant.store) (IsWithin-called kept call c.self.invariant.within once making);
    }

pub returns-in-Some : goal.returns-in-Some
returns-in-Some g c =
    let kept = kept_by c.self.inside in
    let t = texts_within kept.limits kept.input in
    let call = Enter c.in-Some.numbered.0 c.args.name.now c.args.append in
    let once = rw c.self.invariant.store at c.self.invariant.once in
    let few = removed_few kept.input.open_texts c.in-Some.numbered.0 (kept.limits.diversions + 1) c.self.invariant.within.making in
    let found : open_numbered c.args.index kept.input ≡ Some c.in-Some.numbered.0 = rw (c.in-Some.is) at (sym c.open_numbered.ensures.number) in
    record {
      change =
          rw (← c.self.view_is, c.enter.ensures.texts, c.enter.ensures.answer, c.self.invariant.store)
          (sym (ap (λ (id : Option ℕ). changing (calling_on (λ id. Enter id c.args.name.now c.args.append) id kept.input) kept) found
          ∙ changing_called kept call c.self.invariant.within refl (answered-enter c.in-Some.numbered.0 c.args.name.now c.args.append t (counted_within kept c.self.invariant.within once)) few));
    }
