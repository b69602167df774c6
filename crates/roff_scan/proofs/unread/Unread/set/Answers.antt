use Rattle.std.proofs.Common.{◌+◌, refl, sym}
use Rattle.input_model.specs.Unread.{texts_within}
use Rattle.roff_scan.specs.Unread.Kept.{kept_by}
use Rattle.roff_scan.proofs.Calling.{IsWithin-called, changing_called, counted_within, making_unless, same_store}
use Rattle.roff_scan.proofs.unread.Unread.set.Goals as goal
use Rattle.roff_store.specs.TextCalls.{Set, answered, made}
use Rattle.roff_store.specs.Texts.{entry_given}
use Rattle.roff_store.proofs.CountedTexts.{IsCounted-after}
use Rattle.roff_store.proofs.TextRefusals.{answered-set}

pub invariant_of-self : goal.invariant_of-self
invariant_of-self g c =
    let kept = kept_by c.self.inside in
    let t = texts_within kept.limits kept.input in
    let call = Set c.args.name.now (entry_given c.args.entry) in
    let once = rw c.self.invariant.store at c.self.invariant.once in
    let making = making_unless kept.limits (answered call t) t (made call t) (kept.limits.diversions + 1) c.self.invariant.within.making c.self.invariant.within.making in
    record {
      bytes = rw c.set.ensures.texts c.self.invariant.bytes;
      texts = rw c.set.ensures.texts c.self.invariant.texts;
      arguments = c.self.invariant.arguments;
      begun = c.self.invariant.begun;
      call_bytes = c.self.invariant.call_bytes;
      most_calls = c.self.invariant.most_calls;
      calls = rw c.set.ensures.texts c.self.invariant.calls;
      held = c.self.invariant.held;
      small = c.self.invariant.small;
      store = rw (c.set.ensures.texts, c.self.invariant.store) (same_store kept.limits kept.input (answered call t) (made call t) refl);
      once = rw (c.set.ensures.texts, c.self.invariant.store) (IsCounted-after call t (counted_within kept c.self.invariant.within once)).once;
      results = c.self.invariant.results;
      within = rw (c.set.ensures.texts, c.self.invariant.store) (IsWithin-called kept call c.self.invariant.within once making);
    }

pub returns : goal.returns
returns g c =
    let kept = kept_by c.self.inside in
    let t = texts_within kept.limits kept.input in
    let call = Set c.args.name.now (entry_given c.args.entry) in
    let once = rw c.self.invariant.store at c.self.invariant.once in
    record {
      change =
          rw (← c.self.view_is, c.set.ensures.texts, c.set.ensures.answer, c.self.invariant.store)
          (sym (changing_called kept call c.self.invariant.within refl (answered-set c.args.name.now (entry_given c.args.entry) t (counted_within kept c.self.invariant.within once)) c.self.invariant.within.making));
    }
