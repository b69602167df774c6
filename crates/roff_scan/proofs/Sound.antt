-- Changes that leave the unread input sound: there is room by the limits, and no count is above its limit.
use Rattle.std.proofs.Common.{◌≡◌, ◌≤◌, ◌+◌, ℕ, true, List, length, take, ap, subst, sym, refl, ◌∙◌, arith, length-take-le}
use Rattle.input_model.specs.Arguments.{Arguments}
use Rattle.input_arguments.specs.ArgumentTexts.Kept.{KeptArguments}
use Rattle.input_escapes.specs.EscapeTexts.{KeptEscapes, leaving}
use Rattle.input_escapes.specs.OpenEscape.{Reads, texts_held}
use Rattle.input_escapes.specs.declared.open_escape.Found.{Found}
use Rattle.input_model.specs.Input.{pushed}
use Rattle.input_model.specs.Unread.{IsWithin, Unread}
use Rattle.roff_scan.specs.RunKinds.{is_held}
use Rattle.roff_scan.specs.Unread.Kept.{IsSound, NoneBegun, kept_by}
use Rattle.roff_scan.specs.Unread.Runs.{TakesPart}
use Rattle.roff_scan.specs.declared.run_kind.RunKind.{RunKind}
use Rattle.roff_scan.specs.declared.unread.Unread.TheInside.{Inside}
use Rattle.roff_scan.proofs.Changing.{IsWithin-with_escapes}
use Rattle.roff_scan.proofs.RunKinds.{count_held, run-begun, run-held}
use Rattle.roff_scan.proofs.Runs.{IsWithin-staged, run-fits}

-- no more is held of texts than before, and there is room for as much
pub record HoldsFewer (old new : KeptEscapes) : Type 0 where
  pub room : new ≡ record old { escapes = new.escapes }
  pub fewer : texts_held new.escapes ≤ texts_held old.escapes

pub fewer-same : (old new : KeptEscapes) → new ≡ old → HoldsFewer old new
fewer-same old new is = subst (λ (k : KeptEscapes). HoldsFewer old k) (sym is) (record { room = refl; fewer = omega arith })

pub fewer-left : (r : Reads) (found : Found) (old new : KeptEscapes) → (found, new) ≡ leaving r old → texts_held r.1 ≤ texts_held old.escapes → HoldsFewer old new
fewer-left r found old new left few =
    let is : new ≡ record old { escapes = r.1 } = ap (λ p. p.1) left in
    subst (λ (k : KeptEscapes). HoldsFewer old k) (sym is) (record { room = refl; fewer = few })

module _ {E : Type 0} (a : Inside E) (sound : IsSound a) where
  -- what is half read may change so
  pub sound-escapes : (e : KeptEscapes) → HoldsFewer a.escapes e → IsSound (record a { escapes = e })
  sound-escapes e left = record {
    bytes = sound.bytes;
    texts = sound.texts;
    store = sound.store;
    once = sound.once;
    arguments = sound.arguments;
    begun = sound.begun;
    call_bytes = sound.call_bytes;
    most_calls = sound.most_calls;
    calls = sound.calls;
    held = rw left.room sound.held;
    small = sound.small;
    results = sound.results;
    within = rw left.room (IsWithin-with_escapes (kept_by a) e.escapes sound.within left.fewer);
  }

  -- the arguments may, for which there is room
  pub sound-arguments : (k : KeptArguments) (arguments : Arguments) → k ≡ record a.arguments { arguments = arguments } → NoneBegun arguments
      → IsWithin (record (kept_by a) { input = record (kept_by a).input { arguments = arguments } }) → IsSound (record a { arguments = k })
  sound-arguments k arguments is none within = record {
    bytes = sound.bytes;
    texts = sound.texts;
    store = sound.store;
    once = sound.once;
    arguments = rw is sound.arguments;
    begun = rw is none;
    call_bytes = sound.call_bytes;
    most_calls = sound.most_calls;
    calls = sound.calls;
    held = sound.held;
    small = sound.small;
    results = sound.results;
    within = rw is within;
  }

  -- and both by bytes of a run, for which there is room
  pub sound-part : (kind : RunKind) (front : List ℕ) (count most : ℕ) (k : KeptArguments) (e : KeptEscapes) → TakesPart kind front count a.arguments k a.escapes e
      → length front ≤ most → (is_held kind ≡ true → pushed (kept_by a).input + most ≤ a.limits.stack) → IsSound (record a { arguments = k; escapes = e })
  sound-part kind front count most k e part among room =
      let kept : Unread E = kept_by a in
      let bytes : List ℕ = take count front in
      let few : length bytes ≤ most = omega (arith, length-take-le count front part.few, part.few, among) in
      record {
        bytes = sound.bytes;
        texts = sound.texts;
        store = sound.store;
        once = sound.once;
        arguments = rw part.held sound.arguments;
        begun = rw part.held (run-begun kind bytes kept.input.arguments sound.begun);
        call_bytes = sound.call_bytes;
        most_calls = sound.most_calls;
        calls = sound.calls;
        held = part.room ∙ sound.held;
        small = sound.small;
        results = sound.results;
        within =
            rw part.held
            (IsWithin-staged kept e.escapes _ (count_held kind bytes) sound.within (run-held kind bytes kept.input.arguments kept.input.escapes e.escapes part.half_read)
            (run-fits kind kept bytes most few sound.within room));
      }
