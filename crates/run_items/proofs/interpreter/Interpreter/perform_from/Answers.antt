use Rattle.std.proofs.Common.{◌≡◌, ◌≤◌, ◌+◌, ◌++◌, [], ◌∷◌, Ok, Some, None, Option, Result, refl, rules, ap, arith, subst, sym, ◌∙◌, drop, slice_get}
use Rattle.read_lines.specs.Reader.State.{ReaderState}
use Rattle.run_events.specs.Formatter.Performing.{behind_event}
use Rattle.run_events.proofs.EventsLeft.{drop-at, drop-past}
use Rattle.run_events.proofs.LinesLeft.{more_left}
use Rattle.run_events.proofs.Performed.{performed_quietly, performed_sprung}
use Rattle.run_items.proofs.SoFar.{came_so_far, left_on}
use Rattle.run_state.specs.Composer.Standing.{StandFor}
use Rattle.run_events.specs.declared.formatter.Formatter.{Formatter}
use Rattle.run_events.specs.declared.halt.Halt.{Halt}
use Rattle.run_events.specs.declared.sprung.Sprung.{Sprung}
use Rattle.run_events.specs.Formatter.Sprung.{MovesOn}
use Rattle.run_items.proofs.interpreter.Interpreter.perform_from.Goals as goal

pub loop-event-init : goal.loop-event-init
loop-event-init g c = record {
  performed = λ k t before failures err s h rest same came. came;
  reader = search rules;
  from = omega arith;
  same = λ is. refl;
}

-- the event at the index stands in front of those that are left
pub loop-event-preserved : goal.loop-event-preserved
loop-event-preserved g c =
    let so_far = c.loop-event.invariant in
    let n = c.loop-event.index in
    let events = c.args.self.now.reader.meaning.events in
    let there = ap (λ (r : ReaderState). slice_get r.meaning.events n) (sym so_far.reader) in
    let opened : drop n events ≡ c.in-Some.event ∷ drop (n + 1) events = drop-at events n c.in-Some.event (there ∙ sym c.event.ensures.at ∙ c.in-Some.is) in record {
      performed = λ k t before failures err s h rest same came.
          let now = so_far.performed k t before failures err s h rest same came in
          let kept = same ∙ ap (λ (r : ReaderState). r.registers.all) (sym so_far.reader) in
          let is : c.perform_event.result ≡ Ok None = search rules in
          let did = performed_quietly k t before _ s (c.in-Some.event ∷ []) now.history _ (drop (n + 1) events ++ rest) c.perform_event.result _ is
          (c.perform_event.ensures.one k t before failures err s now.history (drop (n + 1) events ++ rest) now.stands kept (rw opened at now.reaches)) in record {
            history = behind_event s.registers c.in-Some.event now.history;
            reaches = did.reaches;
            stands = did.stands;
            few = omega (arith, more_left s.registers c.in-Some.event (drop (n + 1) events) now.history, (rw opened at now.few));
          };
      reader = c.perform_event.ensures.reader ∙ so_far.reader;
      from = omega (arith, so_far.from);
      same = λ is. absurd (omega (arith, is, so_far.from));
    }

pub returns-in-Ok-Some : goal.returns-in-Ok-Some
returns-in-Ok-Some g c =
    let so_far = c.loop-event.invariant in
    let n = c.loop-event.index in
    let events = c.args.self.now.reader.meaning.events in
    let there = ap (λ (r : ReaderState). slice_get r.meaning.events n) (sym so_far.reader) in
    let opened : drop n events ≡ c.in-Some.event ∷ drop (n + 1) events = drop-at events n c.in-Some.event (there ∙ sym c.event.ensures.at ∙ c.in-Some.is) in
    let short : n ≤ 35 = search rules in
    let same_reader = c.perform_event.ensures.reader ∙ so_far.reader in record {
      all = λ l t before failures err s h rest same came.
          let now = so_far.performed l t before failures err s h rest same came in
          let kept = same ∙ ap (λ (r : ReaderState). r.registers.all) (sym so_far.reader) in
          let is : c.perform_event.result ≡ Ok (Some c.in-Ok-Some.sprung) = search rules in
          let did = performed_sprung l t before _ s (c.in-Some.event ∷ []) now.history _ (drop (n + 1) events ++ rest) c.perform_event.result c.in-Ok-Some.sprung _ is
          (c.perform_event.ensures.one l t before failures err s now.history (drop (n + 1) events ++ rest) now.stands kept (rw opened at now.reaches)) in
          rw same_reader (came_so_far l t before _ s events n c.in-Some.event h now.history rest c.in-Ok-Some.sprung c.further.result _ opened (omega (arith, short)) c.further.ensures.told now.few did);
      reader = record { reading = ap (λ (r : ReaderState). r.reading) same_reader; registers = ap (λ (r : ReaderState). r.registers) same_reader };
      moves = λ l h stood.
          let is : c.perform_event.result ≡ Ok (Some c.in-Ok-Some.sprung) = search rules in
          left_on c.args.begin n c.args.self.now c.loop-event.self c.perform_event.new.self c.in-Ok-Some.sprung c.further.result so_far.from short c.further.ensures.told c.further.ensures.most so_far.same
          (λ first. subst (λ (r : Result (Option Sprung) Halt). MovesOn c.loop-event.self.formatter c.perform_event.new.self.formatter r) is
          (c.perform_event.ensures.moves l h (subst (λ (f : Formatter). StandFor l h f.composer) (sym (so_far.same first)) stood)));
    }

pub returns-in-Err : goal.returns-in-Err
returns-in-Err g c =
    let so_far = c.loop-event.invariant in
    let n = c.loop-event.index in
    let events = c.args.self.now.reader.meaning.events in
    let there = ap (λ (r : ReaderState). slice_get r.meaning.events n) (sym so_far.reader) in
    let opened : drop n events ≡ c.in-Some.event ∷ drop (n + 1) events = drop-at events n c.in-Some.event (there ∙ sym c.event.ensures.at ∙ c.in-Some.is) in
    let same_reader = c.perform_event.ensures.reader ∙ so_far.reader in record {
      all = λ l t before failures err s h rest same came.
          let now = so_far.performed l t before failures err s h rest same came in
          let kept = same ∙ ap (λ (r : ReaderState). r.registers.all) (sym so_far.reader) in
          c.in-Err.ensures.one l t before failures err s now.history (drop (n + 1) events ++ rest) now.stands kept (rw opened at now.reaches);
      reader = record { reading = ap (λ (r : ReaderState). r.reading) same_reader; registers = ap (λ (r : ReaderState). r.registers) same_reader };
      moves = λ l h stood. tt;
    }

pub returns : goal.returns
returns g c =
    let so_far = c.loop-event.invariant in
    let n = c.loop-event.index in
    let events = c.args.self.now.reader.meaning.events in
    let there = ap (λ (r : ReaderState). slice_get r.meaning.events n) (sym so_far.reader) in
    let closed : drop n events ≡ [] = drop-past events n (there ∙ sym c.event.ensures.at ∙ c.in_default.is) in record {
      all = λ l t before failures err s h rest same came.
          let now = so_far.performed l t before failures err s h rest same came in record {
            history = now.history;
            reaches = rw closed at now.reaches;
            stands = now.stands;
            lines = rw closed at now.few;
            few = omega arith;
            keeps = tt;
          };
      reader = record { reading = ap (λ (r : ReaderState). r.reading) so_far.reader; registers = ap (λ (r : ReaderState). r.registers) so_far.reader };
      moves = λ l h stood. tt;
    }
