use Rattle.std.proofs.Common.{◌≡◌, ◌++◌, [], ◌∷◌, List, Ok, Some, None, refl, rules, ap, arith, drop}
use Rattle.page_model.specs.declared.event.Event.TheVariants.{Break, WordEnd}
use Rattle.run_model.specs.Environments.{interrupted_line}
use Rattle.run_model.specs.PageEvents.{PageEvent}
use Rattle.run_model.specs.TurnsToCome.{lines_left, most_left}
use Rattle.run_model.specs.declared.event.PageEvent.TheVariants.{Text}
use Rattle.run_events.specs.Formatter.Performing.{behind_event}
use Rattle.run_events.proofs.LinesLeft.{more_left}
use Rattle.run_events.proofs.Performed.{performed_quietly, performed_sprung}
use Rattle.run_items.proofs.NamedSteps.{flows-break}
use Rattle.run_items.proofs.SoFar.{came_broken}
use Rattle.run_items.proofs.interpreter.Interpreter.perform_each.Goals as goal

pub returns-in-Ok-None : goal.returns-in-Ok-None
returns-in-Ok-None g c =
    let events = c.args.self.now.reader.meaning.events in
    let others : List PageEvent = drop 2 events in
    let begins : events ≡ Text WordEnd ∷ Text Break ∷ others = c.begins_with_break.ensures.begins (search rules) in record {
      all = λ l t before failures err s h rest stood same reached.
          let is : c.perform_step.result ≡ Ok None = search rules in
          let did = performed_quietly l t before _ s (Text WordEnd ∷ Text Break ∷ []) h _ (others ++ rest) c.perform_step.result _ is
          (c.perform_step.ensures.performs l t before failures err s h (others ++ rest) stood (flows-break s.registers h) (rw begins at reached)) in
          let h1 = behind_event s.registers (Text WordEnd) h in
          c.perform_behind-in-Ok-None.ensures.all l t before failures err s h rest same (record {
            history = behind_event s.registers (Text Break) h1;
            reaches = did.reaches;
            stands = did.stands;
            few = omega (arith, more_left s.registers (Text WordEnd) (Text Break ∷ others) h, more_left s.registers (Text Break) others h1, ap (λ (es : List PageEvent). most_left es (lines_left (interrupted_line h))) begins);
          });
      reader = record {
        reading = c.perform_behind-in-Ok-None.ensures.reader.reading;
        registers = c.perform_behind-in-Ok-None.ensures.reader.registers;
      };
    }

pub returns-in-Ok-Some : goal.returns-in-Ok-Some
returns-in-Ok-Some g c =
    let events = c.args.self.now.reader.meaning.events in
    let others : List PageEvent = drop 2 events in
    let begins : events ≡ Text WordEnd ∷ Text Break ∷ others = c.begins_with_break.ensures.begins (search rules) in record {
      all = λ l t before failures err s h rest stood same reached.
          let is : c.perform_step.result ≡ Ok (Some c.in-Ok-Some.sprung) = search rules in
          let did = performed_sprung l t before _ s (Text WordEnd ∷ Text Break ∷ []) h _ (others ++ rest) c.perform_step.result c.in-Ok-Some.sprung _ is
          (c.perform_step.ensures.performs l t before failures err s h (others ++ rest) stood (flows-break s.registers h) (rw begins at reached)) in
          came_broken l t before _ s events others h rest c.in-Ok-Some.sprung _ begins did;
      reader = record { reading = refl; registers = refl };
    }

pub returns-in-Err : goal.returns-in-Err
returns-in-Err g c =
    let events = c.args.self.now.reader.meaning.events in
    let others : List PageEvent = drop 2 events in
    let begins : events ≡ Text WordEnd ∷ Text Break ∷ others = c.begins_with_break.ensures.begins (search rules) in record {
      all = λ l t before failures err s h rest stood same reached.
          c.in-Err.ensures.performs l t before failures err s h (others ++ rest) stood (flows-break s.registers h) (rw begins at reached);
      reader = record { reading = refl; registers = refl };
    }

pub returns-then-not-begins_with_break : goal.returns-then-not-begins_with_break
returns-then-not-begins_with_break g c = record {
  all = λ l t before failures err s h rest stood same reached.
      c.perform_behind.ensures.all l t before failures err s h rest same (record { history = h; reaches = reached; stands = stood; few = omega arith });
  reader = c.perform_behind.ensures.reader;
}
