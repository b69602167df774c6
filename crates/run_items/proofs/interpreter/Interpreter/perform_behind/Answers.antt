use Rattle.std.proofs.Common.{◌≡◌, ℕ, Bool, true, false, [], ◌∷◌, List, Ok, None, refl, rules, ap, ◌∙◌, arith, drop, if◌then◌else◌}
use Rattle.page_model.specs.declared.event.Event.TheVariants.{Set}
use Rattle.run_model.specs.PageEvents.{PageEvent}
use Rattle.run_model.specs.Requests.Effects.{behind_break}
use Rattle.run_model.specs.declared.event.PageEvent.TheVariants.{Text}
use Rattle.run_events.specs.Formatter.Performing.{behind_event}
use Rattle.run_events.proofs.LinesLeft.{more_left}
use Rattle.run_events.proofs.Performed.{performed_quietly}
use Rattle.run_items.proofs.interpreter.Interpreter.perform_behind.Goals as goal

-- what stands behind a break, if there is one
behind : (breaks : Bool) (events : List PageEvent) → drop (if breaks then 2 else 0) (behind_break breaks events) ≡ events
behind true events = refl
behind false events = refl

pub returns-in-Some : goal.returns-in-Some
returns-in-Some g c =
    let events = c.args.self.now.reader.meaning.events in
    let e : PageEvent = Text (Set c.in-Some.param) in
    let n : ℕ = if c.args.breaks then 2 else 0 in
    let is : events ≡ behind_break c.args.breaks (e ∷ []) = search rules in
    let opened : drop n events ≡ e ∷ [] = ap (λ (es : List PageEvent). drop n es) is ∙ behind c.args.breaks (e ∷ []) in
    let told = g.O.ByteSink.sunk c.args.out.now in record {
      all = λ l t before failures err s h rest same came.
          let did = performed_quietly l t before _ s (e ∷ []) came.history _ rest (Ok None) _ refl
          ((c.set.ensures told).performs l t before failures err s came.history rest came.stands (refl, tt) (rw opened at came.reaches)) in record {
            history = behind_event s.registers e came.history;
            reaches = did.reaches;
            stands = did.stands;
            lines =
                let left = more_left s.registers e [] came.history in
                let few = rw opened at came.few in
                omega (arith, left, few);
            few = omega arith;
            keeps = tt;
          };
      reader = record { reading = refl; registers = refl };
      moves = λ l h stood. tt;
    }
