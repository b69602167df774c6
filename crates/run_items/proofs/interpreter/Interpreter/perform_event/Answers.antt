use Rattle.std.proofs.Common.{refl, rules}
use Rattle.run_model.specs.declared.event.PageEvent.TheVariants.{Back, Environment, InputTrap, Interrupt, Page, Text}
use Rattle.run_items.proofs.EventsKept.{event_alone, event_done}
use Rattle.run_items.proofs.interpreter.Interpreter.perform_event.Goals as goal

pub returns-in-Text : goal.returns-in-Text
returns-in-Text g c = rw c.in-Text.is (event_done (Text c.in-Text.event) _ _ _ _ _ c.perform_text.ensures (search rules))

pub returns-in-Environment : goal.returns-in-Environment
returns-in-Environment g c = rw c.in-Environment.is (event_alone (Environment c.in-Environment.number) _ _ _ _ _ (λ h. refl)
    (c.switch_to.ensures (g.O.ByteSink.sunk c.args.out.now)) (search rules))

pub returns-in-Page : goal.returns-in-Page
returns-in-Page g c = rw c.in-Page.is (event_alone (Page c.in-Page.event) _ _ _ _ _ (λ h. refl) c.perform_on_page.ensures (search rules))

pub returns-in-Title : goal.returns-in-Title
returns-in-Title g c = rw c.in-Title.is c.place_title.ensures

pub returns-in-Interrupt : goal.returns-in-Interrupt
returns-in-Interrupt g c = rw c.in-Interrupt.is (event_alone (Interrupt c.in-Interrupt.line) _ _ _ _ _ (λ h. refl)
    (c.interrupt.ensures (g.O.ByteSink.sunk c.args.out.now)) (search rules))

pub returns-in-Back : goal.returns-in-Back
returns-in-Back g c = rw c.in-Back.is (event_alone Back _ _ _ _ _ (λ h. refl) (c.switch_back.ensures (g.O.ByteSink.sunk c.args.out.now)) (search rules))

pub returns-in-InputTrap : goal.returns-in-InputTrap
returns-in-InputTrap g c = rw c.in-InputTrap.is (event_alone (InputTrap c.in-InputTrap.trap) _ _ _ _ _ (λ h. refl)
    (c.set_input_trap.ensures (g.O.ByteSink.sunk c.args.out.now)) (search rules))
