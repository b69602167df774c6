-- A state with the text of a diversion due, and the one behind it.
use Rattle.std.proofs.Common.{◌≡◌, List, [], Option, Some, None, refl}
use Rattle.roff_num.specs.declared.limit.Limit.{Limit}
use Rattle.roff_num.specs.declared.limits.Limits.{Limits}
use Rattle.roff_num.specs.declared.short_name.ShortName.{ShortName}
use Rattle.page_model.specs.DueTexts.{TextDue}
use Rattle.input_source.specs.Tape.{Tape}
use Rattle.run_model.proofs.Leads.{Leads-to}
use Rattle.run_model.specs.PageEvents.{PageEvent}
use Rattle.run_model.specs.Run.{State, initial, step, stopped_by}
use Rattle.run_events.specs.declared.halt.Halt.TheVariants.{Limit as Limited}
use Rattle.run_items.proofs.Bounded.{told_step-quiet}
use Rattle.run_items.specs.Halting.{Halts}
use Rattle.run_items.specs.Outcome.{Beginning, IsLeftOf, Reaches, Seen}
use Rattle.run_items.proofs.TextSteps.{text_done_at, text_due_at}

-- a run that has come to a state with a text due comes behind its change
pub text_reached : (l : Limits) (t : Beginning) (start now : Seen) (s : State) (due : TextDue) (sprung : Option ShortName) (left : List PageEvent)
    → Reaches l t start now (text_due_at due sprung left s) → step l (text_due_at due sprung left s) ≡ text_done_at due sprung left s
    → Reaches l t start now (text_done_at due sprung left s)
text_reached l t start now s due None left reached goes = record {
  comes = Leads-to l (initial l t.start t.tape) (text_due_at due None left s) _ reached.comes goes;
  text = reached.text;
  messages = reached.messages;
  faults = reached.faults;
  room = reached.room;
}
text_reached l t start now s due (Some name) left reached goes = record {
  comes = Leads-to l (initial l t.start t.tape) (text_due_at due (Some name) left s) _ reached.comes goes;
  text = reached.text;
  messages = reached.messages;
  faults = reached.faults;
  room = reached.room;
}

-- or is stopped there by a limit
pub text_stopped : (l : Limits) (t : Beginning) (start now : Seen) (tape : Tape) (s : State) (due : TextDue) (sprung : Option ShortName) (left : List PageEvent) (limit : Limit)
    → s.ended ≡ None → s.last_message ≡ [] → IsLeftOf tape s.tape → Reaches l t start now (text_due_at due sprung left s)
    → step l (text_due_at due sprung left s) ≡ stopped_by l limit (text_due_at due sprung left s)
    → Halts l t tape s.input.line (Limited limit) start now
text_stopped l t start now tape s due None left limit goes_on quiet rest reached stops =
    let from : State = text_due_at due None left s in record {
      state = from;
      reaches = reached;
      goes_on = goes_on;
      stops = told_step-quiet l from (stopped_by l limit from) now.err.room goes_on reached.room stops refl;
      rest = rest;
      quiet = quiet;
      line_is = refl;
    }
text_stopped l t start now tape s due (Some name) left limit goes_on quiet rest reached stops =
    let from : State = text_due_at due (Some name) left s in record {
      state = from;
      reaches = reached;
      goes_on = goes_on;
      stops = told_step-quiet l from (stopped_by l limit from) now.err.room goes_on reached.room stops refl;
      rest = rest;
      quiet = quiet;
      line_is = refl;
    }
