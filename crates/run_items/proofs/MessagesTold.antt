-- What an item means is told and done: its messages first, and then its events.
use Rattle.std.proofs.Common.{◌≡◌, ◌∙◌, ℕ, ◌+◌, ◌≤◌, List, ◌++◌, length, Option, Result, Ok, Err, refl, sym, subst, ap, arith, append-nil, length-append}
use Rattle.roff_num.specs.declared.limit.Limit.{Limit}
use Rattle.roff_num.specs.declared.limits.Limits.{Limits}
use Rattle.run_state.specs.declared.composer.Composer.{Composer as ComposerOf}
use Rattle.run_items.specs.declared.interpreter.Interpreter.{Interpreter}
use Rattle.run_events.specs.declared.halt.Halt.{Halt}
use Rattle.run_events.specs.declared.halt.Halt.TheVariants.{Limit as Limited, Refused, Over, Output, Messages}
use Rattle.run_events.specs.declared.sprung.Sprung.{Sprung}
use Rattle.run_items.specs.Outcome.{Beginning, Seen, Reaches, seen}
use Rattle.run_events.specs.Formatter.Performing.{acting}
use Rattle.run_items.specs.Performing.{LostAt, ComesTo, PerformsAll, Means, MeaningDone, DoesMeaning, RefusedAt, sinks}
use Rattle.run_items.specs.Reporting.{HasNoRoom, IsLost, IsTold, Tells}
use Rattle.run_items.proofs.Bounded.{told_reached}
use Rattle.run_model.specs.Messages.{message_lines}
use Rattle.run_model.specs.declared.message.Message.{Message}
use Rattle.run_model.specs.Output.{PageHistory}
use Rattle.run_model.specs.PageEvents.{PageEvent}
use Rattle.roff_num.specs.declared.limit.Limit.TheVariants.{Messages as OnMessages}
use Rattle.run_model.specs.Run.{State, initial, reported, step, told_step}
use Rattle.page_bytes.specs.Sinks.{Sunk}
use Rattle.page_bytes.proofs.Appending.{Appends-append}
use Rattle.run_model.proofs.Leads.{Leads-to, told_step-beyond, told_step-within}
use Rattle.run_events.proofs.Performed.{between, faults_of_err}

-- one step from a state means messages and events
module _ (l : Limits) (t : Beginning) (before : Seen) (failures : ℕ) (out old new : Sunk) (from s : State) (h : PageHistory) (line : ℕ) (messages : List Message) (events rest : List PageEvent)
    (reached : Reaches l t before (seen failures out old) from) (means : Means l from s h line messages events rest) where
  -- the messages are behind those that were told
  all_told : length (reported s) ≡ length (reported from) + length (message_lines line messages)
  all_told = ap length means.said ∙ length-append (reported from) (message_lines line messages)

  -- they are told, and the events are to be done
  pub messages_told : IsTold old new (message_lines line messages) → Reaches l t before (seen failures out new) (acting s (events ++ rest) h)
  messages_told told = record {
    comes = Leads-to l (initial l t.start t.tape) _ _ reached.comes means.opens;
    text = rw (← means.wrote) reached.text;
    messages = rw means.said (Appends-append _ _ _ _ _ reached.messages told.writes.written);
    faults = faults_of_err before failures out old new told.writes.failures reached.faults;
    room = omega (arith, told.room, reached.room, all_told);
  }

  -- or they can't be told
  pub messages_lost : IsLost old new (message_lines line messages) → LostAt l t before (seen failures out new) from
  messages_lost lost =
      let within : length s.messages ≤ l.messages =
      omega (arith, lost.fits, reached.room, all_told, length-append s.messages s.last_message) in
      let told : told_step l from ≡ acting s (events ++ rest) h = told_step-within l from _ means.goes_on means.opens within in record {
        comes = told_reached l t before (seen failures out old) from reached;
        goes_on = means.goes_on;
        text = reached.text;
        messages = rw (told, means.said) (between _ _ _ _ _ reached.messages lost.fails.written);
        fault = rw (sym reached.faults.err) lost.fails.fault;
        output_stays = reached.faults.out;
      }

  -- or there is no room for them, and the run stops before that step
  pub messages_refused : HasNoRoom old new (message_lines line messages) → RefusedAt l t before (seen failures out new) from OnMessages
  messages_refused none =
      let same : length s.messages ≡ length (reported s) =
      sym (ap (λ (last : List ℕ). length (s.messages ++ last)) means.quiet ∙ ap length (append-nil s.messages)) in
      let told : (step l from).messages ≡ s.messages = ap (λ (s : State). s.messages) means.opens in record {
        reaches = subst (λ (err : Sunk). Reaches l t before (seen failures out err) from) (sym none.stays) reached;
        goes_on = means.goes_on;
        stops = told_step-beyond l from means.goes_on (omega (arith, none.passes, reached.room, all_told, same, ap length told));
      }

-- what was performed of what an item means was done of it
pub does_events : (l : Limits) (t : Beginning) (before now : Seen) (from s : State) (events : List PageEvent) (h : PageHistory) (kept rest : List PageEvent) (r : Result (Option Sprung) Halt) (es : ComposerOf)
    → ComesTo l t before now s events h kept rest r es → MeaningDone l t before now from s events h kept rest r es
does_events l t before now from s events h kept rest (Ok sprung) es p = p
does_events l t before now from s events h kept rest (Err (Limited limit)) es p = p
does_events l t before now from s events h kept rest (Err (Refused limit)) es p = absurd p
does_events l t before now from s events h kept rest (Err Output) es p = p
does_events l t before now from s events h kept rest (Err Over) es p = p
does_events l t before now from s events h kept rest (Err Messages) es p = absurd p

-- What an item means was done: its messages were told, and then its events were performed, as far as that went.
pub told_then_performed : (line : ℕ) (messages : List Message) (events : List PageEvent) (old new : Interpreter) (out out_new err err_new : Sunk) (r : Result (Option Sprung) Halt)
    → IsTold err err_new (message_lines line messages) → PerformsAll events old new out out_new r
    → DoesMeaning line messages events old new (sinks out err) (sinks out_new err_new) r
told_then_performed line messages events old new out out_new err err_new r told performed = record {
  does = λ l t before failures from s h rest stood same reached means.
      does_events l t before _ from s events h new.reader.meaning.events rest r _
      (performed.all l t before failures err_new s h rest stood same
      (messages_told l t before failures out err err_new from s h line messages events rest reached means told));
  reader = performed.reader;
}

-- how far that went where they weren't
untold : (l : Limits) (t : Beginning) (before : Seen) (failures : ℕ) (out err err_new : Sunk) (from s : State) (h : PageHistory) (line : ℕ) (messages : List Message) (events kept rest : List PageEvent) (halt : Halt) (es : ComposerOf)
    → Tells err err_new (message_lines line messages) (Err halt)
    → Reaches l t before (seen failures out err) from → Means l from s h line messages events rest
    → MeaningDone l t before (seen failures out err_new) from s events h kept rest (Err halt) es
untold l t before failures out err err_new from s h line messages events kept rest Messages es lost reached means =
    messages_lost l t before failures out err err_new from s h line messages events rest reached means lost
untold l t before failures out err err_new from s h line messages events kept rest (Refused limit) es none reached means =
    subst (λ (limit : Limit). RefusedAt l t before (seen failures out err_new) from limit) (sym none.0)
    (messages_refused l t before failures out err err_new from s h line messages events rest reached means none.1)
untold l t before failures out err err_new from s h line messages events kept rest (Limited limit) es wrong reached means = absurd wrong
untold l t before failures out err err_new from s h line messages events kept rest Output es wrong reached means = absurd wrong
untold l t before failures out err err_new from s h line messages events kept rest Over es wrong reached means = absurd wrong

-- or they couldn't be told
pub not_told : (line : ℕ) (messages : List Message) (events : List PageEvent) (f : Interpreter) (out err err_new : Sunk) (halt : Halt)
    → Tells err err_new (message_lines line messages) (Err halt)
    → DoesMeaning line messages events f f (sinks out err) (sinks out err_new) (Err halt)
not_told line messages events f out err err_new halt tells = record {
  does = λ l t before failures from s h rest stood same reached means.
      untold l t before failures out err err_new from s h line messages events f.reader.meaning.events rest halt f.formatter.composer tells reached means;
  reader = record { reading = refl; registers = refl };
}
