-- The text of a diversion changes behind an event that stopped the others, before what sprang is read or they are performed.
use Rattle.std.proofs.Common.{◌∙◌, ◌≡◌, ℕ, false, List, [], ◌++◌, length, Option, Some, None, Result, Ok, Err, ap, append-nil, refl, subst, sym, nat_lt, le-ltb}
use Rattle.roff_num.specs.declared.limit.Limit.{Limit}
use Rattle.roff_num.specs.declared.limits.Limits.{Limits}
use Rattle.input_model.specs.Unread.{input_refusal}
use Rattle.page_model.specs.DueTexts.{TextDue}
use Rattle.input_source.specs.Tape.{Tape}
use Rattle.run_state.specs.Composer.Due.{due_told}
use Rattle.read_lines.proofs.TakesAs.{few_names, short_title}
use Rattle.run_model.proofs.InputCounts.{first_passed-few_names}
use Rattle.law_runs.proofs.RunsStayWithin.{named-keeping, title-keeping}
use Rattle.run_model.specs.Following.{text_changed}
use Rattle.run_model.specs.PageEvents.{PageEvent}
use Rattle.run_model.specs.Reading.Items.{PageInput, PageUnread}
use Rattle.run_model.specs.Registers.{AllRegisters}
use Rattle.run_model.specs.Run.{State, followed_by, step, unless_refused}
use Rattle.run_model.specs.TitleTexts.{title_length}
use Rattle.run_model.specs.Titles.{keeping}
use Rattle.run_model.specs.declared.status.Status.{Status}
use Rattle.run_events.specs.Formatter.Sprung.{left_behind, text_first}
use Rattle.run_events.specs.declared.halt.Halt.TheVariants.{Limit as Limited}
use Rattle.run_events.specs.declared.sprung.Left.{Left}
use Rattle.run_events.specs.declared.sprung.Left.TheVariants.{Diverts}
use Rattle.run_events.specs.declared.sprung.Sprung.{Sprung}
use Rattle.run_items.specs.Diverting.{ChangesText}
use Rattle.run_items.specs.Halting.{Halts}
use Rattle.run_items.specs.Outcome.{Beginning, OutcomeOf, Reaches, Seen}
use Rattle.run_items.proofs.Halted.{IsLeftOf-looked_then}
use Rattle.run_items.proofs.Changes.{changed-Err, changed-Ok, not_above}
use Rattle.run_items.proofs.TextSteps.{SameFront, text-front, text_done_at, text_due_at, text_step}
use Rattle.run_turns.specs.Running.Springing.{IsBehind, IsSettled, Settles, StopsIn}
use Rattle.run_turns.specs.Running.Turning.{state_at, turns_left}
use Rattle.run_turns.specs.declared.running.Running.{Running as Coded}
use Rattle.run_items.proofs.TextsReached.{text_reached, text_stopped}

-- A run of the code behind an event that stopped the others.
module _ (t : Beginning) (tape : Tape) (start now : Seen) (sprung : Sprung) (most : ℕ) (run : Coded) (at : IsBehind t tape start now (Some sprung) most run) where
  abbrev left : List PageEvent
  left = left_behind sprung run.interpreter.reader.meaning.events

  abbrev rs : AllRegisters
  rs = run.interpreter.reader.registers.all

  abbrev there : State
  there = state_at tape run at.history at.messages

  -- the state that it has come to, by the text that is due
  reached_by : (text : Option TextDue) → text_first sprung.why (due_told run.interpreter.formatter.composer rs) ≡ text
      → Reaches run.limits t start now (followed_by (record { text = text; sprung = run.interpreter.formatter.composer.due.sprung }) left there)
  reached_by text is =
      subst (λ (events : List PageEvent). Reaches run.limits t start now (followed_by (record { text = text; sprung = run.interpreter.formatter.composer.due.sprung }) events there))
      (append-nil left)
      (subst (λ (due : Option TextDue). Reaches run.limits t start now (followed_by (record { text = due; sprung = run.interpreter.formatter.composer.due.sprung }) (left ++ []) there))
      is at.reaches)

  -- where no text is due it is settled
  pub settled-none : text_first sprung.why (due_told run.interpreter.formatter.composer rs) ≡ None → IsSettled t tape start now sprung most run
  settled-none none = record {
    history = at.history;
    messages = at.messages;
    reaches = reached_by None none;
    stands = at.stands;
    ready = at.ready;
    limits = at.limits;
    stopped = at.stopped;
  }

  module _ (due : TextDue) (is_due : text_first sprung.why (due_told run.interpreter.formatter.composer rs) ≡ Some due) where
    abbrev changed : PageInput
    changed = text_changed due run.unread.input

    few : nat_lt run.unread.limits.names (length rs.named) ≡ false
    few = few_names run.interpreter.reader.registers run.unread at.ready

    short : nat_lt run.unread.limits.line (title_length rs.title) ≡ false
    short = short_title run.interpreter.reader.registers run.unread at.ready

    -- the step that changes it
    goes : step run.limits (text_due_at due run.interpreter.formatter.composer.due.sprung left there)
        ≡ unless_refused run.limits (input_refusal run.unread.limits changed) (text_due_at due run.interpreter.formatter.composer.due.sprung left there)
        (text_done_at due run.interpreter.formatter.composer.due.sprung left there)
    goes =
        let l : Limits = run.unread.limits in
        let P : Limits → Type 0 = λ k. step k (text_due_at due run.interpreter.formatter.composer.due.sprung left there)
        ≡ unless_refused k (input_refusal l changed) (text_due_at due run.interpreter.formatter.composer.due.sprung left there)
        (text_done_at due run.interpreter.formatter.composer.due.sprung left there) in
        subst P at.limits
        (text_step l there due run.interpreter.formatter.composer.due.sprung left refl few short (rw (named-keeping left rs) few)
        (le-ltb l.line (title_length (keeping left rs).title) (title-keeping l left rs (not_above (title_length rs.title) l.line short))))

    -- it was changed
    pub settled-changed : (new : PageUnread) → ChangesText (Some due) run.unread new (Ok tt) → IsSettled t tape start now sprung most (record run { unread = new })
    settled-changed new made =
        let is = changed-Ok (input_refusal run.unread.limits changed) changed run.unread new made in
        let front : SameFront changed run.unread.input = text-front due run.unread.input in
        let stays : StopsIn sprung (record run { unread = record run.unread { input = changed } }) at.history most =
        rw (front.ahead, front.escapes) at.stopped in
        subst (λ (u : PageUnread). IsSettled t tape start now sprung most (record run { unread = u })) (sym is.1) (record {
          history = at.history;
          messages = at.messages;
          reaches = text_reached run.limits t start now there due run.interpreter.formatter.composer.due.sprung left (reached_by (Some due) is_due)
              (goes ∙ ap (λ (r : Option Limit). unless_refused run.limits r (text_due_at due run.interpreter.formatter.composer.due.sprung left there)
              (text_done_at due run.interpreter.formatter.composer.due.sprung left there)) is.0);
          stands = at.stands;
          ready = record { cap = at.ready.cap; line = at.ready.line; within = first_passed-few_names run.unread.limits rs changed few short ∙ is.0 };
          limits = at.limits;
          stopped = stays;
        })

    -- or a limit refuses that: the run stops there
    pub settled-refused : (limit : Limit) → input_refusal run.unread.limits changed ≡ Some limit
        → Halts run.limits t tape run.unread.input.line (Limited limit) start now
    settled-refused limit is =
        text_stopped run.limits t start now tape there due run.interpreter.formatter.composer.due.sprung left limit refl refl
        (IsLeftOf-looked_then run.unread.looked tape) (reached_by (Some due) is_due)
        (goes ∙ ap (λ (r : Option Limit). unless_refused run.limits r (text_due_at due run.interpreter.formatter.composer.due.sprung left there)
        (text_done_at due run.interpreter.formatter.composer.due.sprung left there)) is)

-- as many turns are to come
turns-changed : (due : TextDue) (run : Coded) (new : PageUnread) → new ≡ record run.unread { input = text_changed due run.unread.input }
    → turns_left (record run { unread = new }) ≡ turns_left run
turns-changed due run new is =
    let changed : PageInput = text_changed due run.unread.input in
    let front : SameFront changed run.unread.input = text-front due run.unread.input in
    ap (λ (u : PageUnread). turns_left (record run { unread = u })) is
    ∙ (rw (front.ahead, front.escapes, front.charge) refl)

-- where nothing changes the unread input stays
same_behind : (old new : PageUnread) → ◌≡◌ {A = Result (Unit {0}) Limit × PageUnread} (Ok tt, new) (Ok tt, old) → new ≡ old
same_behind old new is = ap (λ (p : Result (Unit {0}) Limit × PageUnread). p.1) is

-- no text was due
pub settles-none : (sprung : Sprung) (run : Coded) (now : Seen) → ((text : Option TextDue) → text_first sprung.why text ≡ None) → Settles sprung run run now now (Ok tt)
settles-none sprung run now none = record {
  goes = λ t tape start most at.
      settled-none t tape start now sprung most run at (none (due_told run.interpreter.formatter.composer run.interpreter.reader.registers.all));
  others = refl;
  turns = refl;
}

-- one may be, by what is due
module _ (sprung : Sprung) (run : Coded) (new : PageUnread) (now : Seen) (diverts : sprung.why ≡ Diverts) where
  abbrev due_of : Option TextDue
  due_of = due_told run.interpreter.formatter.composer run.interpreter.reader.registers.all

  first : (text : Option TextDue) → due_of ≡ text → text_first sprung.why due_of ≡ text
  first text is = ap (λ (why : Left). text_first why due_of) diverts ∙ is

  -- it was changed
  pub settles-done : (text : Option TextDue) → due_of ≡ text → ChangesText text run.unread new (Ok tt) → Settles sprung run (record run { unread = new }) now now (Ok tt)
  settles-done None is changed =
      subst (λ (u : PageUnread). Settles sprung run (record run { unread = u }) now now (Ok tt)) (sym (same_behind run.unread new changed)) (record {
        goes = λ t tape start most at. settled-none t tape start now sprung most run at (first None is);
        others = refl;
        turns = refl;
      })
  settles-done (Some due) is changed = record {
    goes = λ t tape start most at. settled-changed t tape start now sprung most run at due (first (Some due) is) new changed;
    others = refl;
    turns = turns-changed due run new
        (changed-Ok (input_refusal run.unread.limits (text_changed due run.unread.input)) (text_changed due run.unread.input) run.unread new changed).1;
  }

  -- or a limit refused that
  pub settles-stopped : (text : Option TextDue) (limit : Limit) (line : ℕ) (status : Status) (behind : Seen) → due_of ≡ text → line ≡ run.unread.input.line
      → ChangesText text run.unread new (Err limit)
      → ((t : Beginning) (tape : Tape) (start : Seen) → Halts run.limits t tape line (Limited limit) start now → OutcomeOf run.limits t tape status start behind)
      → Settles sprung run (record run { unread = new }) now behind (Err status)
  settles-stopped None limit line status behind is line_is changed ends = (let wrong = ap (λ (p : Result (Unit {0}) Limit × PageUnread). p.0) changed in cc)
  settles-stopped (Some due) limit line status behind is line_is changed ends = record {
    goes = λ t tape start most at.
        ends t tape start (rw line_is (settled-refused t tape start now sprung most run at due (first (Some due) is) limit
        (changed-Err (input_refusal run.unread.limits (text_changed due run.unread.input)) limit (text_changed due run.unread.input) run.unread new changed).0));
    others = refl;
    turns = tt;
  }
