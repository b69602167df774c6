-- What a run of the code has come to behind each item of its input, where the definition takes one step.
use Rattle.std.proofs.Common.{◌≡◌, ℕ, ◌≤◌, ◌<◌, List, [], ◌++◌, length, Result, Ok, Err, None, inl, inr, refl, subst, sym, ap, ◌∙◌, arith, append-nil, length-append}
use Rattle.roff_num.specs.declared.limit.Limit.{Limit}
use Rattle.input_source.specs.Tape.{Tape, Item, Failed, Stopped, items_then}
use Rattle.roff_num.specs.Faults.{Rises}
use Rattle.run_model.specs.declared.message.Message.TheVariants.{ReadFailed}
use Rattle.run_model.specs.declared.status.Status.{Status}
use Rattle.run_model.specs.declared.status.Status.TheVariants.{Device, Limit as Limited}
use Rattle.run_model.specs.Messages.{message_line}
use Rattle.run_model.specs.Reading.Items.{PageUnread}
use Rattle.run_model.specs.Reading.Returns.{going_back}
use Rattle.run_model.specs.declared.line_state.LineState.{LineState}
use Rattle.run_events.specs.declared.formatter.Formatter.{Formatter}
use Rattle.run_events.specs.Formatter.Performing.{PerformsEvents, behind_events}
use Rattle.run_model.specs.Run.{State, ending_as, ending_with, going_back_to, initial, made, output, reported, step, stopped_by, told_step, unless_refused}
use Rattle.run_model.specs.Run.Counts.{counts_in, first_passed}
use Rattle.run_turns.specs.declared.running.Running.{Running as Coded}
use Rattle.run_items.specs.Outcome.{Arrives, Beginning, Seen, IsLeftOf, Reaches, MessagesFail, OutcomeOf, seen}
use Rattle.run_items.specs.Reporting.{IsTold, Tells}
use Rattle.run_items.proofs.Bounded.{told_reached, told_step-quiet}
use Rattle.run_events.specs.declared.halt.Halt.{Halt}
use Rattle.run_events.specs.declared.halt.Halt.TheVariants.{Limit as ByLimit, Messages, Output, Over, Refused}
use Rattle.run_turns.specs.Running.Telling.{TellsOrHalts}
use Rattle.run_turns.specs.Running.Turning.{Continues, IsAt, TookFrom, state_at}
use Rattle.run_items.specs.Halting.{Halts, LimitStops, line_told}
use Rattle.page_bytes.specs.Sinks.{Sunk, Writes, Fails, Puts}
use Rattle.run_items.proofs.Halted.{IsLeftOf-looked_then}
use Rattle.page_bytes.proofs.Appending.{Appends-append}
use Rattle.run_items.specs.Room.{FewFor}
use Rattle.run_items.proofs.Calls.{EndsThere, Leaves}
use Rattle.run_events.proofs.Performed.{between, faults_of_err}
use Rattle.run_model.proofs.Leads.{Leads-to, ToldLeads-to, told_step-beyond, told_step-within}
use Rattle.run_items.proofs.StatesBehind.{Reaches-failures, back_performed, ready_behind, all_left}

-- the run of the code with this unread input
abbrev pub moved : Coded → PageUnread → Coded
moved run left = record run { unread = left }

-- the same where this is gone back to, with this formatter
abbrev pub returned : LineState → Formatter → Coded → PageUnread → Coded
returned reading f run left = record (moved run left) {
  interpreter = record run.interpreter { formatter = f; reader = record run.interpreter.reader { reading = reading } };
}

-- A call took these items of the source, and left this; the run of the definition stands before it, at one state, and
-- one step leads on.
module _ {gave gives : Tape → Type 0} {old : Coded} {left : PageUnread} {taken : List Item} (leaves : Leaves gave gives old.unread left taken)
    (failed failures : ℕ) (out err : Sunk) (more : failed ≤ failures)
    (t : Beginning) (tape : Tape) (start : Seen) (may : gives tape) (at : IsAt t (items_then taken tape) start (seen failed out err) old) where
  -- the state of the definition before the call, and the same behind it
  abbrev from : State
  from = state_at (items_then taken tape) old at.history at.messages

  abbrev behind : State
  behind = state_at tape (moved old left) at.history at.messages

  pub reached : Reaches old.limits t start (seen failures out err) from
  reached = Reaches-failures old.limits t start failed failures out err from more at.reaches

  -- an item was taken
  pub took : (does : State → State) → step old.limits from ≡ made old.limits from (does behind)
      → FewFor (does behind).to_do (does behind).reading (does behind).input.escapes left.input.ahead
      → TookFrom t tape start (seen failures out err) old.unread.input.line does from (moved old left)
  took does goes room = record {
    history = at.history;
    messages = at.messages;
    reaches = reached;
    opens = record { opens = goes; goes_on = refl; wrote = refl; said = append-nil at.messages };
    stands = at.stands;
    ready = ready_behind old.interpreter.reader.registers old.unread left leaves at.ready;
    limits = leaves.limits ∙ at.limits;
    quiet = refl;
    line_is = refl;
    rest = leaves.rest tape may;
    few = room;
  }

  -- no count is above its limit behind it
  allowed : first_passed old.limits (counts_in old.interpreter.reader.registers.all left.input) ≡ None
  allowed = rw (← at.limits) (leaves.within old.interpreter.reader.registers.all at.ready.within)

  -- the end of a text is only taken
  pub end_passed : step old.limits from ≡ made old.limits from behind → FewFor [] behind.reading left.input.escapes left.input.ahead → IsAt t tape start (seen failures out err) (moved old left)
  end_passed goes few =
      let there : step old.limits from ≡ behind = goes ∙ ap (λ r. unless_refused old.limits r from behind) allowed in record {
        history = at.history;
        messages = at.messages;
        reaches = record {
          comes = Leads-to old.limits (initial old.limits t.start t.tape) from behind reached.comes there;
          text = reached.text;
          messages = reached.messages;
          faults = reached.faults;
          room = reached.room;
        };
        stands = at.stands;
        ready = ready_behind old.interpreter.reader.registers old.unread left leaves at.ready;
        limits = leaves.limits ∙ at.limits;
        few = few;
      }

  -- the end of a body is taken, and what it leads back to goes on behind it
  pub return_passed : (reading : LineState) (f : Formatter) → ((told : Sunk) → PerformsEvents (going_back reading) old.interpreter.formatter f told told (Ok None))
      → step old.limits from ≡ made old.limits from (going_back_to reading behind)
      → FewFor [] reading left.input.escapes left.input.ahead → IsAt t tape start (seen failures out err) (returned reading f old left)
  return_passed reading f performs goes few =
      let done : State = going_back_to reading behind in
      let there : step old.limits from ≡ done = goes ∙ ap (λ r. unless_refused old.limits r from done) allowed in
      let came = back_performed reading old.interpreter.formatter f old.limits t start failures out err done at.history (performs out) at.stands (record {
        comes = Leads-to old.limits (initial old.limits t.start t.tape) from done reached.comes there;
        text = reached.text;
        messages = reached.messages;
        faults = reached.faults;
        room = reached.room;
      }) in record {
        history = behind_events old.interpreter.reader.registers.all (going_back reading) at.history;
        messages = at.messages;
        reaches = came.reaches;
        stands = came.stands;
        ready = ready_behind old.interpreter.reader.registers old.unread left leaves at.ready;
        limits = leaves.limits ∙ at.limits;
        few = few;
      }

  -- nothing of the state changed
  abbrev pub looked_at : behind ≡ from → FewFor [] behind.reading left.input.escapes left.input.ahead → IsAt t tape start (seen failures out err) (moved old left)
  looked_at same few = record {
    history = at.history;
    messages = at.messages;
    reaches = rw same reached;
    stands = at.stands;
    ready = ready_behind old.interpreter.reader.registers old.unread left leaves at.ready;
    limits = leaves.limits ∙ at.limits;
    few = few;
  }

  -- a limit refuses the item in front
  pub refused : (limit : Limit) (line : ℕ) → line ≡ old.unread.input.line → step old.limits from ≡ stopped_by old.limits limit from
      → LimitStops old.limits t tape line limit start (seen failures out err)
  refused limit line line_is goes = record {
    state = from;
    reaches = reached;
    goes_on = refl;
    stops = told_step-quiet old.limits from _ err.room refl reached.room goes refl;
    rest = leaves.rest tape may;
    quiet = refl;
    line_is = sym line_is;
  }

  -- the message sink is given more
  module _ (new : Sunk) where
    -- a state one step on that has written no more, and told what there was room for
    pub one_more : (s : State) (piece : List ℕ) → step old.limits from ≡ s → output s ≡ output from → reported s ≡ at.messages ++ piece
        → IsTold err new piece → Reaches old.limits t start (seen failures out new) s
    one_more s piece goes wrote said told = record {
      comes = Leads-to old.limits (initial old.limits t.start t.tape) from s reached.comes goes;
      text = rw wrote reached.text;
      messages = rw said (Appends-append _ _ _ _ _ (rw append-nil at reached.messages) told.writes.written);
      faults = faults_of_err start failures out err new told.writes.failures reached.faults;
      room = omega (arith, told.room, reached.room, ap length said, length-append at.messages piece, ap length (append-nil at.messages));
    }

    -- the same of the last message of a run, for which there may be no room
    pub one_last : (s : State) (piece : List ℕ) → step old.limits from ≡ s → output s ≡ output from → s.messages ≡ at.messages → reported s ≡ at.messages ++ piece
        → Writes err new piece → Arrives old.limits t start (seen failures out new) s
    one_last s piece goes wrote quiet said told = record {
      comes = ToldLeads-to old.limits (initial old.limits t.start t.tape) from s (told_reached old.limits t start (seen failures out err) from reached)
          (told_step-quiet old.limits from s err.room refl reached.room goes quiet);
      text = rw wrote reached.text;
      messages = rw said (Appends-append _ _ _ _ _ (rw append-nil at reached.messages) told.written);
      faults = faults_of_err start failures out err new told.failures reached.faults;
    }

    -- the message sink failed in the step
    pub lost : (s : State) (piece : List ℕ) → told_step old.limits from ≡ s → reported s ≡ at.messages ++ piece → IsLeftOf tape s.tape → Fails err new piece
        → MessagesFail old.limits t tape Device start (seen failures out new)
    lost s piece goes said rest part = record {
      is_device = refl;
      state = from;
      comes = told_reached old.limits t start (seen failures out err) from reached;
      goes_on = refl;
      text = reached.text;
      messages = rw (goes, said, append-nil) (between _ _ _ _ _ (rw append-nil at reached.messages) part.written);
      fault = rw (sym reached.faults.err) part.fault;
      output_stays = reached.faults.out;
      rest = rw goes rest;
    }

    -- a message wasn't told, as the message sink failed, or as there was no room for it
    pub untold : (line : ℕ) → line ≡ old.unread.input.line → (s : State) (piece : List ℕ) (halt : Halt) → step old.limits from ≡ s
        → s.messages ≡ at.messages ++ piece → s.last_message ≡ [] → IsLeftOf tape s.tape → Tells err new piece (Err halt)
        → Halts old.limits t tape (line_told halt line line) halt start (seen failures out new)
    untold line line_is s piece Messages goes said quiet rest part =
        let all : length s.messages ≤ old.limits.messages =
        omega (arith, part.fits, reached.room, ap length said, length-append at.messages piece, ap length (append-nil at.messages)) in
        let told : reported s ≡ at.messages ++ piece = ap (λ (last : List ℕ). s.messages ++ last) quiet ∙ append-nil s.messages ∙ said in
        lost s piece (told_step-within old.limits from s refl goes all) told rest part.fails
    untold line line_is s piece (Refused limit) goes said quiet rest none =
        let beyond : old.limits.messages < length (step old.limits from).messages =
        omega (arith, none.1.passes, reached.room, ap length (ap (λ (s : State). s.messages) goes), ap length said, length-append at.messages piece, ap length (append-nil at.messages)) in
        subst (λ (limit : Limit). Halts old.limits t tape line (Refused limit) start (seen failures out new)) (sym none.0) (inl (record {
          state = from;
          reaches = subst (λ (told : Sunk). Reaches old.limits t start (seen failures out told) from) (sym none.1.stays) reached;
          goes_on = refl;
          stops = told_step-beyond old.limits from refl beyond;
          rest = leaves.rest tape may;
          quiet = refl;
          line_is = sym line_is;
        }))
    untold line line_is s piece (ByLimit limit) goes said quiet rest wrong = absurd wrong
    untold line line_is s piece Output goes said quiet rest wrong = absurd wrong
    untold line line_is s piece Over goes said quiet rest wrong = absurd wrong

    -- a message of the source's is told
    pub note_told : (note : List ℕ) → FewFor [] behind.reading left.input.escapes left.input.ahead → step old.limits from ≡ record behind { messages = at.messages ++ note }
        → IsTold err new note → IsAt t tape start (seen failures out new) (moved old left)
    note_told note few goes told = record {
      history = at.history;
      messages = at.messages ++ note;
      reaches = one_more (record behind { messages = at.messages ++ note }) note goes refl (append-nil (at.messages ++ note)) told;
      stands = at.stands;
      ready = ready_behind old.interpreter.reader.registers old.unread left leaves at.ready;
      limits = leaves.limits ∙ at.limits;
      few = few;
    }

    -- the source failed, and the report was answered so
    pub source_failed : {F : Type 0} (line : ℕ) (report : Result (Unit {0}) F) → EndsThere Failed old.unread left taken → line ≡ left.input.line
        → step old.limits from ≡ ending_with Device ReadFailed from → Rises failed failures
        → Puts err new (message_line line ReadFailed) report → OutcomeOf old.limits t tape Device start (seen failures out new)
    source_failed line (Ok done) ends line_is goes rises puts =
        let own : line ≡ old.unread.input.line = line_is ∙ ap (λ (u : PageUnread). u.input.line) ends.same in
        inl (record {
          state = ending_with Device ReadFailed from;
          reaches = one_last (ending_with Device ReadFailed from) (message_line old.unread.input.line ReadFailed) goes refl refl refl (rw own at puts.ok);
          ended = refl;
          rest = inl (all_left old.unread.looked taken tape ends.looked ends.taken_is);
          fault = λ is. omega (arith, at.reaches.faults.source, rises);
        })
    source_failed line (Err fault) ends line_is goes rises puts =
        let own : line ≡ old.unread.input.line = line_is ∙ ap (λ (u : PageUnread). u.input.line) ends.same in
        let rest = inl (all_left old.unread.looked taken tape ends.looked ends.taken_is) in
        let told = told_step-quiet old.limits from (ending_with Device ReadFailed from) err.room refl reached.room goes refl in
        inr (inr (inl (lost (ending_with Device ReadFailed from) (message_line old.unread.input.line ReadFailed) told refl rest (rw own at puts.err))))

  -- a message of the source's is told, or halts the run
  pub note_continues : (new : Sunk) (line : ℕ) → line ≡ old.unread.input.line → (note : List ℕ) (r : Result (Unit {0}) Status)
      → FewFor [] behind.reading left.input.escapes left.input.ahead → step old.limits from ≡ record behind { messages = at.messages ++ note }
      → TellsOrHalts old.limits line note err new r → Continues t tape start (seen failures out new) r (moved old left)
  note_continues new line line_is note (Ok done) few goes told = note_told new note few goes told
  note_continues new line line_is note (Err status) few goes halts =
      halts.ends t tape start failures out
      (untold halts.mid line line_is (record behind { messages = at.messages ++ note }) note halts.halt goes refl refl (IsLeftOf-looked_then left.looked tape) halts.tells)

  -- a limit of the source's own
  pub source_stopped : (limit : Limit) → EndsThere (Stopped limit) old.unread left taken → step old.limits from ≡ ending_as (Limited limit) from
      → OutcomeOf old.limits t tape (Limited limit) start (seen failures out err)
  source_stopped limit ends goes = inl (record {
    state = ending_as (Limited limit) from;
    reaches = record {
      comes = ToldLeads-to old.limits (initial old.limits t.start t.tape) from (ending_as (Limited limit) from)
          (told_reached old.limits t start (seen failures out err) from reached)
          (told_step-quiet old.limits from (ending_as (Limited limit) from) err.room refl reached.room goes refl);
      text = reached.text;
      messages = reached.messages;
      faults = reached.faults;
    };
    ended = refl;
    rest = inl (all_left old.unread.looked taken tape ends.looked ends.taken_is);
    fault = λ wrong. cc;
  })
