-- What is due before anything more is taken: a message is told, or ends the run, or the input is left.
use Rattle.std.proofs.Common.{◌≡◌, ◌≤◌, ◌-◌, ◌==◌, if◌then◌else◌, ℕ, Bool, true, false, List, [], ◌++◌, Option, Some, None, Ok, Err, inl, inr, refl, sym, subst, ap, ◌∙◌, arith, append-nil}
use Rattle.roff_num.specs.declared.limit.Limit.{Limit}
use Rattle.input_model.specs.Arguments.{no_arguments}
use Rattle.input_model.specs.Input.{leaving, outermost_back}
use Rattle.run_model.specs.Reading.Returns.{going_back, gone_back_to, line_of}
use Rattle.run_model.specs.PageEvents.{PageEvent}
use Rattle.run_events.specs.declared.formatter.Formatter.{Formatter}
use Rattle.run_events.specs.Formatter.Performing.{PerformsEvents, acting, behind_events}
use Rattle.run_model.specs.TurnsToCome.{begun}
use Rattle.run_model.specs.declared.phase.Phase.{Phase}
use Rattle.run_model.specs.declared.phase.Phase.TheVariants.{Reading, LastMacro, Closing}
use Rattle.run_turns.specs.Running.Leaving.{LeavesIn, LeavesInput as LeavesInputIn}
use Rattle.input_source.specs.Tape.{Tape}
use Rattle.run_model.specs.Messages.{told_line}
use Rattle.run_model.specs.Reading.Ends.{due}
use Rattle.run_model.specs.Reading.Messages.{message_text_read}
use Rattle.run_model.specs.Run.{State, aborted, initial, input_left, left_in, made, message_told, reading_by, step, unless_refused}
use Rattle.run_model.specs.Run.Counts.{counts_in, first_passed}
use Rattle.run_model.specs.declared.line_state.Due.{Due}
use Rattle.run_model.specs.declared.line_state.Due.TheVariants.{Leaves as LeavesInput, Tells}
use Rattle.run_model.specs.declared.line_state.LineState.{LineState}
use Rattle.run_model.specs.declared.line_state.LineState.TheVariants.{LineStart, Branch, Braced, Text as InText}
use Rattle.run_model.specs.declared.status.Status.{Status}
use Rattle.run_model.specs.declared.status.Status.TheVariants.{Aborted, Device}
use Rattle.run_model.proofs.InputCounts.{NoMore-leaving, NoMore-released, first_passed-no_more}
use Rattle.run_turns.specs.declared.running.Running.{Running as Coded}
use Rattle.run_items.specs.Outcome.{Beginning, Seen, OutcomeOf, seen}
use Rattle.run_turns.specs.Running.Turning.{IsAt, DoesDue, line_turns, lines_left_in, state_at}
use Rattle.page_bytes.specs.Sinks.{Sunk, Writes, Fails}
use Rattle.run_items.proofs.Fronts.{few-nothing, few-over}
use Rattle.run_items.proofs.Halted.{IsLeftOf-looked_then}
use Rattle.run_items.proofs.StatesBehind.{back_performed}
use Rattle.run_turns.proofs.Items.{lost, one_last, one_more, untold}
use Rattle.run_events.specs.declared.halt.Halt.{Halt}
use Rattle.run_items.specs.Halting.{Halts, line_told}
use Rattle.run_items.specs.Reporting.{IsTold, Tells as TellsAll}
use Rattle.run_items.proofs.Bounded.{told_step-quiet}
use Rattle.run_turns.proofs.TurnsLeft.{line_turns-by, lines_left_in-few}
use Rattle.input_model.specs.Looking.{closing, looked_then}
use Rattle.run_items.specs.Performing.{going}
use Rattle.run_model.proofs.Leads.{Leads-to}
use Rattle.run_items.proofs.DueLeft.{Leaves-nothing, behind_message, rest_aborted, looked-closing, closed-closing}

-- where nothing is due the run stays as it is
pub nothing_due : (old : Coded) (now : Seen) → due old.interpreter.reader.reading ≡ None → DoesDue old old now now (Ok tt)
nothing_due old now none = record {
  limits = refl;
  idle = λ is. (refl, refl);
  does_due = λ t tape start at. at;
  none_due = none;
  turns = omega arith;
}

-- where something is due a line has been read
due-line : (reading : LineState) (what : Due) (left : ℕ) → due reading ≡ Some what → 2 ≤ line_turns reading left
due-line reading what left is = elim (line_turns-by reading) [
  | inl begins ↦ let wrong = sym begins.1.0 ∙ is in absurd (cc)
  | inr within ↦ let two = within.1 left in omega (arith, two)
]

-- where its text is released no count is above its limit
released_within : (run : Coded) → first_passed run.unread.limits (counts_in run.interpreter.reader.registers.all run.unread.input) ≡ None
    → first_passed run.unread.limits (counts_in run.interpreter.reader.registers.all (record run.unread.input { arguments = no_arguments })) ≡ None
released_within run none =
    first_passed-no_more run.unread.limits run.interpreter.reader.registers.all (record run.unread.input { arguments = no_arguments }) run.unread.input (NoMore-released run.unread.input) none

-- where a message is due
module _ (old : Coded) (aborts : Bool) (is : due old.interpreter.reader.reading ≡ Some (Tells aborts)) (failures : ℕ) (out err told : Sunk) where
  -- it isn't so that nothing is
  something_due : {A : Type 0} → due old.interpreter.reader.reading ≡ None → A
  something_due none = let wrong : None ≡ Some (Tells aborts) = sym none ∙ is in absurd (cc)

  -- what is told
  abbrev line : List ℕ
  line = told_line aborts (message_text_read old.unread.input)

  module _ (t : Beginning) (tape : Tape) (start : Seen) (at : IsAt t tape start (seen failures out err) old) where
    abbrev from : State
    from = state_at tape old at.history at.messages

    allowed : first_passed old.limits (counts_in old.interpreter.reader.registers.all (record old.unread.input { arguments = no_arguments })) ≡ None
    allowed = rw (← at.limits) (released_within old at.ready.within)

    -- the step tells it
    step-of : (a : Bool) → due old.interpreter.reader.reading ≡ Some (Tells a) → step old.limits from ≡ behind_message a from
    step-of true is_due = ap (λ (what : Option Due). reading_by old.limits what from) is_due
    step-of false is_due =
        ap (λ (what : Option Due). reading_by old.limits what from) is_due
        ∙ ap (λ (r : Option Limit). unless_refused old.limits r from (message_told from)) allowed

-- the message sink failed with the one that ends the run
pub failed_due : (old : Coded) (failures : ℕ) (out err told : Sunk) → due old.interpreter.reader.reading ≡ Some (Tells true)
    → Fails err told (told_line true (message_text_read old.unread.input)) → DoesDue old old (seen failures out err) (seen failures out told) (Err Device)
failed_due old failures out err told is part = record {
  limits = refl;
  idle = λ none. something_due old true is failures out err told none;
  does_due = λ t tape start at.
      let from : State = state_at tape old at.history at.messages in
      let goes = step-of old true is failures out err told t tape start at true is in
      inr (inr (inl (lost (Leaves-nothing tape old.unread) failures failures out err (omega arith) t tape start refl at told (aborted from)
      (told_line true (message_text_read old.unread.input)) (told_step-quiet old.limits from (aborted from) err.room refl at.reaches.room goes refl)
      refl (IsLeftOf-looked_then old.unread.looked tape) part)));
  none_due = tt;
  turns = tt;
}

-- a message was told that ends the run
pub aborted_due : (old : Coded) (failures : ℕ) (out err told : Sunk) → due old.interpreter.reader.reading ≡ Some (Tells true)
    → Writes err told (told_line true (message_text_read old.unread.input)) → DoesDue old old (seen failures out err) (seen failures out told) (Err Aborted)
aborted_due old failures out err told is writes = record {
  limits = refl;
  idle = λ none. something_due old true is failures out err told none;
  does_due = λ t tape start at.
      let from : State = state_at tape old at.history at.messages in
      inl (record {
        state = aborted from;
        reaches =
            one_last (Leaves-nothing tape old.unread) failures failures out err (omega arith) t tape start refl at told (aborted from)
            (told_line true (message_text_read old.unread.input)) (step-of old true is failures out err told t tape start at true is) refl refl refl writes;
        ended = refl;
        rest = rest_aborted tape (aborted from) (IsLeftOf-looked_then old.unread.looked tape);
        fault = λ wrong. cc;
      });
  none_due = tt;
  turns = tt;
}

-- the code behind a message
abbrev pub behind_told : Coded → Coded
behind_told old = record old {
  interpreter = record old.interpreter { reader = record old.interpreter.reader { reading = LineStart } };
  unread = record old.unread { input = record old.unread.input { arguments = no_arguments } };
}

-- one was told, and the run goes on
pub told_due : (old : Coded) (failures : ℕ) (out err told : Sunk) → due old.interpreter.reader.reading ≡ Some (Tells false)
    → IsTold err told (told_line false (message_text_read old.unread.input))
    → DoesDue old (behind_told old) (seen failures out err) (seen failures out told) (Ok tt)
told_due old failures out err told is writes = record {
  limits = refl;
  idle = λ none. something_due old false is failures out err told none;
  does_due = λ t tape start at.
      let from : State = state_at tape old at.history at.messages in
      let line : List ℕ = told_line false (message_text_read old.unread.input) in record {
        history = at.history;
        messages = at.messages ++ line;
        reaches =
            one_more (Leaves-nothing tape old.unread) failures failures out err (omega arith) t tape start refl at told (message_told from)
            line (step-of old false is failures out err told t tape start at false is) refl (append-nil (at.messages ++ line)) writes;
        stands = at.stands;
        ready = record { cap = at.ready.cap; line = at.ready.line; within = released_within old at.ready.within };
        limits = at.limits;
        few = few-over [] LineStart old.unread.input.escapes old.unread.input.ahead at.few.few tt;
      };
  none_due = refl;
  turns = (let line = due-line old.interpreter.reader.reading (Tells false) (lines_left_in old.interpreter.formatter.composer) is in
      let few = lines_left_in-few old.interpreter.formatter.composer in
      omega (arith, line, few));
}

-- or it wasn't told, which halted the run
pub untold_due : (old : Coded) (failures : ℕ) (out err mid told : Sunk) (halt : Halt) (status : Status) → due old.interpreter.reader.reading ≡ Some (Tells false)
    → TellsAll err mid (told_line false (message_text_read old.unread.input)) (Err halt)
    → ((t : Beginning) (left : Tape) (start : Seen) (failures : ℕ) (out : Sunk)
    → Halts old.limits t left (line_told halt old.unread.input.line old.unread.input.line) halt start (seen failures out mid)
    → OutcomeOf old.limits t left status start (seen failures out told))
    → DoesDue old old (seen failures out err) (seen failures out told) (Err status)
untold_due old failures out err mid told halt status is tells ends = record {
  limits = refl;
  idle = λ none. something_due old false is failures out err told none;
  does_due = λ t tape start at.
      let from : State = state_at tape old at.history at.messages in
      ends t tape start failures out
      (untold (Leaves-nothing tape old.unread) failures failures out err (omega arith) t tape start refl at mid old.unread.input.line refl (message_told from)
      (told_line false (message_text_read old.unread.input)) halt (step-of old false is failures out err told t tape start at false is) refl refl
      (IsLeftOf-looked_then old.unread.looked tape) tells);
  none_due = tt;
  turns = tt;
}

-- what all ends of bodies lead back to is no reading that takes a turn, and nothing is due then
abbrev IsResting : LineState → Type 0
IsResting reading = (begun reading ≡ 0) × ((left : ℕ) → left ≤ 1 → line_turns reading left ≤ 2) × (due reading ≡ None)

resting-back : (back : ℕ) → IsResting (gone_back_to back)
resting-back back = by (back == 0) (back == 1) (back == 2)
  where
    by : (start branch braced : Bool) → IsResting (if start then LineStart else if branch then Branch else if braced then Braced else InText (line_of (back - 3)))
    by true branch braced = (refl, (λ left few. omega (arith, few)), refl)
    by false true braced = (refl, (λ left few. omega arith), refl)
    by false false true = (refl, (λ left few. omega (arith, few)), refl)
    by false false false = (refl, (λ left few. omega arith), refl)

-- the code behind the end of all input, with this formatter
abbrev pub behind_left : Formatter → Coded → Coded
behind_left f old = record old {
  interpreter = record old.interpreter {
    formatter = f;
    reader = record old.interpreter.reader { reading = gone_back_to (outermost_back 0 old.unread.input.ahead) };
  };
  unread = record old.unread { input = leaving old.unread.input; looked = closing old.unread.looked };
}

-- the input is left: the run goes on in what its ends lead back to, with a closed source
left_due : (old : Coded) (f : Formatter) (now : Seen) → due old.interpreter.reader.reading ≡ Some LeavesInput → ((s : State) → left_in old.phase s ≡ input_left s)
    → ((told : Sunk) → PerformsEvents (going_back (gone_back_to (outermost_back 0 old.unread.input.ahead))) old.interpreter.formatter f told told (Ok None))
    → DoesDue old (behind_left f old) now now (Ok tt)
left_due old f now is leaves performs = record {
  limits = refl;
  idle = λ none. (let wrong : None ≡ Some LeavesInput = sym none ∙ is in absurd (cc));
  does_due = λ t tape start at.
      let from : State = state_at tape old at.history at.messages in
      let back : LineState = gone_back_to (outermost_back 0 old.unread.input.ahead) in
      let es : List PageEvent = going_back back ++ [] in
      let there : State = acting (state_at tape (behind_left f old) at.history at.messages) es at.history in
      let within : first_passed old.unread.limits (counts_in old.interpreter.reader.registers.all (leaving old.unread.input)) ≡ None =
      first_passed-no_more old.unread.limits old.interpreter.reader.registers.all (leaving old.unread.input) old.unread.input (NoMore-leaving old.unread.input) at.ready.within in
      let allowed : first_passed old.limits (counts_in old.interpreter.reader.registers.all (leaving old.unread.input)) ≡ None = rw (← at.limits) within in
      let at_tape : Tape → Bool → State = λ t closed. going t (leaving old.unread.input) back old.interpreter.reader.registers.all at.history at.messages old.phase closed es in
      let same : input_left from ≡ there =
      ap (λ (t : Tape). at_tape t true) (sym (looked-closing old.unread.looked tape))
      ∙ ap (λ (closed : Bool). at_tape (looked_then (closing old.unread.looked) tape) closed) (sym (closed-closing old.unread.looked)) in
      let goes : step old.limits from ≡ there =
      ap (λ (what : Option Due). reading_by old.limits what from) is
      ∙ ap (λ (s : State). made old.limits from s) (leaves from)
      ∙ ap (λ (r : Option Limit). unless_refused old.limits r from (input_left from)) allowed ∙ same in
      let came = back_performed back old.interpreter.formatter f old.limits t start now.failures now.out now.err
      (state_at tape (behind_left f old) at.history at.messages) at.history (performs now.out) at.stands (record {
        comes = Leads-to old.limits (initial old.limits t.start t.tape) from there at.reaches.comes goes;
        text = at.reaches.text;
        messages = at.reaches.messages;
        faults = at.reaches.faults;
        room = at.reaches.room;
      }) in record {
        history = behind_events old.interpreter.reader.registers.all (going_back back) at.history;
        messages = at.messages;
        reaches = came.reaches;
        stands = came.stands;
        ready = record { cap = at.ready.cap; line = at.ready.line; within = within };
        limits = at.limits;
        few = few-nothing back (leaving old.unread.input) refl;
      };
  none_due = (resting-back (outermost_back 0 old.unread.input.ahead)).2;
  turns = (let line = due-line old.interpreter.reader.reading LeavesInput (lines_left_in old.interpreter.formatter.composer) is in
      let resting = resting-back (outermost_back 0 old.unread.input.ahead) in
      let few = resting.1 (lines_left_in f.composer) (lines_left_in-few f.composer) in
      omega (arith, line, resting.0, few));
}

-- as the run closes nothing is left: a line begins
closing_due : (old : Coded) (now : Seen) → due old.interpreter.reader.reading ≡ Some LeavesInput → old.phase ≡ Closing
    → let behind : Coded = record old { interpreter = record old.interpreter { reader = record old.interpreter.reader { reading = LineStart } } } in
    DoesDue old behind now now (Ok tt)
closing_due old now is closes = record {
  limits = refl;
  idle = λ none. (let wrong : None ≡ Some LeavesInput = sym none ∙ is in absurd (cc));
  does_due = λ t tape start at.
      let from : State = state_at tape old at.history at.messages in
      let there : State = record from { reading = LineStart } in
      let allowed : first_passed old.limits (counts_in old.interpreter.reader.registers.all old.unread.input) ≡ None = rw (← at.limits) at.ready.within in
      let goes : step old.limits from ≡ there =
      ap (λ (what : Option Due). reading_by old.limits what from) is
      ∙ ap (λ (p : Phase). made old.limits from (left_in p from)) closes
      ∙ ap (λ (r : Option Limit). unless_refused old.limits r from there) allowed in
      record {
        history = at.history;
        messages = at.messages;
        reaches = record {
          comes = Leads-to old.limits (initial old.limits t.start t.tape) from there at.reaches.comes goes;
          text = at.reaches.text;
          messages = at.reaches.messages;
          faults = at.reaches.faults;
          room = at.reaches.room;
        };
        stands = at.stands;
        ready = at.ready;
        limits = at.limits;
        few = few-over [] LineStart old.unread.input.escapes old.unread.input.ahead at.few.few tt;
      };
  none_due = refl;
  turns = (let line = due-line old.interpreter.reader.reading LeavesInput (lines_left_in old.interpreter.formatter.composer) is in
      let few = lines_left_in-few old.interpreter.formatter.composer in
      omega (arith, line, few));
}

-- either, by the phase
pub leaves_due : (old new : Coded) (now : Seen) → due old.interpreter.reader.reading ≡ Some LeavesInput → LeavesInputIn old new → DoesDue old new now now (Ok tt)
leaves_due old new now is leaves = by old.phase refl leaves
  where
    by : (phase : Phase) → old.phase ≡ phase → LeavesIn phase old new → DoesDue old new now now (Ok tt)
    by Reading in_phase leaves =
        subst (λ (run : Coded). DoesDue old run now now (Ok tt)) (sym leaves.is)
        (left_due old new.interpreter.formatter now is (λ s. ap (λ (p : Phase). left_in p s) in_phase) leaves.performs)
    by LastMacro in_phase leaves =
        subst (λ (run : Coded). DoesDue old run now now (Ok tt)) (sym leaves.is)
        (left_due old new.interpreter.formatter now is (λ s. ap (λ (p : Phase). left_in p s) in_phase) leaves.performs)
    by Closing in_phase leaves = subst (λ (run : Coded). DoesDue old run now now (Ok tt)) (sym leaves) (closing_due old now is in_phase)
