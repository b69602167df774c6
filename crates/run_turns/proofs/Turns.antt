-- Turns of a run of the code: a call of the unread input, and what is done with what it shows.
use Rattle.std.proofs.Common.{◌≡◌, inl, ℕ, ◌+◌, ◌<◌, ◌≤◌, List, [], ◌∷◌, Result, Ok, Err, OnOk, refl, sym, ap, subst, ◌∙◌, arith}
use Rattle.roff_num.specs.declared.limit.Limit.{Limit}
use Rattle.roff_num.specs.declared.limits.Limits.{Limits}
use Rattle.input_model.specs.Input.{DoAhead}
use Rattle.input_source.specs.Tape.{Tape, Item, Ending, Ended, Failed, Stopped, items_then}
use Rattle.roff_num.specs.Faults.{Rises}
use Rattle.input_model.specs.Unread.{asks_to_take, taking}
use Rattle.input_model.specs.Shown.{Shown, ShowsByte, ShowsEnd, ShowsReturn, ShowsDo, ShowsNote, ShowsEnding, ShowsRefusal}
use Rattle.roff_scan.specs.Unread.Calls.{Takes}
use Rattle.input_escapes.specs.OpenEscape.{OpenEscape}
use Rattle.run_model.specs.PageEvents.{PageEvent}
use Rattle.run_model.specs.declared.message.Message.TheVariants.{ReadFailed}
use Rattle.run_model.specs.declared.status.Status.{Status}
use Rattle.run_model.specs.declared.status.Status.TheVariants.{Device, Limit as Limited}
use Rattle.run_model.specs.Messages.{message_line}
use Rattle.run_model.specs.Output.{PageHistory}
use Rattle.run_model.specs.Reading.Items.{PageUnread, PageInput}
use Rattle.run_model.specs.Reading.{byte_taking}
use Rattle.run_model.specs.Reading.Units.{interrupted}
use Rattle.run_model.specs.Reading.Ends.{is_unfinished}
use Rattle.run_model.specs.declared.line_state.LineState.{LineState}
use Rattle.run_model.specs.Run.{State, ahead_taken, byte_taken, ending_input, escape_ends, in_front_taken, input_ended, known, made}
use Rattle.run_model.specs.TurnsToCome.{begun, turns_to_come, turns_within}
use Rattle.run_events.specs.declared.halt.Halt.TheVariants.{Refused}
use Rattle.run_turns.specs.declared.running.Running.{Running as Coded}
use Rattle.run_items.specs.Outcome.{Beginning, Seen, OutcomeOf, seen}
use Rattle.run_turns.specs.Running.Turning.{DoesItem, Continues, IsAt, MayEnd, MayGoOn, StepDoes, TookFrom, TurnsBy, state_at, turns_at, turns_of_run, turns_with}
use Rattle.run_items.specs.Halting.{Halts}
use Rattle.run_items.specs.Ending.{input_ends}
use Rattle.page_bytes.specs.Sinks.{Sunk, Puts}
use Rattle.input_model.specs.Input.Few.{AreFew}
use Rattle.run_items.specs.Room.{FewFor, SeesOn}
use Rattle.run_items.proofs.Fronts.{few-ends, few-interrupted, few-taken}
use Rattle.run_model.proofs.ReadEvents.{Means-taking}
use Rattle.run_model.specs.Reading.Returns.{behind_return}
use Rattle.run_events.specs.declared.formatter.Formatter.{Formatter}
use Rattle.run_turns.specs.Running.Leaving.{GoesBack}
use Rattle.run_items.proofs.Calls.{EndsThere, EndsThere-takes, FewBehind, Leaves, Leaves-takes, few-taking, none-taking}
use Rattle.run_turns.specs.Running.Telling.{TellsOrHalts}
use Rattle.run_turns.proofs.Items.{end_passed, moved, return_passed, returned, note_continues, refused, source_failed, source_stopped, took}
use Rattle.run_model.proofs.InFront.{Given-asked, IsEnding, in_front, items_asked, over_unread, over_unread-ending, shown_step}
use Rattle.run_model.proofs.Behind.{begun-behind_return}
use Rattle.run_model.proofs.TurnsToCome.{IsTaken, turns_to_come-taking, turns_within-byte}
use Rattle.run_state.specs.Composer.Standing.{StandFor}
use Rattle.run_turns.proofs.TurnsLeft.{input_ends-fewer, turns_at-fewer, turns_at-run, turns_of_run-fewer}

-- fewer turns are to come of the run that goes on
abbrev pub Falls : ℕ → ℕ → Coded → Coded → Result (Unit {0}) Status → Type 0
Falls noted notes old new r = OnOk r (turns_with new notes < turns_with old noted)

-- the turns to come of an unread input that has these limits and this input
pub turns_of : (u : PageUnread) (l : Limits) (i : PageInput) → u.limits ≡ l → u.input ≡ i → turns_to_come u ≡ turns_within l.bytes i
turns_of u l i limits input =
    ap (λ (l : Limits). turns_within l.bytes u.input) limits ∙ ap (λ (i : PageInput). turns_within l.bytes i) input

-- what is done with an item leaves fewer turns than there were before the item, if the run goes on
abbrev pub LeavesFewer : (State → State) → Coded → PageUnread → Result (Unit {0}) Status → Type 0
LeavesFewer doing old left r =
    (tape : Tape) (h : PageHistory) (ms : List ℕ) → StandFor old.limits h old.interpreter.formatter.composer
    → OnOk r (turns_at old.unread.limits.bytes (doing (state_at tape (moved old left) h ms)) < turns_of_run old)

-- where a run goes on, this holds
pub on_ok : {A : Type 0} (r : Result (Unit {0}) Status) → A → OnOk r A
on_ok (Ok done) holds = holds
on_ok (Err status) holds = tt

-- so it does if less is to be read behind it, in the same phase
pub leaves_fewer : (doing : State → State) (old : Coded) (left : PageUnread) (r : Result (Unit {0}) Status)
    → ((s : State) → s.input ≡ left.input → s.reading ≡ old.interpreter.reader.reading
    → (turns_within old.unread.limits.bytes (doing s).input + begun (doing s).reading < turns_to_come old.unread + begun s.reading) × ((doing s).phase ≡ s.phase))
    → LeavesFewer doing old left r
leaves_fewer doing old left r fewer = λ tape h ms stood.
    let less = fewer (state_at tape (moved old left) h ms) refl refl in
    on_ok r (turns_at-fewer old.unread.limits.bytes old (doing (state_at tape (moved old left) h ms)) less.0 less.1)

-- a call took these items of the source, and left this
module _ {gave gives : Tape → Type 0} {old : Coded} {left : PageUnread} {taken : List Item} (leaves : Leaves gave gives old.unread left taken)
    (does : State → State) (noted notes : ℕ) where
  -- it is a turn if it continues where the definition takes its step
  pub turned : (new : Coded) (now after : Seen) (r : Result (Unit {0}) Status) → new.limits ≡ old.limits
      → ((t : Beginning) (tape : Tape) (start : Seen) → gives tape → (at : IsAt t (items_then taken tape) start now old)
      → StepDoes does (items_then taken tape) old at.history at.messages
      → Continues t tape start after r new × Falls noted notes old new r)
      → TurnsBy does gave gives noted notes old new now after r
  turned new now after r limits each = record {
    limits = limits;
    taken = taken;
    before = leaves.before;
    comes = λ t tape start may at goes. (each t tape start may at goes).0;
    turns = λ t tape start may at goes. (each t tape start may at goes).1;
  }

  -- what is done with the item leaves fewer turns
  fewer_behind : (doing : State → State) (line : ℕ) (new : Coded) (now after : Seen) (r : Result (Unit {0}) Status) → notes ≤ noted
      → LeavesFewer doing old left r → old.unread.limits ≡ old.limits
      → (acts : DoesItem line doing (moved old left) new now after r)
      → (t : Beginning) (tape : Tape) (start : Seen) (from : State) → TookFrom t tape start now line doing from (moved old left)
      → Falls noted notes old new r
  fewer_behind doing line new now after (Ok done) less fewer limits acts t tape start from took =
      let s : State = doing (state_at tape (moved old left) took.history took.messages) in
      let few : turns_at old.unread.limits.bytes s < turns_of_run old = fewer tape took.history took.messages took.stands in
      let is : turns_at old.limits.bytes s ≡ turns_at old.unread.limits.bytes s = ap (λ (l : Limits). turns_at l.bytes s) (sym limits) in
      let behind : turns_of_run new < turns_of_run old = omega (arith, acts.turns t tape start from took, is, few) in
      omega (arith, less, behind)
  fewer_behind doing line new now after (Err status) less fewer limits acts t tape start from took = tt

  -- what was taken is done
  pub acted : (doing : State → State) (line : ℕ) (new : Coded) (failed failures : ℕ) (out err : Sunk) (after : Seen) (r : Result (Unit {0}) Status)
      → failed ≤ failures → notes ≤ noted → line ≡ old.unread.input.line
      → (old.unread.limits ≡ old.limits → (tape : Tape) → gives tape → (h : PageHistory) (ms : List ℕ)
      → let from : State = state_at (items_then taken tape) old h ms in does from ≡ made old.limits from (doing (state_at tape (moved old left) h ms)))
      → LeavesFewer doing old left r
      → ((tape : Tape) (h : PageHistory) (ms : List ℕ) → FewFor [] old.interpreter.reader.reading old.unread.input.escapes old.unread.input.ahead
      → let done : State = doing (state_at tape (moved old left) h ms) in FewFor done.to_do done.reading done.input.escapes left.input.ahead)
      → DoesItem line doing (moved old left) new (seen failures out err) after r
      → TurnsBy does gave gives noted notes old new (seen failed out err) after r
  acted doing line new failed failures out err after r more less line_is shows fewer room acts =
      turned new (seen failed out err) after r acts.limits (λ t tape start may at goes.
      let from : State = state_at (items_then taken tape) old at.history at.messages in
      let own : DoesItem old.unread.input.line doing (moved old left) new (seen failures out err) after r =
      subst (λ (n : ℕ). DoesItem n doing (moved old left) new (seen failures out err) after r) line_is acts in
      let took_it : TookFrom t tape start (seen failures out err) old.unread.input.line doing from (moved old left) =
      took leaves failed failures out err more t tape start may at doing (goes ∙ shows at.limits tape may at.history at.messages) (room tape at.history at.messages at.few) in (
        own.acts t tape start from took_it,
        fewer_behind doing old.unread.input.line new (seen failures out err) after r less fewer at.limits own t tape start from took_it,
      ))

-- as many turns are to come where a quote is settled
turns-interrupted : (bytes : ℕ) (reading : LineState) (i : PageInput) → turns_within bytes (interrupted reading i) ≡ turns_within bytes i
turns-interrupted bytes reading i = refl

-- what ends at the input's end, by what is half read
ending_input-made : (l : Limits) (half : List OpenEscape) (s : State)
    → ending_input l half s ≡ made l s (elim half [ [] ↦ input_ended (is_unfinished s.phase (known s) s.reading) s | first ∷ others ↦ escape_ends s ])
ending_input-made l [] s = refl
ending_input-made l (first ∷ others) s = refl

-- the call that takes the item in front
module _ {gave gives : Tape → Type 0} {left : PageUnread} {item : Shown PageEvent} (old : Coded) (call : Takes gave gives old.unread left item) where
  -- what it took
  abbrev taken : List Item
  taken = items_asked (asks_to_take old.unread) call.answer

  -- what it leaves is what the definition's call does
  left_is : taking call.answer old.unread ≡ (item, left)
  left_is = sym call.taken

  pub leaves_front : Leaves gave gives old.unread left taken
  leaves_front = subst (λ (c : Shown PageEvent × PageUnread). Leaves gave gives old.unread c.1 taken) left_is (Leaves-takes gave gives old.unread call.answer call.asked)

  ends_front : (ending : Ending) → item ≡ ShowsEnding ending → EndsThere ending old.unread left taken
  ends_front ending = subst (λ (c : Shown PageEvent × PageUnread). c.0 ≡ ShowsEnding ending → EndsThere ending old.unread c.1 taken) left_is (EndsThere-takes old.unread call.answer ending)

  -- so few events stand in front behind it
  pub few_front : (reading : LineState) → AreFew old.unread.input.ahead → FewBehind old.unread.input reading item left.input
  few_front reading = subst (λ (c : Shown PageEvent × PageUnread). AreFew old.unread.input.ahead → FewBehind old.unread.input reading c.0 c.1.input) left_is
      (few-taking old.unread.input.ahead call.answer old.unread.input reading old.unread.looked old.unread)

  pub none_front : (ending : Ending) → item ≡ ShowsEnding ending → left.input.ahead ≡ []
  none_front ending = subst (λ (c : Shown PageEvent × PageUnread). c.0 ≡ ShowsEnding ending → c.1.input.ahead ≡ []) left_is
      (none-taking old.unread.input.ahead call.answer old.unread.input old.unread.looked old.unread ending)

  pub falls_front : IsTaken item → turns_to_come left + 5 ≤ turns_to_come old.unread
  falls_front = subst (λ (c : Shown PageEvent × PageUnread). IsTaken c.0 → turns_to_come c.1 + 5 ≤ turns_to_come old.unread) left_is (turns_to_come-taking call.answer old.unread)

  -- the step that takes the item is what the call shows
  pub shown_front : old.unread.limits ≡ old.limits → (tape : Tape) → gives tape → (h : PageHistory) (ms : List ℕ)
      → let from : State = state_at (items_then taken tape) old h ms in
      in_front_taken old.limits old.unread.input.ahead from ≡ shown_step old.limits item from (state_at tape (moved old left) h ms)
  shown_front limits tape may h ms =
      let from : State = state_at (items_then taken tape) old h ms in
      in_front old.limits old.unread call.answer (items_then taken tape) tape from (ap (λ (l : Limits). l.bytes) limits) (Given-asked gave gives (asks_to_take old.unread) call.answer call.asked tape may)
      ∙ ap (λ (c : Shown PageEvent × PageUnread). shown_step old.limits c.0 from (over_unread c.1 tape from)) left_is

  -- where the source's items end, nothing of the state changed
  unmoved_front : IsEnding item → (tape : Tape) → gives tape → (h : PageHistory) (ms : List ℕ)
      → state_at tape (moved old left) h ms ≡ state_at (items_then taken tape) old h ms
  unmoved_front is tape may h ms =
      let from : State = state_at (items_then taken tape) old h ms in
      let given = Given-asked gave gives (asks_to_take old.unread) call.answer call.asked tape may in
      subst (λ (c : Shown PageEvent × PageUnread). IsEnding c.0 → over_unread c.1 tape from ≡ from) left_is
      (over_unread-ending old.unread call.answer (items_then taken tape) tape from given) is

-- where a run goes on, one follows from the other
pub on_ok-then : {A B : Type 0} (r : Result (Unit {0}) Status) → (A → B) → OnOk r A → OnOk r B
on_ok-then (Ok done) f holds = f holds
on_ok-then (Err status) f holds = tt

-- a turn that takes the item in front
abbrev FrontTurn : (gave gives : Tape → Type 0) → ℕ → ℕ → Coded → Coded → Seen → Seen → Result (Unit {0}) Status → Type 0
FrontTurn gave gives noted notes old new now after r = TurnsBy (λ s. in_front_taken old.limits s.input.ahead s) gave gives noted notes old new now after r

module _ {gave gives : Tape → Type 0} {left : PageUnread} (old : Coded) (failed failures : ℕ) (out err : Sunk) (noted notes : ℕ) (more : failed ≤ failures) (less : notes ≤ noted) where
  -- a byte
  pub front_byte : (b line : ℕ) (new : Coded) (after : Seen) (r : Result (Unit {0}) Status) → Takes gave gives old.unread left (ShowsByte b)
      → line ≡ old.unread.input.line → DoesItem line (byte_taken b) (moved old left) new (seen failures out err) after r → FrontTurn gave gives noted notes old new (seen failed out err) after r
  front_byte b line new after r call line_is acts =
      let leaves = leaves_front old call in
      let fewer : LeavesFewer (byte_taken b) old left r = leaves_fewer (byte_taken b) old left r (λ s is same. (
        omega (arith, turns_within-byte old.unread.limits.bytes (known s) s.reading s.input b, turns_of left old.unread.limits s.input leaves.limits (sym is), falls_front old call tt),
        refl,
      )) in
      acted leaves _ noted notes (byte_taken b) line new failed failures out err after r more less line_is (shown_front old call) fewer
      (λ tape h ms few.
      let s : State = state_at tape (moved old left) h ms in
      few-taken (byte_taking (known s) s.reading left.input b) left.input.ahead (few_front old call s.reading few.few) (Means-taking (known s) s.reading left.input b).0) acts

  -- an event that was put back
  pub front_event : SeesOn old.unread.input → (event : PageEvent) (line : ℕ) (new : Coded) (after : Seen) (r : Result (Unit {0}) Status) → Takes gave gives old.unread left (ShowsDo event)
      → line ≡ old.unread.input.line → DoesItem line (ahead_taken (DoAhead event)) (moved old left) new (seen failures out err) after r → FrontTurn gave gives noted notes old new (seen failed out err) after r
  front_event sees event line new after r call line_is acts =
      let leaves = leaves_front old call in
      let fewer : LeavesFewer (ahead_taken (DoAhead event)) old left r = leaves_fewer (ahead_taken (DoAhead event)) old left r (λ s is same. (
        omega (arith, turns-interrupted old.unread.limits.bytes s.reading s.input, turns_of left old.unread.limits s.input leaves.limits (sym is), falls_front old call tt),
        refl,
      )) in
      acted leaves _ noted notes (ahead_taken (DoAhead event)) line new failed failures out err after r more less line_is (shown_front old call) fewer
      (λ tape h ms few.
      let reading : LineState = old.interpreter.reader.reading in
      few-interrupted (event ∷ []) reading left.input (few_front old call reading few.few sees)) acts

  -- the end of a text
  pub front_end : SeesOn old.unread.input → Takes gave gives old.unread left ShowsEnd → FrontTurn gave gives noted notes old (moved old left) (seen failed out err) (seen failures out err) (Ok tt)
  front_end sees call =
      turned (leaves_front old call) _ noted notes (moved old left) (seen failed out err) (seen failures out err) (Ok tt) refl (λ t tape start may at goes. (
        end_passed (leaves_front old call) failed failures out err more t tape start may at (goes ∙ shown_front old call at.limits tape may at.history at.messages)
            (few_front old call old.interpreter.reader.reading at.few.few sees),
        (let behind = turns_of_run-fewer old (moved old left) (omega (arith, falls_front old call tt)) refl in omega (arith, less, behind)),
      ))

  -- the end of a body
  pub front_return : SeesOn old.unread.input → (back : ℕ) (new : Coded) → Takes gave gives old.unread left (ShowsReturn back)
      → GoesBack (behind_return back old.interpreter.reader.reading) (moved old left) new
      → FrontTurn gave gives noted notes old new (seen failed out err) (seen failures out err) (Ok tt)
  front_return sees back new call goes_back =
      let reading : LineState = behind_return back old.interpreter.reader.reading in
      let f : Formatter = new.interpreter.formatter in
      subst (λ (run : Coded). FrontTurn gave gives noted notes old run (seen failed out err) (seen failures out err) (Ok tt)) (sym goes_back.is)
      (turned (leaves_front old call) _ noted notes (returned reading f old left) (seen failed out err) (seen failures out err) (Ok tt) refl (λ t tape start may at goes. (
        return_passed (leaves_front old call) failed failures out err more t tape start may at reading f goes_back.performs
            (goes ∙ shown_front old call at.limits tape may at.history at.messages)
            (few_front old call reading at.few.few sees),
        (let behind = turns_of_run-fewer old (returned reading f old left) (omega (arith, falls_front old call tt, begun-behind_return back old.interpreter.reader.reading)) refl in
            omega (arith, less, behind)),
      )))

  -- a message of the source's
  pub front_note : SeesOn old.unread.input → (note : List ℕ) (told : Sunk) (line : ℕ) (r : Result (Unit {0}) Status) → Takes gave gives old.unread left (ShowsNote note) → notes < noted
      → line ≡ old.unread.input.line → TellsOrHalts old.limits line note err told r → FrontTurn gave gives noted notes old (moved old left) (seen failed out err) (seen failures out told) r
  front_note sees note told line r call fewer line_is tells =
      let leaves = leaves_front old call in
      turned leaves _ noted notes (moved old left) (seen failed out err) (seen failures out told) r refl (λ t tape start may at goes. (
        note_continues leaves failed failures out err more t tape start may at told line line_is note r (few_front old call old.interpreter.reader.reading at.few.few sees) (goes ∙ shown_front old call at.limits tape may at.history at.messages) tells,
        on_ok r (omega (arith, fewer, leaves.turns)),
      ))

  -- the end of the input
  pub front_ended : (new : Coded) (after : Seen) (r : Result (Unit {0}) Status) → Takes gave gives old.unread left (ShowsEnding Ended)
      → (MayEnd (moved old left) → DoesItem left.input.line input_ends (moved old left) new (seen failures out err) after r)
      → ((l : Limits) (h : PageHistory) → StandFor l h old.interpreter.formatter.composer → OnOk r (MayGoOn (moved old left) h)) → FrontTurn gave gives noted notes old new (seen failed out err) after r
  front_ended new after r call acts goes_on =
      let leaves = leaves_front old call in
      let ends = ends_front old call Ended refl in
      let bytes : ℕ = old.unread.limits.bytes in
      let fewer : LeavesFewer input_ends old left r = λ tape h ms stood.
      let s : State = state_at tape (moved old left) h ms in
      let same : turns_at bytes s ≡ turns_of_run old =
      ap (λ (u : PageUnread). turns_at bytes (state_at tape (moved old u) h ms)) ends.same ∙ turns_at-run tape old h ms old.limits stood in
      on_ok-then r (λ (may : MayGoOn (moved old left) h). subst (λ (n : ℕ). turns_at bytes (input_ends s) < n) same (input_ends-fewer bytes s refl may)) (goes_on old.limits h stood) in
      acted leaves _ noted notes input_ends left.input.line new failed failures out err after r more less (ap (λ (u : PageUnread). u.input.line) ends.same)
      (λ limits tape may h ms.
      let from : State = state_at (items_then (taken old call) tape) old h ms in
      shown_front old call limits tape may h ms
      ∙ ending_input-made old.limits from.input.escapes from
      ∙ ap (λ (s : State). made old.limits from (input_ends s)) (sym (unmoved_front old call tt tape may h ms)))
      fewer (λ tape h ms few. few-ends (state_at tape (moved old left) h ms) refl left.input.ahead (none_front old call Ended refl))
      (acts (subst (λ (u : PageUnread). MayEnd (moved old u)) (sym ends.same) ends.looked))

  -- a fault of the source
  pub front_failed : {F : Type 0} (report : Result (Unit {0}) F) (told : Sunk) (status : Status) → Takes gave gives old.unread left (ShowsEnding Failed)
      → status ≡ Device → Rises failed failures → Puts err told (message_line left.input.line ReadFailed) report
      → FrontTurn gave gives noted notes old (moved old left) (seen failed out err) (seen failures out told) (Err status)
  front_failed report told status call is rises puts =
      let leaves = leaves_front old call in
      turned leaves _ noted notes (moved old left) (seen failed out err) (seen failures out told) (Err status) refl (λ t tape start may at goes. (
        rw is (source_failed leaves failed failures out err more t tape start may at told left.input.line report (ends_front old call Failed refl) refl
            (goes ∙ shown_front old call at.limits tape may at.history at.messages) rises puts),
        tt,
      ))

  -- a limit of the source's own
  pub front_stopped : (limit : Limit) → Takes gave gives old.unread left (ShowsEnding (Stopped limit))
      → FrontTurn gave gives noted notes old (moved old left) (seen failed out err) (seen failures out err) (Err (Limited limit))
  front_stopped limit call =
      let leaves = leaves_front old call in
      turned leaves _ noted notes (moved old left) (seen failed out err) (seen failures out err) (Err (Limited limit)) refl (λ t tape start may at goes.
      (source_stopped leaves failed failures out err more t tape start may at limit (ends_front old call (Stopped limit) refl) (goes ∙ shown_front old call at.limits tape may at.history at.messages), tt))

  -- a limit refuses the item
  pub front_refused : (limit : Limit) (line : ℕ) (told : Sunk) (status : Status) → Takes gave gives old.unread left (ShowsRefusal limit)
      → line ≡ old.unread.input.line
      → ((t : Beginning) (tape : Tape) (start : Seen) (failures : ℕ) (out : Sunk) → Halts old.limits t tape line (Refused limit) start (seen failures out err)
      → OutcomeOf old.limits t tape status start (seen failures out told))
      → FrontTurn gave gives noted notes old (moved old left) (seen failed out err) (seen failures out told) (Err status)
  front_refused limit line told status call line_is halts =
      let leaves = leaves_front old call in
      turned leaves _ noted notes (moved old left) (seen failed out err) (seen failures out told) (Err status) refl (λ t tape start may at goes.
      let stops = refused leaves failed failures out err more t tape start may at limit line line_is (goes ∙ shown_front old call at.limits tape may at.history at.messages) in
      (halts t tape start failures out (inl stops), tt))

-- the same of a run whose unread input is this one
pub TurnsBy-same : (does : State → State) (gave gives : Tape → Type 0) (noted notes : ℕ) (old new : Coded) (u : PageUnread) (now behind : Seen) (r : Result (Unit {0}) Status)
    → u ≡ old.unread → TurnsBy does gave gives noted notes (record old { unread = u }) new now behind r → TurnsBy does gave gives noted notes old new now behind r
TurnsBy-same does gave gives noted notes old new u now behind r same turns =
    subst (λ (v : PageUnread). TurnsBy does gave gives noted notes (record old { unread = v }) new now behind r) same turns
