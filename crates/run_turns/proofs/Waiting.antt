-- A turn in which what is half read waits for a byte: what is seen, and what is done with it.
use Rattle.std.proofs.Common.{◌≡◌, ℕ, ◌<◌, ◌≤◌, true, false, List, [], ◌++◌, length, Option, Some, None, Result, Err, refl, sym, ap, subst, ◌∙◌, arith}
use Rattle.roff_num.specs.declared.limit.Limit.{Limit}
use Rattle.input_model.specs.declared.place.Place.{Place}
use Rattle.input_escapes.specs.Waiting.{decides as decides_by, is_ended_by}
use Rattle.input_escapes.specs.declared.open_escape.Waiting.{Waiting}
use Rattle.input_escapes.specs.declared.open_escape.Waiting.TheVariants.{Decides}
use Rattle.input_source.specs.Tape.{Tape, Item, Ending, Failed, Stopped, items_then}
use Rattle.roff_num.specs.Faults.{Rises}
use Rattle.input_model.specs.Unread.{asks_to_look, looking, looking_past}
use Rattle.input_model.specs.Shown.{Sighted, SeesNothing, SeesNote, SeesEnding, seen_ahead}
use Rattle.roff_scan.specs.Unread.Calls.{Looks}
use Rattle.run_model.specs.declared.message.Message.TheVariants.{ReadFailed}
use Rattle.run_model.specs.declared.status.Status.{Status}
use Rattle.run_model.specs.declared.status.Status.TheVariants.{Device, Limit as Limited}
use Rattle.run_model.specs.Messages.{message_line}
use Rattle.run_model.specs.Output.{PageHistory}
use Rattle.run_model.specs.Reading.Items.{PageUnread, PageInput}
use Rattle.run_model.specs.Run.{State, awaited, escape_ends, in_front_taken, known, read_waiting, item_read, step}
use Rattle.run_model.specs.Reading.{escape_ended}
use Rattle.run_model.specs.Reading.Waiting.{waiting_in}
use Rattle.run_model.specs.declared.line_state.LineState.{LineState}
use Rattle.run_turns.specs.declared.running.Running.{Running as Coded}
use Rattle.run_items.specs.Outcome.{Beginning, Seen, seen}
use Rattle.run_turns.specs.Running.Turning.{DoesItem, IsAt, StepDoes, TurnsBy, state_at, turns_with}
use Rattle.page_bytes.specs.Sinks.{Sunk, Puts}
use Rattle.run_items.specs.Room.{FewFor, SeesOn}
use Rattle.run_items.proofs.EndsUnseen.{few-unseen}
use Rattle.run_items.proofs.Fronts.{few-appended}
use Rattle.run_items.proofs.Calls.{EndsThere, EndsThere-looks, Leaves, Leaves-looks, Leaves-deciding}
use Rattle.run_turns.specs.Running.Telling.{TellsOrHalts}
use Rattle.run_turns.proofs.Items.{looked_at, moved, note_continues, source_failed, source_stopped}
use Rattle.run_turns.proofs.Turns.{LeavesFewer, acted, leaves_fewer, on_ok, on_ok-then, turned, turns_of}
use Rattle.run_model.proofs.InFront.{Given-asked, IsNoNote, Looks-looking, items_asked, over_unread, over_unread-looking, seen as seen_step, sighted_step}
use Rattle.run_model.proofs.TurnsToCome.{turns_within-escape_ended}
use Rattle.run_model.proofs.Waiting.{ended-deciding, length-is_ended_by}
use Rattle.run_items.proofs.Sighted.{ShowsFront, no_note_in_front, sighted_step-front, front_step-by, few-ended_by, sees-front, items_then-append}

-- the call that looks ahead
module _ {gave gives : Tape → Type 0} {left : PageUnread} {sight : Sighted} (old : Coded) (call : Looks gave gives old.unread left sight) where
  -- what it took
  abbrev pub taken : List Item
  taken = items_asked (asks_to_look old.unread) call.answer

  -- what it leaves is what the definition's call does
  left_is : looking call.answer old.unread ≡ (sight, left)
  left_is = sym call.seen

  pub leaves_look : Leaves gave gives old.unread left taken
  leaves_look = subst (λ (c : Sighted × PageUnread). Leaves gave gives old.unread c.1 taken) left_is (Leaves-looks gave gives old.unread call.answer call.asked)

  ends_look : (ending : Ending) → sight ≡ SeesEnding ending → EndsThere ending old.unread left taken
  ends_look ending = subst (λ (c : Sighted × PageUnread). c.0 ≡ SeesEnding ending → EndsThere ending old.unread c.1 taken) left_is (EndsThere-looks old.unread call.answer ending)

  -- it leaves the input
  pub input_look : left.input ≡ old.unread.input
  input_look = subst (λ (c : Sighted × PageUnread). c.1.input ≡ old.unread.input) left_is (Looks-looking call.answer old.unread).input

  -- as few events stand in front
  pub few_look : FewFor [] old.interpreter.reader.reading old.unread.input.escapes old.unread.input.ahead → FewFor [] old.interpreter.reader.reading left.input.escapes left.input.ahead
  few_look = subst (λ (i : PageInput). FewFor [] old.interpreter.reader.reading i.escapes i.ahead) (sym input_look)

  -- where nothing that can be read is in front it shows that
  pub nothing_look : seen_ahead left.input.ahead ≡ Some SeesNothing → sight ≡ SeesNothing
  nothing_look none =
      let seen : seen_ahead old.unread.input.ahead ≡ Some SeesNothing = subst (λ (i : PageInput). seen_ahead i.ahead ≡ Some SeesNothing) input_look none in
      ap (λ (c : Sighted × PageUnread). c.0) (sym left_is) ∙ ap (λ (o : Option Sighted). (looking_past o call.answer old.unread).0) seen

  -- the step is what the look shows
  sighted_look : (tape : Tape) → gives tape → (h : PageHistory) (ms : List ℕ) → let from : State = state_at (items_then taken tape) old h ms in
      awaited old.limits (seen_ahead old.unread.input.ahead) from ≡ sighted_step old.limits sight from (state_at tape (moved old left) h ms)
  sighted_look tape may h ms =
      let from : State = state_at (items_then taken tape) old h ms in
      seen_step old.limits old.unread call.answer (items_then taken tape) tape from (Given-asked gave gives (asks_to_look old.unread) call.answer call.asked tape may)
      ∙ ap (λ (c : Sighted × PageUnread). sighted_step old.limits c.0 from (over_unread c.1 tape from)) left_is

  -- a look that shows no message changes nothing of the state
  unmoved_look : IsNoNote sight → (tape : Tape) → gives tape → (h : PageHistory) (ms : List ℕ)
      → state_at tape (moved old left) h ms ≡ state_at (items_then taken tape) old h ms
  unmoved_look quiet tape may h ms =
      let from : State = state_at (items_then taken tape) old h ms in
      let given = Given-asked gave gives (asks_to_look old.unread) call.answer call.asked tape may in
      subst (λ (c : Sighted × PageUnread). IsNoNote c.0 → over_unread c.1 tape from ≡ from) left_is
      (over_unread-looking old.unread call.answer (items_then taken tape) tape from given) quiet

pub sees-look : {gave gives : Tape → Type 0} {left : PageUnread} {sight : Sighted} (old : Coded) (call : Looks gave gives old.unread left sight) (seen_byte : Option ℕ)
    → ShowsFront seen_byte sight → is_ended_by left.input.escapes seen_byte ≡ false → SeesOn left.input
sees-look {gave} {gives} {left} {sight} old call seen_byte is goes_on = sees-front left.input seen_byte sight is goes_on (nothing_look old call)

-- a turn in which what is half read waits
abbrev WaitingTurn : (gave gives : Tape → Type 0) → ℕ → ℕ → Coded → Coded → Seen → Seen → Result (Unit {0}) Status → Type 0
WaitingTurn gave gives noted notes old new now after r =
    TurnsBy (λ s. awaited old.limits (seen_ahead s.input.ahead) s) gave gives noted notes old new now after r

module _ {gave gives : Tape → Type 0} {left : PageUnread} (old : Coded) (failed failures : ℕ) (out err : Sunk) (noted notes : ℕ) (more : failed ≤ failures) (less : notes ≤ noted) where
  -- what is seen stays: what is half read ends
  pub waiting_ends : (seen_byte : Option ℕ) (sight : Sighted) (new : Coded) (after : Seen) (r : Result (Unit {0}) Status) → ShowsFront seen_byte sight
      → Looks gave gives old.unread left sight → is_ended_by left.input.escapes seen_byte ≡ true → DoesItem left.input.line escape_ends (moved old left) new (seen failures out err) after r
      → WaitingTurn gave gives noted notes old new (seen failed out err) after r
  waiting_ends seen_byte sight new after r is call stays acts =
      let leaves = leaves_look old call in
      let same : left.input ≡ old.unread.input = input_look old call in
      let fewer : LeavesFewer escape_ends old left r = leaves_fewer escape_ends old left r (λ s is same_reading.
      let some : 1 ≤ length s.input.escapes = rw is (length-is_ended_by left.input.escapes seen_byte stays) in (
        omega (arith, turns_within-escape_ended old.unread.limits.bytes (known s) s.reading s.input some, turns_of left old.unread.limits s.input leaves.limits (sym is), leaves.turns),
        refl,
      )) in
      acted leaves _ noted notes escape_ends left.input.line new failed failures out err after r more less (ap (λ (i : PageInput). i.line) same)
      (λ limits tape may h ms.
      let from : State = state_at (items_then (taken old call) tape) old h ms in
      let behind : State = state_at tape (moved old left) h ms in
      sighted_look old call tape may h ms ∙ sighted_step-front old.limits seen_byte sight from behind is ∙ front_step-by old.limits seen_byte from behind true stays)
      fewer
      (λ tape h ms few.
      let s : State = state_at tape (moved old left) h ms in
      few-appended (escape_ended (known s) s.reading left.input) left.input.ahead
      (few-ended_by (known s) s.reading left.input seen_byte sight is stays (nothing_look old call) (subst (λ (i : PageInput). FewFor [] s.reading i.escapes i.ahead) (sym same) few)))
      acts

  -- a message of the source's
  pub waiting_note : (note : List ℕ) (told : Sunk) (line : ℕ) (r : Result (Unit {0}) Status) → Looks gave gives old.unread left (SeesNote note) → notes < noted
      → line ≡ old.unread.input.line → TellsOrHalts old.limits line note err told r
      → WaitingTurn gave gives noted notes old (moved old left) (seen failed out err) (seen failures out told) r
  waiting_note note told line r call fewer line_is tells =
      let leaves = leaves_look old call in
      turned leaves _ noted notes (moved old left) (seen failed out err) (seen failures out told) r refl (λ t tape start may at goes. (
        note_continues leaves failed failures out err more t tape start may at told line line_is note r (few_look old call at.few) (goes ∙ sighted_look old call tape may at.history at.messages) tells,
        on_ok r (omega (arith, fewer, leaves.turns)),
      ))

  -- a fault of the source
  pub waiting_failed : {F : Type 0} (report : Result (Unit {0}) F) (told : Sunk) (status : Status) → Looks gave gives old.unread left (SeesEnding Failed)
      → status ≡ Device → Rises failed failures → Puts err told (message_line left.input.line ReadFailed) report
      → WaitingTurn gave gives noted notes old (moved old left) (seen failed out err) (seen failures out told) (Err status)
  waiting_failed report told status call is rises puts =
      let leaves = leaves_look old call in
      turned leaves _ noted notes (moved old left) (seen failed out err) (seen failures out told) (Err status) refl (λ t tape start may at goes. (
        rw is (source_failed leaves failed failures out err more t tape start may at told left.input.line report (ends_look old call Failed refl) refl
            (goes ∙ sighted_look old call tape may at.history at.messages) rises puts),
        tt,
      ))

  -- a limit of the source's own
  pub waiting_stopped : (limit : Limit) → Looks gave gives old.unread left (SeesEnding (Stopped limit))
      → WaitingTurn gave gives noted notes old (moved old left) (seen failed out err) (seen failures out err) (Err (Limited limit))
  waiting_stopped limit call =
      let leaves = leaves_look old call in
      turned leaves _ noted notes (moved old left) (seen failed out err) (seen failures out err) (Err (Limited limit)) refl (λ t tape start may at goes.
      (source_stopped leaves failed failures out err more t tape start may at limit (ends_look old call (Stopped limit) refl) (goes ∙ sighted_look old call tape may at.history at.messages), tt))

-- a condition that is read decides
pub waiting_decides :
    (gives : Tape → Type 0) (old new : Coded) (failures : ℕ) (out err : Sunk) (notes : ℕ) (after : Seen) (r : Result (Unit {0}) Status)
    → waiting_in old.interpreter.reader.reading old.unread.input ≡ Decides
    → DoesItem old.unread.input.line escape_ends old new (seen failures out err) after r
    → TurnsBy (λ s. item_read old.limits s) gives gives notes notes old new (seen failures out err) after r
waiting_decides gives old new failures out err notes after r decides acts =
    let reading : LineState = old.interpreter.reader.reading in
    let place : Place = old.unread.input.arguments.place in
    let stays : is_ended_by old.unread.input.escapes None ≡ true = ended-deciding reading place old.unread.input.escapes None (ap decides_by decides) in
    let fewer : LeavesFewer escape_ends old old.unread r = leaves_fewer escape_ends old old.unread r (λ s is same_reading.
    let some : 1 ≤ length s.input.escapes = rw is (length-is_ended_by old.unread.input.escapes None stays) in (
      omega (arith, turns_within-escape_ended old.unread.limits.bytes (known s) s.reading s.input some, turns_of old.unread old.unread.limits s.input refl (sym is)),
      refl,
    )) in
    acted (Leaves-deciding gives old.unread stays) _ notes notes escape_ends old.unread.input.line new failures failures out err after r (omega arith) (omega arith) refl
    (λ limits tape may h ms.
    let s : State = state_at tape old h ms in
    ap (λ (w : Waiting). read_waiting old.limits w s) decides)
    fewer
    (λ tape h ms few.
    let s : State = state_at tape old h ms in
    few-appended (escape_ended (known s) s.reading old.unread.input) old.unread.input.ahead (few-unseen (known s) s.reading old.unread.input stays few))
    acts

-- what is seen stays, and a turn follows that takes the item in front
module _ {gave mid gives : Tape → Type 0} {left : PageUnread} {sight : Sighted} (old : Coded) (call : Looks gave mid old.unread left sight)
    (seen_byte : Option ℕ) (is_front : ShowsFront seen_byte sight) (goes_on : is_ended_by left.input.escapes seen_byte ≡ false)
    (failed failures : ℕ) (out err : Sunk) (noted kept notes : ℕ) (new : Coded) (after : Seen) (r : Result (Unit {0}) Status) (more : failed ≤ failures) (less : kept ≤ noted)
    (turn : TurnsBy (λ s. in_front_taken old.limits s.input.ahead s) mid gives kept notes (moved old left) new (seen failures out err) after r) where
  -- what both took
  abbrev both : List Item
  both = taken old call ++ turn.taken

  -- the run stands before the look, over a tape, and the definition takes its step; and the same behind the look
  abbrev Stands : Beginning → Tape → Seen → Type 0
  Stands t whole start =
      (at : IsAt t whole start (seen failed out err) old) × StepDoes (λ s. awaited old.limits (seen_ahead s.input.ahead) s) whole old at.history at.messages

  abbrev StandsBehind : Beginning → Tape → Seen → Type 0
  StandsBehind t whole start =
      (at : IsAt t whole start (seen failures out err) (moved old left)) × StepDoes (λ s. in_front_taken old.limits s.input.ahead s) whole (moved old left) at.history at.messages

  -- one follows from the other
  behind_look : (t : Beginning) (whole : Tape) (start : Seen) → mid whole → Stands t (items_then (taken old call) whole) start → StandsBehind t whole start
  behind_look t whole start may stands =
      let at = stands.0 in
      let from : State = state_at (items_then (taken old call) whole) old at.history at.messages in
      let behind : State = state_at whole (moved old left) at.history at.messages in
      let same : behind ≡ from = unmoved_look old call (no_note_in_front seen_byte sight is_front) whole may at.history at.messages in (
        looked_at (leaves_look old call) failed failures out err more t whole start may at same (few_look old call at.few),
        ap (λ (s : State). step old.limits s) same ∙ stands.1 ∙ sighted_look old call whole may at.history at.messages
            ∙ sighted_step-front old.limits seen_byte sight from behind is_front ∙ front_step-by old.limits seen_byte from behind false goes_on,
      )

  -- over a tape that begins with what both took
  stands_behind : (t : Beginning) (tape : Tape) (start : Seen) → gives tape → Stands t (items_then both tape) start → StandsBehind t (items_then turn.taken tape) start
  stands_behind t tape start may stands =
      let whole : Tape = items_then turn.taken tape in
      let same : items_then both tape ≡ items_then (taken old call) whole = items_then-append (taken old call) turn.taken tape in
      behind_look t whole start (turn.before tape may) (subst (λ (u : Tape). Stands t u start) same stands)

  pub waiting_in_front : WaitingTurn gave gives noted notes old new (seen failed out err) after r
  waiting_in_front = record {
    limits = turn.limits;
    taken = both;
    before = λ tape may. subst gave (sym (items_then-append (taken old call) turn.taken tape)) ((leaves_look old call).before (items_then turn.taken tape) (turn.before tape may));
    comes = λ t tape start may at goes.
        let behind = stands_behind t tape start may (at, goes) in turn.comes t tape start may behind.0 behind.1;
    turns = λ t tape start may at goes.
        let behind = stands_behind t tape start may (at, goes) in
        on_ok-then r (λ (falls : turns_with new notes < turns_with (moved old left) kept). omega (arith, falls, less, (leaves_look old call).turns))
        (turn.turns t tape start may behind.0 behind.1);
  }
