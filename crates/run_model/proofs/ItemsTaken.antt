-- Items that a run takes one after another.
use Rattle.std.proofs.Common.{◌≡◌, ℕ, ◌+◌, ◌-◌, ◌<◌, ◌≤◌, Bool, true, false, List, [], ◌∷◌, ◌++◌, length, Option, Some, None, refl, ap, ◌∙◌, arith, nat_lt, not, ◌||◌, map, IsTrue, if◌then◌else◌, le-ltb, append-nil}
use Rattle.roff_num.specs.declared.limit.Limit.{Limit}
use Rattle.roff_num.specs.declared.limit.Limit.TheVariants.{Bytes}
use Rattle.roff_num.specs.declared.limits.Limits.{Limits}
use Rattle.input_model.specs.Arguments.{Arguments}
use Rattle.input_escapes.specs.Waiting.{decides, is_ended_by}
use Rattle.input_escapes.specs.declared.open_escape.Waiting.{Waiting}
use Rattle.input_escapes.specs.declared.open_escape.Waiting.TheVariants.{Takes, Decides, Waits}
use Rattle.input_model.specs.Input.{Ahead, ByteAhead, counting, item_taken, pushed, depth, result_count}
use Rattle.input_model.specs.Input.Names.{names_added, stored}
use Rattle.input_source.specs.Tape.{Tape, Answer, Gives, Ends, Ended, OneByte, front, items_then}
use Rattle.input_model.specs.Shown.{seen_ahead}
use Rattle.input_escapes.specs.OpenEscape.{OpenEscape}
use Rattle.run_model.specs.declared.line_state.LineState.{LineState}
use Rattle.run_model.specs.ItemsTaken.{TakesItems, BytesAheadAreTaken, BytesOfTheSourceAreTaken}
use Rattle.run_model.specs.Within.{IsWithin}
use Rattle.run_model.specs.Reading.Ends.{due}
use Rattle.run_model.specs.Reading.Items.{PageInput, going_on}
use Rattle.run_model.specs.Registers.{AllRegisters}
use Rattle.run_model.specs.Requests.{PageEvent}
use Rattle.run_model.specs.TitleTexts.{title_length}
use Rattle.run_model.specs.Reading.Waiting.{waiting_in}
use Rattle.run_model.specs.Run.{State, nothing_follows, made, byte_taken, escape_ends, awaited, awaited_of_source, answered, moved, in_front_taken, taking_ahead, taking_byte, taken_as, grown, unless_refused, stopped_by, read_waiting, item_read, step, source_answer}
use Rattle.run_model.specs.Run.Counts.{first_passed}
use Rattle.run_model.proofs.Waiting.{undecided}

-- where bytes come from: they stand ahead of these items, or in the source in front of this tape
pub data Origin : Type 0 where
  FromAhead : (rest : List (Ahead PageEvent)) → Origin
  FromSource : (tape : Tape) → Origin

-- bytes of the source come where it isn't closed
abbrev pub IsOpenFor : Origin → Bool → Type 0
IsOpenFor (FromAhead rest) closed = Unit {0}
IsOpenFor (FromSource tape) closed = closed ≡ false

-- what is ahead of the source, where these bytes come first
abbrev pub ahead_at : Origin → List ℕ → List (Ahead PageEvent)
ahead_at (FromAhead rest) bytes = map ByteAhead bytes ++ rest
ahead_at (FromSource tape) bytes = []

-- the source's tape
abbrev pub tape_at : Origin → List ℕ → Tape → Tape
tape_at (FromAhead rest) bytes tape = tape
tape_at (FromSource behind) bytes tape = items_then (map OneByte bytes) behind

-- an input where these bytes come first
abbrev pub input_of : State → Origin → List ℕ → Arguments → List OpenEscape → ℕ → ℕ → PageInput
input_of s from bytes arguments half charge line =
    record s.input { ahead = ahead_at from bytes; arguments = arguments; escapes = half; charge = charge; line = line }

-- a run that reads this, where these bytes come first
abbrev pub going : State → LineState → Origin → List ℕ → Arguments → List OpenEscape → ℕ → ℕ → State
going s reading from bytes arguments half charge line = record s {
  tape = tape_at from bytes s.tape;
  input = input_of s from bytes arguments half charge line;
  reading = reading;
  to_do = [];
  follows = nothing_follows;
  is_closed = false;
  ended = None;
}

-- a byte ahead that doesn't end what is half read is taken, whether it is waited for or not
read-ahead : (l : Limits) (w : Waiting) (b : ℕ) (behind : List (Ahead PageEvent)) (s : State) → s.input.ahead ≡ ByteAhead b ∷ behind
    → is_ended_by s.input.escapes (Some b) ≡ false → decides w ≡ false → read_waiting l w s ≡ taking_ahead l (ByteAhead b) behind s
read-ahead l Takes b behind s ahead is undecided = ap (λ (items : List (Ahead PageEvent)). in_front_taken l items s) ahead
read-ahead l Decides b behind s ahead is undecided = absurd (cc)
read-ahead l Waits b behind s ahead is undecided =
    ap (λ (items : List (Ahead PageEvent)). awaited l (seen_ahead items) s) ahead
    ∙ ap (λ (c : Bool). if c then made l s (escape_ends s) else in_front_taken l s.input.ahead s) is
    ∙ ap (λ (items : List (Ahead PageEvent)). in_front_taken l items s) ahead

-- the input is read where a byte is ahead
item_read-byte : (l : Limits) (b : ℕ) (behind : List (Ahead PageEvent)) (s : State) → s.input.ahead ≡ ByteAhead b ∷ behind
    → is_ended_by s.input.escapes (Some b) ≡ false → item_read l s ≡ taking_ahead l (ByteAhead b) behind s
item_read-byte l b behind s ahead is =
    read-ahead l (waiting_in s.reading s.input) b behind s ahead is (undecided s.reading s.input.arguments.place s.input.escapes (Some b) is)

-- it is taken within the limit on bytes
taking_ahead-within : (l : Limits) (b : ℕ) (behind : List (Ahead PageEvent)) (s : State) → s.input.charge < l.bytes
    → taking_ahead l (ByteAhead b) behind s ≡ made l s (byte_taken b (record s { input = item_taken (ByteAhead b) behind s.input }))
taking_ahead-within l b behind s within =
    let done : State = made l s (byte_taken b (record s { input = item_taken (ByteAhead b) behind s.input })) in
    ap (λ (c : Bool). if c then stopped_by l Bytes s else done) (le-ltb l.bytes (s.input.charge + 1) (omega arith))

-- a step of a run that takes items
pub step-reads : (l : Limits) (s : State) → s.ended ≡ None → s.to_do ≡ [] → s.follows ≡ nothing_follows → due s.reading ≡ None → step l s ≡ item_read l s
step-reads l s going idle unsprung none_due = rw (going, idle, unsprung, none_due) refl

pub step-TakesItems : (l : Limits) (s : State) → TakesItems s → step l s ≡ item_read l s
step-TakesItems l s on = step-reads l s on.going on.idle on.unsprung on.none_due

-- a byte ahead is taken, whether the source is closed or not
pub byte_ahead_is_taken : (l : Limits) (s : State) (b : ℕ) (behind : List (Ahead PageEvent)) → s.ended ≡ None → s.to_do ≡ [] → s.follows ≡ nothing_follows → due s.reading ≡ None
    → s.input.ahead ≡ ByteAhead b ∷ behind → is_ended_by s.input.escapes (Some b) ≡ false → s.input.charge < l.bytes
    → step l s ≡ made l s (byte_taken b (record s { input = item_taken (ByteAhead b) behind s.input }))
byte_ahead_is_taken l s b behind going idle unsprung none_due ahead is within =
    step-reads l s going idle unsprung none_due ∙ item_read-byte l b behind s ahead is ∙ taking_ahead-within l b behind s within

pub bytes_ahead_are_taken : BytesAheadAreTaken
bytes_ahead_are_taken l s b behind on ahead is within = byte_ahead_is_taken l s b behind on.going on.idle on.unsprung on.none_due ahead is within

-- a byte of the source is taken, whether it is waited for or not
read-source : (l : Limits) (w : Waiting) (b : ℕ) (s : State) → s.input.ahead ≡ [] → source_answer s ≡ Gives (OneByte b)
    → is_ended_by s.input.escapes (Some b) ≡ false → decides w ≡ false → read_waiting l w s ≡ taking_byte l b s
read-source l Takes b s none gives is undecided =
    ap (λ (items : List (Ahead PageEvent)). in_front_taken l items s) none ∙ ap (λ (a : Answer). answered l a s) gives
read-source l Decides b s none gives is undecided = absurd (cc)
read-source l Waits b s none gives is undecided =
    ap (λ (items : List (Ahead PageEvent)). awaited l (seen_ahead items) s) none
    ∙ ap (λ (a : Answer). awaited_of_source l a s) gives
    ∙ ap (λ (c : Bool). if c then made l s (escape_ends s) else in_front_taken l s.input.ahead s) is
    ∙ ap (λ (items : List (Ahead PageEvent)). in_front_taken l items s) none
    ∙ ap (λ (a : Answer). answered l a s) gives

-- the input is read where a byte of the source comes first
item_read-source : (l : Limits) (b : ℕ) (s : State) → s.input.ahead ≡ [] → source_answer s ≡ Gives (OneByte b) → is_ended_by s.input.escapes (Some b) ≡ false
    → item_read l s ≡ taking_byte l b s
item_read-source l b s none gives is =
    read-source l (waiting_in s.reading s.input) b s none gives is (undecided s.reading s.input.arguments.place s.input.escapes (Some b) is)

-- it is taken within the limit on bytes
taking_byte-within : (l : Limits) (b : ℕ) (s : State) → s.input.charge < l.bytes
    → taking_byte l b s ≡ made l s (byte_taken b (moved (record s { input = counting b s.input })))
taking_byte-within l b s within =
    let done : State = made l s (byte_taken b (moved (record s { input = counting b s.input }))) in
    ap (λ (c : Bool). if c then stopped_by l Bytes s else done) (le-ltb l.bytes (s.input.charge + 1) (omega arith))

pub bytes_of_the_source_are_taken : BytesOfTheSourceAreTaken
bytes_of_the_source_are_taken l s b on none gives is within =
    let answers : source_answer s ≡ Gives (OneByte b) = ap (λ (closed : Bool). if closed then Ends Ended else front s.tape) on.is_open ∙ gives in
    step-TakesItems l s on ∙ item_read-source l b s none answers is ∙ taking_byte-within l b s within

-- of two tests neither holds
pub not-first : (first second : Bool) → IsTrue (not (first || second)) → first ≡ false
not-first true second neither = absurd (cc)
not-first false second neither = refl

pub not-second : (first second : Bool) → IsTrue (not (first || second)) → second ≡ false
not-second true second neither = absurd (cc)
not-second false true neither = absurd (cc)
not-second false false neither = refl

-- what is within the limits on names, on titles, on the stack, on the depth and on conditions
pub record Fits (l : Limits) (registers : AllRegisters) (i : PageInput) : Type 0 where
  pub names : length registers.named ≤ l.names
  pub title : title_length registers.title ≤ l.line
  pub stack : pushed i ≤ l.stack
  pub depth : depth i ≤ l.depth
  pub store : stored i ≤ l.store
  pub texts : names_added i ≤ l.names
  pub making : length i.open_texts ≤ l.diversions + 1
  pub conditions : result_count i ≤ l.conditions

-- a step that leads within them is made
pub made-Fits : (l : Limits) (from done : State) → Fits l done.registers done.input → made l from done ≡ done
made-Fits l from done fits =
    let names : nat_lt l.names (length done.registers.named) ≡ false = le-ltb _ _ fits.names in
    let title : nat_lt l.line (title_length done.registers.title) ≡ false = le-ltb _ _ fits.title in
    let stack : nat_lt l.stack (pushed done.input) ≡ false = le-ltb _ _ fits.stack in
    let depth : nat_lt l.depth (depth done.input) ≡ false = le-ltb _ _ fits.depth in
    let conditions : nat_lt l.conditions (result_count done.input) ≡ false = le-ltb _ _ fits.conditions in
    let store : nat_lt l.store (stored done.input) ≡ false = le-ltb _ _ fits.store in
    let texts : nat_lt l.names (names_added done.input) ≡ false = le-ltb _ _ fits.texts in
    let making : nat_lt l.diversions (length done.input.open_texts - 1) ≡ false = le-ltb _ _ (omega (arith, fits.making)) in
    let allowed : first_passed l (grown done) ≡ None = rw (names, title, stack, depth, store, texts, making, conditions) refl in
    ap (λ (r : Option Limit). unless_refused l r from done) allowed

-- this is read on, and nothing is meant
pub taken_as-going_on : (i : PageInput) (reading : LineState) (s : State) → taken_as (going_on i reading) s ≡ record s { input = i; reading = reading }
taken_as-going_on i reading s = ap (λ (m : List ℕ). record s { input = i; reading = reading; messages = m }) (append-nil s.messages)

-- a state within the limits is within those that a step looks at
pub Fits-IsWithin : (l : Limits) (s : State) → IsWithin l s → Fits l s.registers s.input
Fits-IsWithin l s within =
    record { names = within.names; title = within.title; stack = within.stack; depth = within.depth; store = within.store; texts = within.texts; making = within.making; conditions = within.conditions }
