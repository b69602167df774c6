-- Steps at bytes in front, and at those of an escape.
use Rattle.std.proofs.Common.{◌≡◌, ℕ, ◌+◌, ◌≤◌, Bool, true, false, List, [], ◌∷◌, ◌++◌, length, Option, Some, None, refl, ap, sym, ◌∙◌, arith, not, ◌||◌, map, IsTrue, if◌then◌else◌, ◌==◌}
use Rattle.std.proofs.lemmas.List.Sums.{sum_by-cons}
use Rattle.roff_num.specs.declared.limits.Limits.{Limits}
use Rattle.input_model.proofs.Settling.{settled-only_kept, held-only_kept-settled}
use Rattle.input_model.specs.Arguments.{Arguments, held}
use Rattle.input_source.specs.Bytes.{newline, backslash, is_dropped}
use Rattle.input_escapes.specs.OpenEscapes.{byte_read}
use Rattle.input_escapes.specs.Waiting.{is_ended_by, decides}
use Rattle.input_model.specs.Input.{Ahead, ByteAhead, EndAhead, cost}
use Rattle.input_source.specs.Tape.{Tape, Answer, Gives, Ends, OneByte, OneNote, Ended, Failed, Stopped, front}
use Rattle.input_escapes.specs.OpenEscape.{OpenEscape, Backslash, texts_held}
use Rattle.input_escapes.specs.declared.open_escape.Found.{Found}
use Rattle.input_escapes.specs.declared.open_escape.Found.TheVariants.{GoesOn}
use Rattle.input_escapes.specs.declared.open_escape.Surroundings.{Surroundings}
use Rattle.run_model.specs.declared.line_state.LineState.{LineState}
use Rattle.run_model.specs.declared.line_state.LineState.TheVariants.{LineStart, Branch, Braced, Text as InText, Control, Name as NameOf, Deciding, Skipping, Dropped, Told, Exiting, TitleFront, Title as InTitle, Collecting}
use Rattle.run_model.specs.declared.purpose.Purpose.TheVariants.{Arguments as InArguments, StringName, StringText, Telling, Calling, Defining}
use Rattle.roff_num.specs.declared.short_name.ShortName.{ShortName}
use Rattle.run_model.specs.declared.line_state.TextLine.{TextLine}
use Rattle.run_model.specs.declared.request.Request.{Request}
use Rattle.run_model.specs.declared.status.Status.{Status}
use Rattle.law_reading.specs.InterpolationLaws.{StandsForItself, reads_escapes, with_source_behind, cost_of_all, TextsCostTheirBytesAndOne, StepsFollowTheTape, UnreadInputIsTheTape}
use Rattle.run_model.specs.ItemsTaken.{TakesItems}
use Rattle.run_model.specs.Reading.{byte_taking, undropped_taking}
use Rattle.run_model.specs.Reading.Units.{interrupted, settled_for}
use Rattle.run_model.specs.Reading.Ends.{due}
use Rattle.run_model.specs.Reading.Items.{PageInput, Taking, going_on}
use Rattle.run_model.specs.Reading.Found.{place_in, read_in}
use Rattle.run_model.specs.Registers.{AllRegisters, Known}
use Rattle.run_model.specs.PageEvents.{PageEvent}
use Rattle.run_model.specs.Run.{Following, State, nothing_follows, known, made, byte_taken, taken_as, step, after, answered, awaited, awaited_of_source, escape_ends, front_seen, in_front_taken, read_waiting, source_answer}
use Rattle.run_model.proofs.ItemsTaken.{Origin, ahead_at, tape_at, input_of, going, bytes_ahead_are_taken, bytes_of_the_source_are_taken, not-first, not-second, Fits, made-Fits, taken_as-going_on, FromAhead, FromSource, step-TakesItems}
use Rattle.input_model.specs.Shown.{seen_ahead}
use Rattle.input_escapes.specs.declared.open_escape.Waiting.{Waiting}
use Rattle.input_escapes.specs.declared.open_escape.Waiting.TheVariants.{Takes, Decides, Waits}
use Rattle.run_model.specs.Reading.Waiting.{waiting_in}
use Rattle.run_model.proofs.Waiting.{undecided}

-- nothing ends that isn't half read: the source's answer is taken
seen-answered : (l : Limits) (seen : Option ℕ) (a : Answer) (s : State) → s.input.ahead ≡ [] → s.input.escapes ≡ [] → source_answer s ≡ a
    → front_seen l seen s ≡ answered l a s
seen-answered l seen a s none half gives =
    ap (λ (h : List OpenEscape). if is_ended_by h seen then made l s (escape_ends s) else in_front_taken l s.input.ahead s) half
    ∙ ap (λ (items : List (Ahead PageEvent)). in_front_taken l items s) none
    ∙ ap (λ (b : Answer). answered l b s) gives

awaited-answered : (l : Limits) (a : Answer) (s : State) → s.input.ahead ≡ [] → s.input.escapes ≡ [] → source_answer s ≡ a
    → awaited_of_source l a s ≡ answered l a s
awaited-answered l (Gives (OneByte b)) s none half gives = seen-answered l (Some b) (Gives (OneByte b)) s none half gives
awaited-answered l (Gives (OneNote message)) s none half gives = refl
awaited-answered l (Ends Ended) s none half gives = seen-answered l None (Ends Ended) s none half gives
awaited-answered l (Ends Failed) s none half gives = refl
awaited-answered l (Ends (Stopped limit)) s none half gives = refl

-- it is taken, whether a byte is waited for or not
read-answered : (l : Limits) (w : Waiting) (s : State) → s.input.ahead ≡ [] → s.input.escapes ≡ [] → decides w ≡ false
    → read_waiting l w s ≡ answered l (source_answer s) s
read-answered l Takes s none half decided = ap (λ (items : List (Ahead PageEvent)). in_front_taken l items s) none
read-answered l Decides s none half decided = absurd (cc)
read-answered l Waits s none half decided =
    ap (λ (items : List (Ahead PageEvent)). awaited l (seen_ahead items) s) none ∙ awaited-answered l (source_answer s) s none half refl

pub unread_input_is_the_tape : UnreadInputIsTheTape
unread_input_is_the_tape l s none half =
    read-answered l (waiting_in s.reading s.input) s none half
    (undecided s.reading s.input.arguments.place s.input.escapes None (ap (λ (h : List OpenEscape). is_ended_by h None) half))

pub steps_follow_the_tape : StepsFollowTheTape
steps_follow_the_tape l s takes none half =
    step-TakesItems l s takes ∙ unread_input_is_the_tape l s none half
    ∙ ap (λ (closed : Bool). answered l (if closed then Ends Ended else front s.tape) s) takes.is_open

-- the line behind one of them
abbrev pub line_behind : Origin → State → ℕ → ℕ
line_behind (FromAhead rest) s line = line
line_behind (FromSource tape) s line = s.input.newlines + 1

line_behind-again : (from : Origin) (s : State) (line : ℕ) → line_behind from s (line_behind from s line) ≡ line_behind from s line
line_behind-again (FromAhead rest) s line = refl
line_behind-again (FromSource tape) s line = refl

-- a state of a run that takes items is one of these
pub is-going : (s : State) (from : Origin) (bytes : List ℕ) → TakesItems s → s.input.ahead ≡ ahead_at from bytes → s.tape ≡ tape_at from bytes s.tape
    → going s s.reading from bytes s.input.arguments s.input.escapes s.input.charge s.input.line ≡ s
is-going s from bytes on ahead tape =
    let of : Tape → List (Ahead PageEvent) → List PageEvent → Following → Bool → Option Status → State = λ t items es f c e.
    record s { tape = t; input = record s.input { ahead = items }; to_do = es; follows = f; is_closed = c; ended = e } in
    ap (of (tape_at from bytes s.tape) (ahead_at from bytes) [] nothing_follows false) (sym on.going)
    ∙ ap (λ (c : Bool). of (tape_at from bytes s.tape) (ahead_at from bytes) [] nothing_follows c s.ended) (sym on.is_open)
    ∙ ap (λ (f : Following). of (tape_at from bytes s.tape) (ahead_at from bytes) [] f s.is_closed s.ended) (sym on.unsprung)
    ∙ ap (λ (es : List PageEvent). of (tape_at from bytes s.tape) (ahead_at from bytes) es s.follows s.is_closed s.ended) (sym on.idle)
    ∙ ap (λ (items : List (Ahead PageEvent)). of (tape_at from bytes s.tape) items s.to_do s.follows s.is_closed s.ended) (sym ahead)
    ∙ ap (λ (t : Tape). of t s.input.ahead s.to_do s.follows s.is_closed s.ended) (sym tape)

-- a byte that is read, and doesn't end the line
abbrev pub IsRead : ℕ → Type 0
IsRead b = IsTrue (not (is_dropped b || b == newline))

not-or : (first second : Bool) → IsTrue (not (first || second)) → IsTrue (not second)
not-or true second neither = absurd (cc)
not-or false second neither = neither

-- a reading that reads escapes
pub data ReadsEscapes : LineState → Type 0 where
  AtBeginning : ReadsEscapes LineStart
  AtBranch : ReadsEscapes Branch
  AtBraced : ReadsEscapes Braced
  OnText : (line : TextLine) → ReadsEscapes (InText line)
  OnArguments : (breaks : Bool) (request : Request) → ReadsEscapes (Collecting (InArguments breaks request))
  OnCondition : (keeps : Bool) → ReadsEscapes (Deciding keeps)
  OnStringName : (appends : Bool) → ReadsEscapes (Collecting (StringName appends))
  OnCall : (name : ShortName) → ReadsEscapes (Collecting (Calling name))
  OnStringText : (name : Option ShortName) (appends is_front : Bool) → ReadsEscapes (Collecting (StringText name appends is_front))
  OnDefinition : (name : Option ShortName) (appends : Bool) (end : Option ShortName) (matched : Option ℕ)
      → ReadsEscapes (Collecting (Defining name appends end matched))
  OnMessage : (aborts is_front : Bool) → ReadsEscapes (Collecting (Telling aborts is_front))

-- there nothing is due
pub none_due-reads : (reading : LineState) → ReadsEscapes reading → due reading ≡ None
none_due-reads _ AtBeginning = refl
none_due-reads _ AtBranch = refl
none_due-reads _ AtBraced = refl
none_due-reads _ (OnText line) = refl
none_due-reads _ (OnArguments breaks request) = refl
none_due-reads _ (OnCondition keeps) = refl
none_due-reads _ (OnStringName appends) = refl
none_due-reads _ (OnCall string) = refl
none_due-reads _ (OnStringText string appends is_front) = refl
none_due-reads _ (OnDefinition string appends end matched) = refl
none_due-reads _ (OnMessage aborts is_front) = refl

-- a byte that isn't dropped
undropped_taking-reads : (k : Known) (reading : LineState) (i : PageInput) (b : ℕ) → ReadsEscapes reading
    → undropped_taking k reading i b ≡ read_in k reading i (byte_read (place_in k reading) i.escapes b)
undropped_taking-reads k _ i b AtBeginning = refl
undropped_taking-reads k _ i b AtBranch = refl
undropped_taking-reads k _ i b AtBraced = refl
undropped_taking-reads k _ i b (OnText line) = refl
undropped_taking-reads k _ i b (OnArguments breaks request) = refl
undropped_taking-reads k _ i b (OnCondition keeps) = refl
undropped_taking-reads k _ i b (OnStringName appends) = refl
undropped_taking-reads k _ i b (OnCall string) = refl
undropped_taking-reads k _ i b (OnStringText string appends is_front) = refl
undropped_taking-reads k _ i b (OnDefinition string appends end matched) = refl
undropped_taking-reads k _ i b (OnMessage aborts is_front) = refl

-- a byte that is read
pub taking-reads : (k : Known) (reading : LineState) (i : PageInput) (b : ℕ) → ReadsEscapes reading → IsRead b
    → byte_taking k reading i b ≡ read_in k reading i (byte_read (place_in k reading) i.escapes b)
taking-reads k reading i b on read =
    ap (λ (d : Bool). if d then going_on (interrupted reading i) reading else undropped_taking k reading i b) (not-first (is_dropped b) (b == newline) read)
    ∙ undropped_taking-reads k reading i b on

-- the input where this is half read, and no quote follows
abbrev pub settled_input : LineState → List OpenEscape → PageInput → PageInput
settled_input reading half i = record i { escapes = half; arguments = settled_for reading i.arguments }

-- nothing is found
read_in-nothing : (k : Known) (reading : LineState) (i : PageInput) (half : List OpenEscape) → ReadsEscapes reading
    → read_in k reading i (GoesOn, half) ≡ going_on (settled_input reading half i) reading
read_in-nothing k _ i half AtBeginning = refl
read_in-nothing k _ i half AtBranch = refl
read_in-nothing k _ i half AtBraced = refl
read_in-nothing k _ i half (OnText line) = refl
read_in-nothing k _ i half (OnArguments breaks request) = refl
read_in-nothing k _ i half (OnCondition keeps) = refl
read_in-nothing k _ i half (OnStringName appends) = refl
read_in-nothing k _ i half (OnCall string) = refl
read_in-nothing k _ i half (OnStringText string appends is_front) = refl
read_in-nothing k _ i half (OnDefinition string appends end matched) = refl
read_in-nothing k _ i half (OnMessage aborts is_front) = refl

-- a byte that finds nothing
pub taking-nothing : (k : Known) (reading : LineState) (i : PageInput) (b : ℕ) (half : List OpenEscape) → ReadsEscapes reading
    → IsRead b → byte_read (place_in k reading) i.escapes b ≡ (GoesOn, half) → byte_taking k reading i b ≡ going_on (settled_input reading half i) reading
taking-nothing k reading i b half on read reads =
    taking-reads k reading i b on read ∙ ap (read_in k reading i) reads ∙ read_in-nothing k reading i half on

-- a step at a byte
pub step-byte : (l : Limits) (s : State) (reading : LineState) (from : Origin) (b : ℕ) (bytes : List ℕ) (a : Arguments) (half : List OpenEscape) (charge line : ℕ) (t : State)
    → due reading ≡ None → IsRead b → is_ended_by half (Some b) ≡ false → charge + 1 ≤ l.bytes → byte_taken b (going s reading from bytes a half (charge + 1) (line_behind from s line)) ≡ t
    → Fits l t.registers t.input → step l (going s reading from (b ∷ bytes) a half charge line) ≡ t
step-byte l s reading (FromAhead rest) b bytes a half charge line t none_due read goes within is fits =
    let before : State = going s reading (FromAhead rest) (b ∷ bytes) a half charge line in
    bytes_ahead_are_taken l before b (map ByteAhead bytes ++ rest) (record { going = refl; is_open = refl; idle = refl; unsprung = refl; none_due = none_due }) refl
    goes (omega arith)
    ∙ ap (made l before) is ∙ made-Fits l before t fits
step-byte l s reading (FromSource tape) b bytes a half charge line t none_due read goes within is fits =
    let before : State = going s reading (FromSource tape) (b ∷ bytes) a half charge line in
    let behind : State = going s reading (FromSource tape) bytes a half (charge + 1) (s.input.newlines + 1) in
    let plain : (b == newline) ≡ false = not-second (is_dropped b) (b == newline) read in
    bytes_of_the_source_are_taken l before b (record { going = refl; is_open = refl; idle = refl; unsprung = refl; none_due = none_due }) refl refl goes (omega arith)
    ∙ ap (λ (c : Bool). made l before (byte_taken b (record behind { input = record behind.input { newlines = if c then s.input.newlines + 1 else s.input.newlines } }))) plain
    ∙ ap (made l before) is ∙ made-Fits l before t fits

-- bytes of which the last finds this and the others find nothing; none of them ends what is half read
pub data FindsAtLast (base : Surroundings) (found : Found) (behind : List OpenEscape) : List OpenEscape → List ℕ → Type 0 where
  AtLast : (half : List OpenEscape) (b : ℕ) → IsRead b → is_ended_by half (Some b) ≡ false
      → byte_read base half b ≡ (found, behind)
      → FindsAtLast base found behind half (b ∷ [])
  Behind : (half other : List OpenEscape) (b : ℕ) (bytes : List ℕ) → IsRead b → is_ended_by half (Some b) ≡ false → byte_read base half b ≡ (GoesOn, other)
      → texts_held other ≡ texts_held half → FindsAtLast base found behind other bytes → FindsAtLast base found behind half (b ∷ bytes)

-- a byte that finds this leads to that state
abbrev pub Means : State → LineState → Origin → Arguments → ℕ → ℕ → Found → List OpenEscape → State → Type 0
Means s reading from a charge line found behind t =
    (half : List OpenEscape) (b : ℕ) → IsRead b → byte_read (place_in (known s) reading) half b ≡ (found, behind) → byte_taken b (going s reading from [] a half charge line) ≡ t

-- behind a byte
Fits-behind : (l : Limits) (registers : AllRegisters) (s : State) (from : Origin) (b : ℕ) (bytes : List ℕ) (a there : Arguments) (half other : List OpenEscape) (charge more line next : ℕ)
    → held there ≡ held a → texts_held other ≡ texts_held half → Fits l registers (input_of s from (b ∷ bytes) a half charge line) → Fits l registers (input_of s from bytes there other more next)
Fits-behind l registers s (FromAhead rest) b bytes a there half other charge more line next same held_same fits = record {
  names = fits.names;
  title = fits.title;
  stack = omega (arith, fits.stack);
  depth = fits.depth;
  store = fits.store;
  texts = fits.texts;
  making = fits.making;
  conditions = fits.conditions;
}
Fits-behind l registers s (FromSource tape) b bytes a there half other charge more line next same held_same fits = record {
  names = fits.names;
  title = fits.title;
  stack = omega (arith, fits.stack);
  depth = fits.depth;
  store = fits.store;
  texts = fits.texts;
  making = fits.making;
  conditions = fits.conditions;
}

-- the steps at them
after-finds : (l : Limits) (s : State) (reading : LineState) (from : Origin) (a : Arguments) (line : ℕ)
    (found : Found) (behind half : List OpenEscape) (bytes : List ℕ) (charge total : ℕ) (t : State)
    → ReadsEscapes reading → settled_for reading a ≡ a → line_behind from s line ≡ line → FindsAtLast (place_in (known s) reading) found behind half bytes
    → charge + length bytes ≡ total → total ≤ l.bytes → Fits l s.registers (input_of s from bytes a half charge line)
    → Means s reading from a total line found behind t → Fits l t.registers t.input
    → after l (length bytes) (going s reading from bytes a half charge line) ≡ t
after-finds l s reading from a line found behind _ _ charge total t on same stays (AtLast half b read goes_on reads) sum within fits means fits_behind =
    let one : charge + 1 ≡ total = sum in
    let is : byte_taken b (going s reading from [] a half (charge + 1) line) ≡ t =
    ap (λ (c : ℕ). byte_taken b (going s reading from [] a half c line)) one ∙ means half b read reads in
    step-byte l s reading from b [] a half charge line t (none_due-reads reading on) read goes_on (omega arith)
    (ap (λ (n : ℕ). byte_taken b (going s reading from [] a half (charge + 1) n)) stays ∙ is) fits_behind
after-finds l s reading from a line found behind _ _ charge total t on same stays (Behind half other b others read goes_on reads as_many last) sum within fits means fits_behind =
    let next : State = going s reading from others a other (charge + 1) line in
    let before : State = going s reading from others a half (charge + 1) line in
    let is : byte_taken b before ≡ next =
    ap (λ (taking : Taking). taken_as taking before) (taking-nothing (known s) reading before.input b other on read reads)
    ∙ ap (λ (there : Arguments). taken_as (going_on (record next.input { arguments = there }) reading) before) same
    ∙ taken_as-going_on next.input reading before in
    let fits_there : Fits l s.registers next.input = Fits-behind l s.registers s from b others a a half other charge (charge + 1) line line refl as_many fits in
    ap (after l (length others)) (step-byte l s reading from b others a half charge line next (none_due-reads reading on) read goes_on (omega arith)
    (ap (λ (n : ℕ). byte_taken b (going s reading from others a half (charge + 1) n)) stays ∙ is) fits_there)
    ∙ after-finds l s reading from a line found behind other others (charge + 1) total t on same stays last (omega arith) within fits_there means fits_behind

-- arguments where no quote follows the quote before stay so
pub settled_for-settled_for : (reading : LineState) (a : Arguments) → ReadsEscapes reading
    → settled_for reading (settled_for reading a) ≡ settled_for reading a
settled_for-settled_for _ a AtBeginning = refl
settled_for-settled_for _ a AtBranch = refl
settled_for-settled_for _ a AtBraced = refl
settled_for-settled_for _ a (OnText line) = refl
settled_for-settled_for _ a (OnArguments breaks request) = settled-only_kept a
settled_for-settled_for _ a (OnCondition keeps) = refl
settled_for-settled_for _ a (OnStringName appends) = settled-only_kept a
settled_for-settled_for _ a (OnCall string) = settled-only_kept a
settled_for-settled_for _ a (OnStringText string appends is_front) = refl
settled_for-settled_for _ a (OnDefinition string appends end matched) = refl
settled_for-settled_for _ a (OnMessage aborts is_front) = refl

-- and hold as many bytes
pub held-settled_for : (reading : LineState) (a : Arguments) → ReadsEscapes reading → held (settled_for reading a) ≡ held a
held-settled_for _ a AtBeginning = refl
held-settled_for _ a AtBranch = refl
held-settled_for _ a AtBraced = refl
held-settled_for _ a (OnText line) = refl
held-settled_for _ a (OnArguments breaks request) = held-only_kept-settled a
held-settled_for _ a (OnCondition keeps) = refl
held-settled_for _ a (OnStringName appends) = held-only_kept-settled a
held-settled_for _ a (OnCall string) = held-only_kept-settled a
held-settled_for _ a (OnStringText string appends is_front) = refl
held-settled_for _ a (OnDefinition string appends end matched) = refl
held-settled_for _ a (OnMessage aborts is_front) = refl

-- the steps at an escape, where a backslash begins one
pub after-escape : (l : Limits) (s : State) (reading : LineState) (from : Origin) (a : Arguments)
    (found : Found) (half behind : List OpenEscape) (bytes : List ℕ) (charge line : ℕ) (t : State)
    → ReadsEscapes reading → is_ended_by half (Some backslash) ≡ false → byte_read (place_in (known s) reading) half backslash ≡ (GoesOn, Backslash ∷ half)
    → FindsAtLast (place_in (known s) reading) found behind (Backslash ∷ half) bytes
    → charge + length (backslash ∷ bytes) ≤ l.bytes → Fits l s.registers (input_of s from (backslash ∷ bytes) a half charge line)
    → Means s reading from (settled_for reading a) (charge + length (backslash ∷ bytes)) (line_behind from s line) found behind t
    → Fits l t.registers t.input → after l (length (backslash ∷ bytes)) (going s reading from (backslash ∷ bytes) a half charge line) ≡ t
after-escape l s reading from a found half behind bytes charge line t on goes_on opens last within fits means fits_behind =
    let there : Arguments = settled_for reading a in
    let next : ℕ = line_behind from s line in
    let taken : State = going s reading from bytes a half (charge + 1) next in
    let begun : State = going s reading from bytes there (Backslash ∷ half) (charge + 1) next in
    let is : byte_taken backslash taken ≡ begun =
    ap (λ (taking : Taking). taken_as taking taken) (taking-nothing (known s) reading taken.input backslash (Backslash ∷ half) on refl opens)
    ∙ taken_as-going_on begun.input reading taken in
    let fits_there : Fits l s.registers begun.input =
    Fits-behind l s.registers s from backslash bytes a there half (Backslash ∷ half) charge (charge + 1) line next
    (held-settled_for reading a on) refl fits in
    ap (after l (length bytes)) (step-byte l s reading from backslash bytes a half charge line begun (none_due-reads reading on) refl goes_on (omega arith) is fits_there)
    ∙ after-finds l s reading from there next found behind (Backslash ∷ half) bytes (charge + 1) (charge + length (backslash ∷ bytes)) t
    on (settled_for-settled_for reading a on) (line_behind-again from s line)
    last (omega arith) within fits_there means fits_behind

-- a byte that stands for itself is read
pub IsRead-itself : (b : ℕ) → StandsForItself b → IsRead b
IsRead-itself b may = not-or (b == backslash) (is_dropped b || b == newline) may

-- and doesn't end the line
pub is_no_newline : (b : ℕ) → StandsForItself b → (b == newline) ≡ false
is_no_newline b may = not-second (is_dropped b) (b == newline) (IsRead-itself b may)

-- a state behind bytes that were taken
abbrev pub source_behind : Origin → State → State
source_behind (FromAhead rest) s = s
source_behind (FromSource tape) s = with_source_behind tape s

-- where escapes are read, text is or arguments or conditions are
pub ReadsEscapes-reads_escapes : (reading : LineState) → reads_escapes reading ≡ true → ReadsEscapes reading
ReadsEscapes-reads_escapes LineStart is = AtBeginning
ReadsEscapes-reads_escapes Branch is = AtBranch
ReadsEscapes-reads_escapes Braced is = AtBraced
ReadsEscapes-reads_escapes (InText line) is = OnText line
ReadsEscapes-reads_escapes (Collecting (InArguments breaks request)) is = OnArguments breaks request
ReadsEscapes-reads_escapes (Deciding keeps) is = OnCondition keeps
ReadsEscapes-reads_escapes (Collecting (StringName appends)) is = OnStringName appends
ReadsEscapes-reads_escapes (Collecting (Calling name)) is = OnCall name
ReadsEscapes-reads_escapes (Collecting (StringText name appends is_front)) is = OnStringText name appends is_front
ReadsEscapes-reads_escapes (Collecting (Defining name appends end matched)) is = OnDefinition name appends end matched
ReadsEscapes-reads_escapes (Collecting (Telling aborts is_front)) is = OnMessage aborts is_front
ReadsEscapes-reads_escapes (Told aborts) is = absurd (cc)
ReadsEscapes-reads_escapes Exiting is = absurd (cc)
ReadsEscapes-reads_escapes TitleFront is = absurd (cc)
ReadsEscapes-reads_escapes (InTitle delimiter) is = absurd (cc)
ReadsEscapes-reads_escapes (Control breaks) is = absurd (cc)
ReadsEscapes-reads_escapes (NameOf breaks first) is = absurd (cc)
ReadsEscapes-reads_escapes (Skipping opened closed behind) is = absurd (cc)
ReadsEscapes-reads_escapes Dropped is = absurd (cc)

-- what a text and its end cost
cost_of_all-text : (text : List ℕ) (items : List (Ahead PageEvent)) → cost_of_all (map ByteAhead text ++ EndAhead ∷ items) ≡ length text + 1 + cost_of_all items
cost_of_all-text [] items = omega (arith, sum_by-cons cost EndAhead items)
cost_of_all-text (b ∷ text) items =
    let others : List (Ahead PageEvent) = map ByteAhead text ++ EndAhead ∷ items in
    omega (arith, sum_by-cons cost (ByteAhead b) others, cost_of_all-text text items)

pub texts_cost_their_bytes_and_one : TextsCostTheirBytesAndOne
texts_cost_their_bytes_and_one text i = cost_of_all-text text i.ahead
