-- Runs over the bytes of a condition, up to its decision.
use Rattle.std.proofs.Common.{◌≡◌, ℕ, ◌+◌, ◌≤◌, Bool, false, List, [], ◌∷◌, ◌++◌, length, Option, Some, None, refl, ap, sym, subst, ◌∙◌, arith, All, map, sum_by, if◌then◌else◌, length-append}
use Rattle.std.proofs.lemmas.List.Elements.{All-head, All-tail}
use Rattle.roff_num.specs.declared.limits.Limits.{Limits}
use Rattle.roff_num.specs.declared.short_name.ShortName.{ShortName}
use Rattle.roff_num.specs.ShortNames.{name_bytes}
use Rattle.input_model.specs.Arguments.{held, live_bytes, no_arguments}
use Rattle.input_source.specs.Bytes.{blank, is_dropped}
use Rattle.roff_store.specs.Named.{Named}
use Rattle.roff_store.specs.Texts.{Entry}
use Rattle.input_model.specs.Input.{Ahead, ByteAhead, bytes_ahead}
use Rattle.input_escapes.proofs.ConditionFronts.{taken-held}
use Rattle.input_escapes.specs.ConditionFronts.{ByteTaken, HalvesTaken, IsHeld, IsRead, NothingTaken, TakesOn}
use Rattle.input_escapes.specs.OpenEscape.{OpenEscape, Reads, texts_held}
use Rattle.input_escapes.specs.Waiting.{is_ended_by}
use Rattle.input_escapes.specs.declared.open_escape.Surroundings.TheVariants.{Arguments as AboveArguments}
use Rattle.law_reading.proofs.AskedHalves.{choice}
use Rattle.law_reading.proofs.LineNames.{turns-control}
use Rattle.law_reading.specs.AskingLaws.{HasCondition}
use Rattle.law_reading.specs.CallLaws.{BeginsLine}
use Rattle.run_model.proofs.ItemsTaken.{FromAhead, FromSource, Origin, ahead_at, not-first, not-second, tape_at, taken_as-going_on}
use Rattle.run_model.proofs.Leads.{after-add}
use Rattle.run_model.proofs.NameBytes.{stage, turns-first}
use Rattle.run_model.proofs.PlainRuns.{HasRoom, HasRoom-behind, HasRoom-start, Here, IsSmall, IsWithin-HasRoom, Onward, Path, Path-append, after-Path, behind_byte, behind_bytes, behind_bytes-counts, is-run_at, run_at, step-taken}
use Rattle.run_model.specs.Reading.{undropped_taking}
use Rattle.run_model.specs.Reading.ControlLines.{BelongsToName, behind_called, behind_name, called_taking, ends_name, line_taking, name_ended_taking, name_whole_taking}
use Rattle.run_model.specs.Reading.Found.{read_in}
use Rattle.run_model.specs.Reading.Items.{PageInput, Taking, going_on}
use Rattle.run_model.specs.PageEvents.{PageEvent}
use Rattle.run_model.specs.Run.{State, after, byte_taken, known, taken_as}
use Rattle.run_model.specs.Stages.{Stage, TakesHalf, Turns, input_at}
use Rattle.run_model.specs.Within.{IsWithin}
use Rattle.run_model.specs.ItemsTaken.{TakesItems}
use Rattle.run_model.specs.declared.line_state.LineState.{LineState}
use Rattle.run_model.specs.declared.line_state.LineState.TheVariants.{Control, Deciding, LineStart, Name}
use Rattle.run_model.specs.declared.request.Called.{Called}
use Rattle.run_model.specs.declared.request.LineReading.{LineReading}
use Rattle.law_reading.proofs.LineRooms.{most_of}

-- a condition of which these are half read
abbrev pub asks : State → Bool → List OpenEscape → Stage
asks s keeps half = record { reading = Deciding keeps; escapes = half; arguments = no_arguments; texts = s.input.open_texts }

-- what its bytes do
takes-half : (keeps : Bool) → TakesHalf (Deciding keeps)
takes-half keeps k i b next (IsRead reads) =
    ap (λ (c : Bool). if c then going_on i (Deciding keeps) else undropped_taking k (Deciding keeps) i b) reads.stands
    ∙ ap (λ (r : Reads). read_in k (Deciding keeps) i r) (reads.goes_on AboveArguments)
takes-half keeps k i b next (IsHeld top holds is) =
    ap (λ (c : Bool). if c then going_on i (Deciding keeps) else undropped_taking k (Deciding keeps) i b) holds.stands
    ∙ ap (λ (r : Reads). read_in k (Deciding keeps) i r) (holds.holds AboveArguments)
    ∙ ap (λ (half : List OpenEscape). going_on (record i { escapes = half }) (Deciding keeps)) (sym is)

taken-stays : (half next : List OpenEscape) (b : ℕ) → TakesOn half b next → is_ended_by half (Some b) ≡ false
taken-stays half next b (IsRead reads) = reads.stays
taken-stays half next b (IsHeld top holds is) = holds.stays

-- a stage at which no more is held
small-stage : (s : State) (p : Stage) → texts_held p.escapes ≡ 0 → p.arguments ≡ no_arguments → p.texts ≡ s.input.open_texts → IsSmall (most_of s) p
small-stage s p half none same = record {
  none_half = half;
  held_few = omega (arith, ap held none);
  stored_few = omega (arith, ap (λ (texts : List (List ℕ)). sum_by length texts) same);
  texts_few = omega (arith, ap (λ (texts : List (List ℕ)). length texts) same);
}

-- what may yet be held of bytes: of those ahead no more counts than does
abbrev pub to_hold : Origin → List ℕ → ℕ
to_hold (FromAhead rest) bytes = bytes_ahead (map ByteAhead bytes ++ rest)
to_hold (FromSource tape) bytes = length bytes

-- there is room for bytes of a condition
pub record RoomToAsk (l : Limits) (s : State) (keeps : Bool) (from : Origin) (half : List OpenEscape) (bytes : List ℕ) (i : PageInput) : Type 0 where
  pub room : HasRoom l s s.input.names from (most_of s) (asks s keeps (choice false)) bytes i
  pub stack : to_hold from bytes + texts_held half + live_bytes i.calls ≤ l.stack

to_hold-behind : (from : Origin) (b : ℕ) (bytes : List ℕ) → to_hold from (b ∷ bytes) ≡ to_hold from bytes + 1
to_hold-behind (FromAhead rest) b bytes = refl
to_hold-behind (FromSource tape) b bytes = omega arith

to_hold-ahead : (from : Origin) (bytes : List ℕ) → bytes_ahead (ahead_at from bytes) ≤ to_hold from bytes
to_hold-ahead (FromAhead rest) bytes = omega arith
to_hold-ahead (FromSource tape) bytes = omega arith

pub within-asks : (l : Limits) (s : State) (keeps : Bool) (from : Origin) (half : List OpenEscape) (bytes : List ℕ) (i : PageInput) → RoomToAsk l s keeps from half bytes i
    → IsWithin l (run_at s s.input.names (asks s keeps half) from bytes i)
within-asks l s keeps from half bytes i room =
    let p : Stage = asks s keeps (choice false) in
    let small : IsSmall (most_of s) p = record { none_half = refl; held_few = omega arith; stored_few = omega arith; texts_few = omega arith } in
    let within : IsWithin l (run_at s s.input.names p from bytes i) = IsWithin-HasRoom l s s.input.names from (most_of s) p bytes i small room.room in
    record {
      bytes = within.bytes;
      stack = omega (arith, room.stack, to_hold-ahead from bytes);
      depth = within.depth;
      store = within.store;
      texts = within.texts;
      making = within.making;
      conditions = within.conditions;
      names = within.names;
      title = within.title;
      environments = within.environments;
      output = within.output;
      traps = within.traps;
    }

-- behind a byte too
room-behind : (l : Limits) (s : State) (keeps : Bool) (from : Origin) (half next : List OpenEscape) (b : ℕ) (bytes : List ℕ) (i : PageInput)
    → texts_held next ≤ texts_held half + 1 → RoomToAsk l s keeps from half (b ∷ bytes) i → RoomToAsk l s keeps from next bytes (behind_byte from b i)
room-behind l s keeps from half next b bytes i grows room = record {
  room = HasRoom-behind l s s.input.names from (most_of s) (asks s keeps (choice false)) (asks s keeps (choice false)) b bytes i (omega arith) room.room;
  stack = omega (arith, room.stack, grows, to_hold-behind from b bytes);
}

-- a run takes one step for each byte
after-halves : (l : Limits) (s : State) (keeps : Bool) (from : Origin) (half last : List OpenEscape) (bytes : List ℕ) (i : PageInput)
    → TakesItems s → HalvesTaken half bytes last → RoomToAsk l s keeps from half bytes i
    → (after l (length bytes) (run_at s s.input.names (asks s keeps half) from bytes i) ≡ run_at s s.input.names (asks s keeps last) from [] (behind_bytes from bytes i))
    × RoomToAsk l s keeps from last [] (behind_bytes from bytes i)
after-halves l s keeps from _ last _ i on (NothingTaken half) room = (refl, room)
after-halves l s keeps from half _ _ i on (ByteTaken _ next last b bytes takes path) room =
    let names : Named Entry = s.input.names in
    let p : Stage = asks s keeps half in
    let behind = room-behind l s keeps from half next b bytes i (taken-held half next b takes) room in
    let there : State = run_at s names (asks s keeps next) from bytes (behind_byte from b i) in
    let at : State = run_at s names p from bytes (behind_byte from b i) in
    let does : byte_taken b at ≡ there =
    ap (λ (t : Taking). taken_as t at) (takes-half keeps (known at) at.input b next takes) ∙ taken_as-going_on there.input (Deciding keeps) at in
    let others = after-halves l s keeps from next last bytes (behind_byte from b i) on path behind in (
      ap (after l (length bytes))
          (step-taken l s names from p b bytes i there on refl (taken-stays half next b takes) (omega (arith, room.room.charged)) does
          (within-asks l s keeps from next bytes (behind_byte from b i) behind))
          ∙ others.0,
      others.1,
    )

-- the name, and the blank behind it
turns-blank : (s : State) (control first : ℕ) (keeps breaks : Bool) → let name : ShortName = record { first = first; second = None } in
    HasCondition s.input.names control name keeps
    → Turns s.input.names (stage (Name breaks first) no_arguments s.input.open_texts) blank (asks s keeps (choice false))
turns-blank s control first keeps breaks has k i =
    let here : PageInput = input_at s.input.names (stage (Name breaks first) no_arguments s.input.open_texts) i in
    ap (λ (called : Called). called_taking k here breaks called blank) has.stands_for
    ∙ ap (λ (reads : LineReading). line_taking k here breaks has.of_request reads blank) has.reads_condition

turns-whole : (s : State) (control first second : ℕ) (keeps breaks : Bool) → let name : ShortName = record { first = first; second = Some second } in
    HasCondition s.input.names control name keeps → BelongsToName second
    → Turns s.input.names (stage (Name breaks first) no_arguments s.input.open_texts) second (asks s keeps (choice false))
turns-whole s control first second keeps breaks has belongs k i =
    let here : PageInput = input_at s.input.names (stage (Name breaks first) no_arguments s.input.open_texts) i in
    let name : ShortName = record { first = first; second = Some second } in
    ap (λ (c : Bool). if c then going_on here (Name breaks first) else undropped_taking k (Name breaks first) here second) (not-first (is_dropped second) (ends_name second) belongs)
    ∙ ap (λ (c : Bool). if c then name_ended_taking k here breaks (record { first = first; second = None }) second else name_whole_taking here breaks name)
    (not-second (is_dropped second) (ends_name second) belongs)
    ∙ ap (behind_called here breaks) has.stands_for
    ∙ ap (behind_name here breaks has.of_request) has.reads_condition

-- the front of the line, up to the second byte of its name, or to the blank behind one byte
pub path-whole : (s : State) (control first second : ℕ) (keeps : Bool) → let name : ShortName = record { first = first; second = Some second } in
    HasCondition s.input.names control name keeps
    → Path (most_of s) s.input.names (stage LineStart no_arguments s.input.open_texts) (control ∷ first ∷ second ∷ []) (asks s keeps (choice false))
path-whole s control first second keeps has =
    let names : Named Entry = s.input.names in
    let texts : List (List ℕ) = s.input.open_texts in
    let begins = turns-control names no_arguments texts control has.begins in
    let at : LineState → Stage = λ reading. stage reading no_arguments texts in
    let last : Stage = asks s keeps (choice false) in
    let belong : All BelongsToName (second ∷ []) = All-tail BelongsToName first (second ∷ []) has.is_name in
    Onward (at LineStart) (at (Control begins.0)) last control (first ∷ second ∷ []) refl refl begins.1 (small-stage s (at (Control begins.0)) refl refl refl) (omega arith)
    (Onward (at (Control begins.0)) (at (Name begins.0 first)) last first (second ∷ []) refl refl
    (turns-first names no_arguments texts begins.0 first (All-head BelongsToName first (second ∷ []) has.is_name)) (small-stage s (at (Name begins.0 first)) refl refl refl) (omega arith)
    (Onward (at (Name begins.0 first)) last last second [] refl refl
    (turns-whole s control first second keeps begins.0 has (All-head BelongsToName second [] belong)) (small-stage s last refl refl refl) (omega arith) (Here last)))

-- the front of the line, up to the blank behind its name
path-name : (s : State) (control first : ℕ) (second : Option ℕ) (keeps : Bool) → let name : ShortName = record { first = first; second = second } in
    HasCondition s.input.names control name keeps
    → Path (most_of s) s.input.names (stage LineStart no_arguments s.input.open_texts) (control ∷ name_bytes name ++ blank ∷ []) (asks s keeps (choice false))
path-name s control first None keeps has =
    let names : Named Entry = s.input.names in
    let texts : List (List ℕ) = s.input.open_texts in
    let begins = turns-control names no_arguments texts control has.begins in
    let at : LineState → Stage = λ reading. stage reading no_arguments texts in
    let last : Stage = asks s keeps (choice false) in
    Onward (at LineStart) (at (Control begins.0)) last control (first ∷ blank ∷ []) refl refl begins.1 (small-stage s (at (Control begins.0)) refl refl refl) (omega arith)
    (Onward (at (Control begins.0)) (at (Name begins.0 first)) last first (blank ∷ []) refl refl
    (turns-first names no_arguments texts begins.0 first (All-head BelongsToName first [] has.is_name)) (small-stage s (at (Name begins.0 first)) refl refl refl) (omega arith)
    (Onward (at (Name begins.0 first)) last last blank [] refl refl (turns-blank s control first keeps begins.0 has) (small-stage s last refl refl refl) (omega arith) (Here last)))
path-name s control first (Some second) keeps has =
    let last : Stage = asks s keeps (choice false) in
    Path-append (most_of s) s.input.names (stage LineStart no_arguments s.input.open_texts) last last (control ∷ first ∷ second ∷ []) (blank ∷ [])
    (path-whole s control first second keeps has)
    (Onward last last last blank [] refl refl (λ k i. refl) (small-stage s last refl refl refl) (omega arith) (Here last))

pub path-front : (s : State) (control : ℕ) (name : ShortName) (keeps : Bool) → HasCondition s.input.names control name keeps
    → Path (most_of s) s.input.names (stage LineStart no_arguments s.input.open_texts) (control ∷ name_bytes name ++ blank ∷ []) (asks s keeps (choice false))
path-front s control name keeps has = path-name s control name.first name.second keeps has

-- bytes behind others
behind_bytes-append : (from : Origin) (front bytes : List ℕ) (i : PageInput) → behind_bytes from (front ++ bytes) i ≡ behind_bytes from bytes (behind_bytes from front i)
behind_bytes-append from [] bytes i = refl
behind_bytes-append from (b ∷ front) bytes i = behind_bytes-append from front bytes (behind_byte from b i)

-- a run that read what a line asks
abbrev pub asked_at : State → Bool → Origin → List OpenEscape → List ℕ → State
asked_at s keeps from half line = run_at s s.input.names (asks s keeps half) from [] (behind_bytes from line s.input)

-- so many steps lead there as the line has bytes: those of its front, and of what it asks
pub asked-behind : (l : Limits) (s : State) (keeps : Bool) (from : Origin) (front bytes : List ℕ) (last : List OpenEscape) → BeginsLine s
    → Path (most_of s) s.input.names (stage LineStart no_arguments s.input.open_texts) front (asks s keeps (choice false)) → HalvesTaken (choice false) bytes last
    → let line : List ℕ = front ++ bytes in
    s.input.ahead ≡ ahead_at from line → s.tape ≡ tape_at from line s.tape → IsWithin l s → s.input.charge + length line ≤ l.bytes
    → to_hold from bytes + live_bytes s.input.calls ≤ l.stack
    → (after l (length line) s ≡ asked_at s keeps from last line) × RoomToAsk l s keeps from last [] (behind_bytes from line s.input)
asked-behind l s keeps from front bytes last begins path halves ahead tape within charged held =
    let names : Named Entry = s.input.names in
    let line : List ℕ = front ++ bytes in
    let p : Stage = stage LineStart no_arguments s.input.open_texts in
    let q : Stage = asks s keeps (choice false) in
    let start : State = run_at s names p from line s.input in
    let is : start ≡ s = is-run_at s from line p begins.reading begins.escapes begins.arguments refl ahead tape in
    let room : HasRoom l s names from (most_of s) p line s.input =
    HasRoom-start l s names from (most_of s) p line s.input (subst (IsWithin l) (sym is) within) charged (omega (arith, within.stack)) within.store within.making in
    let one = after-Path l s names from (most_of s) p q front bytes s.input begins.takes path room in
    let m : PageInput = behind_bytes from front s.input in
    let asking : RoomToAsk l s keeps from (choice false) bytes m =
    record { room = one.1; stack = omega (arith, held, ap (λ (j : PageInput). live_bytes j.calls) (behind_bytes-counts from front s.input)) } in
    let two = after-halves l s keeps from (choice false) last bytes m begins.takes halves asking in
    let same : behind_bytes from line s.input ≡ behind_bytes from bytes m = behind_bytes-append from front bytes s.input in (
      ap (after l (length line)) (sym is)
          ∙ ap (λ (n : ℕ). after l n start) (length-append front bytes)
          ∙ after-add l (length front) (length bytes) start
          ∙ ap (after l (length bytes)) one.0
          ∙ two.0
          ∙ ap (λ (i : PageInput). run_at s names (asks s keeps last) from [] i) (sym same),
      subst (λ (i : PageInput). RoomToAsk l s keeps from last [] i) (sym same) two.1,
    )

-- bytes ahead count already
pub to_hold-front : (rest : List (Ahead PageEvent)) (front bytes : List ℕ)
    → bytes_ahead (map ByteAhead bytes ++ rest) ≤ bytes_ahead (map ByteAhead (front ++ bytes) ++ rest)
to_hold-front rest [] bytes = omega arith
to_hold-front rest (b ∷ front) bytes = omega (arith, to_hold-front rest front bytes)
