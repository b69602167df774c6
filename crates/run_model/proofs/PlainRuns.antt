-- Runs over bytes that change what is read, the arguments of the line and the texts in the making, and nothing else.
use Rattle.std.proofs.Common.{◌≡◌, ℕ, ◌+◌, ◌-◌, ◌≤◌, false, List, [], ◌∷◌, ◌++◌, length, Some, None, refl, ap, sym, ◌∙◌, arith, map, sum_by, if◌then◌else◌, ◌==◌, length-append}
use Rattle.roff_num.specs.declared.limits.Limits.{Limits}
use Rattle.input_model.specs.Arguments.{Arguments, held, live_bytes}
use Rattle.input_source.specs.Bytes.{newline}
use Rattle.input_escapes.specs.OpenEscape.{OpenEscape, texts_held}
use Rattle.input_escapes.specs.Waiting.{is_ended_by}
use Rattle.input_model.specs.Input.{Ahead, ByteAhead, bytes_ahead, ends_ahead, lines_taken}
use Rattle.input_source.specs.Tape.{Tape}
use Rattle.roff_store.specs.Named.{Named}
use Rattle.roff_store.specs.Texts.{Entry, bytes_in}
use Rattle.run_model.proofs.ItemsTaken.{FromAhead, FromSource, Fits-IsWithin, Origin, ahead_at, bytes_ahead_are_taken, bytes_of_the_source_are_taken, made-Fits, taken_as-going_on, tape_at}
use Rattle.run_model.proofs.Leads.{after-add}
use Rattle.run_model.specs.ItemsTaken.{TakesItems}
use Rattle.run_model.specs.Within.{EnvironmentsWithin, IsWithin}
use Rattle.run_model.specs.Environments.{environments}
use Rattle.run_model.specs.Layouts.{layout_of}
use Rattle.run_model.specs.Reading.Ends.{due}
use Rattle.run_model.specs.Reading.Items.{PageInput, Taking}
use Rattle.run_model.specs.Requests.{PageEvent}
use Rattle.run_model.specs.TitleTexts.{title_length}
use Rattle.run_model.specs.Run.{State, after, byte_taken, known, made, step, taken_as, output}
use Rattle.run_model.specs.Stages.{Stage, Turns, input_at}
use Rattle.run_model.specs.declared.line_state.LineState.{LineState}

-- what is counted of a byte, by where it comes from
abbrev pub newlines_behind : Origin → ℕ → ℕ → ℕ
newlines_behind (FromAhead rest) b newlines = newlines
newlines_behind (FromSource tape) b newlines = if b == newline then newlines + 1 else newlines

abbrev pub line_of_byte : Origin → ℕ → ℕ → ℕ
line_of_byte (FromAhead rest) newlines line = line
line_of_byte (FromSource tape) newlines line = newlines + 1

abbrev pub behind_byte : Origin → ℕ → PageInput → PageInput
behind_byte from b i =
    record i { charge = i.charge + 1; newlines = newlines_behind from b i.newlines; line = line_of_byte from i.newlines i.line }

-- and of several
abbrev pub behind_bytes : Origin → List ℕ → PageInput → PageInput
behind_bytes from [] i = i
behind_bytes from (b ∷ bytes) i = behind_bytes from bytes (behind_byte from b i)

-- a run at a stage, where these bytes come next
abbrev pub run_at : State → Named Entry → Stage → Origin → List ℕ → PageInput → State
run_at s names p from bytes i = record s {
  tape = tape_at from bytes s.tape;
  input = record (input_at names p i) { ahead = ahead_at from bytes };
  reading = p.reading;
}

-- a step at a byte
pub step-taken : (l : Limits) (s : State) (names : Named Entry) (from : Origin) (p : Stage) (b : ℕ) (bytes : List ℕ) (i : PageInput) (t : State)
    → TakesItems s → due p.reading ≡ None → is_ended_by p.escapes (Some b) ≡ false → i.charge + 1 ≤ l.bytes → byte_taken b (run_at s names p from bytes (behind_byte from b i)) ≡ t → IsWithin l t
    → step l (run_at s names p from (b ∷ bytes) i) ≡ t
step-taken l s names (FromAhead rest) p b bytes i t on none_due stays few is within =
    let before : State = run_at s names p (FromAhead rest) (b ∷ bytes) i in
    bytes_ahead_are_taken l before b (map ByteAhead bytes ++ rest) (record { going = on.going; is_open = on.is_open; idle = on.idle; unsprung = on.unsprung; none_due = none_due })
    refl stays (omega (arith, few))
    ∙ ap (made l before) is ∙ made-Fits l before t (Fits-IsWithin l t within)
step-taken l s names (FromSource tape) p b bytes i t on none_due stays few is within =
    let before : State = run_at s names p (FromSource tape) (b ∷ bytes) i in
    bytes_of_the_source_are_taken l before b (record { going = on.going; is_open = on.is_open; idle = on.idle; unsprung = on.unsprung; none_due = none_due })
    refl refl stays (omega (arith, few))
    ∙ ap (made l before) is ∙ made-Fits l before t (Fits-IsWithin l t within)

-- one that leads to another stage
step-turns : (l : Limits) (s : State) (names : Named Entry) (from : Origin) (p q : Stage) (b : ℕ) (bytes : List ℕ) (i : PageInput)
    → TakesItems s → due p.reading ≡ None → is_ended_by p.escapes (Some b) ≡ false → i.charge + 1 ≤ l.bytes → Turns names p b q → IsWithin l (run_at s names q from bytes (behind_byte from b i))
    → step l (run_at s names p from (b ∷ bytes) i) ≡ run_at s names q from bytes (behind_byte from b i)
step-turns l s names from p q b bytes i on none_due stays few turns within =
    let taken : State = run_at s names p from bytes (behind_byte from b i) in
    let there : PageInput = record (behind_byte from b i) { ahead = ahead_at from bytes } in
    step-taken l s names from p b bytes i (run_at s names q from bytes (behind_byte from b i)) on none_due stays few
    (ap (λ (t : Taking). taken_as t taken) (turns (known taken) there) ∙ taken_as-going_on (input_at names q there) q.reading taken)
    within

-- what may be held of arguments, and of texts in the making
pub record Most : Type 0 where
  pub held : ℕ
  pub stored : ℕ
  pub texts : ℕ

-- no more is held at a stage, and nothing of what is half read
pub record IsSmall (most : Most) (p : Stage) : Type 0 where
  pub none_half : texts_held p.escapes ≡ 0
  pub held_few : held p.arguments ≤ most.held
  pub stored_few : sum_by length p.texts ≤ most.stored
  pub texts_few : length p.texts ≤ most.texts

-- bytes that lead from stage to stage: nothing is due before one, none ends what is half read, and of each one byte more is held
-- at the most
pub data Path (most : Most) (names : Named Entry) : Stage → List ℕ → Stage → Type 0 where
  Here : (p : Stage) → Path most names p [] p
  Onward : (p q r : Stage) (b : ℕ) (bytes : List ℕ) → due p.reading ≡ None → is_ended_by p.escapes (Some b) ≡ false → Turns names p b q → IsSmall most q → held q.arguments ≤ held p.arguments + 1
      → Path most names q bytes r → Path most names p (b ∷ bytes) r

-- one path behind another
pub Path-append : (most : Most) (names : Named Entry) (p q r : Stage) (front behind : List ℕ)
    → Path most names p front q → Path most names q behind r → Path most names p (front ++ behind) r
Path-append most names _ q r _ behind (Here p) others = others
Path-append most names p _ r _ behind (Onward _ next q b bytes none_due stays turns small grows path) others =
    Onward p next r b (bytes ++ behind) none_due stays turns small grows (Path-append most names next q r bytes behind path others)

-- the stack has room for what is held of bytes to come: those of them that stand ahead count already
abbrev stack_room : Limits → Origin → Most → Stage → List ℕ → PageInput → Type 0
stack_room l (FromAhead rest) most p bytes i = bytes_ahead (map ByteAhead bytes ++ rest) + held p.arguments + live_bytes i.calls ≤ l.stack
stack_room l (FromSource tape) most p bytes i = most.held + live_bytes i.calls ≤ l.stack

-- the limits allow all that these bytes may lead to
pub record HasRoom (l : Limits) (s : State) (names : Named Entry) (from : Origin) (most : Most) (p : Stage) (bytes : List ℕ) (i : PageInput) : Type 0 where
  pub charged : i.charge + length bytes ≤ l.bytes
  pub stack : stack_room l from most p bytes i
  pub depth : ends_ahead (ahead_at from bytes) ≤ l.depth
  pub store : bytes_in names + most.stored ≤ l.store
  pub texts : length names - i.first_names ≤ l.names
  pub making : most.texts ≤ l.diversions + 1
  pub conditions : length i.results ≤ l.conditions
  pub registers : length s.registers.named ≤ l.names
  pub title : title_length s.registers.title ≤ l.line
  pub environments : EnvironmentsWithin l (environments s.history)
  pub output : length (output s) ≤ l.output
  pub traps : length (layout_of s.history).traps ≤ l.traps

-- behind a byte too
stack_room-behind : (l : Limits) (from : Origin) (most : Most) (p q : Stage) (b : ℕ) (bytes : List ℕ) (i : PageInput)
    → held q.arguments ≤ held p.arguments + 1 → stack_room l from most p (b ∷ bytes) i → stack_room l from most q bytes (behind_byte from b i)
stack_room-behind l (FromAhead rest) most p q b bytes i grows room = omega (arith, grows, room)
stack_room-behind l (FromSource tape) most p q b bytes i grows room = room

ends_ahead-behind : (from : Origin) (b : ℕ) (bytes : List ℕ) → ends_ahead (ahead_at from (b ∷ bytes)) ≡ ends_ahead (ahead_at from bytes)
ends_ahead-behind (FromAhead rest) b bytes = refl
ends_ahead-behind (FromSource tape) b bytes = refl

pub HasRoom-behind : (l : Limits) (s : State) (names : Named Entry) (from : Origin) (most : Most) (p q : Stage) (b : ℕ) (bytes : List ℕ) (i : PageInput)
    → held q.arguments ≤ held p.arguments + 1 → HasRoom l s names from most p (b ∷ bytes) i → HasRoom l s names from most q bytes (behind_byte from b i)
HasRoom-behind l s names from most p q b bytes i grows room = record {
  charged = omega (arith, room.charged);
  stack = stack_room-behind l from most p q b bytes i grows room.stack;
  depth = omega (arith, room.depth, ends_ahead-behind from b bytes);
  store = room.store;
  texts = room.texts;
  making = room.making;
  conditions = room.conditions;
  registers = room.registers;
  title = room.title;
  environments = room.environments;
  output = room.output;
  traps = room.traps;
}

-- so the states on the way are within the limits
pushed-stack_room : (l : Limits) (from : Origin) (most : Most) (p : Stage) (bytes : List ℕ) (i : PageInput) → held p.arguments ≤ most.held
    → stack_room l from most p bytes i → bytes_ahead (ahead_at from bytes) + held p.arguments + live_bytes i.calls ≤ l.stack
pushed-stack_room l (FromAhead rest) most p bytes i few room = room
pushed-stack_room l (FromSource tape) most p bytes i few room = omega (arith, few, room)

pub IsWithin-HasRoom : (l : Limits) (s : State) (names : Named Entry) (from : Origin) (most : Most) (p : Stage) (bytes : List ℕ) (i : PageInput)
    → IsSmall most p → HasRoom l s names from most p bytes i → IsWithin l (run_at s names p from bytes i)
IsWithin-HasRoom l s names from most p bytes i small room = record {
  bytes = omega (arith, room.charged);
  stack = omega (arith, pushed-stack_room l from most p bytes i small.held_few room.stack, small.none_half);
  depth = room.depth;
  store = omega (arith, room.store, small.stored_few);
  texts = room.texts;
  making = omega (arith, room.making, small.texts_few);
  conditions = room.conditions;
  names = room.registers;
  title = room.title;
  environments = room.environments;
  output = room.output;
  traps = room.traps;
}

-- a run takes one step for each byte of a path, and there is room behind it for the others
pub after-Path : (l : Limits) (s : State) (names : Named Entry) (from : Origin) (most : Most) (p q : Stage) (bytes more : List ℕ) (i : PageInput)
    → TakesItems s → Path most names p bytes q → HasRoom l s names from most p (bytes ++ more) i
    → (after l (length bytes) (run_at s names p from (bytes ++ more) i) ≡ run_at s names q from more (behind_bytes from bytes i))
    × HasRoom l s names from most q more (behind_bytes from bytes i)
after-Path l s names from most _ q _ more i on (Here p) room = (refl, room)
after-Path l s names from most p _ _ more i on (Onward _ next q b bytes none_due stays turns small grows path) room =
    let behind : HasRoom l s names from most next (bytes ++ more) (behind_byte from b i) = HasRoom-behind l s names from most p next b (bytes ++ more) i grows room in
    let few : i.charge + 1 ≤ l.bytes = omega (arith, room.charged) in
    let others = after-Path l s names from most next q bytes more (behind_byte from b i) on path behind in (
      ap (after l (length bytes))
          (step-turns l s names from p next b (bytes ++ more) i on none_due stays few turns (IsWithin-HasRoom l s names from most next (bytes ++ more) (behind_byte from b i) small behind))
          ∙ others.0,
      others.1,
    )

-- what is counted of bytes, by where they come from
pub behind_bytes-ahead : (rest : List (Ahead PageEvent)) (bytes : List ℕ) (i : PageInput)
    → behind_bytes (FromAhead rest) bytes i ≡ record i { charge = i.charge + length bytes }
behind_bytes-ahead rest [] i = ap (λ (charge : ℕ). record i { charge = charge }) (omega arith)
behind_bytes-ahead rest (b ∷ bytes) i =
    behind_bytes-ahead rest bytes (behind_byte (FromAhead rest) b i)
    ∙ ap (λ (charge : ℕ). record i { charge = charge }) (omega arith)

pub behind_bytes-source : (tape : Tape) (bytes : List ℕ) (i : PageInput) → behind_bytes (FromSource tape) bytes i ≡ lines_taken bytes i
behind_bytes-source tape [] i = refl
behind_bytes-source tape (b ∷ bytes) i = behind_bytes-source tape bytes (behind_byte (FromSource tape) b i)

-- nothing but what is counted changes
pub behind_bytes-counts : (from : Origin) (bytes : List ℕ) (i : PageInput)
    → let j : PageInput = behind_bytes from bytes i in j ≡ record i { charge = j.charge; newlines = j.newlines; line = j.line }
behind_bytes-counts from [] i = refl
behind_bytes-counts from (b ∷ bytes) i = behind_bytes-counts from bytes (behind_byte from b i)

behind_bytes-last : (from : Origin) (bytes : List ℕ) (b : ℕ) (i : PageInput) → behind_byte from b (behind_bytes from bytes i) ≡ behind_bytes from (bytes ++ b ∷ []) i
behind_bytes-last from [] b i = refl
behind_bytes-last from (c ∷ bytes) b i = behind_bytes-last from bytes b (behind_byte from c i)

-- the input behind bytes that change nothing but what is counted, with nothing of them left
abbrev pub counted : Origin → List ℕ → PageInput → PageInput
counted from bytes i =
    let j : PageInput = behind_bytes from bytes i in record i { ahead = ahead_at from []; charge = j.charge; newlines = j.newlines; line = j.line }

-- so it is behind the last of them
pub counted-last : (from : Origin) (bytes : List ℕ) (b : ℕ) (i : PageInput)
    → record (behind_byte from b (behind_bytes from bytes i)) { ahead = ahead_at from [] } ≡ counted from (bytes ++ b ∷ []) i
counted-last from bytes b i =
    ap (λ (j : PageInput). record j { ahead = ahead_at from [] }) (behind_bytes-last from bytes b i ∙ behind_bytes-counts from (bytes ++ b ∷ []) i)

-- by where they come from
pub counted-ahead : (rest : List (Ahead PageEvent)) (bytes : List ℕ) (i : PageInput)
    → counted (FromAhead rest) bytes i ≡ record i { ahead = rest; charge = i.charge + length bytes }
counted-ahead rest bytes i =
    ap (λ (j : PageInput). record i { ahead = rest; charge = j.charge; newlines = j.newlines; line = j.line }) (behind_bytes-ahead rest bytes i)

pub counted-source : (tape : Tape) (bytes : List ℕ) (i : PageInput) → i.ahead ≡ [] → counted (FromSource tape) bytes i ≡ lines_taken bytes i
counted-source tape bytes i none =
    let j : PageInput = behind_bytes (FromSource tape) bytes i in
    ap (λ (ahead : List (Ahead PageEvent)). record i { ahead = ahead; charge = j.charge; newlines = j.newlines; line = j.line }) (sym none)
    ∙ sym (behind_bytes-counts (FromSource tape) bytes i) ∙ behind_bytes-source tape bytes i

-- a run that stands at these bytes is at this stage
pub is-run_at : (s : State) (from : Origin) (bytes : List ℕ) (p : Stage) → s.reading ≡ p.reading → s.input.escapes ≡ p.escapes → s.input.arguments ≡ p.arguments
    → s.input.open_texts ≡ p.texts → s.input.ahead ≡ ahead_at from bytes → s.tape ≡ tape_at from bytes s.tape → run_at s s.input.names p from bytes s.input ≡ s
is-run_at s from bytes p reading half arguments texts ahead tape =
    let of : Tape → List (Ahead PageEvent) → LineState → List OpenEscape → Arguments → List (List ℕ) → State = λ t items r h a made.
    record s { tape = t; input = record s.input { ahead = items; escapes = h; arguments = a; open_texts = made }; reading = r } in
    ap (λ (t : Tape). of t (ahead_at from bytes) p.reading p.escapes p.arguments p.texts) (sym tape)
    ∙ ap (λ (items : List (Ahead PageEvent)). of s.tape items p.reading p.escapes p.arguments p.texts) (sym ahead)
    ∙ ap (λ (r : LineState). of s.tape s.input.ahead r p.escapes p.arguments p.texts) (sym reading)
    ∙ ap (λ (h : List OpenEscape). of s.tape s.input.ahead s.reading h p.arguments p.texts) (sym half)
    ∙ ap (λ (a : Arguments). of s.tape s.input.ahead s.reading s.input.escapes a p.texts) (sym arguments)
    ∙ ap (λ (made : List (List ℕ)). of s.tape s.input.ahead s.reading s.input.escapes s.input.arguments made) (sym texts)

-- the steps at bytes that lead from stage to stage, and at the one behind them
pub after-last : (l : Limits) (s : State) (names : Named Entry) (from : Origin) (most : Most) (p q : Stage) (bytes : List ℕ) (b : ℕ) (i : PageInput) (t : State)
    → TakesItems s → Path most names p bytes q → HasRoom l s names from most p (bytes ++ b ∷ []) i → due q.reading ≡ None → is_ended_by q.escapes (Some b) ≡ false
    → byte_taken b (run_at s names q from [] (behind_byte from b (behind_bytes from bytes i))) ≡ t → IsWithin l t
    → after l (length (bytes ++ b ∷ [])) (run_at s names p from (bytes ++ b ∷ []) i) ≡ t
after-last l s names from most p q bytes b i t on path room none_due stays is within =
    let there = after-Path l s names from most p q bytes (b ∷ []) i on path room in
    ap (λ (n : ℕ). after l n (run_at s names p from (bytes ++ b ∷ []) i)) (length-append bytes (b ∷ []))
    ∙ after-add l (length bytes) 1 (run_at s names p from (bytes ++ b ∷ []) i)
    ∙ ap (after l 1) there.0
    ∙ step-taken l s names from q b [] (behind_bytes from bytes i) t on none_due stays (omega (arith, there.1.charged)) is within

-- what was taken
pub behind_bytes-charge : (from : Origin) (bytes : List ℕ) (i : PageInput) → (behind_bytes from bytes i).charge ≡ i.charge + length bytes
behind_bytes-charge from [] i = omega arith
behind_bytes-charge from (b ∷ bytes) i = omega (arith, behind_bytes-charge from bytes (behind_byte from b i))

-- there is room for bytes where a run within its limits stands at them, if there is room for the most that they may lead to
stack_room-start : (l : Limits) (s : State) (names : Named Entry) (from : Origin) (most : Most) (p : Stage) (bytes : List ℕ) (i : PageInput)
    → IsWithin l (run_at s names p from bytes i) → most.held + live_bytes i.calls ≤ l.stack → stack_room l from most p bytes i
stack_room-start l s names (FromAhead rest) most p bytes i within few = omega (arith, within.stack)
stack_room-start l s names (FromSource tape) most p bytes i within few = few

pub HasRoom-start : (l : Limits) (s : State) (names : Named Entry) (from : Origin) (most : Most) (p : Stage) (bytes : List ℕ) (i : PageInput)
    → IsWithin l (run_at s names p from bytes i) → i.charge + length bytes ≤ l.bytes → most.held + live_bytes i.calls ≤ l.stack
    → bytes_in names + most.stored ≤ l.store → most.texts ≤ l.diversions + 1 → HasRoom l s names from most p bytes i
HasRoom-start l s names from most p bytes i within charged held_few stored_few texts_few = record {
  charged = charged;
  stack = stack_room-start l s names from most p bytes i within held_few;
  depth = within.depth;
  store = stored_few;
  texts = within.texts;
  making = texts_few;
  conditions = within.conditions;
  registers = within.names;
  title = within.title;
  environments = within.environments;
  output = within.output;
  traps = within.traps;
}

-- where bytes were taken no more stands ahead than did
pub bytes_ahead-behind : (from : Origin) (bytes : List ℕ) → bytes_ahead (ahead_at from []) ≤ bytes_ahead (ahead_at from bytes)
bytes_ahead-behind (FromAhead rest) [] = omega arith
bytes_ahead-behind (FromAhead rest) (b ∷ bytes) = omega (arith, bytes_ahead-behind (FromAhead rest) bytes)
bytes_ahead-behind (FromSource tape) bytes = omega arith

pub ends_ahead-behind_all : (from : Origin) (bytes : List ℕ) → ends_ahead (ahead_at from []) ≡ ends_ahead (ahead_at from bytes)
ends_ahead-behind_all (FromAhead rest) [] = refl
ends_ahead-behind_all (FromAhead rest) (b ∷ bytes) = ends_ahead-behind_all (FromAhead rest) bytes
ends_ahead-behind_all (FromSource tape) bytes = refl
