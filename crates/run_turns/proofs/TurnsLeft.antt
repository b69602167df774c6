-- How many turns are to come of a run of the code, and of the definition's state.
use Rattle.std.proofs.Common.{◌≡◌, ◌⊎◌, ℕ, ◌+◌, ◌*◌, ◌<◌, ◌≤◌, Bool, true, false, List, [], ◌∷◌, ◌++◌, length, Some, None, inl, inr, refl, sym, ap, ◌∙◌, arith, if◌then◌else◌}
use Rattle.roff_num.specs.declared.limits.Limits.{Limits}
use Rattle.input_escapes.specs.OpenEscape.{OpenEscape}
use Rattle.input_source.specs.Tape.{Tape}
use Rattle.run_turns.specs.declared.running.Running.{Running as Coded}
use Rattle.run_items.specs.Ending.{input_ends}
use Rattle.run_turns.specs.Running.Turning.{line_turns, lines_left_in, state_at, turns_at, turns_left, turns_of_run}
use Rattle.run_model.specs.TurnsToCome.{most_left, begun, lines_left, phases_left, turns_within, unended}
use Rattle.run_model.proofs.LinesLeft.{left_behind, left-few}
use Rattle.run_state.proofs.InForce.{is_interrupted-in_force}
use Rattle.run_state.specs.Composer.Standing.{StandFor}
use Rattle.run_state.specs.declared.composer.Composer.{Composer as ComposerOf}
use Rattle.run_model.specs.Environments.{PageHistory, interrupted_line, environments, text_of}
use Rattle.page_model.specs.Events.{is_interrupted}
use Rattle.run_model.specs.Events.Lines.{closing_events}
use Rattle.run_model.specs.Reading.Ends.{due, is_unfinished}
use Rattle.run_model.specs.Run.{State, escape_ends, input_ended, known, phase_ended}
use Rattle.run_model.specs.declared.line_state.LineState.{LineState}
use Rattle.run_model.specs.declared.line_state.LineState.TheVariants.{LineStart, Branch, Braced, Text as InText, Control, Name, Deciding, Skipping, Dropped, Told, Exiting, TitleFront, Title as InTitle, Collecting}
use Rattle.run_model.specs.declared.line_state.TextLine.{TextLine}
use Rattle.run_model.specs.declared.phase.Phase.{Phase}
use Rattle.run_model.specs.declared.phase.Phase.TheVariants.{Reading, LastMacro, Closing}
use Rattle.run_model.proofs.Keeping.{Keeps-end_taking, Keeps-last_called}
use Rattle.run_model.proofs.LinesEnded.{AtBrace, AtStart, LineEnded, Within, line_ended, unended-few}
use Rattle.run_model.proofs.TurnsToCome.{turns_within-escape_ended}

-- an interrupted line counts where one is to go on
left-by : (b : Bool) (line : TextLine) → (if b then 1 else 0) ≡ lines_left (if b then Some line else None)
left-by true line = refl
left-by false line = refl

-- the code counts those that the history for which its environments stand has
pub lines_left-stands : (l : Limits) (h : PageHistory) (es : ComposerOf) → StandFor l h es → lines_left_in es ≡ lines_left (interrupted_line h)
lines_left-stands l h es stood =
    let as_one : Bool → ℕ = λ b. if b then 1 else 0 in
    ap as_one (is_interrupted-in_force l h es stood)
    ∙ left-by (is_interrupted (text_of h)) (environments h).in_force.interrupted

-- where a line begins nothing is due, and its end takes as many turns as lines are left; within one it takes two
pub line_turns-by : (reading : LineState)
    → ((unended reading ≡ 0) × ((due reading ≡ None) × ((left : ℕ) → line_turns reading left ≡ left))) ⊎ ((unended reading ≡ 1) × ((left : ℕ) → line_turns reading left ≡ 2))
line_turns-by LineStart = inl (refl, (refl, λ left. refl))
line_turns-by Branch = inr (refl, λ left. refl)
line_turns-by Braced = inl (refl, (refl, λ left. refl))
line_turns-by (InText line) = inr (refl, λ left. refl)
line_turns-by (Control breaks) = inr (refl, λ left. refl)
line_turns-by (Name breaks first) = inr (refl, λ left. refl)
line_turns-by (Collecting purpose) = inr (refl, λ left. refl)
line_turns-by (Deciding keeping) = inr (refl, λ left. refl)
line_turns-by (Skipping opened closed behind) = inr (refl, λ left. refl)
line_turns-by Dropped = inr (refl, λ left. refl)
line_turns-by (Told aborts) = inr (refl, λ left. refl)
line_turns-by Exiting = inr (refl, λ left. refl)
line_turns-by TitleFront = inr (refl, λ left. refl)
line_turns-by (InTitle delimiter) = inr (refl, λ left. refl)

-- a line that ends with the input counts no more than this
line_turns-few : (reading : LineState) (left : ℕ) → left ≤ 1 → line_turns reading left ≤ 2 * unended reading + 1
line_turns-few reading left few = elim (line_turns-by reading) [
  | inl begins ↦ let is = begins.1.1 left in omega (arith, is, few)
  | inr within ↦ let is = within.1 left in omega (arith, is, within.0)
]

-- nor less than this
line_turns-least : (reading : LineState) (left : ℕ) → 2 * unended reading ≤ line_turns reading left
line_turns-least reading left = elim (line_turns-by reading) [
  | inl begins ↦ omega (arith, begins.0)
  | inr within ↦ let is = within.1 left in omega (arith, is, within.0)
]

-- where fewer lines are left, no more
pub line_turns-more : (reading : LineState) (left more : ℕ) → left ≤ more → line_turns reading left ≤ line_turns reading more
line_turns-more reading left more few = elim (line_turns-by reading) [
  | inl begins ↦ let is = begins.1.1 left in let others = begins.1.1 more in omega (arith, is, others, few)
  | inr within ↦ let is = within.1 left in let others = within.1 more in omega (arith, is, others)
]

-- less than a turn counts
pub line_turns-less : (reading : LineState) (left : ℕ) → left ≤ 1 → line_turns reading left ≤ 3
line_turns-less reading left few = omega (arith, line_turns-few reading left few, unended-few reading)

-- the code has one environment in force
pub lines_left_in-few : (es : ComposerOf) → lines_left_in es ≤ 1
lines_left_in-few es = by_flag es.environments.in_force.lines.is_interrupted
  where
    by_flag : (b : Bool) → (if b then 1 else 0) ≤ 1
    by_flag true = omega arith
    by_flag false = omega arith

-- as many turns are to come of a run as of the state that it is at
pub turns_at-run : (tape : Tape) (run : Coded) (h : PageHistory) (messages : List ℕ) (l : Limits) → StandFor l h run.interpreter.formatter.composer
    → turns_at run.unread.limits.bytes (state_at tape run h messages) ≡ turns_of_run run
turns_at-run tape run h messages l stood =
    let reading : LineState = run.interpreter.reader.reading in
    ap (λ (left : ℕ). 4 * turns_left run + line_turns reading left + phases_left run.phase) (sym (lines_left-stands l h run.interpreter.formatter.composer stood))

-- fewer are to come of a state in the same phase of whose input fewer are
pub turns_at-fewer : (bytes : ℕ) (run : Coded) (s : State) → turns_within bytes s.input + begun s.reading < turns_left run → s.phase ≡ run.phase
    → turns_at bytes s < turns_of_run run
turns_at-fewer bytes run s fewer same =
    let left : ℕ = most_left s.to_do (lines_left (interrupted_line s.history)) in
    let few : line_turns s.reading left ≤ 3 = line_turns-less s.reading left (left-few s.to_do s.history) in
    let phases : phases_left s.phase ≡ phases_left run.phase = ap phases_left same in
    omega (arith, fewer, few, phases)

-- and of a run in the same phase
pub turns_of_run-fewer : (old new : Coded) → turns_left new < turns_left old → new.phase ≡ old.phase → turns_of_run new < turns_of_run old
turns_of_run-fewer old new fewer same =
    let left : ℕ = lines_left_in new.interpreter.formatter.composer in
    let few : line_turns new.interpreter.reader.reading left ≤ 3 = line_turns-less new.interpreter.reader.reading left (lines_left_in-few new.interpreter.formatter.composer) in
    let phases : phases_left new.phase ≡ phases_left old.phase = ap phases_left same in
    omega (arith, fewer, few, phases)

-- no more of one that reads the same kind of line in the same phase
pub turns_of_run-no_more : (old new : Coded) → turns_left new ≤ turns_left old → new.phase ≡ old.phase
    → line_turns new.interpreter.reader.reading (lines_left_in new.interpreter.formatter.composer) ≡ line_turns old.interpreter.reader.reading (lines_left_in old.interpreter.formatter.composer)
    → turns_of_run new ≤ turns_of_run old
turns_of_run-no_more old new few same lines =
    let phases : phases_left new.phase ≡ phases_left old.phase = ap phases_left same in
    omega (arith, few, lines, phases)

-- an unfinished line ends with the input
line_ends-fewer : (bytes : ℕ) (s : State) (reading : LineState) → LineEnded (known s) s.input reading → s.to_do ≡ [] → is_unfinished s.phase (known s) reading ≡ true
    → let from : State = record s { reading = reading } in turns_at bytes (input_ended true from) < turns_at bytes from
line_ends-fewer bytes s LineStart AtStart none unfinished =
    let fewer = left_behind s.phase s.history s.to_do none unfinished in omega (arith, fewer)
line_ends-fewer bytes s Braced AtBrace none unfinished =
    let fewer = left_behind s.phase s.history s.to_do none unfinished in omega (arith, fewer)
line_ends-fewer bytes s reading (Within same fewer) none unfinished =
    let keeps = Keeps-end_taking (known s) reading s.input in
    let from : State = record s { reading = reading } in
    let behind : State = input_ended true from in
    let left : ℕ = most_left behind.to_do (lines_left (interrupted_line s.history)) in
    let few = line_turns-few behind.reading left (left-few behind.to_do s.history) in
    let least = line_turns-least reading (most_left s.to_do (lines_left (interrupted_line s.history))) in
    omega (arith, fewer, few, least, keeps.charge, keeps.free)

-- a phase ends that isn't the last
phase_ends-fewer : (bytes : ℕ) (phase : Phase) (s : State) → s.phase ≡ phase → (phase ≡ Closing → ⊥) → turns_at bytes (phase_ended phase s) < turns_at bytes s
phase_ends-fewer bytes Reading s is others =
    let keeps = Keeps-last_called s.registers.last_macro s.input in
    let phases : phases_left s.phase ≡ 5 = ap phases_left is in
    let few = left-few s.to_do s.history in
    omega (arith, few, keeps.charge, keeps.free, keeps.escapes, phases)
phase_ends-fewer bytes LastMacro s is others =
    let phases : phases_left s.phase ≡ 3 = ap phases_left is in
    let few = left-few (closing_events ++ s.to_do) s.history in
    omega (arith, few, phases)
phase_ends-fewer bytes Closing s is others = absurd (others refl)

-- with nothing half read, by whether a line is unfinished
input_ended-fewer : (bytes : ℕ) (s : State) (unfinished : Bool) → is_unfinished s.phase (known s) s.reading ≡ unfinished → s.input.escapes ≡ [] → s.to_do ≡ []
    → (unfinished ≡ false → s.phase ≡ Closing → ⊥) → turns_at bytes (input_ended unfinished s) < turns_at bytes s
input_ended-fewer bytes s true is none idle others = line_ends-fewer bytes s s.reading (line_ended (known s) s.reading s.input none) idle is
input_ended-fewer bytes s false is none idle others = phase_ends-fewer bytes s.phase s refl (others refl)

-- what is half read ends
pub escape_ends-fewer : (bytes : ℕ) (s : State) → 1 ≤ length s.input.escapes → turns_at bytes (escape_ends s) < turns_at bytes s
escape_ends-fewer bytes s some =
    let fewer = turns_within-escape_ended bytes (known s) s.reading s.input some in
    let behind : State = escape_ends s in
    let left : ℕ = most_left behind.to_do (lines_left (interrupted_line s.history)) in
    let few : line_turns behind.reading left ≤ 3 = line_turns-less behind.reading left (left-few behind.to_do s.history) in
    omega (arith, fewer, few)

-- the end of the input is met where the run goes on: fewer turns are to come
pub input_ends-fewer : (bytes : ℕ) (s : State) → s.to_do ≡ [] → (s.input.escapes ≡ [] → is_unfinished s.phase (known s) s.reading ≡ false → s.phase ≡ Closing → ⊥)
    → turns_at bytes (input_ends s) < turns_at bytes s
input_ends-fewer bytes s idle goes_on = by_half s.input.escapes refl
  where
    by_half : (half : List OpenEscape) → s.input.escapes ≡ half
        → turns_at bytes (elim half as (λ _. State) [ [] ↦ input_ended (is_unfinished s.phase (known s) s.reading) s | first ∷ others ↦ escape_ends s ]) < turns_at bytes s
    by_half [] none = input_ended-fewer bytes s (is_unfinished s.phase (known s) s.reading) refl none idle (goes_on none)
    by_half (first ∷ others) some =
        let one : 1 ≤ length s.input.escapes = rw some (omega arith) in escape_ends-fewer bytes s one
