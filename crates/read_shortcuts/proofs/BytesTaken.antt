-- Bytes that stood in front were taken: more were taken of the input than before.
use Rattle.std.proofs.Common.{ℕ, Bool, true, false, ◌<◌, ◌≤◌, List, [], ◌∷◌, ◌++◌, length, ap, arith, length-append, if◌then◌else◌, length-take-le}
use Rattle.input_model.specs.Arguments.{Arguments, bytes_held}
use Rattle.input_source.specs.Bytes.{newline}
use Rattle.input_source.specs.Tape.{Tape}
use Rattle.roff_scan.specs.Unread.Calls.{IsFront, PassesFront, front_bytes}
use Rattle.roff_scan.specs.Unread.Lines.{ended_by, is_ended, with_held}
use Rattle.roff_scan.specs.declared.unread.lines.BehindHeld.{BehindHeld}
use Rattle.run_model.specs.Reading.Items.{PageUnread}
use Rattle.read_shortcuts.specs.ControlFronts.{StandsReady}
use Rattle.read_shortcuts.specs.Stages.{ReadsLine}
use Rattle.read_shortcuts.proofs.RunsRead.{passed-charge}
use Rattle.read_lines.specs.Reader.State.{ReaderState}
use Rattle.roff_scan.specs.Unread.Runs.{with_stage_of}
use Rattle.roff_scan.specs.Unread.Texts.{CountsText}

-- so many of those in front
pub front_taken : (gave gives : Tape → Type 0) (count : ℕ) (ready : List ℕ) (before after : PageUnread) → IsFront count ready before → 1 ≤ count
    → PassesFront gave gives (front_bytes count ready before) before after → before.input.charge < after.input.charge
front_taken gave gives count ready before after front some passes =
    let charge = passed-charge gave gives (front_bytes count ready before) before after passes in
    let count_is = length-take-le count _ front.among in
    omega (arith, charge, count_is, some)

-- and a newline behind them
pub line_taken : (gave gives : Tape → Type 0) (bytes : List ℕ) (before after : PageUnread) → PassesFront gave gives (bytes ++ newline ∷ []) before after
    → before.input.charge < after.input.charge
line_taken gave gives bytes before after passes =
    let charge = passed-charge gave gives (bytes ++ newline ∷ []) before after passes in
    let count_is = length-append bytes (newline ∷ []) in
    omega (arith, charge, count_is)

-- a line up to its newline
pub read-taken : (gave gives : Tape → Type 0) (old new : ReaderState) (before after : PageUnread) → ReadsLine gave gives old new before after
    → before.input.charge < after.input.charge
read-taken gave gives old new before after line =
    line_taken gave gives line.bytes (record before { input = with_stage_of after.input before.input }) after line.passes

-- those in front, and others behind them that are held in arguments
pub held-taken : (gave gives : Tape → Type 0) (first held ready : List ℕ) (a : Arguments) (b : BehindHeld) (before after : PageUnread) → StandsReady first ready before
    → 1 ≤ length first → PassesFront gave gives (ended_by b (front_bytes (length first) ready before ++ held)) (with_held (bytes_held held a) before) after
    → before.input.charge < after.input.charge
held-taken gave gives first held ready a b before after stands some passes =
    let charge = passed-charge gave gives (ended_by b (front_bytes (length first) ready before ++ held)) (with_held (bytes_held held a) before) after passes in
    let first_is = length-take-le (length first) _ stands.front.among in
    let both = length-append (front_bytes (length first) ready before) held in
    let bytes : List ℕ = front_bytes (length first) ready before ++ held in
    let longer : length bytes ≤ length (ended_by b bytes) = more (is_ended b) bytes in
    omega (arith, charge, first_is, both, some, longer)
  where
    more : (ended : Bool) (bytes : List ℕ) → length bytes ≤ length (if ended then bytes ++ newline ∷ [] else bytes)
    more true bytes = let all = length-append bytes (newline ∷ []) in omega (arith, all)
    more false bytes = omega arith

-- a text was counted, and bytes were taken behind it
pub counted_taken : (gave gives : Tape → Type 0) (len more : ℕ) (bytes : List ℕ) (before counted after : PageUnread) → CountsText len more before counted
    → PassesFront gave gives bytes counted after → before.input.charge < after.input.charge
counted_taken gave gives len more bytes before counted after counts passes =
    let charge = passed-charge gave gives bytes counted after passes in
    let first = ap (λ (u : PageUnread). u.input.charge) counts.counted in
    omega (arith, charge, first)
