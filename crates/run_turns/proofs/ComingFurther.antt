-- Runs that come further: one behind another, with fewer turns to come or no more, by a turn, behind what is due.
use Rattle.std.proofs.Common.{◌≡◌, ℕ, ◌≤◌, ◌<◌, Bool, true, false, ◌++◌, Result, Ok, Err, OnOk, refl, sym, subst, ◌∙◌, arith, Option, None, ap, List, [], ◌&&◌, ◌||◌}
use Rattle.input_source.specs.Tape.{Tape, items_then}
use Rattle.run_model.specs.Run.{step, State, item_read, reading_by}
use Rattle.run_model.specs.declared.status.Status.{Status}
use Rattle.run_turns.specs.declared.running.Running.{Running as Coded}
use Rattle.run_items.specs.Outcome.{Beginning, Seen, seen}
use Rattle.run_turns.specs.Running.Turning.{AreLeft, Comes, ComesFrom, DoesDue, GoesPast, IsAt, StepDoesIf, TurnsBy, turns_of_run, turns_with, state_at}
use Rattle.run_items.proofs.Sighted.{items_then-append}
use Rattle.run_model.specs.Output.{PageHistory}
use Rattle.run_model.specs.Reading.Ends.{due}
use Rattle.run_model.specs.declared.line_state.Due.{Due}
use Rattle.page_bytes.specs.Sinks.{Sunk}

-- nowhere
pub comes_none : (gave : Tape → Type 0) (notes : ℕ) (old : Coded) (now : Seen) → GoesPast false gave gave notes notes old old now now
comes_none gave notes old now = record {
  limits = refl;
  taken = [];
  before = λ t given. given;
  comes = λ t tape start given at any. at;
  turns = λ t tape start given at any. omega arith;
}

-- of turns that are left some are left
left_both : (first second : Bool) (left halfway turns : ℕ) → AreLeft first halfway turns → AreLeft second left halfway → AreLeft (first || second) left turns
left_both true true left halfway turns more less = omega (arith, more, less)
left_both true false left halfway turns more less = omega (arith, more, less)
left_both false true left halfway turns more less = omega (arith, more, less)
left_both false false left halfway turns more less = omega (arith, more, less)

-- further, and then further
module _ {does : Option (State → State)} (first : Bool) {second : Bool} {gave mid gives : Tape → Type 0} {noted kept notes : ℕ} {old between new : Coded} {now halfway behind : Seen}
    {r : Result (Unit {0}) Status} (one : ComesFrom does first gave mid noted kept old between now halfway (Ok tt))
    (other : Comes second mid gives kept notes between new halfway behind r) where
  -- a place of the run in front of both, over all that they took
  abbrev Stands : Beginning → Tape → Seen → Type 0
  Stands t whole start = (at : IsAt t whole start now old) × StepDoesIf does whole old at.history at.messages

  stands_first : (t : Beginning) (tape : Tape) (start : Seen) → Stands t (items_then (one.taken ++ other.taken) tape) start → Stands t (items_then one.taken (items_then other.taken tape)) start
  stands_first t tape start stands = subst (λ (whole : Tape). Stands t whole start) (items_then-append one.taken other.taken tape) stands

  left : (r : Result (Unit {0}) Status) → AreLeft first (turns_with between kept) (turns_with old noted) → OnOk r (AreLeft second (turns_with new notes) (turns_with between kept))
      → OnOk r (AreLeft (first || second) (turns_with new notes) (turns_with old noted))
  left (Ok done) more less = left_both first second (turns_with new notes) (turns_with between kept) (turns_with old noted) more less
  left (Err status) more less = tt

  pub comes_both : ComesFrom does (first || second) gave gives noted notes old new now behind r
  comes_both = record {
    limits = other.limits ∙ one.limits;
    taken = one.taken ++ other.taken;
    before = λ t given. subst gave (sym (items_then-append one.taken other.taken t)) (one.before (items_then other.taken t) (other.before t given));
    comes = λ t tape start given at so.
        let stands = stands_first t tape start (at, so) in
        other.comes t tape start given (one.comes t (items_then other.taken tape) start (other.before tape given) stands.0 stands.1) tt;
    turns = λ t tape start given at so.
        let stands = stands_first t tape start (at, so) in
        left r (one.turns t (items_then other.taken tape) start (other.before tape given) stands.0 stands.1)
        (other.turns t tape start given (one.comes t (items_then other.taken tape) start (other.before tape given) stands.0 stands.1) tt);
  }

-- where fewer turns are left no more are
fewer-more : (fewer : Bool) (left turns : ℕ) → AreLeft fewer left turns → left ≤ turns
fewer-more true left turns less = omega (arith, less)
fewer-more false left turns less = less

no_more : (fewer : Bool) (r : Result (Unit {0}) Status) (left turns : ℕ) → OnOk r (AreLeft fewer left turns) → OnOk r (left ≤ turns)
no_more fewer (Ok done) left turns less = fewer-more fewer left turns less
no_more fewer (Err status) left turns less = tt

-- further, whether that is with fewer turns to come or not
pub comes_further : {does : Option (State → State)} {fewer : Bool} {gave gives : Tape → Type 0} {noted notes : ℕ} {old new : Coded} {now behind : Seen} {r : Result (Unit {0}) Status}
    → ComesFrom does fewer gave gives noted notes old new now behind r → ComesFrom does false gave gives noted notes old new now behind r
comes_further {does} {fewer} {gave} {gives} {noted} {notes} {old} {new} {now} {behind} {r} one = record {
  limits = one.limits;
  taken = one.taken;
  before = one.before;
  comes = one.comes;
  turns = λ t tape start given at so. no_more fewer r (turns_with new notes) (turns_with old noted) (one.turns t tape start given at so);
}

-- with fewer, whether that is said or not
pub comes_any : (fewer : Bool) {does : Option (State → State)} {gave gives : Tape → Type 0} {noted notes : ℕ} {old new : Coded} {now behind : Seen} {r : Result (Unit {0}) Status}
    → ComesFrom does true gave gives noted notes old new now behind r → ComesFrom does fewer gave gives noted notes old new now behind r
comes_any true one = one
comes_any false one = comes_further one

-- with fewer, where that is known by itself
pub comes_fewer : {fewer : Bool} {gave gives : Tape → Type 0} {noted notes : ℕ} {old new : Coded} {now behind : Seen} → turns_with new notes < turns_with old noted
    → GoesPast fewer gave gives noted notes old new now behind → GoesPast true gave gives noted notes old new now behind
comes_fewer less one = record {
  limits = one.limits;
  taken = one.taken;
  before = one.before;
  comes = one.comes;
  turns = λ t tape start given at any. less;
}

-- further where that was answered, and then past other bytes
pub comes_on : (taken fewer : Bool) {gave mid gives : Tape → Type 0} {noted kept notes : ℕ} {old between new : Coded} {now halfway behind : Seen} → taken ≡ true
    → GoesPast taken gave mid noted kept old between now halfway → GoesPast false mid gives kept notes between new halfway behind
    → GoesPast fewer gave gives noted notes old new now behind
comes_on taken fewer is one other = comes_any fewer (comes_both true (rw is at one) other)

-- to the run's end, where it doesn't matter whether fewer turns are to come
pub comes_ended : {said fewer : Bool} {gave gives : Tape → Type 0} {noted notes : ℕ} {old new : Coded} {now behind : Seen} {status : Status}
    → Comes said gave gives noted notes old new now behind (Err status) → Comes fewer gave gives noted notes old new now behind (Err status)
comes_ended one = record {
  limits = one.limits;
  taken = one.taken;
  before = one.before;
  comes = one.comes;
  turns = λ t tape start given at any. tt;
}

-- by a turn
pub comes_turned : {gave gives : Tape → Type 0} {noted notes : ℕ} {old new : Coded} {now behind : Seen} {r : Result (Unit {0}) Status}
    → TurnsBy (step old.limits) gave gives noted notes old new now behind r → Comes true gave gives noted notes old new now behind r
comes_turned turn = record {
  limits = turn.limits;
  taken = turn.taken;
  before = turn.before;
  comes = λ t tape start given at any. turn.comes t tape start given at refl;
  turns = λ t tape start given at any. turn.turns t tape start given at refl;
}

-- behind what is due
module _ (gives : Tape → Type 0) (notes : ℕ) {old new : Coded} {now behind : Seen} {r : Result (Unit {0}) Status} (does : DoesDue old new now behind r) where
  with_notes : (r : Result (Unit {0}) Status) → OnOk r (turns_of_run new ≤ turns_of_run old) → OnOk r (turns_with new notes ≤ turns_with old notes)
  with_notes (Ok done) few = omega (arith, few)
  with_notes (Err status) few = tt

  pub comes_due : Comes false gives gives notes notes old new now behind r
  comes_due = record {
    limits = does.limits;
    taken = [];
    before = λ tape given. given;
    comes = λ t tape start given at any. does.does_due t tape start at;
    turns = λ t tape start given at any. with_notes r does.turns;
  }

-- from a state that is the same
pub comes_kept : {fewer : Bool} {gave gives : Tape → Type 0} {noted notes : ℕ} {old same new : Coded} {now behind : Seen} {r : Result (Unit {0}) Status} → same ≡ old
    → Comes fewer gave gives noted notes same new now behind r → Comes fewer gave gives noted notes old new now behind r
comes_kept is one = rw (sym is) one

-- where nothing happened
pub comes_nowhere : (gave gives : Tape → Type 0) (noted notes failed failures : ℕ) (out err : Sunk) (old new : Coded)
    → gives ≡ gave → notes ≡ noted → failures ≡ failed → new ≡ old → GoesPast false gave gives noted notes old new (seen failed out err) (seen failures out err)
comes_nowhere gave gives noted notes failed failures out err old new same_tapes same_notes same_failures same =
    rw (same_tapes, same_notes, same_failures, same) (comes_none gave noted old (seen failed out err))

-- of two that hold the first does
pub both_left : (a b : Bool) → (a && b) ≡ true → a ≡ true
both_left true b holds = refl
both_left false b holds = holds

-- a turn as the definition's, where a step does the same
pub turn_as : {gave gives : Tape → Type 0} (does other : State → State) {noted notes : ℕ} (old : Coded) {new : Coded} {now behind : Seen} {r : Result (Unit {0}) Status}
    → ((tape : Tape) (h : PageHistory) (ms : List ℕ) → does (state_at tape old h ms) ≡ other (state_at tape old h ms))
    → TurnsBy other gave gives noted notes old new now behind r → TurnsBy does gave gives noted notes old new now behind r
turn_as does other old same turn = record {
  limits = turn.limits;
  taken = turn.taken;
  before = turn.before;
  comes = λ t tape start may at so. turn.comes t tape start may at (so ∙ same (items_then turn.taken tape) at.history at.messages);
  turns = λ t tape start may at so. turn.turns t tape start may at (so ∙ same (items_then turn.taken tape) at.history at.messages);
}

-- where nothing is due an item of the input is read
pub read_turn : {gave gives : Tape → Type 0} {noted notes : ℕ} (old : Coded) {new : Coded} {now behind : Seen} {r : Result (Unit {0}) Status}
    → due old.interpreter.reader.reading ≡ None
    → TurnsBy (λ s. item_read old.limits s) gave gives noted notes old new now behind r
    → Comes true gave gives noted notes old new now behind r
read_turn old none_due turn =
    comes_turned (turn_as (step old.limits) (λ s. item_read old.limits s) old (λ tape h ms.
    let s : State = state_at tape old h ms in
    ap (λ (what : Option Due). reading_by old.limits what s) none_due)
    turn)
