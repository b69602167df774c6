-- What was passed over at once, as one answer.
use Rattle.std.proofs.Common.{◌≡◌, ℕ, Bool, true, false, Result, Ok, Err, subst, sym}
use Rattle.input_source.specs.Tape.{Tape}
use Rattle.run_items.specs.Outcome.{Seen}
use Rattle.run_model.specs.declared.status.Status.{Status}
use Rattle.run_turns.specs.declared.running.Running.{Running as Coded}
use Rattle.run_turns.specs.Running.Turning.{Comes, GoesPast, going_on, says_fewer}
use Rattle.run_turns.proofs.ComingFurther.{comes_any}
use Rattle.run_shortcuts.specs.Passed.{begins_behind, ended_behind, line_begun}
use Rattle.run_shortcuts.specs.declared.passed.Passed.{Passed}
use Rattle.run_shortcuts.specs.declared.passed.Passed.TheVariants.{Not, On}

-- where the run goes on a line begins, with fewer turns to come
pub comes_line_begun : {gave gives : Tape → Type 0} {noted notes : ℕ} {old new : Coded} {now behind : Seen} (done : Result (Unit {0}) Status)
    → Comes true gave gives noted notes old new now behind done
    → Comes (says_fewer (line_begun (ended_behind done))) gave gives noted notes old new now behind (going_on (line_begun (ended_behind done)))
comes_line_begun (Ok done) comes = comes
comes_line_begun (Err status) comes = comes_any false comes

-- the answer may have another name
pub comes_passed_as : {gave gives : Tape → Type 0} {noted notes : ℕ} {old new : Coded} {now behind : Seen} {r other : Result Passed Status} → r ≡ other
    → Comes (says_fewer (line_begun r)) gave gives noted notes old new now behind (going_on (line_begun r))
    → Comes (says_fewer (line_begun other)) gave gives noted notes old new now behind (going_on (line_begun other))
comes_passed_as {gave} {gives} {noted} {notes} {old} {new} {now} {behind} is comes =
    subst (λ (r : Result Passed Status). Comes (says_fewer (line_begun r)) gave gives noted notes old new now behind (going_on (line_begun r))) is comes

-- where no line begins, no fewer turns need be to come
pub comes_begun_as : {gave gives : Tape → Type 0} {noted notes : ℕ} {old new : Coded} {now behind : Seen} (passed : Passed) → begins_behind passed ≡ false
    → GoesPast false gave gives noted notes old new now behind → GoesPast (begins_behind passed) gave gives noted notes old new now behind
comes_begun_as {gave} {gives} {noted} {notes} {old} {new} {now} {behind} passed none comes =
    subst (λ (fewer : Bool). GoesPast fewer gave gives noted notes old new now behind) (sym none) comes

-- what is answered of a line's end is that the line begins behind it, or how the run ended
pub never-not : (done : Result (Unit {0}) Status) → ended_behind done ≡ Ok Not → ⊥
never-not (Ok done) is = absurd (cc)
never-not (Err status) is = absurd (cc)

pub never-on : (done : Result (Unit {0}) Status) → ended_behind done ≡ Ok On → ⊥
never-on (Ok done) is = absurd (cc)
never-on (Err status) is = absurd (cc)
