-- The limit on messages: what is told is within it, and a larger one only goes on.
use Rattle.std.proofs.Common.{◌≡◌, ◌∙◌, ℕ, zero, suc, ◌≤◌, Bool, true, false, List, [], ◌++◌, length, nat_lt, None, ap, append-nil, arith, if◌then◌else◌, refl, subst, sym}
use Rattle.std.proofs.lemmas.Bool.Decides.{nat_tests}
use Rattle.roff_num.specs.Lists.{IsBeginning}
use Rattle.roff_num.specs.declared.limit.Limit.TheVariants.{Messages}
use Rattle.run_model.specs.declared.status.Status.TheVariants.{Limit as Limited}
use Rattle.input_source.specs.Tape.{Answer, Ended, Ends, Failed, Gives, OneByte, OneNote, Stopped, Tape}
use Rattle.tbl_options.specs.Messages.{tbl_message_line}
use Rattle.tbl_format.specs.TblLimits.{tbl_limits_with}
use Rattle.tbl_format.specs.declared.limits.TblLimits.{TblLimits}
use Rattle.tbl_options.specs.declared.message.Message.TheVariants.{LimitReached}
use Rattle.tbl_core.proofs.AnyMessages.{answered_same}
use Rattle.tbl_core.specs.Stages.{Answered, Stage, answered}
use Rattle.tbl_core.specs.Tables.{line_of}
use Rattle.tbl_run.specs.Laws.{IsOnlyStopped, LimitMet, MessagesAreWithin, MessagesOnlyStop, SameStep}
use Rattle.tbl_run.specs.Run.{State, Written, done_with, ends_telling, initial, step, steps}

-- a run that goes on behind an answer did so before it
pub going_on : (l : TblLimits) (line : ℕ) (a : Answer) (w : Written) → (done_with l line a w).ended ≡ None → w.ended ≡ None
going_on l line (Gives (OneByte b)) w none = go (nat_lt (length w.output) l.output) refl
  where
    go : (x : Bool) → nat_lt (length w.output) l.output ≡ x → w.ended ≡ None
    go true e = rw e at none
    go false e = let bad = rw e at none in cc
going_on l line (Gives (OneNote m)) w none = go (nat_lt l.messages (length (w.messages ++ m))) refl
  where
    go : (x : Bool) → nat_lt l.messages (length (w.messages ++ m)) ≡ x → w.ended ≡ None
    go true e = let bad = rw e at none in cc
    go false e = rw e at none
going_on l line (Ends Ended) w none = cc
going_on l line (Ends Failed) w none = cc
going_on l line (Ends (Stopped limit)) w none = cc

-- and its messages are within the limit then
within_behind : (l : TblLimits) (line : ℕ) (a : Answer) (w : Written) → (done_with l line a w).ended ≡ None → length w.messages ≤ l.messages
    → length (done_with l line a w).messages ≤ l.messages
within_behind l line (Gives (OneByte b)) w none within = go (nat_lt (length w.output) l.output) refl
  where
    go : (x : Bool) → nat_lt (length w.output) l.output ≡ x → length (done_with l line (Gives (OneByte b)) w).messages ≤ l.messages
    go true e = rw e within
    go false e = let bad = rw e at none in cc
within_behind l line (Gives (OneNote m)) w none within = go (nat_lt l.messages (length (w.messages ++ m))) refl
  where
    go : (x : Bool) → nat_lt l.messages (length (w.messages ++ m)) ≡ x → length (done_with l line (Gives (OneNote m)) w).messages ≤ l.messages
    go true e = let bad = rw e at none in cc
    go false e =
        let few : length (w.messages ++ m) ≤ l.messages = grind (arith, nat_tests, e) in
        rw e few
within_behind l line (Ends Ended) w none within = cc
within_behind l line (Ends Failed) w none within = cc
within_behind l line (Ends (Stopped limit)) w none within = cc

module _ (l : TblLimits) (line_length : ℕ) (t : Tape) where
  -- behind so many steps
  abbrev behind : ℕ → State
  behind n = steps l line_length n (initial t)

  -- what is answered there, and on which line
  abbrev next : ℕ → Answered
  next n = answered l line_length (behind n).stage

  abbrev line_at : ℕ → ℕ
  line_at n = line_of (next n).stage.at.standing

  went_on : (n : ℕ) → (behind (suc n)).written.ended ≡ None → (behind n).written.ended ≡ None
  went_on n none = going_on l (line_at n) (next n).answer (behind n).written none

  within_at : (n : ℕ) → (behind n).written.ended ≡ None → length (behind n).written.messages ≤ l.messages
  within_at zero none = omega arith
  within_at (suc n) none =
      within_behind l (line_at n) (next n).answer (behind n).written none (within_at n (went_on n none))

pub messages_within : MessagesAreWithin
messages_within l line_length t s come =
    subst (λ (x : State). length x.written.messages ≤ l.messages) come.is
    (within_at l line_length t come.count (subst (λ (x : State). x.written.ended ≡ None) (sym come.is) come.goes_on))

-- one list begins with itself
pub begins_itself : (xs : List ℕ) → IsBeginning xs xs
begins_itself xs = record { rest = []; split = sym (append-nil xs) }

module _ (l : TblLimits) (more : ℕ) (less : l.messages ≤ more) where
  -- the limits, with this one on messages
  abbrev larger : TblLimits
  larger = tbl_limits_with l Messages more

  -- a note that is told or not
  abbrev noted : Bool → ℕ → ℕ → List ℕ → Written → Written
  noted passes limit line m w =
      if passes then ends_telling line (LimitReached Messages limit) (Limited Messages) w
      else record w { messages = w.messages ++ m }

  note_stopped : (line : ℕ) (m : List ℕ) (stage : Stage) (s : State) (x y : Bool) → (x ≡ false → y ≡ false)
      → IsOnlyStopped l s (record { stage = stage; written = noted x l.messages line m s.written })
      (record { stage = stage; written = noted y more line m s.written })
  note_stopped line m stage s false y stays =
      SameStep (ap (λ (passes : Bool). record { stage = stage; written = noted passes more line m s.written }) (sym (stays refl)))
  note_stopped line m stage s true true stays =
      LimitMet line refl refl (begins_itself s.written.output)
      (record { rest = tbl_message_line line (LimitReached Messages more); split = refl })
  note_stopped line m stage s true false stays = LimitMet line refl refl (begins_itself s.written.output) (record { rest = m; split = refl })

  lt_stays : (n : ℕ) → nat_lt l.messages n ≡ false → nat_lt more n ≡ false
  lt_stays n not = grind (arith, nat_tests, less, not)

  answer_stopped : (line : ℕ) (a : Answer) (stage : Stage) (s : State)
      → IsOnlyStopped l s (record { stage = stage; written = done_with l line a s.written })
      (record { stage = stage; written = done_with larger line a s.written })
  answer_stopped line (Gives (OneByte b)) stage s = SameStep refl
  answer_stopped line (Gives (OneNote m)) stage s =
      note_stopped line m stage s (nat_lt l.messages (length (s.written.messages ++ m))) (nat_lt more (length (s.written.messages ++ m)))
      (lt_stays (length (s.written.messages ++ m)))
  answer_stopped line (Ends Ended) stage s = SameStep refl
  answer_stopped line (Ends Failed) stage s = SameStep refl
  answer_stopped line (Ends (Stopped limit)) stage s = SameStep refl

  -- a step behind an answer
  abbrev stepped : Answered → State → State
  stepped next s = record { stage = next.stage; written = done_with larger (line_of next.stage.at.standing) next.answer s.written }

  step_stopped : (line_length : ℕ) (s : State) → IsOnlyStopped l s (step l line_length s) (step larger line_length s)
  step_stopped line_length s =
      let next = answered l line_length s.stage in
      subst (λ (x : State). IsOnlyStopped l s (step l line_length s) x)
      (ap (λ (a : Answered). stepped a s) (sym (answered_same l more line_length s.stage)))
      (answer_stopped (line_of next.stage.at.standing) next.answer next.stage s)

  -- a step behind which the run goes on is the same
  same_step : (before small large : State) → IsOnlyStopped l before small large → small.written.ended ≡ None → large ≡ small
  same_step before small large (SameStep is) none = sym is
  same_step before small large (LimitMet line is stage text messages) none = let bad = rw is at none in cc

  same_at : (line_length : ℕ) (t : Tape) (n : ℕ) → (steps l line_length n (initial t)).written.ended ≡ None
      → steps larger line_length n (initial t) ≡ steps l line_length n (initial t)
  same_at line_length t zero none = refl
  same_at line_length t (suc n) none =
      let s = steps l line_length n (initial t) in
      ap (step larger line_length) (same_at line_length t n (went_on l line_length t n none))
      ∙ same_step s _ _ (step_stopped line_length s) none

pub messages_only_stop : MessagesOnlyStop
messages_only_stop l more line_length t s less come = record {
  comes = same_at l more less line_length t come.count (subst (λ (x : State). x.written.ended ≡ None) (sym come.is) come.goes_on) ∙ come.is;
  next = step_stopped l more less line_length s;
}
