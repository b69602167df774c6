-- What whole runs give, of which one is cut short: the laws on steps, at a number of steps behind which both have ended.
use Rattle.std.proofs.Common.{◌≡◌, ℕ, ◌+◌, ap, sym, ◌∙◌, add_comm}
use Rattle.roff_num.specs.declared.limits.Limits.{Limits}
use Rattle.law_runs.specs.Laws.{OnlyCuts, over, failing_behind, going_on_behind}
use Rattle.law_runs.specs.ResultLaws.{GivesABeginning, GiveTheSame, LimitsCutResults, SameResultWithoutALimit, FailingCutsResults, SameResultBeforeTheFault}
use Rattle.run_model.specs.Results.{last_state}
use Rattle.run_model.specs.Run.{State, initial, told_after, output, reported}
use Rattle.run_model.specs.declared.start.Start.{Start}
use Rattle.input_source.specs.Tape.{Tape}
use Rattle.law_runs.proofs.Beginnings.{IsBeginning-append, IsBeginning-trans}
use Rattle.law_runs.proofs.Endings.{steps_lead_to_the_last_state, told_after-more}
use Rattle.law_runs.proofs.RunsOnlyCut.{limits_only_cut, same_until_a_limit, failing_only_cuts, same_until_the_fault}

-- a number of steps behind which two runs have ended
record BothEnd (start : Start) (l : Limits) (t : Tape) (k : Limits) (u : Tape) : Type 0 where
  steps : ℕ
  first : told_after l steps (initial l start t) ≡ last_state l start t
  second : told_after k steps (initial k start u) ≡ last_state k start u

-- as many as both take together
both_end : (start : Start) (l : Limits) (t : Tape) (k : Limits) (u : Tape) → BothEnd start l t k u
both_end start l t k u =
    let m = (steps_lead_to_the_last_state l start t).steps in
    let n = (steps_lead_to_the_last_state k start u).steps in record {
      steps = m + n;
      first = told_after-more l start t n;
      second = ap (λ (i : ℕ). told_after k i (initial k start u)) (add_comm m n) ∙ told_after-more k start u m;
    }

-- what is only cut behind each number of steps gives a beginning
GivesABeginning-OnlyCuts : (start : Start) (l : Limits) (t : Tape) (k : Limits) (u : Tape)
    → ((n : ℕ) → OnlyCuts (told_after l n (initial l start t)) (told_after k n (initial k start u))) → GivesABeginning start l t k u
GivesABeginning-OnlyCuts start l t k u cuts =
    let both = both_end start l t k u in
    let at_end : OnlyCuts (last_state l start t) (last_state k start u) = rw (both.first, both.second) at (cuts both.steps) in record {
      text = at_end.text;
      messages = IsBeginning-trans at_end.messages (IsBeginning-append _ _);
    }

-- larger limits only go on
pub limits_cut_results : LimitsCutResults
limits_cut_results small large within start tape = GivesABeginning-OnlyCuts start small tape large tape (limits_only_cut small large within start tape)

-- a source that goes on only goes on
pub failing_cuts_results : FailingCutsResults
failing_cuts_results l start items more ending = GivesABeginning-OnlyCuts start l _ l _ (failing_only_cuts l start items more ending)

-- runs whose last states differ in the tape alone give the same
GiveTheSame-over : (start : Start) (l : Limits) (t : Tape) (k : Limits) (u tape : Tape) → over tape (last_state k start u) ≡ last_state l start t → GiveTheSame start l t k u
GiveTheSame-over start l t k u tape same = record {
  text = sym (ap output same);
  messages = sym (ap reported same);
  status = sym (ap (λ (s : State). s.ended) same);
}

-- larger limits change nothing if no limit stops the run
pub same_result_without_a_limit : SameResultWithoutALimit
same_result_without_a_limit small large within start tape not_stopped =
    let both = both_end start small tape large tape in
    let same : told_after large both.steps (initial large start tape) ≡ told_after small both.steps (initial small start tape) =
    same_until_a_limit small large within start tape both.steps (λ limit stopped. not_stopped limit (rw both.first at stopped)) in
    let last : last_state large start tape ≡ last_state small start tape = rw (both.first, both.second) at same in
    GiveTheSame-over start small tape large tape (last_state large start tape).tape last

-- a source that goes on changes nothing if the run ends before the fault
pub same_result_before_the_fault : SameResultBeforeTheFault
same_result_before_the_fault l start items more ending not_met =
    let t : Tape = failing_behind items in
    let u : Tape = going_on_behind items more ending in
    let both = both_end start l t l u in
    let same : over (told_after l both.steps (initial l start t)).tape (told_after l both.steps (initial l start u)) ≡ told_after l both.steps (initial l start t) =
    same_until_the_fault l start items more ending both.steps (λ met. not_met (rw both.first at met)) in
    let last : over (last_state l start t).tape (last_state l start u) ≡ last_state l start t = rw (both.first, both.second) at same in
    GiveTheSame-over start l t l u (last_state l start t).tape last
