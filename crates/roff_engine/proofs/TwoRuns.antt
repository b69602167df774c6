-- Two runs of the code beside each other, by what the definition's runs give.
use Rattle.std.proofs.Common.{◌≡◌, ◌≢◌, List, ℕ, Some, refl, sym, ◌∙◌, subst}
use Rattle.roff_num.specs.Lists.{IsBeginning}
use Rattle.roff_num.specs.declared.limits.Limits.{Limits}
use Rattle.roff_engine.specs.Outcomes.{Gives, GivesAll}
use Rattle.law_runs.specs.ResultLaws.{GivesABeginning, GiveTheSame}
use Rattle.run_model.specs.Results.{output_of, messages_of, status_of}
use Rattle.roff_engine.specs.TwoRuns.{CodeRun, SinksHadNoFault, WroteABeginning, DidTheSame, Wrote, Reported, SmallerLimitsWriteABeginning, SameUnlessALimitStops, FailingSourcesWriteABeginning, SameUnlessTheSourceFails, RunsCanBeRepeated}
use Rattle.run_model.specs.declared.status.Status.{Status}
use Rattle.run_model.specs.declared.start.Start.{Start}
use Rattle.input_source.specs.Tape.{Tape}
use Rattle.law_runs.proofs.Beginnings.{IsBeginning-trans}
use Rattle.roff_engine.proofs.Outcomes.{each_outcome_gives}
use Rattle.law_runs.proofs.ResultsOnlyCut.{limits_cut_results, same_result_without_a_limit, failing_cuts_results, same_result_before_the_fault}

-- what a run gives of the definition's result
gives_of : (l : Limits) (start : Start) (t : Tape) (run : CodeRun l start t) → Gives l start t run.left run.status run.before run.now
gives_of l start t run = each_outcome_gives l start t run.left run.status run.before run.now run.outcome

-- and all of it if its sinks had no fault
all_of : (l : Limits) (start : Start) (t : Tape) (run : CodeRun l start t) → SinksHadNoFault run → GivesAll l start t run.left run.status run.before run.now
all_of l start t run well = (gives_of l start t run).all well.out well.err

-- a run writes a beginning of what another does if the definition's runs do
WroteABeginning-results : (l k : Limits) (start : Start) (t u : Tape) (one : CodeRun l start t) (other : CodeRun k start u) → GivesABeginning start l t k u → SinksHadNoFault other → WroteABeginning one other
WroteABeginning-results l k start t u one other begins well =
    let first = (gives_of l start t one).text in
    let front : IsBeginning first.front (output_of l start t) = record { rest = first.back; split = first.split } in record {
      text = first.front;
      longer = output_of k start u;
      wrote = first.written;
      other_wrote = (all_of k start u other well).text;
      beginning = IsBeginning-trans front begins.text;
    }

-- two runs do the same if the definition's runs give the same
DidTheSame-results : (l k : Limits) (start : Start) (t u : Tape) (one : CodeRun l start t) (other : CodeRun k start u) → GiveTheSame start l t k u → SinksHadNoFault one → SinksHadNoFault other → DidTheSame one other
DidTheSame-results l k start t u one other same well other_well =
    let first = all_of l start t one well in
    let second = all_of k start u other other_well in
    let statuses : Some one.status ≡ Some other.status = sym first.ended ∙ same.status ∙ second.ended in record {
      text = output_of k start u;
      messages = messages_of k start u;
      wrote = subst (λ (text : List ℕ). Wrote one text) same.text first.text;
      other_wrote = second.text;
      reported = subst (λ (messages : List ℕ). Reported one messages) same.messages first.messages;
      other_reported = second.messages;
      status = cc;
    }

-- if the definition's run ends otherwise, so does the code's
status-other : (l : Limits) (start : Start) (t : Tape) (run : CodeRun l start t) (status : Status) → SinksHadNoFault run → run.status ≢ status → status_of l start t ≢ Some status
status-other l start t run status well differs is =
    let own : Some run.status ≡ Some status = sym (all_of l start t run well).ended ∙ is in differs cc

-- smaller limits
pub smaller_limits_write_a_beginning : SmallerLimitsWriteABeginning
smaller_limits_write_a_beginning small large within start t one other well =
    WroteABeginning-results small large start t t one other (limits_cut_results small large within start t) well

pub same_unless_a_limit_stops : SameUnlessALimitStops
same_unless_a_limit_stops small large within start t one other well other_well not_stopped =
    let same : GiveTheSame start small t large t =
    same_result_without_a_limit small large within start t (λ limit. status-other small start t one _ well (not_stopped limit)) in
    DidTheSame-results small large start t t one other same well other_well

-- sources that fail
pub failing_sources_write_a_beginning : FailingSourcesWriteABeginning
failing_sources_write_a_beginning l start items more ending one other well =
    WroteABeginning-results l l start _ _ one other (failing_cuts_results l start items more ending) well

pub same_unless_the_source_fails : SameUnlessTheSourceFails
same_unless_the_source_fails l start items more ending one other well other_well not_failed =
    let same = same_result_before_the_fault l start items more ending (status-other l start _ one _ well not_failed) in
    DidTheSame-results l l start _ _ one other same well other_well

-- the same limits and the same tape
pub runs_can_be_repeated : RunsCanBeRepeated
runs_can_be_repeated l start t one other well other_well =
    DidTheSame-results l l start t t one other (record { text = refl; messages = refl; status = refl }) well other_well
