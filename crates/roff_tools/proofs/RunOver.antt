-- Runs over readers.
use Rattle.std.proofs.Common.{◌≡◌, ℕ, List, [], Option, None, sym, subst}
use Rattle.input_source.specs.Tape.{Tape}
use Rattle.input_source.specs.ReadSource.Reach.{GivesBehind, MayGive}
use Rattle.run_model.specs.declared.status.Status.{Status}
use Rattle.run_items.specs.Outcome.{Seen}
use Rattle.roff_tools.specs.Jobs.{RunsJob}
use Rattle.roff_tools.specs.declared.job.Job.{Job}
use Rattle.roff_tools.specs.declared.job.Job.TheVariants.{Nroff, Tbl, Both}

-- a run over a source that might give less is one over a source that might give more
pub RunsJob-wider : (job : Job) (status : Status) (old old' new : Tape → Type 0) (before now : Seen) → ((t : Tape) → old t → old' t)
    → RunsJob job status old new before now → RunsJob job status old' new before now
RunsJob-wider (Nroff limits start) status old old' new before now wider runs = record {
  taken = runs.taken;
  took = record { before = λ t given. wider _ (runs.took.before t given); some = runs.took.some; some_given = runs.took.some_given };
  outcome = runs.outcome;
}
RunsJob-wider (Tbl limits line_length) status old old' new before now wider runs = record {
  taken = runs.taken;
  took = record { before = λ t given. wider _ (runs.took.before t given); some = runs.took.some; some_given = runs.took.some_given };
  outcome = runs.outcome;
}
RunsJob-wider (Both limits start tables line_length) status old old' new before now wider runs = record {
  over = λ left may.
      let over = runs.over left may in record {
        input = over.input;
        given = wider _ over.given;
        rest = over.rest;
        outcome = over.outcome;
      };
  some = runs.some;
  some_given = runs.some_given;
}

-- nothing stands in front of what a reader may give
pub behind_nothing : (reads : Tape → Type 0) (t : Tape) → GivesBehind [] reads t → reads t
behind_nothing reads t given = subst reads (sym given.is) given.given
