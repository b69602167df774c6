-- Runs of the formatter over a source with the pictures of its tables.
use Rattle.std.proofs.Common.{◌≡◌, ℕ, refl, subst}
use Rattle.roff_num.specs.declared.limits.Limits.{Limits}
use Rattle.input_source.specs.Tape.{Tape}
use Rattle.run_model.specs.declared.start.Start.{Start}
use Rattle.run_model.specs.declared.status.Status.{Status}
use Rattle.run_items.specs.Outcome.{Outcome, Runs, Seen}
use Rattle.tbl_format.specs.declared.limits.TblLimits.{TblLimits}
use Rattle.tbl_core.specs.Tables.{TablesState}
use Rattle.tbl_core.specs.Yields.{At, MayGive, at_start, yields}
use Rattle.roff_tools.specs.Both.{RunsBoth, RunsOverTables}

-- a run over what tables give
module _ (l : Limits) (start : Start) (tables tables' : TblLimits) (line_length line_length' : ℕ) (at' : At) (status : Status) (old new : Tape → Type 0) (before now : Seen)
    (runs : Runs l start status (MayGive tables line_length at_start old) (MayGive tables' line_length' at' new) before now) where
  -- whatever may still come, the run is that over an input that might have come
  over_input : (left : Tape) → new left → RunsOverTables l start tables line_length status old before now
  over_input left may =
      let rest : Tape = yields tables' line_length' at' left in
      let given : MayGive tables' line_length' at' new rest = record { under = left; given = may; is = refl } in
      let came = runs.took.before rest given in record {
        input = came.under;
        given = came.given;
        rest = rest;
        outcome = subst (λ (u : Tape). Outcome l start u rest status before now) came.is (runs.outcome rest given);
      }

  pub Runs-RunsBoth : RunsBoth l start tables line_length status old new before now
  Runs-RunsBoth = record {
    over = over_input;
    some = runs.took.some_given.under;
    some_given = runs.took.some_given.given;
  }

-- the run is over the tapes of a source that has come so far
pub Runs-at : {S : Type 0} (l : Limits) (start : Start) (status : Status) (gives : S → Tape → Type 0) (s inner : S) (t at : TablesState)
    (new : Tape → Type 0) (before : S → Seen) (now : Seen) → s ≡ inner → t ≡ at
    → Runs l start status (MayGive t.limits t.line_length t.at (gives s)) new (before s) now
    → Runs l start status (MayGive at.limits at.line_length at.at (gives inner)) new (before inner) now
Runs-at {S = S} l start status gives s inner t at new before now same is runs =
    subst (λ (i : S). Runs l start status (MayGive at.limits at.line_length at.at (gives i)) new (before i) now) same
    (subst (λ (u : TablesState). Runs l start status (MayGive u.limits u.line_length u.at (gives s)) new (before s) now) is runs)
