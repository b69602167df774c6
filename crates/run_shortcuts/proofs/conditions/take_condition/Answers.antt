use Rattle.std.proofs.Common.{ap, sym, subst, ◌∙◌}
use Rattle.read_shortcuts.specs.Runs.{Does}
use Rattle.read_lines.specs.Reader.State.{ReaderState}
use Rattle.run_model.specs.Reading.Ends.{due}
use Rattle.roff_scan.specs.declared.run_kind.RunKind.TheVariants.{Condition}
use Rattle.run_shortcuts.proofs.Turned.{goes_past_turned}
use Rattle.run_shortcuts.proofs.conditions.take_condition.Goals as goal

pub returns-clause-run : goal.returns-clause-run
returns-clause-run g c =
    let took = c.take_run.ensures in
    record {
      does = subst (λ (r : ReaderState). Does Condition r.reading) (sym took.kept) c.requires.does;
      half_read = tt;
      none_due = ap (λ (r : ReaderState). due r.reading) took.kept ∙ c.requires.none_due;
    }

pub returns-clause-past : goal.returns-clause-past
returns-clause-past g c = λ out err.
    let took = c.take_run.ensures in
    goes_past_turned _ _ _ _ _ _ out err c.args.run.now _ _ took.past took.notes took.failures
