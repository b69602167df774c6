use Rattle.std.proofs.lemmas.Result.{IfOk-at_ok}
use Rattle.cli_devices.specs.Inputs.Giving.{inputs_give}
use Rattle.roff_tools.proofs.RunOver.{RunsJob-wider, behind_nothing}
use Rattle.roff_tools.proofs.program.run_over.Goals as goal

pub returns-clause-performs : goal.returns-clause-performs
returns-clause-performs g c =
    let gives = inputs_give g.R.File.BlockRead.gives g.R.Standard.BlockRead.gives in
    let ran = IfOk-at_ok _ c.in_ok-status.was c.run-status.ensures.runs in
    let unread = rw (c.in_ok-source.ensures.ending, c.in_ok-source.ensures.left, c.in_ok-source.ensures.reader, c.in_ok-source.ensures.failures) at ran in
    record {
      parts = c.in_ok-inputs.inputs;
      named = c.in_ok-inputs.ensures.parts;
      status = c.in_ok-status.field-0;
      ends = c.after.ensures;
      runs = record {
        rest = c.run-status.result.1.reader;
        left = _;
        ending = _;
        failures = c.run-status.result.1.failures;
        counted = c.stays_counted.ensures;
        runs = RunsJob-wider _ _ _ (gives c.in_ok-inputs.inputs) _ _ _ (behind_nothing (gives c.in_ok-inputs.inputs)) unread;
      };
    }
