use Rattle.roff_lines.proofs.Steps.{ending-mask, ends-step, IsRun-step, run-few}
use Rattle.roff_lines.proofs.lanes.run_of_step.Goals as goal

pub returns-clause-few : goal.returns-clause-few
returns-clause-few c =
    run-few c.args.bytes.now c.args.start c.first_set.result _ c.requires.some c.requires.within c.first_set.ensures
    (ending-mask c.args.bytes.now c.args.start c.first_set.result _ c.requires.some c.requires.within c.first_set.ensures)

pub returns-clause-run : goal.returns-clause-run
returns-clause-run c =
    IsRun-step c.args.bytes.now c.args.start c.first_set.result _ c.requires.some c.requires.within c.first_set.ensures
    (ending-mask c.args.bytes.now c.args.start c.first_set.result _ c.requires.some c.requires.within c.first_set.ensures)

pub returns-clause-stops : goal.returns-clause-stops
returns-clause-stops c =
    ends-step c.args.bytes.now c.args.start c.first_set.result _ c.requires.some c.requires.within c.first_set.ensures
    (ending-mask c.args.bytes.now c.args.start c.first_set.result _ c.requires.some c.requires.within c.first_set.ensures)
