use Rattle.std.proofs.Common.{◌≡◌, Some, ap, ◌∙◌}
use Rattle.run_model.specs.declared.line_state.Due.{Due}
use Rattle.run_model.specs.declared.line_state.Due.TheVariants.{Leaves}
use Rattle.run_model.specs.Reading.Ends.{due}
use Rattle.run_turns.proofs.DueDone.{leaves_due}
use Rattle.run_turns.proofs.running.Running.carry_out.Goals as goal

pub returns-in-Leaves : goal.returns-in-Leaves
returns-in-Leaves g c = λ failures out.
    let is : due c.args.self.now.interpreter.reader.reading ≡ Some Leaves = c.requires ∙ ap (λ (d : Due). Some d) c.in-Leaves.is in
    leaves_due c.args.self.now c.leave_input.new.self _ is c.leave_input.ensures
