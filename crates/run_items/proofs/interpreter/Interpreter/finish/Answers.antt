use Rattle.run_items.proofs.Closing.{closing_taking}
use Rattle.run_items.proofs.interpreter.Interpreter.finish.Goals as goal

pub returns : goal.returns
returns g c = λ u err.
    closing_taking c.args.self.now c.perform_each.new.self _ u _ _ err _ c.close.ensures.kept c.close.ensures.others c.perform_each.ensures
