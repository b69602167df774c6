use Rattle.run_items.proofs.Closing.{reads_on_taking}
use Rattle.run_items.proofs.DoesTakings.{refused_taking}
use Rattle.run_items.proofs.interpreter.Interpreter.read_last_macro.Goals as goal

pub returns-in-Ok : goal.returns-in-Ok
returns-in-Ok c = λ out err. reads_on_taking _ _ c.args.self.now _ _ _ _ _ (c.in-Ok.ensures _)

pub returns-in-Err : goal.returns-in-Err
returns-in-Err c = λ out err. refused_taking _ _ _ _ _ _ _ c.in-Err.limit (c.in-Err.ensures _)
