use Rattle.std.proofs.Common.{refl}
use Rattle.run_model.specs.Reading.{byte_taking}
use Rattle.run_items.proofs.DoesTakings.{taking_done}
use Rattle.run_items.proofs.interpreter.Interpreter.end_break.Goals as goal

pub returns : goal.returns
returns g c =
    taking_done (λ k. byte_taking k c.args.self.now.reader.reading c.args.unread.now.input 10) _ _ _ _ c.end_break-step.result (c.end_break-step.ensures _) refl c.line.result c.line.ensures _ _ _ c.perform.result c.perform.ensures
