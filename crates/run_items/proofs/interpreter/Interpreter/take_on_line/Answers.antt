use Rattle.std.proofs.Common.{refl}
use Rattle.run_model.specs.Reading.{byte_taking}
use Rattle.run_items.proofs.DoesTakings.{refused_taking, taking_done}
use Rattle.run_items.proofs.interpreter.Interpreter.take_on_line.Goals as goal

pub returns-in-Ok : goal.returns-in-Ok
returns-in-Ok g c =
    taking_done (λ k. byte_taking k c.args.self.now.reader.reading c.args.unread.now.input c.args.byte) _ _ _ _ c.in-Ok.step c.in-Ok.ensures refl c.line.result c.line.ensures _ _ _ c.perform.result c.perform.ensures

pub returns-in-Err : goal.returns-in-Err
returns-in-Err g c = refused_taking _ _ _ _ _ _ _ c.in-Err.limit c.in-Err.ensures
