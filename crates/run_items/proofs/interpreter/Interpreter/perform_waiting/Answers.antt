use Rattle.std.proofs.Common.{rules}
use Rattle.run_items.proofs.EventsKept.{one_halted, one_quietly, one_sprung}
use Rattle.run_items.proofs.interpreter.Interpreter.perform_waiting.Goals as goal

pub returns-in-Ok-None : goal.returns-in-Ok-None
returns-in-Ok-None g c = one_quietly c.args.event _ _ _ _ c.perform_event.result (search rules) c.perform_event.ensures

pub returns-in-Ok-Some : goal.returns-in-Ok-Some
returns-in-Ok-Some g c = one_sprung c.args.event _ c.perform_event.new.self c.keep_event.new.self _ _ c.in-Ok-Some.sprung c.perform_event.result
    c.keep_event.ensures.kept c.keep_event.ensures.others (search rules) c.perform_event.ensures

pub returns-in-Err : goal.returns-in-Err
returns-in-Err g c = one_halted c.args.event _ _ _ _ c.in-Err.halt c.in-Err.ensures
