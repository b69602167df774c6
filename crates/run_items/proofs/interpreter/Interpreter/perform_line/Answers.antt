use Rattle.run_model.specs.Events.Steps.{events_of}
use Rattle.std.proofs.Common.{[], rules}
use Rattle.run_items.proofs.NamedSteps.{named-flows}
use Rattle.run_items.proofs.EventsKept.{all_halted, all_quietly, all_sprung}
use Rattle.run_items.proofs.interpreter.Interpreter.perform_line.Goals as goal

pub returns-in-Ok-None : goal.returns-in-Ok-None
returns-in-Ok-None g c = all_quietly (events_of [] c.args.step) _ _ _ _ c.perform_step.result (λ rs. named-flows rs c.args.step) (search rules) c.perform_step.ensures (search rules)

pub returns-in-Ok-Some : goal.returns-in-Ok-Some
returns-in-Ok-Some g c = all_sprung (events_of [] c.args.step) _ (record c.args.self.now { formatter = c.perform_step.new.self }) c.keep_step.new.self _ _ c.in-Ok-Some.sprung c.perform_step.result (λ rs. named-flows rs c.args.step)
    c.keep_step.ensures.kept c.keep_step.ensures.others (search rules) c.perform_step.ensures (search rules)

pub returns-in-Err : goal.returns-in-Err
returns-in-Err g c = all_halted (events_of [] c.args.step) _ _ _ _ c.in-Err.halt (λ rs. named-flows rs c.args.step) c.in-Err.ensures (search rules)
