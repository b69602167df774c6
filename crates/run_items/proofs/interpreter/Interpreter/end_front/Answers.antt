use Rattle.std.proofs.Common.{rules}
use Rattle.run_model.specs.declared.line_state.LineState.TheVariants.{LineStart}
use Rattle.run_model.specs.declared.step.Step.TheVariants.{LineEnd}
use Rattle.run_items.specs.Unfilled.{told_as}
use Rattle.run_items.proofs.EventsKept.{all_halted, all_quietly, all_sprung}
use Rattle.run_items.proofs.NamedSteps.{named-flows}
use Rattle.run_items.proofs.Unfilled.{ending, ends_front}
use Rattle.run_items.proofs.interpreter.Interpreter.end_front.Goals as goal

pub returns-in-Ok-None : goal.returns-in-Ok-None
returns-in-Ok-None g c =
    let put = c.put_line.ensures in
    ends_front _ _ c.args.self.now _ _ _ _ _ _ put
    (all_quietly ending (told_as c.args.self.now put.told LineStart) _ _ _ c.put_line.result (λ rs h. named-flows rs LineEnd h) (search rules) put.performs c.begin_next_line.ensures)

pub returns-in-Ok-Some : goal.returns-in-Ok-Some
returns-in-Ok-Some g c =
    let put = c.put_line.ensures in
    ends_front _ _ c.args.self.now _ _ _ _ _ _ put
    (all_sprung ending (told_as c.args.self.now put.told LineStart) (record c.args.self.now { formatter = c.put_line.new.self; reader = c.begin_next_line.new.self }) c.keep_step.new.self _ _ c.in-Ok-Some.sprung c.put_line.result (λ rs h. named-flows rs LineEnd h)
    c.keep_step.ensures.kept c.keep_step.ensures.others (search rules) put.performs c.begin_next_line.ensures)

pub returns-in-Err : goal.returns-in-Err
returns-in-Err g c =
    let put = c.in-Err.ensures in
    ends_front _ _ c.args.self.now _ _ _ _ _ _ put
    (all_halted ending (told_as c.args.self.now put.told LineStart) _ _ _ c.in-Err.halt (λ rs h. named-flows rs LineEnd h) put.performs c.begin_next_line.ensures)
