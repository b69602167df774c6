use Rattle.std.proofs.Common.{sym, subst}
use Rattle.run_model.specs.declared.phase.Phase.{Phase}
use Rattle.run_turns.specs.Running.Leaving.{LeavesIn}
use Rattle.run_turns.proofs.Returning.{drops_ahead-behind}
use Rattle.run_turns.proofs.running.Running.leave_input.Goals as goal

pub returns-in-Reading : goal.returns-in-Reading
returns-in-Reading c =
    subst (λ (p : Phase). LeavesIn p c.args.self.now c.drop_ahead.new.self) (sym c.in-Reading.is)
    (drops_ahead-behind c.args.self.now c.drop_ahead.new.self c.begin_next_line.new.self c.begin_next_line.ensures c.drop_ahead.ensures)

pub returns-in-LastMacro : goal.returns-in-LastMacro
returns-in-LastMacro c =
    subst (λ (p : Phase). LeavesIn p c.args.self.now c.drop_ahead-in-LastMacro.new.self) (sym c.in-LastMacro.is)
    (drops_ahead-behind c.args.self.now c.drop_ahead-in-LastMacro.new.self c.begin_next_line.new.self c.begin_next_line.ensures c.drop_ahead-in-LastMacro.ensures)
