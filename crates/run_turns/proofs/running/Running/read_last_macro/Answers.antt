use Rattle.std.proofs.Common.{[], refl}
use Rattle.run_model.specs.Run.{phase_ended}
use Rattle.run_model.specs.Reading.Calls.{last_called}
use Rattle.run_model.specs.Reading.Items.{going_on}
use Rattle.run_model.specs.Registers.{Known}
use Rattle.run_model.specs.declared.line_state.LineState.TheVariants.{LineStart}
use Rattle.run_model.specs.declared.phase.Phase.TheVariants.{LastMacro, Reading}
use Rattle.run_model.proofs.Keeping.{Keeps-last_called}
use Rattle.run_turns.proofs.Acting.{taking_acts, halted_acts}
use Rattle.run_turns.proofs.running.Running.read_last_macro.Goals as goal

pub returns-in-Ok : goal.returns-in-Ok
returns-in-Ok g c = λ failures.
    let old = c.args.self.now in
    let out = g.O.ByteSink.sunk c.args.out.now in
    taking_acts (λ (k : Known). going_on (last_called old.interpreter.reader.registers.all.last_macro old.unread.input) LineStart)
    (phase_ended Reading) LastMacro [] _ old _ c.go_on.new.self failures c.in-Ok.sprung _ _ (λ tape h messages. refl) refl refl (c.in-Ok.ensures out _)
    (λ k. tt) (λ k. (Keeps-last_called old.interpreter.reader.registers.all.last_macro old.unread.input).few) (c.go_on.ensures failures)

pub returns-in-Err : goal.returns-in-Err
returns-in-Err g c = λ failures.
    let old = c.args.self.now in
    let out = g.O.ByteSink.sunk c.args.out.now in
    halted_acts (λ (k : Known). going_on (last_called old.interpreter.reader.registers.all.last_macro old.unread.input) LineStart)
    (phase_ended Reading) LastMacro [] _ old (λ tape h messages. refl) _ failures c.in-Err.halt _ _ old.unread.input.line refl
    (λ k. (Keeps-last_called old.interpreter.reader.registers.all.last_macro old.unread.input).line)
    (c.in-Err.ensures out _) (λ t left start halts. c.halted.ensures t left start failures out (rw c.line-line.ensures halts))
