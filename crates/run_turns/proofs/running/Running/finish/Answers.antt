use Rattle.std.proofs.Common.{arith, [], refl}
use Rattle.run_model.specs.Events.Lines.{closing_events}
use Rattle.run_model.specs.Run.{phase_ended}
use Rattle.run_model.specs.Reading.Items.{meaning_events}
use Rattle.run_model.specs.Registers.{Known}
use Rattle.run_model.specs.declared.line_state.LineState.TheVariants.{LineStart}
use Rattle.run_model.specs.declared.phase.Phase.TheVariants.{Closing, LastMacro}
use Rattle.run_events.proofs.EventsLeft.{few-short}
use Rattle.run_turns.proofs.Acting.{taking_acts, halted_acts}
use Rattle.run_turns.proofs.running.Running.finish.Goals as goal

pub returns-in-Ok : goal.returns-in-Ok
returns-in-Ok g c = λ failures.
    let old = c.args.self.now in
    taking_acts (λ (k : Known). meaning_events old.unread.input LineStart closing_events)
    (phase_ended LastMacro) Closing [] _ old _ c.go_on.new.self failures c.in-Ok.sprung _ _ (λ tape h messages. refl) refl refl (c.in-Ok.ensures old.unread _)
    (λ k. few-short closing_events (omega arith)) (λ k room most few. few) (c.go_on.ensures failures)

pub returns-in-Err : goal.returns-in-Err
returns-in-Err g c = λ failures.
    let old = c.args.self.now in
    halted_acts (λ (k : Known). meaning_events old.unread.input LineStart closing_events)
    (phase_ended LastMacro) Closing [] _ old (λ tape h messages. refl) _ failures c.in-Err.halt _ _ old.unread.input.line refl
    (λ k. refl) (c.in-Err.ensures old.unread _) (λ t left start halts. c.halted.ensures t left start failures _ (rw c.line-line.ensures halts))
