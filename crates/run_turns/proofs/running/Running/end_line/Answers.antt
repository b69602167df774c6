use Rattle.std.proofs.Common.{[], true, refl}
use Rattle.run_model.specs.Run.{input_ended}
use Rattle.run_model.specs.Reading.Ends.{end_taking}
use Rattle.run_model.specs.Registers.{Known}
use Rattle.run_model.proofs.Keeping.{Keeps-end_taking}
use Rattle.run_events.proofs.EventsLeft.{few-none}
use Rattle.run_model.proofs.ReadEvents.{AreFewBehind-end_taking}
use Rattle.run_turns.proofs.Acting.{taking_acts, halted_acts}
use Rattle.run_turns.proofs.running.Running.end_line.Goals as goal

pub returns-in-Ok : goal.returns-in-Ok
returns-in-Ok g c = λ failures.
    let old = c.args.self.now in
    taking_acts (λ (k : Known). end_taking k old.interpreter.reader.reading old.unread.input)
    (input_ended true) old.phase [] _ old _ c.go_on.new.self failures c.in-Ok.sprung _ _ (λ tape h messages. refl) refl refl c.in-Ok.ensures
    (λ k. few-none (end_taking k old.interpreter.reader.reading old.unread.input).effect.events (AreFewBehind-end_taking k old.interpreter.reader.reading old.unread.input))
    (λ k. (Keeps-end_taking k old.interpreter.reader.reading old.unread.input).few) (c.go_on.ensures failures)

pub returns-in-Err : goal.returns-in-Err
returns-in-Err g c = λ failures.
    let old = c.args.self.now in
    halted_acts (λ (k : Known). end_taking k old.interpreter.reader.reading old.unread.input)
    (input_ended true) old.phase [] _ old (λ tape h messages. refl) _ failures c.in-Err.halt _ _ old.unread.input.line refl
    (λ k. (Keeps-end_taking k old.interpreter.reader.reading old.unread.input).line)
    c.in-Err.ensures (λ t left start halts. c.halted.ensures t left start failures _ (rw c.line-line.ensures halts))
