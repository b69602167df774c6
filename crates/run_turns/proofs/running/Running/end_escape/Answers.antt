use Rattle.std.proofs.Common.{[], refl}
use Rattle.run_model.specs.Run.{escape_ends}
use Rattle.run_model.specs.Reading.{escape_ended}
use Rattle.run_model.specs.Registers.{Known}
use Rattle.run_events.proofs.EventsLeft.{few-none}
use Rattle.run_model.proofs.ReadEvents.{AreFewBehind-escape_ended}
use Rattle.run_turns.proofs.Acting.{taking_acts, halted_acts}
use Rattle.run_items.proofs.InputEnds.{few-escape_ended, line-escape_ended}
use Rattle.run_turns.proofs.running.Running.end_escape.Goals as goal

pub returns-in-Ok : goal.returns-in-Ok
returns-in-Ok g c = λ failures.
    let old = c.args.self.now in
    taking_acts (λ (k : Known). escape_ended k old.interpreter.reader.reading old.unread.input)
    escape_ends old.phase [] _ old _ c.go_on.new.self failures c.in-Ok.sprung _ _ (λ tape h messages. refl) refl refl c.in-Ok.ensures
    (λ k. few-none (escape_ended k old.interpreter.reader.reading old.unread.input).effect.events (AreFewBehind-escape_ended k old.interpreter.reader.reading old.unread.input))
    (λ k. few-escape_ended k old.interpreter.reader.reading old.unread.input) (c.go_on.ensures failures)

pub returns-in-Err : goal.returns-in-Err
returns-in-Err g c = λ failures.
    let old = c.args.self.now in
    halted_acts (λ (k : Known). escape_ended k old.interpreter.reader.reading old.unread.input)
    escape_ends old.phase [] _ old (λ tape h messages. refl) _ failures c.in-Err.halt _ _ old.unread.input.line refl
    (λ k. line-escape_ended k old.interpreter.reader.reading old.unread.input)
    c.in-Err.ensures (λ t left start halts. c.halted.ensures t left start failures _ (rw c.line-line.ensures halts))
