use Rattle.std.proofs.Common.{[], ◌∷◌, arith, refl, sym, ◌∙◌}
use Rattle.input_model.specs.Input.{DoAhead}
use Rattle.run_model.specs.Run.{ahead_taken}
use Rattle.run_model.proofs.Keeping.{Keeps-interrupted}
use Rattle.run_turns.proofs.Acting.{taking_acts, halted_acts}
use Rattle.run_items.proofs.EventsTaken.{event_taking, event_does, line-interrupted}
use Rattle.run_turns.proofs.EventsMeant.{event_meant}
use Rattle.run_turns.proofs.running.Running.perform.Goals as goal

pub returns-in-Ok : goal.returns-in-Ok
returns-in-Ok g c = λ failures.
    let old = c.args.self.now in
    taking_acts (event_taking old.interpreter.reader.reading old.unread.input)
    (ahead_taken (DoAhead c.args.event)) old.phase (c.args.event ∷ []) _ old _ c.go_on.new.self failures c.in-Ok.sprung _ _ (event_meant c.args.event old) refl refl
    (event_does c.args.event _ _ _ _ _ _ _ _ c.interrupt.ensures c.in-Ok.ensures) (λ k. ((λ may. omega arith), tt))
    (λ k. (Keeps-interrupted old.interpreter.reader.reading old.unread.input).few) (c.go_on.ensures failures)

pub returns-in-Err : goal.returns-in-Err
returns-in-Err g c = λ failures.
    let old = c.args.self.now in
    halted_acts (event_taking old.interpreter.reader.reading old.unread.input)
    (ahead_taken (DoAhead c.args.event)) old.phase (c.args.event ∷ []) _ old (event_meant c.args.event old) _ failures c.in-Err.halt _ _ c.line-line.result refl
    (λ k. line-interrupted old.interpreter.reader.reading old.unread.input ∙ sym c.line-line.ensures)
    (event_does c.args.event _ _ _ _ _ _ _ _ c.interrupt.ensures c.in-Err.ensures)
    (λ t left start. c.halted.ensures t left start failures _)
