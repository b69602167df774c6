use Rattle.std.proofs.Common.{◌≡◌, List, [], sym, subst}
use Rattle.run_model.specs.Events.Steps.{events_of, messages_of}
use Rattle.run_model.specs.PageEvents.{PageEvent}
use Rattle.run_model.specs.declared.message.Message.{Message}
use Rattle.run_items.specs.Performing.{DoesMeaning, sinks}
use Rattle.run_items.proofs.Bounded.{told_nothing}
use Rattle.run_items.proofs.NamedSteps.{named-events, named-quiet}
use Rattle.run_items.proofs.MessagesTold.{told_then_performed}
use Rattle.page_bytes.specs.Told.{told_by}
use Rattle.run_items.proofs.interpreter.Interpreter.perform.Goals as goal

pub returns-in-Meaning : goal.returns-in-Meaning
returns-in-Meaning g c = rw c.in-Meaning.is c.report_and_perform.ensures

pub returns-in_default : goal.returns-in_default
returns-in_default g c =
    let old = c.args.self.now in
    let kept = old.reader.meaning in
    let err = told_by g.E.MessageSink c.args.err.now in
    let done = c.perform_line in
    let told_old = sinks (g.O.ByteSink.sunk c.args.out.now) err in
    let told_new = sinks (g.O.ByteSink.sunk done.new.out) err in
    let performed = told_then_performed c.args.line [] (events_of [] c.args.step) old done.new.self _ _ err err done.result (told_nothing err) done.ensures in
    let quiet : [] ≡ messages_of kept.message c.args.step = sym (named-quiet c.args.step kept.message c.in_default.not-Meaning) in
    subst (λ (messages : List Message). DoesMeaning c.args.line messages (events_of kept.events c.args.step) old done.new.self told_old told_new done.result) quiet
    (subst (λ (events : List PageEvent). DoesMeaning c.args.line [] events old done.new.self told_old told_new done.result) (named-events c.args.step kept.events c.in_default.not-Meaning) performed)
