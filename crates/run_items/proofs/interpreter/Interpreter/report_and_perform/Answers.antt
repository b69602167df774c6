use Rattle.std.proofs.Common.{Option, Err, subst}
use Rattle.std.specs.Option.{option_to_list}
use Rattle.run_model.specs.Messages.{message_lines}
use Rattle.run_model.specs.declared.message.Message.{Message}
use Rattle.run_items.specs.Reporting.{Tells}
use Rattle.run_items.proofs.MessagesTold.{not_told, told_then_performed}
use Rattle.page_bytes.specs.Told.{told_by}
use Rattle.run_items.proofs.interpreter.Interpreter.report_and_perform.Goals as goal

pub returns-in-Ok : goal.returns-in-Ok
returns-in-Ok g c = told_then_performed _ _ _ _ _ _ _ _ _ _ (rw c.message.ensures at c.in-Ok.ensures) c.perform_each.ensures

pub returns-in-Err : goal.returns-in-Err
returns-in-Err g c =
    let old = told_by g.E.MessageSink c.args.err.now in
    let new = told_by g.E.MessageSink c.report_message.new.err in
    not_told _ _ _ _ _ _ _ _
    (subst (λ (message : Option Message). Tells old new (message_lines c.args.line (option_to_list message)) (Err c.in-Err.halt)) c.message.ensures c.in-Err.ensures)
