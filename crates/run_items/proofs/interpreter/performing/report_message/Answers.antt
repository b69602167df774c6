use Rattle.std.proofs.Common.{List, ℕ, Option, ap, append-nil, subst, sym, ◌∙◌}
use Rattle.std.specs.Option.{option_to_list}
use Rattle.run_model.specs.Messages.{message_line, message_lines}
use Rattle.run_model.specs.declared.message.Message.{Message}
use Rattle.run_items.specs.Reporting.{Tells}
use Rattle.page_bytes.specs.Told.{told_by}
use Rattle.run_items.proofs.interpreter.performing.report_message.Goals as goal

pub returns-in-Some : goal.returns-in-Some
returns-in-Some g c =
    let old = told_by g.E.MessageSink c.args.err.now in
    let new = told_by g.E.MessageSink c.tell.new.err in
    subst (λ (piece : List ℕ). Tells old new piece c.tell.result)
    (c.deref.ensures.0 ∙ c.line.ensures ∙ sym (append-nil (message_line c.args.line c.in-Some.message))
    ∙ ap (λ (told : Option Message). message_lines c.args.line (option_to_list told)) (sym c.in-Some.is)) c.tell.ensures
