use Rattle.std.proofs.Common.{List, ℕ, Err, false, subst}
use Rattle.run_items.specs.Reporting.{Tells}
use Rattle.run_model.specs.Messages.{told_line}
use Rattle.run_turns.proofs.DueDone.{told_due, untold_due}
use Rattle.page_bytes.specs.Told.{told_by}
use Rattle.run_turns.proofs.running.Running.tell_held_text.Goals as goal

pub returns-in-Ok : goal.returns-in-Ok
returns-in-Ok g c = λ failures out.
    let does_due = told_due c.args.self.now failures out _ _ c.requires (rw c.begun.ensures at c.in-Ok.ensures) in
    rw (c.begin_next_line.ensures, c.begin_arguments.ensures.change) does_due

pub returns-in-Err : goal.returns-in-Err
returns-in-Err g c = λ failures out.
    let old = told_by g.E.MessageSink c.args.err.now in
    let mid = told_by g.E.MessageSink c.tell_text.new.err in
    untold_due c.args.self.now failures out _ _ _ c.in-Err.halt _ c.requires
    (subst (λ (text : List ℕ). Tells old mid (told_line false text) (Err c.in-Err.halt)) c.begun.ensures c.in-Err.ensures)
    (rw c.line-line.ensures at c.halted.ensures)
