use Rattle.std.proofs.Common.{List, ℕ, Err, subst}
use Rattle.run_items.specs.Reporting.{Tells}
use Rattle.page_bytes.specs.Told.{told_by}
use Rattle.run_turns.proofs.running.Running.tell_note.Goals as goal

pub returns-in-Err : goal.returns-in-Err
returns-in-Err g c =
    let old = told_by g.E.MessageSink c.args.err.now in
    let mid = told_by g.E.MessageSink c.tell.new.err in record {
      halt = c.in-Err.halt;
      mid = mid;
      tells = subst (λ (note : List ℕ). Tells old mid note (Err c.in-Err.halt)) c.deref.ensures.0 c.in-Err.ensures;
      ends = c.halted.ensures;
    }
