use Rattle.std.proofs.Common.{ℕ, refl, subst, sym}
use Rattle.run_items.specs.Halting.{Halts, line_told}
use Rattle.run_items.specs.Outcome.{seen}
use Rattle.run_turns.proofs.BytesActed.{byte_acts, byte_halts}
use Rattle.page_bytes.specs.Told.{told_by}
use Rattle.run_shortcuts.proofs.line_ends.end_call_line.Goals as goal

pub returns-in-Ok : goal.returns-in-Ok
returns-in-Ok g c = λ failures.
    byte_acts 10 _ c.args.run.now _ c.go_on.new.self failures c.in-Ok.sprung _ _ refl refl c.in-Ok.ensures (c.go_on.ensures failures)

pub returns-in-Err : goal.returns-in-Err
returns-in-Err g c = λ failures.
    let told = seen failures (g.O.ByteSink.sunk c.end_call_line.new.out) (told_by g.E.MessageSink c.end_call_line.new.err) in
    byte_halts 10 _ c.args.run.now _ failures c.in-Err.halt _ _ c.line-line.result refl (sym c.line-line.ensures) c.in-Err.ensures
    (λ t left start halts. c.halted.ensures t left start failures _
    (subst (λ (n : ℕ). Halts c.args.run.now.limits t left (line_told c.in-Err.halt n c.line-line.result) c.in-Err.halt start told) (sym c.line-line.ensures) halts))
