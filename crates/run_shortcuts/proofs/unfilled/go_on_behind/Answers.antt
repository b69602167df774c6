use Rattle.std.proofs.Common.{ℕ, [], Option, Result, refl, subst, sym}
use Rattle.run_events.specs.declared.halt.Halt.{Halt}
use Rattle.run_events.specs.declared.sprung.Sprung.{Sprung}
use Rattle.run_items.specs.Halting.{Halts, line_told}
use Rattle.run_items.specs.Outcome.{seen}
use Rattle.run_items.specs.Performing.{DoesTaking, sinks}
use Rattle.run_items.specs.Unfilled.{told_as}
use Rattle.run_model.specs.Reading.{byte_taking}
use Rattle.run_model.specs.declared.line_state.LineState.TheVariants.{Text as InText}
use Rattle.run_turns.specs.declared.running.Running.{Running as Coded}
use Rattle.run_turns.proofs.BytesActed.{byte_acts, byte_halts}
use Rattle.page_bytes.specs.Told.{told_by}
use Rattle.run_shortcuts.proofs.unfilled.go_on_behind.Goals as goal

pub returns-in-Ok : goal.returns-in-Ok
returns-in-Ok g c = λ failures was told line out_old takes.
    let out_new = g.O.ByteSink.sunk c.args.out.now in
    let now = c.args.run.now in
    let before : Coded = record now { interpreter = told_as was told (InText line) } in
    let err = told_by g.E.MessageSink c.args.err.now in
    byte_acts 10 _ before now c.go_on.new.self failures c.in-Ok.sprung _ _ refl refl
    (subst
    (λ (done : Result (Option Sprung) Halt). DoesTaking (λ k. byte_taking k (InText line) now.unread.input 10) [] before.interpreter now.interpreter now.unread now.unread (sinks out_old err) (sinks out_new err) done)
    c.in-Ok.is takes)
    (c.go_on.ensures failures)

pub returns-in-Err : goal.returns-in-Err
returns-in-Err g c = λ failures was told line out_old takes.
    let out_new = g.O.ByteSink.sunk c.args.out.now in
    let now = c.args.run.now in
    let before : Coded = record now { interpreter = told_as was told (InText line) } in
    let err = told_by g.E.MessageSink c.args.err.now in
    byte_halts 10 _ before now failures c.in-Err.halt _ _ c.line-line.result refl (sym c.line-line.ensures)
    (subst
    (λ (done : Result (Option Sprung) Halt). DoesTaking (λ k. byte_taking k (InText line) now.unread.input 10) [] before.interpreter now.interpreter now.unread now.unread (sinks out_old err) (sinks out_new err) done)
    c.in-Err.is takes)
    (λ t left start halts. c.halted.ensures t left start failures _
    (subst (λ (n : ℕ). Halts now.limits t left (line_told c.in-Err.halt n c.line-line.result) c.in-Err.halt start (seen failures out_new err)) (sym c.line-line.ensures) halts))
