use Rattle.std.proofs.Common.{inl, inr}
use Rattle.run_items.proofs.Halting.{limit_stops, limit_told, limit_not_told, output_reported}
use Rattle.run_items.proofs.halt.status.Goals as goal

pub returns-in-Ok : goal.returns-in-Ok
returns-in-Ok g c = λ t left before failures out halts.
    let stops = limit_stops _ t left _ _ c.in-Limit.limit before _ c.in-Limit.is halts in
    inl (limit_told _ t left _ before failures out _ _ c.in-Limit.limit stops (rw (← c.value.ensures) c.in-Ok.ensures.ok))

pub returns-in-Err : goal.returns-in-Err
returns-in-Err g c = λ t left before failures out halts.
    let stops = limit_stops _ t left _ _ c.in-Limit.limit before _ c.in-Limit.is halts in
    inr (inr (limit_not_told _ t left _ before failures out _ _ c.in-Limit.limit stops (rw (← c.value.ensures) c.in-Err.ensures.err)))

pub returns-in-Output : goal.returns-in-Output
returns-in-Output g c = λ t left before failures out halts.
    inr (inl (output_reported _ t left _ before failures out _ _ c.report.result (rw c.in-Output.is at halts) c.report.ensures))

pub returns-in-Over : goal.returns-in-Over
returns-in-Over g c = λ t left before failures out halts. inl (rw c.in-Over.is at halts)

pub returns-in-Messages : goal.returns-in-Messages
returns-in-Messages g c = λ t left before failures out halts. inr (inr (inl (rw c.in-Messages.is at halts)))
