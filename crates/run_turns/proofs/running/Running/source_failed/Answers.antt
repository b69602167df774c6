use Rattle.run_turns.proofs.running.Running.source_failed.Goals as goal

pub returns-clause-report : goal.returns-clause-report
returns-clause-report g c = (c.report.result, rw (← c.line.ensures) c.report.ensures)
