use Rattle.run_events.proofs.formatter.Formatter.new.Goals as goal

pub returns-in-Ok : goal.returns-in-Ok
returns-in-Ok c = c.give_pages.ensures c.args.limits c.in-Ok.ensures
