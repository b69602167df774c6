use Rattle.run_events.proofs.formatter.Formatter.tab.Goals as goal

pub returns-then-is_in_field : goal.returns-then-is_in_field
returns-then-is_in_field g c = c.tab_in_field.ensures

pub returns : goal.returns
returns g c = c.tab_outside.ensures (g.O.ByteSink.sunk c.args.out.now)
