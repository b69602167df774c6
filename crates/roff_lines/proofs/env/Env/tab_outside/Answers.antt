use Rattle.roff_lines.proofs.TabsTold.{StandsBehind-tab_plainly, finished_at_tab-plainly, limit-tab_plainly}
use Rattle.roff_lines.proofs.env.Env.tab_outside.Goals as goal

pub returns-clause-stands : goal.returns-clause-stands
returns-clause-stands c = StandsBehind-tab_plainly c.move_to_stop.result c.args.self.now c.requires c.move_to_stop.new.self c.move_to_stop.ensures.stands

pub returns-clause-line : goal.returns-clause-line
returns-clause-line c = finished_at_tab-plainly c.move_to_stop.result c.args.self.now c.requires

pub returns-clause-limit : goal.returns-clause-limit
returns-clause-limit c = limit-tab_plainly c.move_to_stop.result c.args.self.now c.requires c.move_to_stop.ensures.limit
