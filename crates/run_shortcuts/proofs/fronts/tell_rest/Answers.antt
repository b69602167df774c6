use Rattle.run_shortcuts.proofs.fronts.tell_rest.Goals as goal

pub returns-in-Untold : goal.returns-in-Untold
returns-in-Untold g c = c.tell_front.ensures.past

pub returns-in-Other : goal.returns-in-Other
returns-in-Other g c = c.tell_front.ensures.past

pub returns-in-Escape : goal.returns-in-Escape
returns-in-Escape g c = c.tell_front.ensures.past

pub returns-in-Named : goal.returns-in-Named
returns-in-Named g c = c.tell_front.ensures.past
