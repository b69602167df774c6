use Rattle.run_shortcuts.proofs.fronts.take_named.Goals as goal

pub returns-in-Some-clause-further : goal.returns-in-Some-clause-further
returns-in-Some-clause-further g c = c.tell_named.ensures.further

pub returns-in-None-clause-further : goal.returns-in-None-clause-further
returns-in-None-clause-further g c = c.tell_other.ensures.further
