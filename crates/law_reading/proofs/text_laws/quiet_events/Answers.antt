use Rattle.law_reading.proofs.text_laws.quiet_events.Goals as goal
use Rattle.law_reading.proofs.QuietEvents.{events_are_quiet_on_the_page, events_that_put_nothing_are_quiet}

pub returns-clause-on_the_page : goal.returns-clause-on_the_page
returns-clause-on_the_page c = events_are_quiet_on_the_page

pub returns-clause-put_nothing : goal.returns-clause-put_nothing
returns-clause-put_nothing c = events_that_put_nothing_are_quiet
