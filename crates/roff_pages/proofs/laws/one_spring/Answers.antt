use Rattle.page_model.specs.Happenings.{is_eject}
use Rattle.page_model.specs.Stops.{page_target, target}
use Rattle.page_model.specs.Puts.{puts}
use Rattle.roff_pages.proofs.NextStop.{on_the_page, page_met}
use Rattle.roff_pages.proofs.laws.one_spring.Goals as goal

pub returns-clause-on_page : goal.returns-clause-on_page
returns-clause-on_page c x L on_page =
    page_met L (target x L) (puts x L) (on_the_page (is_eject x) L.diversions (page_target L) on_page)
