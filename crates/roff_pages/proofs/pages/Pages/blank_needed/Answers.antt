use Rattle.page_model.specs.Queries.{text_target}
use Rattle.roff_pages.proofs.pages.Pages.blank_needed.Goals as goal

pub returns : goal.returns
returns c = λ L s. c.needed_up_to.ensures (text_target L).place (text_target L).stop (c.way_to_trap.ensures L s)
