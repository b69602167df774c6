use Rattle.std.proofs.Common.{Bool, not, ap, ◌∙◌, if◌then◌else◌}
use Rattle.run_state.proofs.OddPages.{odd_as_asked}
use Rattle.run_state.proofs.conditions.is_so.Goals as goal

pub returns-in-OnPages : goal.returns-in-OnPages
returns-in-OnPages c = λ l h rs i stands.
    rw c.in-OnPages.is
    (odd_as_asked c.is_page_odd.result c.in-OnPages.odd
    ∙ ap (λ (is_odd : Bool). if c.in-OnPages.odd then is_odd else not is_odd) (c.is_page_odd.ensures l h rs i stands))
