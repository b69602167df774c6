use Rattle.std.proofs.Common.{ap, subst, sym}
use Rattle.roff_pages.specs.Pages.Kept.{Kept}
use Rattle.roff_pages.specs.Pages.Stands.{StandsAs}
use Rattle.page_model.specs.Layout.{Layout}
use Rattle.roff_pages.proofs.PageBoxes.{set_standing}
use Rattle.roff_pages.proofs.pages.Pages.put_lines.Goals as goal

pub returns-clause-stands : goal.returns-clause-stands
returns-clause-stands c L boxes s long =
    let M : Layout = record L { next = c.args.next; no_space = c.args.no_space } in
    c.advance.ensures.stands M boxes
    (subst (λ (k : Kept). StandsAs M k) (ap (λ (k : Kept). record k { next = c.args.next; no_space = c.args.no_space }) (sym c.self.view_is))
    (set_standing L c.args.self.now c.args.next c.args.no_space s)) long

pub returns-clause-springs : goal.returns-clause-springs
returns-clause-springs c L boxes s long =
    let M : Layout = record L { next = c.args.next; no_space = c.args.no_space } in
    c.advance.ensures.springs M boxes
    (subst (λ (k : Kept). StandsAs M k) (ap (λ (k : Kept). record k { next = c.args.next; no_space = c.args.no_space }) (sym c.self.view_is))
    (set_standing L c.args.self.now c.args.next c.args.no_space s)) long
