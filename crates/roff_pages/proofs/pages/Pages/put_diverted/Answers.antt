use Rattle.std.proofs.Common.{◌≡◌, ◌∷◌, ◌∙◌, None, List, Option, ap, reverse, sym, if◌then◌else◌}
use Rattle.roff_num.specs.declared.short_name.ShortName.{ShortName}
use Rattle.roff_pages.specs.declared.open_diversion.OpenDiversion.{OpenDiversion}
use Rattle.roff_pages.specs.Pages.Kept.{Kept, open_diversions}
use Rattle.roff_pages.proofs.Diverting.{diverted_standing, passed_kept}
use Rattle.roff_pages.proofs.pages.Pages.put_diverted.Goals as goal

pub returns-in-Some-clause-stands : goal.returns-in-Some-clause-stands
returns-in-Some-clause-stands c L boxes s lines width =
    let k : Kept = c.args.self.now in
    let rest : List OpenDiversion = reverse c.self.inside.outer.items in
    let is : k.diversions ≡ c.in-Some.diversion ∷ rest =
    sym (ap (λ (k : Kept). k.diversions) c.self.view_is) ∙ ap (λ (o : Option OpenDiversion). open_diversions o c.self.inside.outer.items) c.in-Some.is in
    diverted_standing L k _ boxes c.in-Some.diversion c.with_lines.result rest s is (λ d e. c.with_lines.ensures d boxes e lines width)
    (ap (λ (k : Kept). record k { diversions = c.with_lines.result ∷ rest }) (sym c.self.view_is))

pub returns-in-Some-clause-springs : goal.returns-in-Some-clause-springs
returns-in-Some-clause-springs c L boxes s lines width =
    let k : Kept = c.args.self.now in
    let rest : List OpenDiversion = reverse c.self.inside.outer.items in
    let is : k.diversions ≡ c.in-Some.diversion ∷ rest =
    sym (ap (λ (k : Kept). k.diversions) c.self.view_is) ∙ ap (λ (o : Option OpenDiversion). open_diversions o c.self.inside.outer.items) c.in-Some.is in
    c.unless_over.ensures
    ∙ (ap (λ over. if over then None else c.passed_in_diversion.result) (ap (λ (k : Kept). k.is_over) c.self.view_is ∙ s.is_over)
    ∙ ap (λ (passed : Option ShortName). if L.is_over then None else passed)
    (passed_kept L.diversions c.in-Some.diversion rest L boxes c.args.lines c.passed_in_diversion.result (sym is ∙ s.diversions) lines c.passed_in_diversion.ensures))
