use Rattle.std.proofs.Common.{◌≡◌, [], ◌∙◌, Option, Some, ap, sym}
use Rattle.roff_pages.specs.declared.open_diversion.OpenDiversion.{OpenDiversion}
use Rattle.page_model.specs.Stops.{Target}
use Rattle.page_model.specs.Queries.{way_from}
use Rattle.roff_pages.specs.Pages.Kept.{Kept, open_diversions}
use Rattle.roff_pages.proofs.Blanking.{closed_target, none_open, way_is}
use Rattle.roff_pages.proofs.pages.Pages.way_to_trap.Goals as goal

pub returns-in-None : goal.returns-in-None
returns-in-None c L s =
    let k : Kept = c.args.self.now in
    let none : k.diversions ≡ [] =
    sym (ap (λ (k : Kept). k.diversions) c.self.view_is) ∙ ap (λ (o : Option OpenDiversion). open_diversions o c.self.inside.outer.items) c.in-None.is in
    ap Some (c.way.ensures.way ∙ way_is L k s c.way.ensures.short)
    ∙ sym (ap (λ (t : Target). way_from t.place t.stop) (closed_target L (none_open L k s none)))
