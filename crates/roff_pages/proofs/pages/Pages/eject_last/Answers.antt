use Rattle.std.proofs.Common.{◌≡◌, ◌≤◌, ◌∙◌, not, ◌&&◌, ap, arith, false, subst, sym, true, ◌==◌}
use Rattle.page_model.specs.Layout.{Layout, page_place}
use Rattle.roff_pages.specs.Pages.Stands.{StandsAs}
use Rattle.roff_pages.specs.Pages.Kept.{Kept}
use Rattle.roff_pages.specs.Pages.Advancing.{way_on}
use Rattle.roff_pages.proofs.Blanking.{did_blank_as, did_over, eject_last_puts, over_no_line, over_no_page}
use Rattle.roff_pages.proofs.pages.Pages.eject_last.Goals as goal
use Rattle.roff_pages.proofs.pages.Pages.eject_last.Goals.{then-self-eq0-via-then-self-eq0, then-self-eq0-via-else-self-eq0+then-self-eq0-2}

pub returns-then-self-eq0 : goal.returns-then-self-eq0
returns-then-self-eq0 g c =
    let k : Kept = c.args.self.now in
    let within : k.written ≤ k.output = subst (λ (k : Kept). k.written ≤ k.output) c.self.view_is (omega (arith, c.self.invariant.room)) in
    let nothing : (L : Layout) → StandsAs L k → (not (L.begun == 0) && not (page_place L == 0)) ≡ false = λ L s.
    elim c.then-self-eq0.branch [
      | then-self-eq0-via-then-self-eq0 w ↦ over_no_page L k s (sym (ap (λ (k : Kept). k.begun) c.self.view_is) ∙ w.if-self-eq0.true)
      | then-self-eq0-via-else-self-eq0+then-self-eq0-2 w ↦ over_no_line L k s (sym (ap (λ (k : Kept). k.place) c.self.view_is) ∙ w.if-self-eq0-2.true)
    ] in
    record {
      did = λ L s. did_over L k _ (g.O.ByteSink.sunk c.args.out.now) (nothing L s) s within
          (ap (λ (k : Kept). record k { is_over = true }) (sym c.self.view_is));
      limits = record {
        traps = ap (λ (k : Kept). k.most_traps) c.self.view_is;
        diversions = ap (λ (k : Kept). k.most_diversions) c.self.view_is;
        output = ap (λ (k : Kept). k.output) c.self.view_is;
      };
    }

pub returns : goal.returns
returns g c =
    let k : Kept = c.args.self.now in
    let next : c.self.inside.next ≡ k.next = ap (λ (k : Kept). k.next) c.self.view_is in
    let mode : c.self.inside.no_space ≡ k.no_space = ap (λ (k : Kept). k.no_space) c.self.view_is in
    let some_page : k.begun ≡ 0 → ⊥ = λ e. c.if-self-eq0.false (ap (λ (k : Kept). k.begun) c.self.view_is ∙ e) in
    let some_line : k.place ≡ 0 → ⊥ = λ e. c.if-self-eq0-2.false (ap (λ (k : Kept). k.place) c.self.view_is ∙ e) in
    let way : c.way-way.result ≡ way_on k = c.way-way.ensures.way in
    record {
      did = λ L s. did_blank_as _ L (way_on k) (way_on k) c.way-way.result k.next c.self.inside.next k.no_space c.self.inside.no_space k c.put_blank_lines.new.self (g.O.ByteSink.sunk c.args.out.now) (g.O.ByteSink.sunk c.put_blank_lines.new.out) c.put_blank_lines.result
          way next mode (eject_last_puts L k s c.way-way.ensures.short some_page some_line) (c.put_blank_lines.ensures.did L s);
      limits = c.put_blank_lines.ensures.limits;
    }
