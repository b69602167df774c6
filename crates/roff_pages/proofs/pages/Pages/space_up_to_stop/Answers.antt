use Rattle.std.proofs.Common.{◌≡◌, ◌≤◌, ◌∙◌, false, true, refl, ap, arith, sym, subst}
use Rattle.roff_pages.specs.Pages.Kept.{Kept}
use Rattle.roff_pages.proofs.Blanking.{did_blank_as, space_nothing, space_puts}
use Rattle.roff_pages.proofs.PageBoxes.{SameLimits-same, did_nothing}
use Rattle.roff_pages.proofs.pages.Pages.space_up_to_stop.Goals as goal

pub returns-then-self : goal.returns-then-self
returns-then-self g c =
    let k : Kept = c.args.self.now in
    let on : k.no_space ≡ true = sym (ap (λ (k : Kept). k.no_space) c.self.view_is) ∙ c.if-self.true in
    let within : k.written ≤ k.output = subst (λ (k : Kept). k.written ≤ k.output) c.self.view_is (omega (arith, c.self.invariant.room)) in
    record { did = λ L s. did_nothing _ L k _ (space_nothing c.args.lines L k s c.requires on) s within; limits = SameLimits-same k }

pub returns : goal.returns
returns g c =
    let k : Kept = c.args.self.now in
    let off : k.no_space ≡ false = sym (ap (λ (k : Kept). k.no_space) c.self.view_is) ∙ c.if-self.false in
    let next : c.self.inside.next ≡ k.next = ap (λ (k : Kept). k.next) c.self.view_is in
    let count = c.min-count.result in
    record {
      did = λ L s. did_blank_as _ L c.args.lines count count k.next c.self.inside.next false false k c.put_blank_lines.new.self (g.O.ByteSink.sunk c.args.out.now) (g.O.ByteSink.sunk c.put_blank_lines.new.out) c.put_blank_lines.result
          refl next refl (space_puts c.args.lines L k count s c.way.ensures.short c.requires off (omega (arith, c.way.ensures.way, c.from.ensures, c.min-count.ensures)))
          (c.put_blank_lines.ensures.did L s);
      limits = c.put_blank_lines.ensures.limits;
    }
