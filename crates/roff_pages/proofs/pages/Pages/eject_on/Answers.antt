use Rattle.std.proofs.Common.{◌≡◌, ◌≤◌, ◌<◌, ◌∙◌, ap, arith, sym, subst, ◌^◌}
use Rattle.roff_pages.specs.Pages.Kept.{Kept}
use Rattle.roff_pages.specs.Pages.Advancing.{way_on}
use Rattle.roff_pages.proofs.Blanking.{did_blank_as, eject_on_nothing, eject_on_puts}
use Rattle.roff_pages.proofs.PageBoxes.{SameLimits-same, did_nothing}
use Rattle.roff_pages.proofs.pages.Pages.eject_on.Goals as goal

pub returns-then-from-self : goal.returns-then-from-self
returns-then-from-self g c =
    let k : Kept = c.args.self.now in
    let pages : c.self.inside.begun ≡ k.begun = ap (λ (k : Kept). k.begun) c.self.view_is in
    let within : k.written ≤ k.output = subst (λ (k : Kept). k.written ≤ k.output) c.self.view_is (omega (arith, c.self.invariant.room)) in
    let few : c.args.asked < 2 ^ 32 = omega (arith, c.ranges.asked) in
    let other : k.begun ≡ c.args.asked → ⊥ = λ e. c.if-from-self.true (sym (pages ∙ (e ∙ sym c.from.ensures))) in
    record { did = λ L s. did_nothing _ L k _ (eject_on_nothing c.args.asked L k s few other) s within; limits = SameLimits-same k }

pub returns : goal.returns
returns g c =
    let k : Kept = c.args.self.now in
    let next : c.self.inside.next ≡ k.next = ap (λ (k : Kept). k.next) c.self.view_is in
    let mode : c.self.inside.no_space ≡ k.no_space = ap (λ (k : Kept). k.no_space) c.self.view_is in
    let pages : c.self.inside.begun ≡ k.begun = ap (λ (k : Kept). k.begun) c.self.view_is in
    let few : c.args.asked < 2 ^ 32 = omega (arith, c.ranges.asked) in
    let is : k.begun ≡ c.args.asked = sym pages ∙ (sym c.if-from-self.false ∙ c.from.ensures) in
    let way : c.way-way.result ≡ way_on k = c.way-way.ensures.way in
    record {
      did = λ L s. did_blank_as _ L (way_on k) (way_on k) c.way-way.result k.next c.self.inside.next k.no_space c.self.inside.no_space k c.put_blank_lines.new.self (g.O.ByteSink.sunk c.args.out.now) (g.O.ByteSink.sunk c.put_blank_lines.new.out) c.put_blank_lines.result
          way next mode (eject_on_puts c.args.asked L k s c.way-way.ensures.short few is) (c.put_blank_lines.ensures.did L s);
      limits = c.put_blank_lines.ensures.limits;
    }
