use Rattle.std.proofs.Common.{◌≡◌, ◌≤◌, ◌<◌, ◌∙◌, false, true, Option, None, Ok, refl, ap, arith, sym, subst, ◌^◌}
use Rattle.roff_num.specs.declared.num.Num.{Num}
use Rattle.page_model.specs.Happenings.{Does, ejecting}
use Rattle.roff_pages.specs.Pages.Kept.{Kept}
use Rattle.roff_pages.specs.Pages.Advancing.{way_on}
use Rattle.roff_pages.specs.Pages.Printing.{DidTo}
use Rattle.roff_pages.proofs.Blanking.{did_blank_as, eject_inhibited, eject_nothing, numbered_eject_puts, plain_eject_puts}
use Rattle.roff_pages.proofs.PageBoxes.{SameLimits-same, did_nothing}
use Rattle.roff_pages.proofs.pages.Pages.eject.Goals as goal

pub returns-then-self-from : goal.returns-then-self-from
returns-then-self-from g c =
    let k : Kept = c.args.self.now in
    let pages : c.self.inside.begun ≡ k.begun = ap (λ (k : Kept). k.begun) c.self.view_is in
    let few : c.args.asked < 2 ^ 32 = omega (arith, c.ranges.asked) in
    let within : k.written ≤ k.output = subst (λ (k : Kept). k.written ≤ k.output) c.self.view_is (omega (arith, c.self.invariant.room)) in
    let other : k.begun ≡ c.args.asked → ⊥ = λ e. c.if-self-from.true (pages ∙ (e ∙ sym c.from.ensures)) in
    record { did = λ L s. did_nothing _ L k _ (eject_nothing c.args.asked c.args.number L k s few other) s within; limits = SameLimits-same k }

pub returns-then-no_space : goal.returns-then-no_space
returns-then-no_space g c =
    let k : Kept = c.args.self.now in
    let within : k.written ≤ k.output = subst (λ (k : Kept). k.written ≤ k.output) c.self.view_is (omega (arith, c.self.invariant.room)) in
    let on : k.no_space ≡ true = sym (ap (λ (k : Kept). k.no_space) c.self.view_is) ∙ c.if-no_space.true in
    let out = g.O.ByteSink.sunk c.args.out.now in
    record {
      did = λ L s. subst (λ (number : Option Num). DidTo L (Does (ejecting c.args.asked number)) (Ok None) k k out out) (sym c.in-None.is)
          (did_nothing _ L k out (eject_inhibited c.args.asked L k s on) s within);
      limits = SameLimits-same k;
    }

pub returns-in-Some : goal.returns-in-Some
returns-in-Some g c =
    let k : Kept = c.args.self.now in
    let pages : c.self.inside.begun ≡ k.begun = ap (λ (k : Kept). k.begun) c.self.view_is in
    let few : c.args.asked < 2 ^ 32 = omega (arith, c.ranges.asked) in
    let next : c.self.inside.next ≡ k.next = ap (λ (k : Kept). k.next) c.self.view_is in
    let mode : c.self.inside.no_space ≡ k.no_space = ap (λ (k : Kept). k.no_space) c.self.view_is in
    let is : k.begun ≡ c.args.asked = sym pages ∙ (c.if-self-from.false ∙ c.from.ensures) in
    let way : c.way-way.result ≡ way_on k = c.way-way.ensures.way in
    record {
      did = λ L s. did_blank_as _ L (way_on k) (way_on k) c.way-way.result c.args.number c.args.number k.no_space c.self.inside.no_space k c.put_blank_lines.new.self (g.O.ByteSink.sunk c.args.out.now) (g.O.ByteSink.sunk c.put_blank_lines.new.out) c.put_blank_lines.result
          way refl mode (numbered_eject_puts c.args.asked c.args.number _ L k c.in-Some.is s c.way-way.ensures.short few is) (c.put_blank_lines.ensures.did L s);
      limits = c.put_blank_lines.ensures.limits;
    }

pub returns-else-no_space : goal.returns-else-no_space
returns-else-no_space g c =
    let k : Kept = c.args.self.now in
    let pages : c.self.inside.begun ≡ k.begun = ap (λ (k : Kept). k.begun) c.self.view_is in
    let few : c.args.asked < 2 ^ 32 = omega (arith, c.ranges.asked) in
    let next : c.self.inside.next ≡ k.next = ap (λ (k : Kept). k.next) c.self.view_is in
    let mode : c.self.inside.no_space ≡ k.no_space = ap (λ (k : Kept). k.no_space) c.self.view_is in
    let is : k.begun ≡ c.args.asked = sym pages ∙ (c.if-self-from.false ∙ c.from.ensures) in
    let way : c.way-way.result ≡ way_on k = c.way-way.ensures.way in
    let off : k.no_space ≡ false = sym mode ∙ c.if-no_space.false in
    let put = c.put_blank_lines-in-None in
    let out = g.O.ByteSink.sunk c.args.out.now in
    let out_then = g.O.ByteSink.sunk put.new.out in
    record {
      did = λ L s. subst (λ (number : Option Num). DidTo L (Does (ejecting c.args.asked number)) put.result k put.new.self out out_then) (sym c.in-None.is)
          (did_blank_as _ L (way_on k) (way_on k) c.way-way.result k.next c.self.inside.next false false k put.new.self out out_then put.result
          way next refl (plain_eject_puts c.args.asked L k s c.way-way.ensures.short few is off) (put.ensures.did L s));
      limits = put.ensures.limits;
    }
