use Rattle.std.proofs.Common.{◌≡◌, ℕ, ◌+◌, ◌-◌, List, drop, length, ap, refl, ◌∙◌, arith, length-drop, drop-drop}
use Rattle.tbl_giving.specs.Giving.{coming}
use Rattle.tbl_giving.proofs.giving.Giving.pass.Goals as goal

pub loop-left-init : goal.loop-left-init
loop-left-init c =
    let all = coming c.args.text.now c.args.rows.now c.args.format.now c.args.self.now in
    let none : 0 ≡ c.args.count - c.args.count = omega arith in
    record {
      drops = ap (λ (n : ℕ). drop n all) none;
      can = c.requires.can;
      room = refl;
      within = c.requires.within;
      few = omega arith;
    }

pub loop-left-preserved : goal.loop-left-preserved
loop-left-preserved c =
    let inv = c.loop-left.invariant in
    let out = c.pass_some-left.ensures in
    let n = c.pass_some-left.result in
    let left = c.loop-left.left in
    let all = coming c.args.text.now c.args.rows.now c.args.format.now c.args.self.now in
    let now = coming c.args.text.now c.args.rows.now c.args.format.now c.loop-left.self in
    let gone : (c.args.count - left) + n ≡ c.args.count - (left - n) = omega (arith, inv.few, out.few) in
    let len = ap (λ (xs : List ℕ). length xs) out.coming in
    record {
      drops = out.coming ∙ ap (drop n) inv.drops ∙ drop-drop n (c.args.count - left) all ∙ ap (λ (k : ℕ). drop k all) gone;
      can = out.can;
      room = out.room ∙ inv.room;
      within = omega (arith, len, length-drop n now, inv.within, out.within);
      few = omega (arith, inv.few);
    }

pub returns-clause-coming : goal.returns-clause-coming
returns-clause-coming c =
    let inv = c.loop-left.invariant in
    let all = coming c.args.text.now c.args.rows.now c.args.format.now c.args.self.now in
    let gone : c.args.count - c.loop-left.left ≡ c.args.count = omega (arith, c.loop-left-test.false) in
    inv.drops ∙ ap (λ (k : ℕ). drop k all) gone
