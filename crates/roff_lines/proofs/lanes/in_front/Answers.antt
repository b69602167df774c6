use Rattle.std.proofs.Common.{◌^◌, ◌-◌, ◌%◌, ◌*◌, ◌≡◌, bit_and, ap, ◌∙◌, arith}
use Rattle.std.proofs.Math.Nat.{mod-eq_of_lt}
use Rattle.std.proofs.Math.Pow.{pow_mono}
use Rattle.std.proofs.lemmas.Nat.{and_mask}
use Rattle.roff_lines.proofs.lanes.in_front.Goals as goal

pub returns : goal.returns
returns c =
    let small : 1 * 2 ^ c.args.count % 2 ^ 64 ≡ 2 ^ c.args.count = ap (λ n. n % 2 ^ 64) (omega arith) ∙ mod-eq_of_lt (omega (arith, pow_mono c.requires)) in
    ap (λ n. bit_and c.args.mask (n - 1)) small ∙ and_mask c.args.mask c.args.count
