use Rattle.std.proofs.Common.{◌≡◌, ◌≤◌, ◌-◌, ◌*◌, ℕ, ℤ, pos, [], ◌∷◌, Ok, ap, arith, rules, subst, ◌∙◌, to_z, w32}
use Rattle.run_model.specs.Numbers.{value_in}
use Rattle.read_registers.proofs.LoneDigits.{value_in-columns}
use Rattle.read_registers.proofs.number.columns_of_digit.Goals as goal

pub returns : goal.returns
returns c = λ scale.
    let digit : ℕ = c.args.byte - 48 in
    let least : 48 ≤ c.args.byte = search rules in
    let most : c.args.byte ≤ 57 = search rules in
    let value : pos (digit * 24) ≡ to_z w32 (c.from-number.result * 24) = search rules in
    subst (λ (b : ℕ). value_in scale (b ∷ 110 ∷ []) ≡ Ok (to_z w32 (c.from-number.result * 24))) (omega (arith, least))
    (value_in-columns scale digit (omega (arith, most)) ∙ ap (λ (v : ℤ). Ok v) value)
