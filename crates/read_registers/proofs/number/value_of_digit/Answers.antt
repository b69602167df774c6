use Rattle.std.proofs.Common.{◌≡◌, ◌≤◌, ◌-◌, ◌*◌, ℕ, ℤ, pos, [], ◌∷◌, Ok, ap, arith, rules, subst, ◌∙◌, to_z, w32}
use Rattle.roff_num.specs.declared.num.Scale.TheVariants.{Units, Columns, Lines}
use Rattle.run_model.specs.Numbers.{value_in}
use Rattle.read_registers.proofs.LoneDigits.{value_in-digit, value_in-digit_columns, value_in-digit_lines}
use Rattle.read_registers.proofs.number.value_of_digit.Goals as goal

pub returns-in-Units : goal.returns-in-Units
returns-in-Units c =
    let digit : ℕ = c.args.byte - 48 in
    let least : 48 ≤ c.args.byte = search rules in
    let most : c.args.byte ≤ 57 = search rules in
    let value : pos digit ≡ to_z w32 c.from-number.result = search rules in
    rw c.in-Units.is (subst (λ (b : ℕ). value_in Units (b ∷ []) ≡ Ok (to_z w32 c.from-number.result)) (omega (arith, least))
    (value_in-digit digit (omega (arith, most)) ∙ ap (λ (v : ℤ). Ok v) value))

pub returns-in-Columns : goal.returns-in-Columns
returns-in-Columns c =
    let digit : ℕ = c.args.byte - 48 in
    let least : 48 ≤ c.args.byte = search rules in
    let most : c.args.byte ≤ 57 = search rules in
    let value : pos (digit * 24) ≡ to_z w32 (c.from-number.result * 24) = search rules in
    rw c.in-Columns.is (subst (λ (b : ℕ). value_in Columns (b ∷ []) ≡ Ok (to_z w32 (c.from-number.result * 24))) (omega (arith, least))
    (value_in-digit_columns digit (omega (arith, most)) ∙ ap (λ (v : ℤ). Ok v) value))

pub returns-in-Lines : goal.returns-in-Lines
returns-in-Lines c =
    let digit : ℕ = c.args.byte - 48 in
    let least : 48 ≤ c.args.byte = search rules in
    let most : c.args.byte ≤ 57 = search rules in
    let value : pos (digit * 40) ≡ to_z w32 (c.from-number.result * 40) = search rules in
    rw c.in-Lines.is (subst (λ (b : ℕ). value_in Lines (b ∷ []) ≡ Ok (to_z w32 (c.from-number.result * 40))) (omega (arith, least))
    (value_in-digit_lines digit (omega (arith, most)) ∙ ap (λ (v : ℤ). Ok v) value))
