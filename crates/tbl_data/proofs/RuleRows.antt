-- How many rows of a format are rows of rule keys alone.
use Rattle.std.proofs.Common.{◌≡◌, ℕ, zero, suc, ◌+◌, ◌<◌, ◌≤◌, Bool, true, false, List, [], ◌∷◌, length, drop, take, refl, ap, arith, if◌then◌else◌}
use Rattle.std.specs.List.{AllByRecursion}
use Rattle.tbl_format.specs.Format.{FormatRow}
use Rattle.tbl_format.specs.RowsServed.{row_at}
use Rattle.tbl_kept.specs.Rows.{IsRuleRow}
use Rattle.tbl_layout.specs.RuleKeys.{is_rule_row, rule_rows}

-- not all of them are: the last takes a row of the data
fewer-by : (is_rule : Bool) (rules count : ℕ) → rules < count → (if is_rule then suc rules else 0) < suc count
fewer-by true rules count fewer = omega (arith, fewer)
fewer-by false rules count fewer = omega arith

pub rule_rows-fewer : (formats : List FormatRow) → 0 < length formats → rule_rows formats < length formats
rule_rows-fewer [] some = absurd (omega (arith, some))
rule_rows-fewer (format ∷ []) some = omega arith
rule_rows-fewer (format ∷ next ∷ formats) some =
    fewer-by (is_rule_row format) (rule_rows (next ∷ formats)) (length (next ∷ formats)) (rule_rows-fewer (next ∷ formats) (omega arith))

-- from one on that is one
pub rule_rows-more : (formats : List FormatRow) (at : ℕ) → at + 1 < length formats → is_rule_row (row_at formats at) ≡ true
    → rule_rows (drop at formats) ≡ suc (rule_rows (drop (suc at) formats))
rule_rows-more [] at more is = absurd (omega (arith, more))
rule_rows-more (format ∷ []) zero more is = absurd (omega (arith, more))
rule_rows-more (format ∷ next ∷ formats) zero more is = ap (λ (b : Bool). if b then suc (rule_rows (next ∷ formats)) else 0) is
rule_rows-more (format ∷ formats) (suc at) more is = rule_rows-more formats at (omega (arith, more)) is

-- and from one on that isn't, or from the last
pub rule_rows-none : (formats : List FormatRow) (at : ℕ) → is_rule_row (row_at formats at) ≡ false → rule_rows (drop at formats) ≡ 0
rule_rows-none [] zero is = refl
rule_rows-none [] (suc at) is = refl
rule_rows-none (format ∷ []) zero is = refl
rule_rows-none (format ∷ next ∷ formats) zero is = ap (λ (b : Bool). if b then suc (rule_rows (next ∷ formats)) else 0) is
rule_rows-none (format ∷ formats) (suc at) is = rule_rows-none formats at is

pub rule_rows-last : (formats : List FormatRow) (at : ℕ) → length formats ≤ at + 1 → rule_rows (drop at formats) ≡ 0
rule_rows-last [] zero last = refl
rule_rows-last [] (suc at) last = refl
rule_rows-last (format ∷ []) zero last = refl
rule_rows-last (format ∷ next ∷ formats) zero last = absurd (omega (arith, last))
rule_rows-last (format ∷ formats) (suc at) last = rule_rows-last formats at (omega (arith, last))

-- so many of them, or fewer, are such rows
ruled-first : (is_rule : Bool) (format : FormatRow) (others : List FormatRow) (n : ℕ) → is_rule_row format ≡ is_rule
    → suc n ≤ (if is_rule then suc (rule_rows others) else 0) → (n ≤ rule_rows others → AllByRecursion IsRuleRow (take n others))
    → IsRuleRow format × AllByRecursion IsRuleRow (take n others)
ruled-first true format others n is few more = (is, more (omega (arith, few)))
ruled-first false format others n is few more = absurd (omega (arith, few))

pub ruled-rows : (formats : List FormatRow) (n : ℕ) → n ≤ rule_rows formats → AllByRecursion IsRuleRow (take n formats)
ruled-rows formats zero few = tt
ruled-rows [] (suc n) few = tt
ruled-rows (format ∷ []) (suc n) few = absurd (omega (arith, few))
ruled-rows (format ∷ next ∷ formats) (suc n) few =
    ruled-first (is_rule_row format) format (next ∷ formats) n refl few (λ fewer. ruled-rows (next ∷ formats) n fewer)
