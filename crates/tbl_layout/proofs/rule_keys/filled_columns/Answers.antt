use Rattle.std.proofs.Common.{◌≡◌, ℕ, suc, ◌-◌, ◌<◌, drop, length, sym, ap, ◌∙◌, arith, is_some}
use Rattle.tbl_layout.specs.KeptEntries.{no_entry, said_by_key}
use Rattle.tbl_layout.specs.RuleKeys.{under_keys}
use Rattle.tbl_layout.proofs.UnderKeys.{filled-last, filled-none}
use Rattle.tbl_layout.proofs.rule_keys.filled_columns.Goals as goal

pub returns-then-is_some : goal.returns-then-is_some
returns-then-is_some c = λ bars entries is.
    let count = c.loop-count.count in
    let less : c.args.given < count = omega (arith, c.loop-count-test.true) in
    let within : count - 1 < length c.args.keys.now = omega (arith, less, c.loop-count.invariant.within) in
    let next : suc (count - 1) ≡ count = omega (arith, less) in
    sym next ∙ filled-last c.args.keys.now bars c.args.given entries is (count - 1) _ within
    (ap is_some (sym c.kind_of_key.ensures) ∙ sym c.is_some.ensures ∙ c.if-is_some.true)
    (ap (λ (n : ℕ). under_keys said_by_key no_entry (drop n c.args.keys.now)) next ∙ c.loop-count.invariant.none) (omega (arith, less))

pub returns : goal.returns
returns c = λ bars entries is.
    filled-none c.args.keys.now bars c.args.given entries is c.loop-count.count c.loop-count.invariant.none (omega (arith, c.loop-count-test.false))
