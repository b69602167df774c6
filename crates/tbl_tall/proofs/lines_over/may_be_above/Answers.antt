use Rattle.std.proofs.Common.{◌≡◌, ℕ, ◌+◌, ◌<◌, ◌≤◌, suc, drop, length, sym, subst, ◌∙◌, arith}
use Rattle.tbl_tall.proofs.CellsNext.{drop-past}
use Rattle.tbl_tall.proofs.NoneBelow.{AllBegin, begins-all, begins-before}
use Rattle.tbl_tall.proofs.lines_over.may_be_above.Goals as goal

pub loop-at-preserved : goal.loop-at-preserved
loop-at-preserved c = λ rest.
    let entries = c.args.entries.now in
    let at = c.loop-at.at in
    let some : at < length entries = omega (arith, c.loop-at-test.true) in
    let one : at + 1 ≡ suc at = omega arith in
    c.loop-at.invariant (begins-before entries at _ some (sym c.goes_on.ensures ∙ c.if-goes_on.false)
    (subst (λ (n : ℕ). AllBegin (drop n entries)) one rest))

pub returns : goal.returns
returns c = λ not.
    let entries = c.args.entries.now in
    let past : length entries ≤ c.loop-at.at = omega (arith, c.loop-at-test.false) in
    begins-all c.args.keys.now entries (omega (arith, c.if-entries-keys.false))
    (c.loop-at.invariant (subst AllBegin (sym (drop-past entries c.loop-at.at past)) tt))
