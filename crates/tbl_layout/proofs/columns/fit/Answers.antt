use Rattle.std.proofs.Common.{◌≡◌, ℕ, length, sym, ap, ◌∙◌, arith}
use Rattle.tbl_layout.specs.Spans.{lacks, spread_over}
use Rattle.tbl_layout.proofs.Spreading.{spread_over-none}
use Rattle.tbl_layout.proofs.columns.fit.Goals as goal

pub returns-else-more-gt0 : goal.returns-else-more-gt0
returns-else-more-gt0 c =
    let columns = c.args.columns.now in
    let none : lacks c.args.bars c.args.asked.now columns c.args.width ≡ 0 = omega (arith, c.lacks-more.ensures, c.if-more-gt0.false) in
    sym (ap (λ (more : ℕ). spread_over more (length columns) 0 columns) none ∙ spread_over-none (length columns) 0 columns)
