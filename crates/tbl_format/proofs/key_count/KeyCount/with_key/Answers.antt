use Rattle.std.proofs.Common.{Bool, subst}
use Rattle.tbl_format.specs.Format.{fault_if, with_any_key}
use Rattle.tbl_format.specs.KeyCounts.{Counts}
use Rattle.tbl_format.proofs.KeyCounting.{Counts-key}
use Rattle.tbl_format.proofs.key_count.KeyCount.with_key.Goals as goal

pub returns-clause-value : goal.returns-clause-value
returns-clause-value c = λ f counts.
    let k = c.args.self in
    let g = with_any_key c.args.key f in
    let more = Counts-key f k c.args.key c.max.result c.requires.row c.max.ensures counts in
    subst (λ (t : Bool). Counts (fault_if t g) c.fault_if.result) (c.is_misplaced.ensures f counts) (c.fault_if.ensures.value g more)
