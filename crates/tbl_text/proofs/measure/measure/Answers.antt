use Rattle.std.proofs.Common.{length, sym, subst, true, IfSome}
use Rattle.tbl_text.specs.Measuring.{SplitLies}
use Rattle.tbl_text.specs.declared.measure.Measured.{Measured}
use Rattle.tbl_text.proofs.SplitsLie.{measured-split}
use Rattle.tbl_text.proofs.measure.measure.Goals as goal

pub returns-then-is_number-clause-split : goal.returns-then-is_number-clause-split
returns-then-is_number-clause-split c =
    let text = c.args.text.now in
    subst (λ (m : Measured). IfSome m.split (SplitLies (length text) m.width)) (sym c.measure_number.ensures.value) (measured-split true text)
