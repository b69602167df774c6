use Rattle.std.proofs.Common.{List, ℕ, length, drop, sym, ap, ◌∙◌, arith, length-take-le}
use Rattle.tbl_kept.proofs.TextBlocks.{block-is, closed-is}
use Rattle.tbl_kept.proofs.table_text.TableText.line_start.Goals as goal

pub returns-clause-line : goal.returns-clause-line
returns-clause-line c =
    let a = c.self.inside in
    rw (← c.self.view_is) (ap (λ (xs : List ℕ). drop a.line_start xs) (block-is a.block.items a.joints.items a.line_start a.open_start a.open_joints c.self.invariant.lies))

pub returns-clause-within : goal.returns-clause-within
returns-clause-within c =
    let a = c.self.inside in
    rw (← c.self.view_is) (omega (arith, ap (λ (xs : List ℕ). length xs) (block-is a.block.items a.joints.items a.line_start a.open_start a.open_joints c.self.invariant.lies), c.self.invariant.lies.line))

pub returns-clause-value : goal.returns-clause-value
returns-clause-value c =
    let a = c.self.inside in
    rw (← c.self.view_is)
    (sym (ap (λ (xs : List ℕ). length xs) (closed-is a.block.items a.joints.items a.line_start a.open_start a.open_joints c.self.invariant.lies) ∙ length-take-le a.line_start a.block.items c.self.invariant.lies.line))
