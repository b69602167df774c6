use Rattle.std.proofs.Common.{List, ℕ, length, sym, subst, ap, ◌∙◌}
use Rattle.tbl_kept.specs.Joined.{RiseWithin, unjoined}
use Rattle.tbl_kept.proofs.TextBlocks.{block-is, read-is, rise-all}
use Rattle.tbl_kept.proofs.table_text.TableText.joints.Goals as goal

pub returns-clause-rise : goal.returns-clause-rise
returns-clause-rise c =
    let a = c.self.inside in
    rw (← c.self.view_is)
    (subst (λ (xs : List ℕ). RiseWithin (length xs) 0 a.joints.items) (sym (block-is a.block.items a.joints.items a.line_start a.open_start a.open_joints c.self.invariant.lies)) (rise-all a.block.items a.joints.items a.line_start a.open_start a.open_joints c.self.invariant.lies))

pub returns-clause-read : goal.returns-clause-read
returns-clause-read c =
    let a = c.self.inside in
    rw (← c.self.view_is)
    (ap (λ (xs : List ℕ). unjoined 0 xs a.joints.items) (block-is a.block.items a.joints.items a.line_start a.open_start a.open_joints c.self.invariant.lies) ∙ sym (read-is a.block.items a.joints.items a.line_start a.open_start a.open_joints c.self.invariant.lies))
