use Rattle.std.proofs.Common.{ap, ◌∙◌, ℕ, nat_lt}
use Rattle.std.specs.List.{slice_range}
use Rattle.tbl_kept.proofs.TextBlocks.{pending-some}
use Rattle.tbl_kept.proofs.table_text.TableText.is_open.Goals as goal

pub returns : goal.returns
returns c =
    let a = c.self.inside in
    rw (← c.self.view_is)
    (ap (λ (n : ℕ). nat_lt a.open_joints n) (c.len.ensures ∙ a.joints.ok.0)
    ∙ pending-some a.open_start (slice_range a.block.items a.open_start a.line_start) a.open_joints a.joints.items)
