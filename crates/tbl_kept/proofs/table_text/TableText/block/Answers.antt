use Rattle.std.proofs.Common.{sym, ◌∙◌}
use Rattle.tbl_kept.proofs.TextBlocks.{block-is}
use Rattle.tbl_kept.proofs.table_text.TableText.block.Goals as goal

pub returns : goal.returns
returns c =
    let a = c.self.inside in
    rw (← c.self.view_is) (c.as_slice.ensures.value ∙ sym (block-is a.block.items a.joints.items a.line_start a.open_start a.open_joints c.self.invariant.lies))
