use Rattle.std.proofs.Common.{sym, ◌∙◌}
use Rattle.tbl_format.proofs.Parts.{slice_range-rest}
use Rattle.tbl_kept.proofs.TextBlocks.{joined-is}
use Rattle.tbl_kept.proofs.table_text.TableText.joined_line.Goals as goal

pub returns : goal.returns
returns c =
    let a = c.self.inside in
    rw (← c.self.view_is, c.as_slice.ensures.value) (slice_range-rest a.block.items a.open_start ∙ sym (joined-is a.block.items a.joints.items a.line_start a.open_start a.open_joints c.self.invariant.lies))
