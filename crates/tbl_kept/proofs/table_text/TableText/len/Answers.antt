use Rattle.std.proofs.Common.{arith}
use Rattle.tbl_kept.proofs.TextBlocks.{length-read}
use Rattle.tbl_kept.proofs.table_text.TableText.len.Goals as goal

pub overflow_add-result : goal.overflow_add-result
overflow_add-result c =
    let a = c.self.inside in
    omega (arith, c.len.ensures, c.len-2.ensures, a.block.ok.0, a.joints.ok.0, c.self.invariant.few, c.self.invariant.most)

pub returns : goal.returns
returns c =
    let a = c.self.inside in
    rw (← c.self.view_is) (omega (arith, c.len.ensures, c.len-2.ensures, a.block.ok.0, a.joints.ok.0, length-read a.block.items a.joints.items a.line_start a.open_start a.open_joints c.self.invariant.lies))
