use Rattle.std.proofs.Common.{arith}
use Rattle.tbl_kept.proofs.TextBlocks.{Lies-closed, text-close}
use Rattle.tbl_kept.proofs.AskedJoints.{asked-none}
use Rattle.tbl_kept.proofs.table_text.TableText.close.Goals as goal

pub invariant_of-self : goal.invariant_of-self
invariant_of-self c =
    let a = c.self.inside in
    record {
      block = c.self.invariant.block;
      joints = c.self.invariant.joints;
      few = c.self.invariant.few;
      most = c.self.invariant.most;
      lies = rw (c.len-self-inside.ensures, a.joints.ok.0) (Lies-closed a.block.items a.joints.items a.line_start a.open_start a.open_joints c.self.invariant.lies);
      asked = asked-none a.joints.items _ c.len-self-inside.result (omega (arith, c.len-self-inside.ensures, a.joints.ok.0));
    }

pub returns : goal.returns
returns c =
    let a = c.self.inside in
    rw (← c.self.view_is, c.len-self-inside.ensures, a.joints.ok.0) (text-close a.block.items a.joints.items a.line_start a.open_start a.open_joints c.self.invariant.lies a.text_room)
