use Rattle.std.proofs.Common.{List, ℕ, length, length-append, ap, arith}
use Rattle.tbl_kept.proofs.TextBlocks.{Lies-push, length-read, text-push}
use Rattle.tbl_kept.proofs.table_text.TableText.push_all.Goals as goal

pub append-requires : goal.append-requires
append-requires c =
    let a = c.self.inside in
    let room = rw (← c.self.view_is) at c.requires in
    omega (arith, room, length-read a.block.items a.joints.items a.line_start a.open_start a.open_joints c.self.invariant.lies, c.self.invariant.block, a.block.ok.0)

pub invariant_of-self : goal.invariant_of-self
invariant_of-self c =
    let a = c.self.inside in
    let room = rw (← c.self.view_is) at c.requires in
    let bytes = c.args.bytes.now in
    record {
      block = omega (arith, c.self.invariant.block, c.append.ensures.capacity);
      joints = c.self.invariant.joints;
      few = omega (arith, room, length-read a.block.items a.joints.items a.line_start a.open_start a.open_joints c.self.invariant.lies, ap (λ (xs : List ℕ). length xs) c.append.ensures.items, length-append a.block.items bytes);
      most = c.self.invariant.most;
      lies = rw c.append.ensures.items (Lies-push a.block.items a.joints.items a.line_start a.open_start a.open_joints c.self.invariant.lies bytes);
      asked = c.self.invariant.asked;
    }

pub returns : goal.returns
returns c =
    let a = c.self.inside in
    rw (← c.self.view_is, c.append.ensures.items)
    (text-push a.block.items a.joints.items a.line_start a.open_start a.open_joints c.self.invariant.lies a.text_room c.args.bytes.now)
