use Rattle.std.proofs.Common.{◌∷◌, [], List, ℕ, length, length-append, ap, arith}
use Rattle.tbl_kept.proofs.TextBlocks.{Lies-push, length-read, text-push}
use Rattle.tbl_kept.proofs.table_text.TableText.push.Goals as goal

pub push_reserved-requires : goal.push_reserved-requires
push_reserved-requires c =
    let a = c.self.inside in
    let room = rw (← c.self.view_is) at c.requires in
    omega (arith, room, length-read a.block.items a.joints.items a.line_start a.open_start a.open_joints c.self.invariant.lies, c.self.invariant.block, a.block.ok.0)

pub invariant_of-self : goal.invariant_of-self
invariant_of-self c =
    let a = c.self.inside in
    let room = rw (← c.self.view_is) at c.requires in
    record {
      block = omega (arith, c.self.invariant.block, c.push_reserved.ensures.capacity);
      joints = c.self.invariant.joints;
      few = omega (arith, room, length-read a.block.items a.joints.items a.line_start a.open_start a.open_joints c.self.invariant.lies, ap (λ (xs : List ℕ). length xs) c.push_reserved.ensures.items, length-append a.block.items (c.args.byte ∷ []));
      most = c.self.invariant.most;
      lies = rw c.push_reserved.ensures.items (Lies-push a.block.items a.joints.items a.line_start a.open_start a.open_joints c.self.invariant.lies (c.args.byte ∷ []));
      asked = c.self.invariant.asked;
    }

pub returns : goal.returns
returns c =
    let a = c.self.inside in
    rw (← c.self.view_is, c.push_reserved.ensures.items)
    (text-push a.block.items a.joints.items a.line_start a.open_start a.open_joints c.self.invariant.lies a.text_room (c.args.byte ∷ []))
