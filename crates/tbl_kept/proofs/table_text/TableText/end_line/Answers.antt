use Rattle.std.proofs.Common.{◌≡◌, ◌∷◌, [], List, ℕ, length, length-append, ap, ◌∙◌, arith}
use Rattle.input_source.specs.Bytes.{newline}
use Rattle.tbl_kept.proofs.TextBlocks.{Lies-done, length-read, text-done}
use Rattle.tbl_kept.proofs.AskedJoints.{asked-none}
use Rattle.tbl_kept.proofs.table_text.TableText.end_line.Goals as goal

pub push_reserved-requires : goal.push_reserved-requires
push_reserved-requires c =
    let a = c.self.inside in
    let room = rw (← c.self.view_is) at c.requires in
    omega (arith, room, length-read a.block.items a.joints.items a.line_start a.open_start a.open_joints c.self.invariant.lies, c.self.invariant.block, a.block.ok.0)

pub invariant_of-self : goal.invariant_of-self
invariant_of-self c =
    let a = c.self.inside in
    let n_is : c.len-self-inside.result ≡ length c.push_reserved.new.self.items = c.len-self-inside.ensures ∙ c.push_reserved.new.self.ok.0 in
    record {
      block = omega (arith, c.self.invariant.block, c.push_reserved.ensures.capacity);
      joints = c.self.invariant.joints;
      few = omega (arith, rw (← c.self.view_is) at c.requires, length-read a.block.items a.joints.items a.line_start a.open_start a.open_joints c.self.invariant.lies, ap (λ (xs : List ℕ). length xs) c.push_reserved.ensures.items, length-append a.block.items (newline ∷ []));
      most = c.self.invariant.most;
      lies = rw (c.len-self-inside-2.ensures, a.joints.ok.0)
          (Lies-done a.block.items a.joints.items a.line_start a.open_start a.open_joints c.self.invariant.lies a.text_room (newline ∷ []) c.push_reserved.new.self.items c.len-self-inside.result c.push_reserved.ensures.items n_is);
      asked = asked-none a.joints.items _ c.len-self-inside-2.result (omega (arith, c.len-self-inside-2.ensures, a.joints.ok.0));
    }

pub returns : goal.returns
returns c =
    let a = c.self.inside in
    let n_is : c.len-self-inside.result ≡ length c.push_reserved.new.self.items = c.len-self-inside.ensures ∙ c.push_reserved.new.self.ok.0 in
    rw (← c.self.view_is, c.len-self-inside-2.ensures, a.joints.ok.0)
    (text-done a.block.items a.joints.items a.line_start a.open_start a.open_joints c.self.invariant.lies a.text_room (newline ∷ []) c.push_reserved.new.self.items c.len-self-inside.result c.push_reserved.ensures.items n_is)
