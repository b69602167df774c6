use Rattle.std.proofs.Common.{◌≡◌, ◌≤◌, ◌∷◌, [], ◌++◌, List, ℕ, length, length-append, length-drop, drop, true, ap, sym, ◌∙◌, arith}
use Rattle.input_source.specs.Bytes.{backslash}
use Rattle.tbl_kept.specs.Joined.{goes_on}
use Rattle.tbl_kept.proofs.TextBlocks.{Lies-join, front-is, goes_on-some, length-read, text-join}
use Rattle.tbl_kept.proofs.AskedJoints.{asked-more}
use Rattle.tbl_kept.proofs.table_text.TableText.join.Goals as goal

pub push_reserved-requires : goal.push_reserved-requires
push_reserved-requires c =
    let a = c.self.inside in
    let room = rw (← c.self.view_is) at c.requires.room in
    omega (arith, room, length-read a.block.items a.joints.items a.line_start a.open_start a.open_joints c.self.invariant.lies, c.self.invariant.joints, a.joints.ok.0)

pub invariant_of-self : goal.invariant_of-self
invariant_of-self c =
    let a = c.self.inside in
    let ends : goes_on (drop a.line_start a.block.items) ≡ true = rw (← c.self.view_is) at c.requires.goes_on in
    let front = c.pop.new.self.items in
    let rest = rw a.block.ok.0 at c.pop.ensures.rest in
    let split : a.block.items ≡ front ++ backslash ∷ [] =
    front-is a.line_start a.block.items ends ∙ ap (λ (xs : List ℕ). xs ++ backslash ∷ []) (sym rest) in
    let within : a.line_start ≤ length front =
    omega (arith, goes_on-some (drop a.line_start a.block.items) ends, length-drop a.line_start a.block.items, ap (λ (xs : List ℕ). length xs) split, length-append front (backslash ∷ [])) in
    record {
      block = omega (arith, c.self.invariant.block, c.pop.ensures.capacity);
      joints = omega (arith, c.self.invariant.joints, c.push_reserved.ensures.capacity);
      few = omega (arith, rw (← c.self.view_is) at c.requires.room, length-read a.block.items a.joints.items a.line_start a.open_start a.open_joints c.self.invariant.lies, ap (λ (xs : List ℕ). length xs) split, length-append front (backslash ∷ []), c.push_reserved.ensures.len, a.joints.ok.0, c.push_reserved.new.self.ok.0);
      most = c.self.invariant.most;
      lies = rw (c.push_reserved.ensures.items, c.len-self-inside.ensures, c.pop.new.self.ok.0)
          (Lies-join a.block.items a.joints.items a.line_start a.open_start a.open_joints c.self.invariant.lies a.text_room c.args.number front split within);
      asked = rw c.push_reserved.ensures.items (asked-more a.joints.items a.open_start a.open_joints a.asked_place a.asked_joint _ c.self.invariant.lies.count c.self.invariant.asked);
    }

pub returns : goal.returns
returns c =
    let a = c.self.inside in
    let ends : goes_on (drop a.line_start a.block.items) ≡ true = rw (← c.self.view_is) at c.requires.goes_on in
    let front = c.pop.new.self.items in
    let rest = rw a.block.ok.0 at c.pop.ensures.rest in
    let split : a.block.items ≡ front ++ backslash ∷ [] =
    front-is a.line_start a.block.items ends ∙ ap (λ (xs : List ℕ). xs ++ backslash ∷ []) (sym rest) in
    let within : a.line_start ≤ length front =
    omega (arith, goes_on-some (drop a.line_start a.block.items) ends, length-drop a.line_start a.block.items, ap (λ (xs : List ℕ). length xs) split, length-append front (backslash ∷ [])) in
    rw (← c.self.view_is, c.push_reserved.ensures.items, c.len-self-inside.ensures, c.pop.new.self.ok.0)
    (text-join a.block.items a.joints.items a.line_start a.open_start a.open_joints c.self.invariant.lies a.text_room c.args.number front split within)
