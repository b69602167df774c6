use Rattle.std.proofs.Common.{◌+◌, ◌≤◌, ℕ, List, length, take, subst, sym, arith, length-take}
use Rattle.std.proofs.lemmas.Grind.{common_steps}
use Rattle.std.proofs.lemmas.Int.{ints}
use Rattle.roff_lines.specs.Stretch.Held.{Held}
use Rattle.roff_lines.proofs.Widths.{text_width_le}
use Rattle.roff_lines.proofs.stretch.Stretch.extend.Goals as goal

pub overflow_add-self : goal.overflow_add-self
overflow_add-self c =
    let a = c.self.inside in
    let text : List ℕ = take a.len a.bytes.items in
    let added : List ℕ = take c.args.count c.args.bytes.now in
    let room : length text + c.args.count ≤ a.room = subst (λ (h : Held). length h.text + c.args.count ≤ h.room) (sym c.self.view_is) c.requires.room in
    let few : a.width + c.args.width ≤ a.room =
    omega (arith, c.self.invariant.width, text_width_le text, c.requires.width, text_width_le added, length-take c.args.count c.args.bytes.now, room) in
    grind (ints, arith, common_steps)
