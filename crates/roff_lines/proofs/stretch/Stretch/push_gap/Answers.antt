use Rattle.std.proofs.Common.{◌+◌, ◌≤◌, ℕ, List, length, take, subst, sym, arith}
use Rattle.std.proofs.lemmas.Grind.{common_steps}
use Rattle.std.proofs.lemmas.Int.{ints}
use Rattle.roff_lines.specs.Stretch.Held.{Held}
use Rattle.roff_lines.proofs.Widths.{text_width_le}
use Rattle.roff_lines.proofs.stretch.Stretch.push_gap.Goals as goal

pub overflow_add-self : goal.overflow_add-self
overflow_add-self c =
    let a = c.self.inside in
    let text : List ℕ = take a.len a.bytes.items in
    let room : length text + c.args.blanks ≤ a.room = subst (λ (h : Held). length h.text + c.args.blanks ≤ h.room) (sym c.self.view_is) c.requires.room in
    let few : a.width + c.args.blanks ≤ a.room = omega (arith, c.self.invariant.width, text_width_le text, room) in
    grind (ints, arith, common_steps)
