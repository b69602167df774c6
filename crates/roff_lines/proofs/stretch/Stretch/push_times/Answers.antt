use Rattle.std.proofs.Common.{◌+◌, ◌*◌, ◌≤◌, ℕ, List, length, take, subst, sym, arith}
use Rattle.std.proofs.Math.Nat.{mul-le-mul_right}
use Rattle.std.proofs.lemmas.Grind.{common_steps}
use Rattle.std.proofs.lemmas.Int.{ints}
use Rattle.roff_lines.specs.Stretch.Held.{Held}
use Rattle.roff_lines.proofs.Widths.{byte_width_le, text_width_le}
use Rattle.roff_lines.proofs.stretch.Stretch.push_times.Goals as goal

pub overflow_add-self : goal.overflow_add-self
overflow_add-self c =
    let a = c.self.inside in
    let times : ℕ = c.args.times in
    let width : ℕ = c.width_of_byte.result in
    let text : List ℕ = take a.len a.bytes.items in
    let one : width ≤ 1 = omega (arith, c.width_of_byte.ensures, byte_width_le c.args.byte) in
    let most : width * times ≤ 1 * times = mul-le-mul_right times one in
    let room : length text + times ≤ a.room = subst (λ (h : Held). length h.text + times ≤ h.room) (sym c.self.view_is) c.requires in
    let few : a.width + width * times ≤ a.room = omega (arith, c.self.invariant.width, text_width_le text, most, room) in
    grind (ints, arith, common_steps)
