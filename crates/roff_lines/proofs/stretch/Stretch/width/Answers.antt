use Rattle.std.proofs.Common.{◌≤◌, ℕ, List, take, subst, arith, length-take}
use Rattle.roff_lines.specs.Stretch.Held.{Held}
use Rattle.roff_lines.proofs.Widths.{text_width_le}
use Rattle.roff_lines.proofs.stretch.Stretch.width.Goals as goal

pub returns-clause-within : goal.returns-clause-within
returns-clause-within c =
    let a = c.self.inside in
    let text : List ℕ = take a.len a.bytes.items in
    subst (λ (h : Held). a.width ≤ h.room) c.self.view_is (omega (arith, c.self.invariant.width, text_width_le text, length-take a.len a.bytes.items, c.self.invariant.within))
