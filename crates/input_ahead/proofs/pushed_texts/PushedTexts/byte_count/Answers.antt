use Rattle.std.proofs.Common.{sym, ap, ◌∙◌, arith, reverse}
use Rattle.input_ahead.proofs.Counts.{bytes_ahead-standing}
use Rattle.input_model.specs.Input.{bytes_ahead}
use Rattle.input_ahead.specs.PushedTexts.Held.{Held}
use Rattle.input_ahead.proofs.pushed_texts.PushedTexts.byte_count.Goals as goal

pub returns-clause-count : goal.returns-clause-count
returns-clause-count g c =
    let counted = bytes_ahead-standing (reverse c.self.inside.pushed_texts.items) c.self.inside.bytes.items c.self.invariant.stacked in
    c.len.ensures ∙ c.self.inside.bytes.ok.0 ∙ sym counted ∙ ap (λ (h : Held _). bytes_ahead h.ahead) c.self.view_is

pub returns-clause-within : goal.returns-clause-within
returns-clause-within g c =
    let counted = bytes_ahead-standing (reverse c.self.inside.pushed_texts.items) c.self.inside.bytes.items c.self.invariant.stacked in
    rw (← c.self.view_is) (omega (arith, c.len.ensures, c.self.inside.bytes.ok.0, counted, c.self.invariant.room.bytes))
