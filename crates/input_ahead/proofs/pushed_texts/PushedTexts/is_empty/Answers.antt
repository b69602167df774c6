use Rattle.std.specs.Prelude.{reverse}
use Rattle.std.proofs.lemmas.List.{length-reverse}
use Rattle.input_ahead.proofs.Standing.{is_none_ahead-standing}
use Rattle.input_ahead.proofs.pushed_texts.PushedTexts.is_empty.Goals as goal

pub returns : goal.returns
returns g c =
    let none = is_none_ahead-standing (reverse c.self.inside.pushed_texts.items) c.self.inside.bytes.items in
    rw (← c.self.view_is, none, length-reverse, ← c.self.inside.pushed_texts.ok.0) c.is_empty.ensures
