use Rattle.std.proofs.Common.{◌∙◌, ap, sym}
use Rattle.input_model.specs.Arguments.{held}
use Rattle.input_arguments.specs.ArgumentTexts.Kept.{KeptArguments}
use Rattle.input_arguments.proofs.ArgumentBlock.{held-kept_in}
use Rattle.input_arguments.proofs.Keeping.{held-keeps}
use Rattle.input_arguments.proofs.arguments.ArgumentTexts.held.Goals as goal

pub returns-clause-value : goal.returns-clause-value
returns-clause-value c =
    c.len.ensures ∙ c.self.inside.bytes.ok.0 ∙ sym (held-kept_in c.self.inside.bytes.items c.self.inside.ends.items c.self.inside.place c.self.invariant.ends)
    ∙ ap (λ (k : KeptArguments). held k.arguments) c.self.view_is

pub returns-clause-keeps : goal.returns-clause-keeps
returns-clause-keeps c = λ a keeps. returns-clause-value c ∙ held-keeps a _ keeps
