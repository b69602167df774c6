-- What a buffer of arguments keeps, and how many bytes.
use Rattle.std.proofs.Common.{◌≡◌, ap, ◌∙◌}
use Rattle.input_model.specs.Arguments.{Arguments, held, only_kept}
use Rattle.input_model.proofs.KeptArguments.{held-only_kept}
use Rattle.input_arguments.specs.ArgumentTexts.Kept.{KeptArguments, Keeps}

-- a buffer keeps what is to be kept behind a step, where that depends on what is kept before it
pub Keeps-behind : (step : Arguments → Arguments) → ((a : Arguments) → only_kept (step (only_kept a)) ≡ only_kept (step a))
    → (a : Arguments) (old new : KeptArguments) → new.arguments ≡ only_kept (step old.arguments) → Keeps a old → Keeps (step a) new
Keeps-behind step law a old new is keeps = record { same = is ∙ ap (λ (b : Arguments). only_kept (step b)) keeps.same ∙ law a }

-- it holds as many bytes
pub held-keeps : (a : Arguments) (k : KeptArguments) → Keeps a k → held k.arguments ≡ held a
held-keeps a k keeps = ap held keeps.same ∙ held-only_kept a
