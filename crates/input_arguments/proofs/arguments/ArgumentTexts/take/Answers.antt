use Rattle.std.proofs.Common.{ap}
use Rattle.input_model.specs.Arguments.{with_unit}
use Rattle.input_arguments.specs.ArgumentTexts.Kept.{KeptArguments}
use Rattle.input_escapes.specs.declared.open_escape.CopyUnit.TheVariants.{Byte, Kept}
use Rattle.input_model.proofs.KeptArguments.{only_kept-with_unit}
use Rattle.input_arguments.proofs.Keeping.{Keeps-behind}
use Rattle.input_arguments.proofs.arguments.ArgumentTexts.take.Goals as goal

pub returns-in-Byte-clause-keeps : goal.returns-in-Byte-clause-keeps
returns-in-Byte-clause-keeps c = λ a keeps.
    rw c.in-Byte.is
    (Keeps-behind (λ b. with_unit b (Byte c.in-Byte.byte)) (λ b. only_kept-with_unit b (Byte c.in-Byte.byte)) a c.args.self.now _
    (ap (λ (k : KeptArguments). k.arguments) c.take_byte.ensures) keeps)

pub returns-in-Kept-clause-keeps : goal.returns-in-Kept-clause-keeps
returns-in-Kept-clause-keeps c = λ a keeps.
    rw c.in-Kept.is
    (Keeps-behind (λ b. with_unit b (Kept c.in-Kept.byte)) (λ b. only_kept-with_unit b (Kept c.in-Kept.byte)) a c.args.self.now _
    (ap (λ (k : KeptArguments). k.arguments) c.take_kept.ensures) keeps)
