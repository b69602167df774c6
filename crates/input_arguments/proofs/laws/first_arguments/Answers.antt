use Rattle.input_model.proofs.KeptTexts.{first_arguments_are_kept}
use Rattle.input_arguments.proofs.laws.first_arguments.Goals as goal

pub returns : goal.returns
returns c = first_arguments_are_kept
