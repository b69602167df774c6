use Rattle.std.proofs.Common.{[], ap, ◌∙◌}
use Rattle.std.specs.Option.{unwrap_or}
use Rattle.std.proofs.lemmas.Option.{unwrap_or-slice_get}
use Rattle.input_arguments.specs.ArgumentList.{listed}
use Rattle.roff_scan.proofs.unread.calls.argument_at.Goals as goal

pub returns-in-Some : goal.returns-in-Some
returns-in-Some c = ap (λ o. unwrap_or o []) c.in-Some.ensures ∙ unwrap_or-slice_get (listed c.args.arguments) c.args.index []

pub returns-in-None : goal.returns-in-None
returns-in-None c = ap (λ o. unwrap_or o []) c.in-None.ensures ∙ unwrap_or-slice_get (listed c.args.arguments) c.args.index []
