use Rattle.std.proofs.Common.{◌≡◌, ◌∙◌, ap, sym}
use Rattle.input_model.specs.Arguments.{Arguments, finished, only_kept}
use Rattle.input_arguments.specs.ArgumentTexts.Kept.{KeptArguments}
use Rattle.input_model.proofs.KeptArguments.{only_kept-finished, finished_at-other}
use Rattle.input_arguments.proofs.Keeping.{Keeps-behind}
use Rattle.input_arguments.proofs.arguments.ArgumentTexts.finish.Goals as goal

pub returns-in_default : goal.returns-in_default
returns-in_default c =
    let old = c.args.self.now in
    let place : c.self.inside.place ≡ old.arguments.place = ap (λ (k : KeptArguments). k.arguments.place) c.self.view_is in
    let whole = finished_at-other old.arguments.place old.arguments (λ is. c.in_default.not-Between (place ∙ is)) in
    let value = c.end_argument.ensures ∙ ap (λ (a : Arguments). let k : KeptArguments = record { arguments = only_kept a; room = old.room } in k) (sym whole) in
    record {
      value = value;
      keeps = λ a keeps. Keeps-behind finished only_kept-finished a old _ (ap (λ (k : KeptArguments). k.arguments) value) keeps;
    }
