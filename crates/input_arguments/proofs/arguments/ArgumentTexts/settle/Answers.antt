use Rattle.std.proofs.Common.{◌∙◌, ap, sym}
use Rattle.input_model.specs.Arguments.{Arguments, settled_at, settled, only_kept}
use Rattle.input_arguments.specs.ArgumentTexts.Kept.{KeptArguments}
use Rattle.input_model.specs.declared.place.Place.{Place}
use Rattle.input_arguments.proofs.ArgumentBlock.{kept_in, only_kept-kept_in}
use Rattle.input_model.proofs.KeptArguments.{only_kept-settled, settled_at-other}
use Rattle.input_arguments.proofs.Keeping.{Keeps-behind}
use Rattle.input_arguments.proofs.arguments.ArgumentTexts.settle.Goals as goal

pub returns-in-BehindQuote-clause-keeps : goal.returns-in-BehindQuote-clause-keeps
returns-in-BehindQuote-clause-keeps c = λ a keeps.
    let old = c.args.self.now in
    let place = sym (ap (λ (k : KeptArguments). k.arguments.place) c.self.view_is) ∙ c.in-BehindQuote.is in
    let whole = ap (λ (p : Place). only_kept (settled_at p old.arguments)) place in
    Keeps-behind settled only_kept-settled a old _ (ap (λ (k : KeptArguments). k.arguments) c.end_argument.ensures ∙ sym whole) keeps

pub returns-in_default : goal.returns-in_default
returns-in_default c =
    let old = c.self.inside in
    let arguments = kept_in old.bytes.items old.ends.items old.place in
    let same = ap only_kept (settled_at-other old.place arguments c.in_default.not-BehindQuote) ∙ only_kept-kept_in old.bytes.items old.ends.items old.place c.self.invariant.kept in
    let of_room = λ (a : Arguments). let k : KeptArguments = record { arguments = a; room = old.room } in k in
    rw (← c.self.view_is) (record {
      value = ap of_room (sym same);
      keeps = λ a keeps. Keeps-behind settled only_kept-settled a (of_room arguments) (of_room arguments) (sym same) keeps;
    })
