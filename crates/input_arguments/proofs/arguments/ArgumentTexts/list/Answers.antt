use Rattle.std.proofs.Common.{ℕ, List, ◌∙◌, ap, sym, reverse}
use Rattle.std.proofs.lemmas.List.{reverse-reverse}
use Rattle.input_model.specs.Arguments.{Arguments, kept}
use Rattle.roff_num.specs.Lists.{parts_ending}
use Rattle.input_arguments.specs.ArgumentTexts.Kept.{KeptArguments}
use Rattle.input_arguments.proofs.ArgumentBlock.{few_texts}
use Rattle.input_arguments.proofs.arguments.ArgumentTexts.list.Goals as goal

pub returns-clause-keeps : goal.returns-clause-keeps
returns-clause-keeps c = λ a keeps.
    let whole = ap (λ (k : KeptArguments). k.arguments.whole) c.self.view_is ∙ ap (λ (b : Arguments). b.whole) keeps.same in
    rw (c.as_slice.ensures.value, c.as_slice-2.ensures.value)
    (sym (reverse-reverse (parts_ending c.self.inside.bytes.items 0 c.self.inside.ends.items))
    ∙ ap (λ (texts : List (List ℕ)). reverse texts) whole
    ∙ reverse-reverse (kept (reverse a.whole)))

pub returns-clause-few : goal.returns-clause-few
returns-clause-few c =
    rw (c.as_slice.ensures.value, c.as_slice-2.ensures.value)
    (few_texts c.self.inside.bytes.items c.self.inside.ends.items c.self.invariant.kept)
