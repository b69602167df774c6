use Rattle.std.proofs.Common.{[], ◌∷◌, refl, ◌∙◌}
use Rattle.input_escapes.specs.declared.escapes.NameUse.TheVariants.{Argument, Text}
use Rattle.input_escapes.proofs.NamesRead.{argument_read, begins, opened_read, string_read}
use Rattle.input_escapes.proofs.escape_laws.text_escapes.Goals as goal

pub returns-clause-short : goal.returns-clause-short
returns-clause-short c = λ base names x are room plain no_opening.
    begins base names 42 Text (x ∷ []) are room refl refl ∙ string_read base names are x plain no_opening

pub returns-clause-long : goal.returns-clause-long
returns-clause-long c = λ base names x y are room first second.
    begins base names 42 Text (40 ∷ x ∷ y ∷ []) are room refl refl ∙ opened_read base names are Text x y first second

pub returns-clause-argument : goal.returns-clause-argument
returns-clause-argument c = λ base names x are room plain.
    begins base names 36 Argument (x ∷ []) are room refl refl ∙ argument_read base names are x plain
