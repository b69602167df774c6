use Rattle.std.proofs.Common.{◌≡◌, Option, Some, refl, subst}
use Rattle.page_model.specs.Diverted.{diverted}
use Rattle.page_model.specs.DueTexts.{Gets, TextDue}
use Rattle.page_model.specs.Titles.{title_text}
use Rattle.run_state.specs.Composer.Due.{due_told, title_laid}
use Rattle.roff_num.specs.RegisterText.{register_text}
use Rattle.run_items.specs.Diverting.{ChangesText}
use Rattle.run_items.proofs.interpreter.diverting.change.Goals as goal

pub returns-in-Title : goal.returns-in-Title
returns-in-Title c =
    let same : Some (Gets c.innermost-index.result (diverted (title_text
    (title_laid c.title-text.result.now.text c.in-Title.length (register_text c.page_format.result c.in-Title.number.0)))))
    ≡ due_told c.args.composer.now c.args.reader.now.registers.all =
    rw (c.in-Title.is, c.innermost-index.ensures, c.title-text.ensures, c.page_format.ensures) refl in
    subst (λ (due : Option TextDue). ChangesText due c.args.unread.now c.add_title.new.unread c.add_title.result) same c.add_title.ensures
