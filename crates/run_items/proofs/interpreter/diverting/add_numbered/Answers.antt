use Rattle.std.proofs.Common.{◌+◌, ◌<◌, ◌≡◌, ◌^◌, ℕ, List, Some, length, rules, subst}
use Rattle.page_model.specs.Diverted.{diverted}
use Rattle.page_model.specs.DueTexts.{Gets}
use Rattle.page_model.specs.Titles.{title_text}
use Rattle.run_state.specs.Composer.Due.{title_laid}
use Rattle.run_events.proofs.Titling.{width-within}
use Rattle.run_items.specs.Diverting.{ChangesText}
use Rattle.run_items.proofs.interpreter.diverting.add_numbered.Goals as goal

pub of_title-requires-clause-width : goal.of_title-requires-clause-width
of_title-requires-clause-width c =
    let few : length c.left.result.now + length c.centre.result.now + length c.right.result.now < 2 ^ 32 =
    rw (c.left.ensures, c.centre.ensures, c.right.ensures) c.stays_short.ensures in
    let columns : c.from.result < 2 ^ 32 = search rules in
    width-within c.args.number.now c.left.result.now c.centre.result.now c.right.result.now c.from.result c.requires.short few columns

pub diverted_title_len-len-requires-clause-width : goal.diverted_title_len-len-requires-clause-width
diverted_title_len-len-requires-clause-width c =
    let few : length c.left.result.now + length c.centre.result.now + length c.right.result.now < 2 ^ 32 =
    rw (c.left.ensures, c.centre.ensures, c.right.ensures) c.stays_short.ensures in
    let columns : c.from.result < 2 ^ 32 = search rules in
    width-within c.args.number.now c.left.result.now c.centre.result.now c.right.result.now c.from.result c.requires.short few columns

pub returns : goal.returns
returns c =
    let same : c.of_title.result ≡ diverted (title_text (title_laid c.args.text.now.text c.args.columns c.args.number.now)) =
    rw (← c.left.ensures, ← c.centre.ensures, ← c.right.ensures, ← c.from.ensures) c.of_title.ensures in
    subst (λ (bytes : List ℕ). ChangesText (Some (Gets c.args.index bytes)) c.args.unread.now c.add_text.new.unread c.add_text.result) same c.add_text.ensures
