use Rattle.std.proofs.Common.{◌≡◌, rules, true, Err}
use Rattle.cli_words.specs.PagesAsked.{are_digits}
use Rattle.cli_words.proofs.PageLists.{page-parsed}
use Rattle.cli_words.proofs.pages.read_number.Goals as goal

pub returns-in-Err : goal.returns-in-Err
returns-in-Err c =
    let digits : are_digits c.args.text.now ≡ true = search rules in
    page-parsed c.args.text.now (Err c.in-Err.field-0) c.in-Err.ensures.value.0 digits
