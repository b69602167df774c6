use Rattle.std.proofs.lemmas.Str.Pattern.{split_parts}
use Rattle.cli_words.proofs.PageLists.{split_at-from}
use Rattle.cli_words.proofs.pages.split_at.Goals as goal

pub returns : goal.returns
returns c =
    split_at-from c.args.mark c.args.text.now c.split_once.result (split_parts c.args.mark c.args.text.now c.split_once.result c.split_once.ensures.cases c.requires)
