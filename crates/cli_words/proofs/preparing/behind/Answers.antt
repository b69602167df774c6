use Rattle.std.proofs.lemmas.Str.Pattern.{strip_prefix_char}
use Rattle.clap.proofs.LexerLemmas.{strip_byte-from}
use Rattle.cli_words.proofs.preparing.behind.Goals as goal

pub returns : goal.returns
returns c = strip_byte-from c.args.first c.args.text.now c.strip_prefix.result (strip_prefix_char c.args.first c.args.text.now c.strip_prefix.result c.strip_prefix.ensures.cases c.requires)
