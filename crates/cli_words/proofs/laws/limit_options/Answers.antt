use Rattle.cli_words.proofs.OptionLaws.{each_option_sets_its_limit, each_table_option_sets_its_limit}
use Rattle.cli_words.proofs.laws.limit_options.Goals as goal

pub returns : goal.returns
returns c = record { each = each_option_sets_its_limit; of_tables = each_table_option_sets_its_limit }
