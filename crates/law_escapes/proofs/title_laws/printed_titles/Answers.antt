use Rattle.law_escapes.proofs.TitleLaws.{titles_have_three_parts, titles_of_the_source_have_three_parts}
use Rattle.law_escapes.proofs.title_laws.printed_titles.Goals as goal

pub returns-clause-ahead : goal.returns-clause-ahead
returns-clause-ahead c = titles_have_three_parts

pub returns-clause-source : goal.returns-clause-source
returns-clause-source c = titles_of_the_source_have_three_parts
