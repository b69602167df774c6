use Rattle.law_reading.proofs.BadConditions.{cut_texts_are_compared, cut_texts_of_the_source_are_compared}
use Rattle.law_reading.proofs.condition_laws.cut_texts.Goals as goal

pub returns-clause-ahead : goal.returns-clause-ahead
returns-clause-ahead c = cut_texts_are_compared

pub returns-clause-source : goal.returns-clause-source
returns-clause-source c = cut_texts_of_the_source_are_compared
