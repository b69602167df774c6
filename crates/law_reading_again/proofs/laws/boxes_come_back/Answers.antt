use Rattle.law_reading_again.proofs.Anywhere.{boxes_come_back, boxes_come_back_from_the_source}
use Rattle.law_reading_again.proofs.ShownBoxes.{diversions_come_back}
use Rattle.law_reading_again.proofs.laws.boxes_come_back.Goals as goal

pub returns-clause-ahead : goal.returns-clause-ahead
returns-clause-ahead c = boxes_come_back

pub returns-clause-source : goal.returns-clause-source
returns-clause-source c = boxes_come_back_from_the_source

pub returns-clause-diversions : goal.returns-clause-diversions
returns-clause-diversions c = diversions_come_back
