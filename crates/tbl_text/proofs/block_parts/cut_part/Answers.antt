use Rattle.std.proofs.Common.{map, sym, ap, List}
use Rattle.tbl_text.specs.BlockWords.{OneWord, Word}
use Rattle.tbl_text.proofs.block_parts.cut_part.Goals as goal

pub returns-in-Some-clause-parts : goal.returns-in-Some-clause-parts
returns-in-Some-clause-parts c = sym (ap (λ (ws : List Word). map OneWord ws) c.in-Some.ensures.word)

pub returns-in-Some-clause-on : goal.returns-in-Some-clause-on
returns-in-Some-clause-on c = λ left some. record { lies = c.in-Some.ensures.lies; within = tt; less = some }

pub returns-in-None-clause-parts : goal.returns-in-None-clause-parts
returns-in-None-clause-parts c = sym (ap (λ (ws : List Word). map OneWord ws) c.in-None.ensures.word)
