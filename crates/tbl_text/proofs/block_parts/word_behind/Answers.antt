use Rattle.tbl_text.proofs.BlockParts.{word-left, goes_left}
use Rattle.tbl_text.proofs.block_parts.word_behind.Goals as goal

pub returns-clause-parts : goal.returns-clause-parts
returns-clause-parts c =
    word-left c.args.bytes.now c.args.at c.args.end c.requires.order c.requires.within c.next_word.result c.next_word.ensures.words c.next_word.ensures.lies

pub returns-clause-on : goal.returns-clause-on
returns-clause-on c =
    goes_left c.args.bytes.now c.args.at c.args.end c.requires.order c.requires.within c.next_word.result c.next_word.ensures.lies
