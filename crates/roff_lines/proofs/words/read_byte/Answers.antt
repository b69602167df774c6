use Rattle.roff_lines.proofs.ReadingWords.{ReadsWords-blank, ReadsWords-character}
use Rattle.roff_lines.proofs.words.read_byte.Goals as goal

pub returns-then-bytes-from-eq32-clause-reads : goal.returns-then-bytes-from-eq32-clause-reads
returns-then-bytes-from-eq32-clause-reads c =
    let from = c.args.from in
    ReadsWords-blank c.args.bytes.now from.read from.told from.words c.requires.reads c.requires.within c.requires.goes c.if-bytes-from-eq32.true

pub returns-clause-reads : goal.returns-clause-reads
returns-clause-reads c =
    let from = c.args.from in
    ReadsWords-character c.args.bytes.now from.read from.told from.words c.requires.reads c.requires.within c.requires.goes c.if-bytes-from-eq32.false
