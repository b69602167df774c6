use Rattle.std.proofs.Common.{arith}
use Rattle.roff_lines.proofs.ReadingWords.{WholeWords-read}
use Rattle.roff_lines.proofs.words.words_behind.Goals as goal

pub returns-else-goes_on-clause-words : goal.returns-else-goes_on-clause-words
returns-else-goes_on-clause-words c =
    let l = c.loop-from in
    WholeWords-read c.args.bytes.now l.from.read l.from.told l.from.words l.invariant.reads (omega (arith, l.invariant.few, c.requires.text))

pub returns-after-loop-from-clause-words : goal.returns-after-loop-from-clause-words
returns-after-loop-from-clause-words c =
    let l = c.loop-from in
    WholeWords-read c.args.bytes.now l.from.read l.from.told l.from.words l.invariant.reads (omega (arith, l.invariant.few, c.requires.text))
