use Rattle.std.proofs.Common.{arith}
use Rattle.roff_lines.specs.Env.Tells.{NoWord}
use Rattle.roff_lines.proofs.ReadingWords.{WholeWords-read}
use Rattle.roff_lines.proofs.words.whole_words.Goals as goal

pub returns-then-most-eq0-clause-words : goal.returns-then-most-eq0-clause-words
returns-then-most-eq0-clause-words c = NoWord

pub returns-then-bytes-steps-ge-STEP-clause-words : goal.returns-then-bytes-steps-ge-STEP-clause-words
returns-then-bytes-steps-ge-STEP-clause-words c =
    let steps = c.words_by_steps-steps in
    WholeWords-read c.args.bytes.now steps.result.read steps.result.told steps.result.words steps.ensures.reads (omega (arith, steps.ensures.few, c.requires))
