use Rattle.std.proofs.Common.{arith}
use Rattle.roff_lines.proofs.ReadingWords.{ReadsWords-first}
use Rattle.roff_lines.proofs.words.words_by_steps.Goals as goal

pub loop-from-init : goal.loop-from-init
loop-from-init c = record {
  few = omega (arith, c.requires.some);
  reads = ReadsWords-first c.args.bytes.now (omega (arith, c.requires.some, c.requires.text)) c.requires.first;
}
