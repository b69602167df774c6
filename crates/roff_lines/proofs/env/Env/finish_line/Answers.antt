use Rattle.roff_lines.proofs.Unfilled.{width-ended}
use Rattle.roff_lines.proofs.env.Env.finish_line.Goals as goal

pub extend-requires-clause-width : goal.extend-requires-clause-width
extend-requires-clause-width c = width-ended c.args.bytes.now c.args.count c.args.gaps c.requires.words
