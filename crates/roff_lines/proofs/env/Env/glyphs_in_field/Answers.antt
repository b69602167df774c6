use Rattle.std.proofs.Common.{take}
use Rattle.roff_lines.proofs.Widths.{gaps_in-above}
use Rattle.roff_lines.proofs.env.Env.glyphs_in_field.Goals as goal

pub extend-requires-clause-gaps : goal.extend-requires-clause-gaps
extend-requires-clause-gaps c = gaps_in-above (take c.args.count c.args.bytes.now) c.requires.above
