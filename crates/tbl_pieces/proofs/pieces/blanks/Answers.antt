use Rattle.std.proofs.Common.{◌∙◌}
use Rattle.tbl_format.proofs.Slices.{take-replicate}
use Rattle.tbl_pieces.proofs.pieces.blanks.Goals as goal

pub returns : goal.returns
returns c = c.at_most.ensures ∙ take-replicate c.args.most 64 32
