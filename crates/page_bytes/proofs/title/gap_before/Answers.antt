use Rattle.std.proofs.Common.{refl}
use Rattle.page_bytes.proofs.TitleParts.{part_placed}
use Rattle.page_bytes.proofs.title.gap_before.Goals as goal

pub returns-else-is_empty : goal.returns-else-is_empty
returns-else-is_empty c number some =
    part_placed number c.args.part.now c.args.blanks c.args.blanks some (rw (← c.is_empty.ensures, c.if-is_empty.false) refl)
