use Rattle.std.proofs.Common.{ap, ◌∙◌}
use Rattle.tbl_text.specs.BlockPlaces.{parts_at, parts_within}
use Rattle.tbl_text.specs.declared.block_parts.BlockPlace.{BlockPlace}
use Rattle.tbl_text.proofs.block_parts.next_part.Goals as goal

pub returns-in-AtLineWithin-clause-parts : goal.returns-in-AtLineWithin-clause-parts
returns-in-AtLineWithin-clause-parts c =
    ap (λ (place : BlockPlace). parts_at c.args.bytes.now place) c.in-AtLineWithin.is
    ∙ ap (parts_within c.in-AtLineWithin.room) c.part_of_lines-part.ensures.parts
    ∙ c.part_within.ensures.parts

pub returns-in-BehindWithin-clause-parts : goal.returns-in-BehindWithin-clause-parts
returns-in-BehindWithin-clause-parts c =
    ap (λ (place : BlockPlace). parts_at c.args.bytes.now place) c.in-BehindWithin.is
    ∙ ap (parts_within c.in-BehindWithin.room) c.part_behind-part.ensures.parts
    ∙ c.part_within-in-BehindWithin.ensures.parts
