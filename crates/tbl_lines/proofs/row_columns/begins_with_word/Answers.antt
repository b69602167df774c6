use Rattle.std.proofs.Common.{◌∷◌, ap, subst, ◌∙◌}
use Rattle.tbl_lines.proofs.BlockColumns.{block-glyph}
use Rattle.tbl_lines.proofs.row_columns.begins_with_word.Goals as goal
use Rattle.tbl_text.specs.BlockPlaces.{PartLies, part_at, parts_at}
use Rattle.tbl_text.specs.declared.block_parts.BlockPart.{BlockPart}

pub returns-in-Some-Word-default-clause-yes : goal.returns-in-Some-Word-default-clause-yes
returns-in-Some-Word-default-clause-yes c = λ measure _.
    let bytes = c.args.block.now in
    let arm = c.in-Some-Word-default in
    let behind = arm.field-0-1 in
    let parts = arm.ensures.parts ∙ ap (λ (part : BlockPart). part_at bytes part ∷ parts_at bytes behind) arm.field-0-0-is in
    block-glyph bytes measure c.args.place behind arm.field-0-0-0 parts (subst (PartLies bytes) arm.field-0-0-is arm.ensures.on.lies)
