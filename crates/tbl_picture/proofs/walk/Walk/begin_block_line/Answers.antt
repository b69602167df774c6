use Rattle.std.proofs.Common.{◌≡◌, ℕ, ◌+◌, ◌-◌, List, [], ◌∷◌, ◌++◌, replicate, sym, ap, subst, ◌∙◌, arith}
use Rattle.std.proofs.lemmas.List.{length-replicate}
use Rattle.input_source.specs.Bytes.{blank}
use Rattle.tbl_lines.specs.RowsLeft.{if_given}
use Rattle.tbl_picture.specs.Walks.{AtColumn, KeptWalk, RowSteps, at_word, kept_by, lent_row}
use Rattle.tbl_pieces.proofs.Adding.{adds-fewer, adds-more}
use Rattle.tbl_picture.proofs.WordSteps.{begun-steps, empty-steps, ended-steps}
use Rattle.tbl_picture.proofs.walk.Walk.begin_block_line.Goals as goal
use Rattle.tbl_text.specs.BlockPlaces.{IsWithin, LiesBehind, PartLies, part_at, parts_at, word_at}
use Rattle.tbl_text.specs.BlockWords.{EmptyLine, OneWord}
use Rattle.tbl_text.specs.declared.block_parts.BlockPart.{BlockPart}

pub returns-in-Some-Word-default-clause-steps : goal.returns-in-Some-Word-default-clause-steps
returns-in-Some-Word-default-clause-steps c = λ frame.
    let arm = c.in-Some-Word-default in
    let row = lent_row c.args.row.now in
    let r = c.column-held.result in
    let w = kept_by c.self.inside in
    let view = c.self.view_is in
    let at : AtColumn row w r = subst (λ (k : KeptWalk). AtColumn row k r) (sym view) c.column-held.ensures in
    let next = ap (λ (k : KeptWalk). k.next) view ∙ c.requires.next in
    let block = c.block_bytes-block.result.now in
    let value = c.block_bytes-block.ensures.value in
    let parts = arm.ensures.parts ∙ ap (λ (part : BlockPart). part_at block part ∷ parts_at block arm.behind) arm.field-0-0-is in
    let gap = c.gap_to.result in
    let gap_now : gap ≡ c.begins_at-at.result - w.place = c.gap_to.ensures ∙ ap (λ (k : KeptWalk). c.begins_at-at.result - k.place) (sym view) in
    let lead = c.leading.result in
    let before = c.args.pieces.now in
    let between = c.give.new.pieces in
    let after = c.give-in-Some-Word-default.new.pieces in
    let first = if_given w.count (replicate gap blank) in
    let second = if_given w.count (replicate lead blank) in
    let both = adds-fewer row.bytes frame (1 + 1) 4 before after (first ++ second) (omega arith)
    (adds-more row.bytes frame 1 1 before between after first second
    (c.give.ensures.adds row.bytes frame (length-replicate gap blank))
    (c.give-in-Some-Word-default.ensures.adds row.bytes frame (length-replicate lead blank))) in
    let steps = begun-steps row w r at (c.requires.kind r c.column-held.ensures) frame before after arm.word arm.behind gap lead c.begun_width.result next
    (subst (λ (b : List ℕ). parts_at b r.place ≡ OneWord (word_at b arm.word) ∷ parts_at b arm.behind) value parts)
    (subst (λ (b : List ℕ). LiesBehind b 0 arm.word) value (subst (PartLies block) arm.field-0-0-is arm.ensures.on.lies))
    (subst (λ (b : List ℕ). IsWithin b arm.behind) value arm.ensures.on.within)
    (gap_now ∙ ap (λ (n : ℕ). n - w.place) c.begins_at-at.ensures.value)
    c.leading.ensures c.begun_width.ensures both in
    subst (λ (k : KeptWalk). RowSteps frame row k (at_word arm.word c.begun_width.result arm.behind w) before after) view steps

pub returns-in-Some-EmptyLine-default-clause-steps : goal.returns-in-Some-EmptyLine-default-clause-steps
returns-in-Some-EmptyLine-default-clause-steps c = λ frame.
    let arm = c.in-Some-EmptyLine-default in
    let row = lent_row c.args.row.now in
    let r = c.column-held.result in
    let w = c.args.self.now in
    let pieces = c.args.pieces.now in
    let block = c.block_bytes-block.result.now in
    let value = c.block_bytes-block.ensures.value in
    let parts = arm.ensures.parts ∙ ap (λ (part : BlockPart). part_at block part ∷ parts_at block arm.behind) arm.field-0-0-is in
    let steps = empty-steps row w r c.column-held.ensures (c.requires.kind r c.column-held.ensures) frame pieces arm.behind c.requires.next
    (subst (λ (b : List ℕ). parts_at b r.place ≡ EmptyLine ∷ parts_at b arm.behind) value parts)
    (subst (λ (b : List ℕ). IsWithin b arm.behind) value arm.ensures.on.within) in
    subst (λ (k : KeptWalk). RowSteps frame row w k pieces pieces) (sym c.skip.ensures) steps

pub returns-in-None-clause-steps : goal.returns-in-None-clause-steps
returns-in-None-clause-steps c = λ frame.
    let row = lent_row c.args.row.now in
    let r = c.column-held.result in
    let w = c.args.self.now in
    let pieces = c.args.pieces.now in
    let steps = ended-steps row w r c.column-held.ensures (c.requires.kind r c.column-held.ensures) frame pieces c.requires.next
    (subst (λ (b : List ℕ). parts_at b r.place ≡ []) c.block_bytes-block.ensures.value c.in-None.ensures.parts) in
    subst (λ (k : KeptWalk). RowSteps frame row w k pieces pieces) (sym c.skip-in-None.ensures) steps
