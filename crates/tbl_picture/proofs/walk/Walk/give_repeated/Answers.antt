use Rattle.std.proofs.Common.{◌≡◌, ◌≢◌, ℕ, ◌+◌, ◌-◌, List, [], ◌∷◌, ◌++◌, replicate, sym, ap, subst, ◌∙◌, arith}
use Rattle.std.proofs.lemmas.List.{length-replicate}
use Rattle.input_source.specs.Bytes.{blank}
use Rattle.tbl_lines.specs.PictureLines.{repeated}
use Rattle.tbl_pieces.specs.PieceQueue.{Adds}
use Rattle.tbl_lines.specs.RowsLeft.{begins_at, cell_left, if_given, one_less}
use Rattle.tbl_lines.specs.RowsWalked.{HasGlyph, LastHasGlyph}
use Rattle.tbl_picture.specs.Walks.{AtColumn, IsNear, KeptWalk, RowSteps, kept_by, lent_row, passed, reached_by}
use Rattle.tbl_pieces.proofs.Adding.{adds-fewer, adds-more}
use Rattle.tbl_picture.proofs.CellSteps.{none-steps, run-steps}
use Rattle.tbl_lines.proofs.CellsGiven.{repeated-first, repeated-last, repeated-late, repeated-moved}
use Rattle.tbl_picture.proofs.ColumnSteps.{cells-first, cells_behind}
use Rattle.tbl_lines.proofs.RunsGiven.{glyph-first}
use Rattle.tbl_picture.proofs.walk.Walk.give_repeated.Goals as goal

pub returns-then-self-ne0 : goal.returns-then-self-ne0
returns-then-self-ne0 c = λ frame.
    let row = lent_row c.args.row.now in
    let r = c.args.held in
    let w = c.args.self.now in
    let pieces = c.args.pieces.now in
    let line_is : c.self.inside.line ≡ w.line = ap (λ (k : KeptWalk). k.line) c.self.view_is in
    let steps = none-steps row w r c.requires.at c.requires.next frame pieces r.place
    (repeated-late row.bytes r c.args.byte c.args.count c.requires.repeats w.line (subst (λ (n : ℕ). n ≢ 0) line_is c.if-self-ne0.true))
    (repeated-moved row.bytes r c.args.byte c.args.count c.requires.repeats w.line) c.requires.at.within in
    subst (λ (k : KeptWalk). RowSteps frame row w k pieces pieces) (sym c.skip.ensures) steps

pub returns : goal.returns
returns c = λ frame.
    let row = lent_row c.args.row.now in
    let bytes = row.bytes in
    let w = kept_by c.self.inside in
    let r = c.args.held in
    let b = c.args.byte in
    let count = c.args.count in
    let repeats = c.requires.repeats in
    let view = c.self.view_is in
    let at : AtColumn row w r = subst (λ (k : KeptWalk). AtColumn row k r) (sym view) c.requires.at in
    let gap = c.gap_to.result in
    let gap_now : gap ≡ c.begins_at-at.result - w.place = c.gap_to.ensures ∙ ap (λ (k : KeptWalk). c.begins_at-at.result - k.place) (sym view) in
    let reached : KeptWalk → ℕ = λ k. reached_by k.count k.place c.begins_at-at.result count in
    let near = subst (λ (k : KeptWalk). IsNear (one_less k.count) (reached k)) (sym view) c.pass.ensures.near in
    let before = c.args.pieces.now in
    let between = c.give.new.pieces in
    let after = c.give-2.new.pieces in
    let gap_is : gap ≡ begins_at r - w.place = gap_now ∙ ap (λ (n : ℕ). n - w.place) c.begins_at-at.ensures.value in
    let line : w.line ≡ 0 = c.if-self-ne0.false in
    let first = repeated-first bytes r b count repeats w.line line in
    let has : w.count ≡ 1 → HasGlyph (repeated b count ∷ []) = λ one. subst HasGlyph first
    (glyph-first w.count (cell_left bytes w.line r) (cells_behind row w r at) (subst (LastHasGlyph w.count) (cells-first row w r at) at.line.last) one) in
    let both = adds-fewer bytes frame (1 + 1) 4 before after (if_given w.count (replicate gap blank) ++ if_given w.count (replicate count b))
    (omega arith) (adds-more bytes frame 1 1 before between after (if_given w.count (replicate gap blank)) (if_given w.count (replicate count b))
    (c.give.ensures.adds bytes frame (length-replicate gap blank)) (c.give-2.ensures.adds bytes frame (length-replicate count b))) in
    let next = ap (λ (k : KeptWalk). k.next) view ∙ c.requires.next in
    let steps = run-steps row w r at next frame before after (repeated b count) gap (reached w) first
    (repeated-moved bytes r b count repeats w.line)
    gap_is (ap (λ (n : ℕ). reached_by w.count w.place n count) c.begins_at-at.ensures.value) near
    (subst (λ (more : List ℕ). Adds bytes frame 4 before after (if_given w.count (replicate gap blank) ++ more)) (sym (repeated-last w.count b count has)) both) in
    subst (λ (k : KeptWalk). RowSteps frame row c.args.self.now k before after) (sym c.pass.ensures.value)
    (subst (λ (k : KeptWalk). RowSteps frame row k (passed row.bars.has_any r.place (reached k) k) before after) view steps)
