use Rattle.std.proofs.Common.{◌≡◌, ◌≢◌, ℕ, ◌+◌, ◌-◌, ◌≤◌, List, [], ◌++◌, length, replicate, sym, ap, subst, ◌∙◌, arith}
use Rattle.std.specs.List.{slice_range}
use Rattle.std.proofs.lemmas.List.{length-replicate}
use Rattle.input_source.specs.Bytes.{blank}
use Rattle.tbl_layout.specs.declared.entry.Entry.{Entry}
use Rattle.tbl_pieces.specs.PieceQueue.{Adds}
use Rattle.tbl_lines.specs.RowsLeft.{begins_at, cell_left, first_of, if_given, text_run, one_less}
use Rattle.tbl_picture.specs.Walks.{AtColumn, IsNear, KeptWalk, RowSteps, kept_by, lent_row, passed, reached_by}
use Rattle.tbl_pieces.proofs.Adding.{adds-fewer, adds-more}
use Rattle.tbl_picture.proofs.CellSteps.{end-within, run-steps}
use Rattle.tbl_lines.proofs.CellsGiven.{text-empty, text-first, text-last, text-late, text-moved}
use Rattle.tbl_picture.proofs.ColumnSteps.{entry-there}
use Rattle.tbl_picture.proofs.walk.Walk.give_text.Goals as goal
use Rattle.tbl_picture.proofs.walk.Walk.give_text.Goals.{then-self-ne0-via-then-self-ne0, then-self-ne0-via-else-self-ne0+then-held}
use Rattle.tbl_text.proofs.BlockSlices.{length-slice_range}

pub returns : goal.returns
returns c = λ frame.
    let row = lent_row c.args.row.now in
    let bytes = row.bytes in
    let w = kept_by c.self.inside in
    let r = c.column-held.result in
    let glyphs = c.args.glyphs in
    let width = c.args.width in
    let view = c.self.view_is in
    let at : AtColumn row w r = subst (λ (k : KeptWalk). AtColumn row k r) (sym view) c.column-held.ensures in
    let gap = c.gap_to.result in
    let gap_now : gap ≡ c.begins_at-at.result - w.place = c.gap_to.ensures ∙ ap (λ (k : KeptWalk). c.begins_at-at.result - k.place) (sym view) in
    let to = c.end_given-to.result in
    let reached : KeptWalk → ℕ = λ k. reached_by k.count k.place c.begins_at-at.result width in
    let near = subst (λ (k : KeptWalk). IsNear (one_less k.count) (reached k)) (sym view) c.pass.ensures.near in
    let before = c.args.pieces.now in
    let between = c.give.new.pieces in
    let after = c.give-2.new.pieces in
    let gap_is : gap ≡ begins_at r - w.place = gap_now ∙ ap (λ (n : ℕ). n - w.place) c.begins_at-at.ensures.value in
    let within : to ≤ length bytes = omega (arith, c.end_given-to.ensures, end-within w.count glyphs r.entry.to, at.lies.within) in
    let blanks = c.give.ensures.adds bytes frame (length-replicate gap blank) in
    let text = c.give-2.ensures.adds bytes frame (length-slice_range bytes r.entry.from to within) in
    let last = ap (λ (n : ℕ). if_given w.count (slice_range bytes r.entry.from n)) c.end_given-to.ensures ∙ sym (text-last bytes r w.count glyphs width) in
    let both = adds-fewer bytes frame (1 + 1) 4 before after (if_given w.count (replicate gap blank) ++ if_given w.count (slice_range bytes r.entry.from to))
    (omega arith) (adds-more bytes frame 1 1 before between after (if_given w.count (replicate gap blank)) (if_given w.count (slice_range bytes r.entry.from to)) blanks text) in
    let kind = c.requires.kind r c.column-held.ensures in
    let next = ap (λ (k : KeptWalk). k.next) view ∙ c.requires.next in
    let steps = run-steps row w r at next frame before after (text_run bytes r.entry glyphs width) gap (reached w)
    (text-first bytes r w.line glyphs width kind c.if-self-ne0.false c.if-held.false)
    (text-moved bytes r w.line glyphs width kind)
    gap_is (ap (λ (n : ℕ). reached_by w.count w.place n width) c.begins_at-at.ensures.value) near
    (subst (λ (more : List ℕ). Adds bytes frame 4 before after (if_given w.count (replicate gap blank) ++ more)) last both) in
    subst (λ (k : KeptWalk). RowSteps frame row c.args.self.now k before after) (sym c.pass.ensures.value)
    (subst (λ (k : KeptWalk). RowSteps frame row k (passed row.bars.has_any r.place (reached k) k) before after) view steps)

pub pass_empty-requires-clause-empty : goal.pass_empty-requires-clause-empty
pass_empty-requires-clause-empty c = λ held at.
    let bytes = c.args.row.now.bytes.now in
    let w = c.args.self.now in
    let kind = c.requires.kind held at in
    let line_is : c.self.inside.line ≡ w.line = ap (λ (k : KeptWalk). k.line) c.self.view_is in
    let there = c.column-held.result in
    let same : there.entry ≡ held.entry =
    sym (entry-there (lent_row c.args.row.now) w there held.entry c.column-held.ensures) ∙ entry-there (lent_row c.args.row.now) w held held.entry at in
    let none : first_of (cell_left bytes w.line held) ≡ [] = elim c.then-self-ne0.branch [
      | then-self-ne0-via-then-self-ne0 b ↦ text-late bytes held w.line c.args.glyphs c.args.width kind (subst (λ (n : ℕ). n ≢ 0) line_is b.if-self-ne0.true)
      | then-self-ne0-via-else-self-ne0+then-held b ↦ text-empty bytes held w.line c.args.glyphs c.args.width kind
          (subst (λ (e : Entry). e.from ≡ e.to) same b.if-held.true)
    ] in
    record {
      none = none;
      moved = text-moved bytes held w.line c.args.glyphs c.args.width kind;
    }
