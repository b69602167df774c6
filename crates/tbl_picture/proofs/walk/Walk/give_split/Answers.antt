use Rattle.std.proofs.Common.{◌≡◌, ◌≢◌, ℕ, ◌+◌, ◌-◌, ◌≤◌, List, ◌++◌, length, min, replicate, sym, ap, subst, ◌∙◌, arith}
use Rattle.std.specs.List.{slice_range}
use Rattle.std.proofs.lemmas.List.{length-replicate}
use Rattle.input_source.specs.Bytes.{blank}
use Rattle.tbl_pieces.specs.PieceQueue.{Adds}
use Rattle.tbl_lines.specs.RowsLeft.{begins_at, if_given, split_run, one_less}
use Rattle.tbl_picture.specs.Walks.{AtColumn, IsNear, KeptWalk, RowSteps, kept_by, lent_row, passed, reached_by}
use Rattle.tbl_pieces.proofs.Adding.{adds-fewer, adds-more}
use Rattle.tbl_picture.proofs.CellSteps.{end-within, run-steps}
use Rattle.tbl_lines.proofs.CellsGiven.{split-first, split-last, split-late, split-moved}
use Rattle.tbl_picture.proofs.walk.Walk.give_split.Goals as goal
use Rattle.tbl_text.proofs.BlockSlices.{length-slice_range}

pub returns : goal.returns
returns c = λ frame.
    let row = lent_row c.args.row.now in
    let bytes = row.bytes in
    let w = kept_by c.self.inside in
    let r = c.column-held.result in
    let s = c.args.split in
    let view = c.self.view_is in
    let at : AtColumn row w r = subst (λ (k : KeptWalk). AtColumn row k r) (sym view) c.column-held.ensures in
    let gap = c.gap_to.result in
    let gap_now : gap ≡ c.begins_at-at.result - w.place = c.gap_to.ensures ∙ ap (λ (k : KeptWalk). c.begins_at-at.result - k.place) (sym view) in
    let to = c.end_given-to.result in
    let end = c.min.result in
    let reached : KeptWalk → ℕ = λ k. reached_by k.count k.place c.begins_at-at.result s.width in
    let near = subst (λ (k : KeptWalk). IsNear (one_less k.count) (reached k)) (sym view) c.pass.ensures.near in
    let before = c.args.pieces.now in
    let second = c.give.new.pieces in
    let third = c.give-2.new.pieces in
    let after = c.give-3.new.pieces in
    let gap_is : gap ≡ begins_at r - w.place = gap_now ∙ ap (λ (n : ℕ). n - w.place) c.begins_at-at.ensures.value in
    let within : to ≤ length bytes = omega (arith, c.end_given-to.ensures, end-within w.count s.glyphs r.entry.to, at.lies.within) in
    let front_within : end ≤ length bytes = omega (arith, c.min.ensures, within) in
    let blanks = if_given w.count (replicate gap blank) in
    let front = if_given w.count (slice_range bytes r.entry.from end) in
    let back = if_given w.count (slice_range bytes s.behind to) in
    let parts = adds-more bytes frame 1 1 second third after front back
    (c.give-2.ensures.adds bytes frame (length-slice_range bytes r.entry.from end front_within))
    (c.give-3.ensures.adds bytes frame (length-slice_range bytes s.behind to within)) in
    let all = adds-fewer bytes frame (1 + (1 + 1)) 4 before after (blanks ++ (front ++ back)) (omega arith)
    (adds-more bytes frame 1 (1 + 1) before second after blanks (front ++ back) (c.give.ensures.adds bytes frame (length-replicate gap blank)) parts) in
    let last =
    ap (λ (n : ℕ). if_given w.count (slice_range bytes r.entry.from n) ++ back) c.min.ensures
    ∙ ap (λ (n : ℕ). if_given w.count (slice_range bytes r.entry.from (min s.end n)) ++ if_given w.count (slice_range bytes s.behind n)) c.end_given-to.ensures
    ∙ sym (split-last bytes r w.count s) in
    let kind = c.requires.kind r c.column-held.ensures in
    let next = ap (λ (k : KeptWalk). k.next) view ∙ c.requires.next in
    let steps = run-steps row w r at next frame before after (split_run bytes r.entry s) gap (reached w)
    (split-first bytes r w.line s kind c.if-self-ne0.false)
    (split-moved bytes r w.line s kind)
    gap_is (ap (λ (n : ℕ). reached_by w.count w.place n s.width) c.begins_at-at.ensures.value) near
    (subst (λ (more : List ℕ). Adds bytes frame 4 before after (blanks ++ more)) last all) in
    subst (λ (k : KeptWalk). RowSteps frame row c.args.self.now k before after) (sym c.pass.ensures.value)
    (subst (λ (k : KeptWalk). RowSteps frame row k (passed row.bars.has_any r.place (reached k) k) before after) view steps)

pub pass_empty-requires-clause-empty : goal.pass_empty-requires-clause-empty
pass_empty-requires-clause-empty c = λ held at.
    let bytes = c.args.row.now.bytes.now in
    let w = c.args.self.now in
    let kind = c.requires.kind held at in
    let line_is : c.self.inside.line ≡ w.line = ap (λ (k : KeptWalk). k.line) c.self.view_is in
    record {
      none = split-late bytes held w.line c.args.split kind (subst (λ (n : ℕ). n ≢ 0) line_is c.if-self-ne0.true);
      moved = split-moved bytes held w.line c.args.split kind;
    }
