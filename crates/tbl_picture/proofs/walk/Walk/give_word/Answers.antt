use Rattle.std.proofs.Common.{◌≡◌, ℕ, ◌+◌, ◌≤◌, ◌<◌, List, [], ◌∷◌, ◌++◌, length, replicate, sym, ap, subst, ◌∙◌, arith}
use Rattle.std.specs.List.{slice_range}
use Rattle.std.proofs.lemmas.List.{length-replicate}
use Rattle.input_source.specs.Bytes.{blank}
use Rattle.tbl_lines.specs.RowsLeft.{block_text, if_given, one_less}
use Rattle.tbl_picture.specs.Walks.{AtColumn, InWord, IsNear, KeptWalk, RowSteps, at_word, columns_walked, kept_by, lent_row, passed, reached_by}
use Rattle.tbl_pieces.proofs.Adding.{adds-fewer, adds-more}
use Rattle.tbl_picture.proofs.CellSteps.{end-within}
use Rattle.tbl_layout.specs.KeptEntries.{IsBlock, measure_by, no_entry}
use Rattle.tbl_layout.specs.declared.entry.Entry.{Entry}
use Rattle.tbl_picture.proofs.ColumnSteps.{column-there, entry-there}
use Rattle.tbl_lines.proofs.GivenFields.{block-given}
use Rattle.tbl_lines.proofs.RowColumns.{length-row_columns}
use Rattle.tbl_picture.proofs.WordsGiven.{end-some, ends-steps, joins-steps, some-left, stands-at, word-in, word-last, word-within}
use Rattle.tbl_picture.proofs.walk.Walk.give_word.Goals as goal
use Rattle.tbl_text.proofs.BlockSlices.{length-slice_range}
use Rattle.tbl_text.specs.BlockLines.{behind_rest, rest_of_line}
use Rattle.tbl_text.specs.BlockPlaces.{IsWithin, LiesBehind, left_at, parts_at, word_at}
use Rattle.tbl_text.specs.BlockWords.{OneWord}

pub column-held-requires-clause-given : goal.column-held-requires-clause-given
column-held-requires-clause-given c =
    let lent = c.args.row.now in
    let row = lent_row lent in
    let w = c.args.self.now in
    let b = c.requires.word.line.on.before in
    let many = length-row_columns row.bars.boxing row.format row.bytes 0 row.columns row.entries w.places b.short b.places in
    let some = some-left row.bytes c.args.word c.args.width c.args.place (length w.behind) (columns_walked row w) c.requires.word.next in
    let there = column-there row w c.requires.word.line (omega (arith, some, many)) in
    let stands = stands-at row w there.column c.args.word c.args.width c.args.place there.at c.requires.word in
    let block = subst (λ (e : Entry). IsBlock e.kind) (sym (entry-there row w there.column no_entry there.at)) stands.block in
    let within = block-given lent.keys.now lent.last_bars lent.entries.now (length w.behind) block in
    omega (arith, within)

pub returns-in-Joins-clause-steps : goal.returns-in-Joins-clause-steps
returns-in-Joins-clause-steps c = λ frame.
    let row = lent_row c.args.row.now in
    let r = c.column-held.result in
    let w = kept_by c.self.inside in
    let view = c.self.view_is in
    let word = c.args.word in
    let at : AtColumn row w r = subst (λ (k : KeptWalk). AtColumn row k r) (sym view) c.column-held.ensures in
    let in_word = subst (λ (k : KeptWalk). InWord row word c.args.width c.args.place k) (sym view) c.requires.word in
    let stands = stands-at row w r word c.args.width c.args.place at in_word in
    let next = ap (λ (k : KeptWalk). k.next) view ∙ c.requires.next in
    let arm = c.in-Joins in
    let value = c.block_bytes-block.ensures.value in
    let m = measure_by r.entry.kind in
    let block = c.block_bytes-block.result.now in
    let measure_is : c.from.result ≡ m = c.from.ensures ∙ c.measure.ensures in
    let from = r.entry.from + 1 + word.from in
    let to = r.entry.from + 1 + word.to in
    let some = stands.lies.some in
    let within = stands.lies.within in
    let before = c.args.pieces.now in
    let between = c.give.new.pieces in
    let after = c.give-in-Joins.new.pieces in
    let first = if_given w.count (slice_range row.bytes from to) in
    let second = if_given w.count (replicate arm.next.gap blank) in
    let both = adds-fewer row.bytes frame (1 + 1) 4 before after (first ++ second) (omega arith)
    (adds-more row.bytes frame 1 1 before between after first second
    (c.give.ensures.adds row.bytes frame (length-slice_range row.bytes from to (word-within row.bytes r.entry word.to at.lies some within)))
    (c.give-in-Joins.ensures.adds row.bytes frame (length-replicate arm.next.gap blank))) in
    let steps = joins-steps row w r at word c.args.width c.args.place next stands frame before after arm.next arm.wider arm.behind (slice_range row.bytes from to)
    (subst (λ (b : List ℕ). rest_of_line m c.args.width (parts_at b c.args.place) ≡ OneWord (word_at b arm.next) ∷ rest_of_line m arm.wider (parts_at b arm.behind)) value
    (subst (λ (n : ℕ). rest_of_line n c.args.width (parts_at block c.args.place) ≡ OneWord (word_at block arm.next) ∷ rest_of_line n arm.wider (parts_at block arm.behind))
    measure_is arm.ensures.line))
    (subst (λ (b : List ℕ). behind_rest m c.args.width (parts_at b c.args.place) ≡ behind_rest m arm.wider (parts_at b arm.behind)) value
    (subst (λ (n : ℕ). behind_rest n c.args.width (parts_at block c.args.place) ≡ behind_rest n arm.wider (parts_at block arm.behind)) measure_is arm.ensures.behind))
    arm.ensures.width.0
    (subst (λ (b : List ℕ). LiesBehind b 0 arm.next) value arm.ensures.on.lies)
    (subst (λ (b : List ℕ). IsWithin b arm.behind) value arm.ensures.on.within)
    (subst (λ (b : List ℕ). left_at b arm.behind < left_at b c.args.place) value arm.ensures.on.less)
    (word-in row.bytes r.entry word.from word.to at.lies some within) both in
    subst (λ (k : KeptWalk). RowSteps frame row k (at_word arm.next arm.wider arm.behind w) before after) view steps

pub returns-in-Ends-clause-steps : goal.returns-in-Ends-clause-steps
returns-in-Ends-clause-steps c = λ frame.
    let row = lent_row c.args.row.now in
    let r = c.column-held.result in
    let w = kept_by c.self.inside in
    let view = c.self.view_is in
    let word = c.args.word in
    let at : AtColumn row w r = subst (λ (k : KeptWalk). AtColumn row k r) (sym view) c.column-held.ensures in
    let in_word = subst (λ (k : KeptWalk). InWord row word c.args.width c.args.place k) (sym view) c.requires.word in
    let stands = stands-at row w r word c.args.width c.args.place at in_word in
    let next = ap (λ (k : KeptWalk). k.next) view ∙ c.requires.next in
    let arm = c.in-Ends in
    let m = measure_by r.entry.kind in
    let end = c.end_given-end.result in
    let from = r.entry.from + 1 + word.from in
    let to = r.entry.from + 1 + end in
    let lies = stands.lies in
    let block = block_text row.bytes r.entry in
    let few : end ≤ word.to = omega (arith, c.end_given-end.ensures, end-within w.count word.glyphs word.to) in
    let some : 0 < end = omega (arith, c.end_given-end.ensures, end-some w.count word.glyphs word.to (omega (arith, lies.order)) lies.some) in
    let within : end ≤ length block = omega (arith, few, lies.within) in
    let before = c.args.pieces.now in
    let after = c.give-in-Ends.new.pieces in
    let text = if_given w.count (slice_range row.bytes from to) in
    let reached : KeptWalk → ℕ = λ k. reached_by k.count k.place c.begins_at.result c.args.width in
    let near = subst (λ (k : KeptWalk). IsNear (one_less k.count) (reached k)) (sym view) c.pass.ensures.near in
    let adds = adds-fewer row.bytes frame 1 4 before after text (omega arith)
    (c.give-in-Ends.ensures.adds row.bytes frame (length-slice_range row.bytes from to (word-within row.bytes r.entry end at.lies some within))) in
    let text_is = ap (λ (bytes : List ℕ). if_given w.count bytes) (word-in row.bytes r.entry word.from end at.lies some within)
    ∙ ap (λ (n : ℕ). if_given w.count (slice_range block word.from n)) c.end_given-end.ensures
    ∙ word-last block word w.count lies.last in
    let steps = ends-steps row w r at word c.args.width c.args.place next stands frame before after (reached w) text
    (subst (λ (b : List ℕ). rest_of_line m c.args.width (parts_at b c.args.place) ≡ []) c.block_bytes-block.ensures.value
    (subst (λ (n : ℕ). rest_of_line n c.args.width (parts_at c.block_bytes-block.result.now c.args.place) ≡ []) (c.from.ensures ∙ c.measure.ensures) arm.ensures.line))
    text_is
    (ap (λ (n : ℕ). reached_by w.count w.place n c.args.width) c.begins_at.ensures.value) near
    adds in
    subst (λ (k : KeptWalk). RowSteps frame row c.args.self.now k before after) (sym c.pass.ensures.value)
    (subst (λ (k : KeptWalk). RowSteps frame row k (passed row.bars.has_any c.args.place (reached k) k) before after) view steps)
