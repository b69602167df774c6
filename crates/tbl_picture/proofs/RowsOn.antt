-- A row that is under way: some of it is left, and some steps.
use Rattle.std.proofs.Common.{◌≡◌, ℕ, suc, ◌-◌, ◌<◌, List, [], ◌∷◌, length, drop, sym, subst, arith, length-append}
use Rattle.tbl_layout.specs.declared.entry.Entry.{Entry}
use Rattle.tbl_lines.specs.PictureLines.{lines_from}
use Rattle.tbl_lines.specs.RowsLeft.{given, word_given}
use Rattle.tbl_lines.specs.RowsWalked.{front_count, most_steps, steps_of_cells, steps_of_columns, steps_of_word}
use Rattle.tbl_picture.specs.Walks.{IsOn, IsUnderWay, KeptWalk, WalkedRow, cells_in_front, cells_left, cells_now, columns_left, fronts_of, further_lines, row_left, row_steps, steps_of_rest}
use Rattle.tbl_picture.specs.Nexts.{AtCell, AtElement, AtEnd, AtFront, AtLine, AtRule, AtRuleRow, AtTop, AtWord, Next}
use Rattle.tbl_text.specs.declared.block_parts.BlockPlace.{BlockPlace}

-- some of it is left
pub some-on : (n : Next) (row : WalkedRow) (w : KeptWalk) → IsOn n → IsUnderWay n row w → 0 < length (row_left n row w)
some-on AtTop row w on can = absurd on
some-on AtElement row w on can = absurd on
some-on (AtRuleRow rule) row w on can = absurd on
some-on (AtRule rule) row w on can = absurd on
some-on AtEnd row w on can = absurd on
some-on AtLine row w on can =
    let more : row.height - w.line ≡ suc (row.height - suc w.line) = omega (arith, can.line) in
    subst (λ (n : ℕ). 0 < length (lines_from 0 n (cells_now row w))) (sym more) (omega arith)
some-on (AtFront at) row w on can =
    omega (arith, length-append (given w.count w.place (cells_in_front at row w)) (further_lines row w))
some-on AtCell row w on can = omega (arith, length-append (given w.count w.place (cells_left row w)) (further_lines row w))
some-on (AtWord word width place) row w on can =
    let fronts = drop (suc (length w.behind)) (fronts_of row w.line) in
    let front = word_given row.bytes w.line fronts w.count w.place word width place (columns_left row w) in
    omega (arith, length-append front (further_lines row w))

some-columns : (most : ℕ) (entries : List Entry) → 0 < most → 0 < steps_of_columns most entries
some-columns most [] some = omega arith
some-columns most (e ∷ entries) some = omega (arith, some)

some-cells : (most fronts : ℕ) (entries : List Entry) → 0 < most → 0 < steps_of_cells most fronts entries
some-cells most fronts [] some = omega arith
some-cells most fronts (e ∷ entries) some = omega (arith, some)

some-word : (bytes : List ℕ) (place : BlockPlace) (entries : List Entry) → 0 < steps_of_word bytes place entries
some-word bytes place [] = omega arith
some-word bytes place (e ∷ entries) = omega arith

-- so are some steps
pub steps-on : (n : Next) (row : WalkedRow) (w : KeptWalk) → IsOn n → IsUnderWay n row w → 0 < row_steps n row w
steps-on AtTop row w on can = absurd on
steps-on AtElement row w on can = absurd on
steps-on (AtRuleRow rule) row w on can = absurd on
steps-on (AtRule rule) row w on can = absurd on
steps-on AtEnd row w on can = absurd on
steps-on AtLine row w on can =
    let more : row.height - w.line ≡ suc (row.height - suc w.line) = omega (arith, can.line) in
    subst (λ (n : ℕ). 0 < steps_of_rest row n) (sym more) (omega arith)
steps-on (AtFront at) row w on can = omega (arith, some-columns (most_steps row.bytes) (drop (length w.behind) row.entries) (omega arith))
steps-on AtCell row w on can =
    omega (arith, some-cells (most_steps row.bytes) (front_count row.columns - suc (length w.behind)) (drop (length w.behind) row.entries) (omega arith))
steps-on (AtWord word width place) row w on can = omega (arith, some-word row.bytes place (drop (length w.behind) row.entries))
