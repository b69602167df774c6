use Rattle.std.proofs.Common.{◌≡◌, ℕ, Bool, true, false, not, ◌-◌, ◌&&◌, ◌||◌, ◌==◌, List, Option, suc, drop, refl, sym, ap, ◌∙◌, if◌then◌else◌, is_some}
use Rattle.std.specs.Option.{unwrap_or}
use Rattle.tbl_format.specs.Cells.{cell_behind}
use Rattle.tbl_format.specs.RowsServed.{all_rows, row_at}
use Rattle.tbl_format.specs.declared.format.FormatKey.{FormatKey}
use Rattle.tbl_layout.specs.KeptEntries.{all_entries}
use Rattle.tbl_layout.specs.declared.data_lines.RuleSign.{RuleSign}
use Rattle.tbl_lines.specs.PictureLines.{bars_between, shown_behind}
use Rattle.tbl_lines.specs.RowsLeft.{joined_first}
use Rattle.tbl_picture.specs.RulesWalked.{line_beside}
use Rattle.tbl_picture.specs.declared.walk.beside.Beside.{Beside}
use Rattle.tbl_picture.proofs.RuleLines.{bars-found, cell-found, one-behind, shown-row}
use Rattle.tbl_picture.proofs.walk.beside.shown_behind.Goals as goal

-- bars that stand where no rule goes on, by whether none does
where-not : (is_none : Bool) (bars : ℕ) → (if is_none then bars else 0) ≡ (if not is_none then 0 else bars)
where-not true bars = refl
where-not false bars = refl

where-none : (is_none is_joined : Bool) (bars : ℕ) → is_joined ≡ not is_none → (if is_none then bars else 0) ≡ (if is_joined then 0 else bars)
where-none is_none is_joined bars is = where-not is_none bars ∙ ap (λ (t : Bool). if t then 0 else bars) (sym is)

pub returns-else-not-is_first_line : goal.returns-else-not-is_first_line
returns-else-not-is_first_line c = λ bytes.
    let elements = c.args.rows.now.elements in
    let formats = all_rows c.args.format.now.format in
    let boxing = c.args.boxing in
    let column = c.args.column in
    let at = c.in-Row.element in
    let row = c.in-Row-element in
    let keys = c.row_of_all-row.result.now in
    let keys_are = c.row_of_all-row.ensures.keys in
    let format = row_at formats row.keys in
    let cell = c.unwrap_or-cell.result in
    let n = cell - 1 in
    let some : suc n ≡ cell = one-behind cell c.if-cell-eq0.false in
    let there : unwrap_or (cell_behind format.keys (suc column)) 0 ≡ suc n =
    cell-found keys format column cell c.cell_behind.result keys_are c.cell_behind.ensures c.unwrap_or-cell.ensures ∙ sym some in
    let shown = c.inner_bars-bars.result in
    let bars = bars_between boxing format (suc n) in
    let bars_is : shown ≡ bars =
    bars-found boxing keys format c.bars_of_all.result c.bars_among.result shown cell keys_are c.bars_of_all.ensures c.bars_among.ensures c.inner_bars-bars.ensures
    ∙ ap (bars_between boxing format) (sym some) in
    let is_first : Bool = c.args.is_below || row.height == 1 in
    let first : is_first ≡ true = sym c.is_first_line.ensures ∙ c.if-not-is_first_line.false in
    let all = all_entries format row.entries.now in
    let joined : c.joined_at-joined.result ≡ joined_first (drop n all) =
    c.joined_at-joined.ensures format.bars
    ∙ ap (λ (keys : List FormatKey). joined_first (drop n (all_entries (record { keys = keys; bars = format.bars }) row.entries.now))) keys_are in
    c.bars_if.ensures
    ∙ where-none c.is_none.result (is_some c.joined_at-joined.result) shown c.is_none.ensures
    ∙ ap (λ (j : Option RuleSign). if is_some j then 0 else shown) joined
    ∙ ap (λ (k : ℕ). if is_some (joined_first (drop n all)) then 0 else k) bars_is
    ∙ ap (λ (t : Bool). if t && is_some (joined_first (drop n all)) then 0 else bars) (sym first)
    ∙ sym (shown-row boxing bytes formats c.args.is_below elements at row.keys row.field-1 row.height row.entries.now (drop (suc at) elements) column row.ensures n there)
    ∙ ap (λ (b : Beside). shown_behind boxing (line_beside bytes formats c.args.is_below elements b) column) (sym c.in-Row.is)
