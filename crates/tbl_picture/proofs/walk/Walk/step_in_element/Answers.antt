use Rattle.std.proofs.Common.{rules, ◌≡◌, ◌<◌, ℕ, suc, List, [], ◌∷◌, length, drop, refl, None, sym, ap, subst, ◌∙◌, arith, eqb-true}
use Rattle.tbl_format.specs.Format.{FormatRow}
use Rattle.tbl_format.specs.FormatRows.{AreWithin}
use Rattle.tbl_format.specs.RowsServed.{all_rows, row_at}
use Rattle.tbl_format.specs.declared.format.FormatKey.{FormatKey}
use Rattle.tbl_kept.specs.Rows.{ElementLaid, Row}
use Rattle.tbl_layout.specs.KeptEntries.{all_entries}
use Rattle.tbl_layout.specs.Spans.{cells_of}
use Rattle.tbl_layout.specs.declared.bars.Bars.{Bars}
use Rattle.tbl_layout.specs.declared.columns.Column.{Column}
use Rattle.tbl_lines.specs.RowsWalked.{AreNarrow}
use Rattle.tbl_picture.specs.ElementsWalked.{IsInRow, Steps}
use Rattle.tbl_picture.specs.Walks.{KeptWalk, RowEndsOrGoesOn, WalkedRow}
use Rattle.tbl_picture.proofs.RowSteps.{all-at, does-stay, row-by, within-drop}
use Rattle.tbl_picture.proofs.walk.Walk.step_in_element.Goals as goal

pub steps_in_row-has_ended-requires-clause-lies : goal.steps_in_row-has_ended-requires-clause-lies
steps_in_row-has_ended-requires-clause-lies c =
    let bytes = c.args.bytes.now in
    let formats = all_rows c.args.format.now.format in
    let rows = c.args.rows.now in
    let w = c.self.inside in
    let can = c.requires.can in
    let keys = c.row_of_all-row_keys.result.now in
    let there = Row c.in-Row.keys c.in-Row.field-1 c.in-Row.height c.in-Row.entries.now in
    let laid = all-at (ElementLaid bytes formats (length rows.columns)) w.element rows.elements there (drop (suc w.element) rows.elements) can.laid.elements c.in-Row.ensures in
    let columns = sym c.columns.ensures in
    let small : w.room < 4294967296 = search rules in
    record {
      cells = subst (λ (cs : List Column). AreWithin (length cs) keys) columns
          (subst (AreWithin (length rows.columns)) (sym c.row_of_all-row_keys.ensures.keys) laid.cells);
      narrow = subst AreNarrow columns can.narrow;
      few = omega (arith, ap length c.columns.ensures, can.room, ap (λ (k : KeptWalk). k.room) c.self.view_is, small);
      fronts = tt;
      plain = λ is. sym c.columns_of.ensures.value ∙ eqb-true c.columns_of.result (length keys) is;
    }

pub returns-in-Row-clause-step : goal.returns-in-Row-clause-step
returns-in-Row-clause-step c = λ frame within.
    let bytes = c.args.bytes.now in
    let formats = all_rows c.args.format.now.format in
    let rows = c.args.rows.now in
    let w = c.args.self.now in
    let a = c.self.inside in
    let view = c.self.view_is in
    let mid = c.steps_in_row-has_ended.new.self in
    let t = c.steps_in_row-has_ended.result in
    let keys = c.in-Row.keys in
    let rules = c.in-Row.field-1 in
    let height = c.in-Row.height in
    let entries = c.in-Row.entries.now in
    let before = c.args.pieces.now in
    let after = c.steps_in_row-has_ended.new.pieces in
    let elements = drop (suc w.element) rows.elements in
    let at = subst (λ (k : KeptWalk). drop k.element rows.elements ≡ Row keys rules height entries ∷ drop (suc k.element) rows.elements) view c.in-Row.ensures in
    let format = row_at formats keys in
    let row : Bars → ℕ → FormatRow → List Column → WalkedRow = λ b n f cs.
    record { bars = b; width = n; bytes = bytes; format = f; columns = cells_of f.keys cs; height = height; entries = all_entries f entries; fronts = None } in
    let lent : List FormatKey → ℕ → WalkedRow = λ ks n. row a.bars a.picture_width (record { keys = ks; bars = n }) c.columns.result.now in
    let does = subst (λ (k : KeptWalk). RowEndsOrGoesOn t frame (row k.bars k.picture_width format rows.columns) w mid before after) view
    (subst (λ (cs : List Column). RowEndsOrGoesOn t frame (row a.bars a.picture_width format cs) w mid before after) c.columns.ensures
    (subst (λ (n : ℕ). RowEndsOrGoesOn t frame (lent format.keys n) w mid before after) c.bars_of_all.ensures
    (subst (λ (ks : List FormatKey). RowEndsOrGoesOn t frame (lent ks c.bars_of_all.result) w mid before after) c.row_of_all-row_keys.ensures.keys
    (c.steps_in_row-has_ended.ensures.steps frame)))) in
    let under = subst (IsInRow bytes formats rows w) at c.requires.row in
    subst (λ (k : KeptWalk). Steps bytes frame formats rows w k before after) (sym c.go_on.ensures)
    (row-by bytes frame formats rows w c.requires.can before after within keys rules height entries elements at t mid under does)

pub go_on-requires : goal.go_on-requires
go_on-requires c = λ _.
    let a = c.self.inside in
    let rows = c.args.rows.now in
    let row : WalkedRow = record {
      bars = a.bars;
      width = a.picture_width;
      bytes = c.args.bytes.now;
      format = record { keys = c.row_of_all-row_keys.result.now; bars = c.bars_of_all.result };
      columns = cells_of c.row_of_all-row_keys.result.now c.columns.result.now;
      height = c.in-Row.height;
      entries = all_entries (record { keys = c.row_of_all-row_keys.result.now; bars = c.bars_of_all.result }) c.in-Row.entries.now;
      fronts = None;
    } in
    omega (
      arith,
      (does-stay c.steps_in_row-has_ended.result [] row c.args.self.now c.steps_in_row-has_ended.new.self c.args.pieces.now c.steps_in_row-has_ended.new.pieces
          (c.steps_in_row-has_ended.ensures.steps [])).element,
      ap (λ (k : KeptWalk). k.element) c.self.view_is,
      within-drop a.element rows.elements (Row c.in-Row.keys c.in-Row.field-1 c.in-Row.height c.in-Row.entries.now) (drop (suc a.element) rows.elements) c.in-Row.ensures,
      c.count.ensures,
      c.count.type_inv,
    )
