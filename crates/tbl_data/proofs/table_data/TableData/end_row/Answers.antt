use Rattle.std.proofs.Common.{◌+◌, ◌<◌, ◌≤◌, List, drop, length, refl, sym, subst, arith}
use Rattle.tbl_data.specs.LineTaken.{EndsRow, Grows}
use Rattle.tbl_data.specs.TableData.{EndsBy}
use Rattle.tbl_data.specs.declared.table_data.OpenBlock.TheVariants.{Nothing}
use Rattle.tbl_data.specs.declared.table_data.TableData.{TableData}
use Rattle.tbl_data.proofs.RowSteps.{last-served, next-served, row-by, row-ends, row-grows, row-settled}
use Rattle.tbl_format.specs.FormatRows.{AreWithin}
use Rattle.tbl_format.specs.RowsServed.{all_rows, row_at}
use Rattle.tbl_format.specs.declared.format.FormatKey.{FormatKey}
use Rattle.tbl_kept.specs.Rows.{KeptRows}
use Rattle.tbl_layout.specs.RuleKeys.{rule_rows}
use Rattle.tbl_data.proofs.table_data.TableData.end_row.Goals as goal

pub returns-then-self-all_rows-clause-ends : goal.returns-then-self-all_rows-clause-ends
returns-then-self-all_rows-clause-ends c bytes fits =
    let d = c.args.self.now in
    let formats = all_rows d.format.format in
    let rules = rule_rows (drop (d.keys + 1) formats) in
    let rows = row-by d.keys d.rules (row_at formats d.keys) c.row_of_all.result.now d.rows c.end_row.new.self c.row_of_all.ensures.keys c.end_row.ensures in
    let cells = subst (λ (ks : List FormatKey). AreWithin (length d.format.format.asked) ks) c.row_of_all.ensures.keys c.row_of_all.ensures.within in
    let more : d.keys + 1 < length formats = omega (arith, c.if-self-all_rows.true, c.all_rows.ensures) in
    let next = next-served d.format.format d.keys d.rules fits.served more rules refl in
    subst (λ (e : TableData). EndsRow bytes d e) (sym c.serve_from.ensures)
    (subst (λ (k : KeptRows). EndsRow bytes d (record d { keys = d.keys + 1 + rules; rules = rules; rows = k; «open» = Nothing })) (sym rows) (row-ends bytes d (d.keys + 1 + rules) rules next cells fits))

pub returns-then-self-all_rows-clause-grown : goal.returns-then-self-all_rows-clause-grown
returns-then-self-all_rows-clause-grown c =
    let d = c.args.self.now in
    let formats = all_rows d.format.format in
    let rules = rule_rows (drop (d.keys + 1) formats) in
    subst (λ (e : TableData). Grows 0 1 d e) (sym c.serve_from.ensures)
    (subst (λ (k : KeptRows). Grows 0 1 d (record d { keys = d.keys + 1 + rules; rules = rules; rows = k; «open» = Nothing })) (sym (c.end_row.ensures 0)) (row-grows d (d.keys + 1 + rules) rules d.keys d.rules (record { keys = c.row_of_all.result.now; bars = 0 })))

pub returns-then-self-all_rows-clause-settled : goal.returns-then-self-all_rows-clause-settled
returns-then-self-all_rows-clause-settled c place ends =
    let d = c.args.self.now in
    let formats = all_rows d.format.format in
    let rules = rule_rows (drop (d.keys + 1) formats) in
    subst (λ (e : TableData). EndsBy place e) (sym c.serve_from.ensures)
    (subst (λ (k : KeptRows). EndsBy place (record d { keys = d.keys + 1 + rules; rules = rules; rows = k; «open» = Nothing })) (sym (c.end_row.ensures 0)) (row-settled d (d.keys + 1 + rules) rules d.keys d.rules (record { keys = c.row_of_all.result.now; bars = 0 }) place ends))

pub returns-else-self-all_rows-clause-ends : goal.returns-else-self-all_rows-clause-ends
returns-else-self-all_rows-clause-ends c bytes fits =
    let d = c.args.self.now in
    let formats = all_rows d.format.format in
    let rows = row-by d.keys d.rules (row_at formats d.keys) c.row_of_all.result.now d.rows c.end_row.new.self c.row_of_all.ensures.keys c.end_row.ensures in
    let cells = subst (λ (ks : List FormatKey). AreWithin (length d.format.format.asked) ks) c.row_of_all.ensures.keys c.row_of_all.ensures.within in
    let last : length formats ≤ d.keys + 1 = omega (arith, c.if-self-all_rows.false, c.all_rows.ensures) in
    let next = last-served d.format.format d.keys d.rules fits.served last in
    subst (λ (k : KeptRows). EndsRow bytes d (record d { rules = 0; rows = k; «open» = Nothing })) (sym rows) (row-ends bytes d d.keys 0 next cells fits)

pub returns-else-self-all_rows-clause-grown : goal.returns-else-self-all_rows-clause-grown
returns-else-self-all_rows-clause-grown c =
    let d = c.args.self.now in
    subst (λ (k : KeptRows). Grows 0 1 d (record d { rules = 0; rows = k; «open» = Nothing })) (sym (c.end_row.ensures 0)) (row-grows d d.keys 0 d.keys d.rules (record { keys = c.row_of_all.result.now; bars = 0 }))

pub returns-else-self-all_rows-clause-settled : goal.returns-else-self-all_rows-clause-settled
returns-else-self-all_rows-clause-settled c place ends =
    let d = c.args.self.now in
    subst (λ (k : KeptRows). EndsBy place (record d { rules = 0; rows = k; «open» = Nothing })) (sym (c.end_row.ensures 0)) (row-settled d d.keys 0 d.keys d.rules (record { keys = c.row_of_all.result.now; bars = 0 }) place ends)
