-- A row gets its height, as its calls find it.
use Rattle.std.proofs.Common.{◌≡◌, ℕ, ◌+◌, ◌<◌, Bool, List, ◌∷◌, ◌++◌, length, map, take, drop, get_or, set, sym, ap, subst, ◌∙◌}
use Rattle.std.specs.List.{AllByRecursion, slice_range}
use Rattle.std.proofs.lemmas.List.{drop_more}
use Rattle.tbl_format.specs.Cells.{cell_count}
use Rattle.tbl_format.specs.Format.{FormatRow}
use Rattle.tbl_format.specs.RowsServed.{row_at}
use Rattle.tbl_format.specs.declared.format.FormatKey.{FormatKey}
use Rattle.tbl_layout.specs.Heights.{ends_in_front_of, lefts_from, rules_between}
use Rattle.tbl_layout.specs.declared.entry.Entry.{Entry}
use Rattle.tbl_kept.specs.KeptHeights.{LeftBehind, cells_of, raised_behind, seen}
use Rattle.tbl_kept.specs.Rows.{AreLaid, ElementLaid, KeptElement, elements_of}
use Rattle.tbl_kept.specs.RowsInside.{kept_in}
use Rattle.tbl_kept.specs.declared.rows.Element.{Element}
use Rattle.tbl_kept.specs.declared.rows.Element.TheVariants.{Command as OneCommand, Row as OneRow}
use Rattle.tbl_kept.specs.declared.rows.KeptRow.{KeptRow}
use Rattle.tbl_kept.proofs.HeightSteps.{height-same, length-in_front, pass-set, row-raised-by}

-- a row as its calls find it
pub row-passed : (bytes : List ℕ) (formats : List FormatRow) (is_inside : Bool) (columns : ℕ) (above : List FormatKey) (left : List ℕ) (rules : ℕ)
    → (fields : List Entry) (elements : List Element) (at : ℕ) (row : KeptRow) (after : List ℕ) (height : ℕ) (lent below : List FormatKey)
    (slice entries : List Entry)
    → at < length elements → get_or elements at (OneCommand 0 0) ≡ OneRow row → lent ≡ (row_at formats row.keys).keys
    → slice ≡ slice_range fields row.from row.to
    → AllByRecursion (ElementLaid bytes formats columns) (map (kept_in fields) (drop at elements))
    → ((bars : ℕ) → AreLaid bytes (record { keys = lent; bars = bars }) 0 slice
    → LeftBehind (lefts_from above left (rules_between is_inside rules row.rules) (record { keys = lent; bars = bars })
    (cells_of bytes bars lent slice) 0 (cell_count lent columns)) lent (seen bytes bars below entries) height after)
    → ((bars : ℕ) (keys : List FormatKey) (cell : ℕ)
    → ends_in_front_of keys (elements_of bytes formats (map (kept_in fields) (drop (at + 1) elements))) cell
    ≡ ends_in_front_of keys (seen bytes bars below entries) cell)
    → map (kept_in fields) (take (at + 1) (set elements at (OneRow (record row { height = height }))))
    ++ raised_behind bytes formats is_inside columns lent after 0
    (map (kept_in fields) (drop (at + 1) (set elements at (OneRow (record row { height = height })))))
    ≡ map (kept_in fields) (take at elements)
    ++ raised_behind bytes formats is_inside columns above left rules (map (kept_in fields) (drop at elements))
row-passed bytes formats is_inside columns above left rules fields elements at row after height lent below slice entries more is same own laid left_of ends =
    let K : Element → KeptElement = kept_in fields in
    let none = OneCommand 0 0 in
    let rest = map K (drop (at + 1) elements) in
    let bars = (row_at formats row.keys).bars in
    let first : ElementLaid bytes formats columns (K (OneRow row)) =
    subst (λ (e : Element). ElementLaid bytes formats columns (K e)) is
    (subst (λ (es : List Element). AllByRecursion (ElementLaid bytes formats columns) (map K es)) (drop_more elements at none more) laid).0 in
    let lent-laid : AreLaid bytes (record { keys = lent; bars = bars }) 0 slice =
    subst (λ (ks : List FormatKey). AreLaid bytes (record { keys = ks; bars = bars }) 0 slice) (sym same)
    (subst (λ (es : List Entry). AreLaid bytes (row_at formats row.keys) 0 es) (sym own) first.laid) in
    let count = length-in_front formats row.keys row.rules first.serves first.in_front in
    let lefts : List Entry → List ℕ =
    λ es. lefts_from above left (rules_between is_inside rules row.rules) (record { keys = lent; bars = bars }) (cells_of bytes bars lent es) 0 (cell_count lent columns) in
    let here = left_of bars lent-laid in
    let found : LeftBehind (lefts slice) lent (elements_of bytes formats rest) height after = record {
      high = here.high ∙ sym (height-same lent (elements_of bytes formats rest) (seen bytes bars below entries) (ends bars lent) (lefts slice));
      left = here.left;
    } in
    pass-set K (raised_behind bytes formats is_inside columns above left rules) (raised_behind bytes formats is_inside columns lent after 0) elements at
    none more (OneRow (record row { height = height }))
    (row-raised-by bytes formats is_inside columns above left rules row fields rest height after lent same count
    (subst (λ (es : List Entry). LeftBehind (lefts es) lent (elements_of bytes formats rest) height after) own found)
    ∙ ap (λ (e : Element). raised_behind bytes formats is_inside columns above left rules (K e ∷ rest)) (sym is))
