-- Where no field of the next row is that of the cell above, no line stands below any cell.
use Rattle.std.proofs.Common.{◌≡◌, ℕ, zero, suc, ◌+◌, ◌<◌, ◌≤◌, Bool, false, List, [], ◌∷◌, ◌++◌, drop, get_or, length, refl, sym, ap, subst, ◌∙◌, arith, if◌then◌else◌, Option, None, Some}
use Rattle.std.specs.List.{AllByRecursion}
use Rattle.tbl_format.specs.Cells.{same_cell}
use Rattle.tbl_format.specs.Format.{FormatRow}
use Rattle.tbl_format.specs.RowsServed.{row_at}
use Rattle.tbl_format.specs.declared.format.FormatKey.{FormatKey}
use Rattle.tbl_kept.proofs.CellHeights.{above-seen}
use Rattle.tbl_kept.specs.KeptHeights.{cell_below_kept, cells_of}
use Rattle.tbl_kept.specs.Rows.{Command as CommandKept, KeptElement, Row as RowKept, Rule as RuleKept}
use Rattle.tbl_kept.specs.RowsLaying.{goes_on}
use Rattle.tbl_layout.specs.Heights.{if_above, rules_between}
use Rattle.tbl_layout.specs.KeptEntries.{all_entries, no_entry, said_by_key}
use Rattle.tbl_layout.specs.RuleKeys.{under_keys}
use Rattle.tbl_layout.specs.declared.entry.Entry.{Entry}
use Rattle.tbl_tall.proofs.CellsNext.{append-none, drop-past}
use Rattle.tbl_tall.specs.LinesOver.{NoneGoesOn, NoneOver, lines_kept, over_by}

-- none of some fields is that of the cell above
abbrev pub AllBegin : List Entry → Type 0
AllBegin entries = AllByRecursion (λ (e : Entry). goes_on e.kind ≡ false) entries

pub begins-before : (entries : List Entry) (at : ℕ) (none : Entry) → at < length entries → goes_on (get_or entries at none).kind ≡ false
    → AllBegin (drop (suc at) entries) → AllBegin (drop at entries)
begins-before [] at none some begins rest = absurd (omega (arith, some))
begins-before (e ∷ entries) zero none some begins rest = (begins, rest)
begins-before (e ∷ entries) (suc at) none some begins rest = begins-before entries at none (omega (arith, some)) begins rest

begins-at : (entries : List Entry) → AllBegin entries → (cell : ℕ) → goes_on (get_or entries cell no_entry).kind ≡ false
begins-at [] all cell = refl
begins-at (x ∷ entries) all zero = all.0
begins-at (x ∷ entries) all (suc cell) = begins-at entries all.1 cell

pub begins-all : (keys : List FormatKey) (entries : List Entry) → length keys ≤ length entries → AllBegin entries → NoneGoesOn keys entries
begins-all keys entries few all = λ bars cell.
    subst (λ (more : List FormatKey). goes_on (get_or (entries ++ under_keys said_by_key no_entry more) cell no_entry).kind ≡ false)
    (sym (drop-past keys (length entries) few))
    (subst (λ (es : List Entry). goes_on (get_or es cell no_entry).kind ≡ false) (sym (append-none entries)) (begins-at entries all cell))

-- so no cell is found below
none-found : (bytes : List ℕ) (format : FormatRow) (entries : List Entry) → NoneGoesOn format.keys entries → (found : Option ℕ)
    → if_above (cells_of bytes format.bars format.keys entries) found ≡ None
none-found bytes format entries none None = refl
none-found bytes format entries none (Some other) =
    ap (λ (t : Bool). if t then Some other else None)
    (above-seen bytes format.bars format.keys entries other (get_or (all_entries format entries) other no_entry).kind refl ∙ none format.bars other)

none-kept : (bytes : List ℕ) (formats : List FormatRow) (cell : ℕ) (row : KeptElement) (keys rules height : ℕ) (entries : List Entry)
    → NoneGoesOn (row_at formats keys).keys entries → cell_below_kept bytes formats cell row (RowKept keys rules height entries) ≡ None
none-kept bytes formats cell (RowKept above own_rules own_height fields) keys rules height entries none =
    none-found bytes (row_at formats keys) entries none (same_cell (row_at formats keys).keys (row_at formats above).keys cell)
none-kept bytes formats cell (RuleKept sign) keys rules height entries none = refl
none-kept bytes formats cell (CommandKept from to) keys rules height entries none = refl

pub row-none : (formats : List FormatRow) (keys rule_rows height : ℕ) (entries : List Entry) (elements : List KeptElement)
    → NoneGoesOn (row_at formats keys).keys entries → NoneOver formats (RowKept keys rule_rows height entries ∷ elements)
row-none formats keys rule_rows height entries elements none = λ bytes is_inside row cell rules.
    ap (λ (found : Option ℕ). over_by found (rules_between is_inside rules rule_rows + height)
    (λ below. lines_kept bytes formats is_inside (RowKept keys rule_rows height entries) below 0 elements))
    (none-kept bytes formats cell row keys rule_rows height entries none)
