-- How many lines of the picture a cell has below its row, without the rules that a box adds (Lesk, "Tbl": Format).
use Rattle.std.specs.Prelude.{◌≡◌, ℕ, suc, ◌+◌, Bool, false, List, [], ◌∷◌, drop, get_or, length, Option, None, Some}
use Rattle.tbl_format.specs.Format.{FormatRow}
use Rattle.tbl_format.specs.declared.format.FormatKey.{FormatKey}
use Rattle.tbl_kept.specs.KeptHeights.{cell_below_kept}
use Rattle.tbl_kept.specs.Rows.{Command as CommandKept, KeptElement, Row as RowKept, Rule as RuleKept, rows_in_front}
use Rattle.tbl_kept.specs.RowsLaying.{goes_on}
use Rattle.tbl_layout.specs.Entries.{Command, Element, Row, Rule}
use Rattle.tbl_layout.specs.Heights.{cell_below, rules_between}
use Rattle.tbl_layout.specs.KeptEntries.{all_entries, no_entry}
use Rattle.tbl_layout.specs.declared.entry.Entry.{Entry}

-- none, if no cell goes on with it, else so many and those of that cell
abbrev pub over_by : Option ℕ → ℕ → (ℕ → ℕ) → ℕ
over_by None here more = 0
over_by (Some below) here more = here + more below

-- of a cell of a row of these keys, where so many lines of rules stand in front of these elements, whose rows have these heights
abbrev pub lines_below : Bool → List FormatKey → ℕ → ℕ → List ℕ → List Element → ℕ
lines_below is_inside keys cell rules heights [] = 0
lines_below is_inside keys cell rules heights (Row rule_rows format fields ∷ elements) =
    over_by (cell_below keys format.keys fields cell) (rules_between is_inside rules (length rule_rows) + get_or heights 0 0)
    (λ below. lines_below is_inside format.keys below 0 (drop 1 heights) elements)
lines_below is_inside keys cell rules heights (Rule sign ∷ elements) = lines_below is_inside keys cell (suc rules) heights elements
lines_below is_inside keys cell rules heights (Command bytes ∷ elements) = lines_below is_inside keys cell rules heights elements

-- of a cell of a row that is kept, in front of elements that are
abbrev pub lines_kept : List ℕ → List FormatRow → Bool → KeptElement → ℕ → ℕ → List KeptElement → ℕ
lines_kept bytes formats is_inside row cell rules [] = 0
lines_kept bytes formats is_inside row cell rules (RowKept keys rule_rows height entries ∷ elements) =
    over_by (cell_below_kept bytes formats cell row (RowKept keys rule_rows height entries))
    (rules_between is_inside rules rule_rows + height)
    (λ below. lines_kept bytes formats is_inside (RowKept keys rule_rows height entries) below 0 elements)
lines_kept bytes formats is_inside row cell rules (RuleKept sign ∷ elements) = lines_kept bytes formats is_inside row cell (suc rules) elements
lines_kept bytes formats is_inside row cell rules (CommandKept from to ∷ elements) = lines_kept bytes formats is_inside row cell rules elements

-- none stands below any cell of a row in front of some elements
abbrev pub NoneOver : List FormatRow → List KeptElement → Type 0
NoneOver formats elements = (bytes : List ℕ) (is_inside : Bool) (row : KeptElement) (cell rules : ℕ)
    → lines_kept bytes formats is_inside row cell rules elements ≡ 0

-- no cell of a row of these keys with these fields goes on with one above it
abbrev pub NoneGoesOn : List FormatKey → List Entry → Type 0
NoneGoesOn keys entries = (bars cell : ℕ) → goes_on (get_or (all_entries (record { keys = keys; bars = bars }) entries) cell no_entry).kind ≡ false

-- the heights of the rows among elements that are kept
abbrev pub heights_kept : List KeptElement → List ℕ
heights_kept [] = []
heights_kept (RowKept keys rule_rows height entries ∷ elements) = height ∷ heights_kept elements
heights_kept (RuleKept sign ∷ elements) = heights_kept elements
heights_kept (CommandKept from to ∷ elements) = heights_kept elements

-- as many rows of rule keys stand in front of a row as it says
abbrev pub HasInFront : List FormatRow → KeptElement → Type 0
HasInFront formats (RowKept keys rule_rows height entries) = length (rows_in_front formats keys rule_rows) ≡ rule_rows
HasInFront formats (RuleKept sign) = Unit {0}
HasInFront formats (CommandKept from to) = Unit {0}
