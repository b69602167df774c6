-- Where what is without width in cells that begin with their row ends at the latest, by the elements that are kept (Lesk, "Tbl": Format).
use Rattle.std.specs.Prelude.{ℕ, zero, suc, Bool, false, List, [], ◌∷◌, drop}
use Rattle.tbl_format.specs.Format.{FormatRow}
use Rattle.tbl_format.specs.RowsServed.{row_at, no_keys}
use Rattle.tbl_format.specs.declared.format.FormatKey.{FormatKey}
use Rattle.tbl_kept.specs.Rows.{Command as CommandKept, KeptElement, Row as RowKept, Rule as RuleKept, fields_of}
use Rattle.tbl_layout.specs.Entries.{Content, Element}
use Rattle.tbl_lines.specs.CellsLeft.{Left, all_keys, all_stopped, first_entry}
use Rattle.tbl_line_cells.specs.declared.cells.CellLeft.{CellLeft}

-- an element that is kept is a row
abbrev pub IsRow : KeptElement → Type 0
IsRow (RowKept keys rules height entries) = Unit {0}
IsRow (RuleKept sign) = ⊥
IsRow (CommandKept from to) = ⊥

-- the row of the formats that serves it, and its fields: none, where it is no row
abbrev pub format_kept : List FormatRow → KeptElement → FormatRow
format_kept formats (RowKept keys rules height entries) = row_at formats keys
format_kept formats (RuleKept sign) = no_keys
format_kept formats (CommandKept from to) = no_keys

abbrev pub fields_kept : List ℕ → List FormatRow → KeptElement → List Content
fields_kept bytes formats (RowKept keys rules height entries) = fields_of bytes (row_at formats keys) entries
fields_kept bytes formats (RuleKept sign) = []
fields_kept bytes formats (CommandKept from to) = []

-- behind how many columns the first of its cells begins in which something stands, from a cell on that begins behind so many
abbrev pub first_kept : List ℕ → List FormatRow → ℕ → ℕ → KeptElement → ℕ → ℕ
first_kept bytes formats columns from row cell =
    first_entry columns from from (drop cell (all_keys columns (format_kept formats row))) (drop cell (fields_kept bytes formats row))

-- whether something stands in one of some cells, and behind how many columns it begins
abbrev pub is_used_at : List CellLeft → ℕ → Bool
is_used_at [] at = false
is_used_at (c ∷ cells) zero = c.is_used
is_used_at (c ∷ cells) (suc at) = is_used_at cells at

abbrev pub start_from : ℕ → List CellLeft → ℕ → ℕ
start_from from cells zero = from
start_from from [] (suc at) = from
start_from from (c ∷ cells) (suc at) = start_from c.key.end cells at

abbrev pub start_in : List CellLeft → ℕ → ℕ
start_in cells at = start_from 0 cells at

-- from one of some cells on it is said where they end, of the first ones not yet
abbrev pub stopped_from : ℕ → List FormatKey → List Element → ℕ → ℕ → List Left → List Left
stopped_from columns keys elements zero cell lefts = all_stopped columns keys elements cell lefts
stopped_from columns keys elements (suc at) cell [] = []
stopped_from columns keys elements (suc at) cell (l ∷ lefts) = l ∷ stopped_from columns keys elements at (suc cell) lefts
