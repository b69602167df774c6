-- What worked bars are told by: the room that lines of formats make for them, and where they stand between two columns.
use Rattle.std.specs.Prelude.{ℕ, ◌+◌, ◌-◌, true, false, List, [], ◌∷◌, map}
use Rattle.tbl_format.specs.Format.{Format, no_format}
use Rattle.tbl_format.specs.FormatWorked.{all_done, does_in}
use Rattle.tbl_options.specs.declared.options.Boxing.{Boxing}
use Rattle.tbl_layout.specs.Columns.{bar_place, needs_of}
use Rattle.tbl_layout.specs.Widths.{left_edge, right_edge, separation, table_bars}
use Rattle.tbl_layout.specs.declared.columns.Column.{Column}

-- a picture whose edges have so many bars, and one with each field boxed
abbrev pub boxed : ℕ → Boxing
boxed count = record { bars = count; is_inside = false }

abbrev pub each_field : Boxing
each_field = record { bars = 1; is_inside = true }

-- the format that a line is
abbrev pub format_of : List ℕ → Format
format_of line = all_done (does_in line).0 no_format

-- the separations behind its columns
abbrev pub separations_by : Boxing → Format → List ℕ
separations_by boxing f = map (separation (table_bars boxing f)) f.asked

abbrev pub separations : Boxing → List ℕ → List ℕ
separations boxing line = separations_by boxing (format_of line)

-- the columns of the left edge and of the right one
abbrev pub edges_by : Boxing → Format → List ℕ
edges_by boxing f = left_edge (table_bars boxing f) ∷ right_edge (table_bars boxing f) f.asked ∷ []

abbrev pub edges : Boxing → List ℕ → List ℕ
edges boxing line = edges_by boxing (format_of line)

-- a column that begins at a place, 5 columns wide
abbrev pub column_from : ℕ → Column
column_from start = record { needs = needs_of []; bars = 0; width = 5; start = start }

-- how far behind a column so many bars begin, where so many places are left behind it
abbrev pub behind_column : ℕ → ℕ → ℕ
behind_column places count = bar_place count (column_from 2) (column_from (7 + places)) - 7
