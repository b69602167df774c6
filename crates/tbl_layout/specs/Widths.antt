-- How wide the texts and the columns of a table are, in columns of the page (Lesk, "Tbl": Formatting).
use Rattle.std.specs.Prelude.{ℕ, zero, suc, ◌+◌, max, Bool, false, not, ◌||◌, List, [], ◌∷◌, Option, None, Some, if◌then◌else◌, ◌==◌}
use Rattle.input_escapes.specs.Measures.{byte_columns}
use Rattle.input_source.specs.Bytes.{is_dropped}
use Rattle.tbl_options.specs.declared.options.Boxing.{Boxing}
use Rattle.tbl_format.specs.Format.{Format}
use Rattle.tbl_format.specs.declared.format.Asked.{Asked}
use Rattle.tbl_layout.specs.declared.bars.Bars.{Bars}

-- the width of a byte of a text: of one that is dropped there is nothing
abbrev pub width_in_text : ℕ → ℕ
width_in_text b = if is_dropped b then 0 else byte_columns b

-- the separation that is asked behind a column, else 3
abbrev pub separation_asked : Option ℕ → ℕ
separation_asked None = 3
separation_asked (Some n) = n

-- how many bars stand at an edge of a boxed picture, where a format has so many, and between two of its columns
abbrev pub edge_bars : Boxing → ℕ → ℕ
edge_bars boxing n = max boxing.bars n

abbrev pub inner_bars : Boxing → ℕ → ℕ
inner_bars boxing n = if boxing.is_inside then max 1 n else n

-- a separation with a bar has 3 places at least, one with two bars 4
abbrev pub least_separation : ℕ → ℕ
least_separation zero = 0
least_separation (suc n) = n + 3

-- the separation behind a column: it has room for the most bars that stand there
abbrev pub separation : Bars → Asked → ℕ
separation bars a = max (separation_asked a.separation) (least_separation (inner_bars bars.boxing a.bars))

-- an edge: its bars, and one blank inside
abbrev pub edge_width : ℕ → ℕ
edge_width zero = 0
edge_width (suc n) = n + 2

-- the edges of a picture, each as wide as the most bars that stand there
abbrev pub left_edge : Bars → ℕ
left_edge bars = edge_width (edge_bars bars.boxing bars.front)

abbrev pub last_bars : List Asked → ℕ
last_bars [] = 0
last_bars (a ∷ []) = a.bars
last_bars (a ∷ b ∷ asked) = last_bars (b ∷ asked)

abbrev pub right_edge : Bars → List Asked → ℕ
right_edge bars asked = edge_width (edge_bars bars.boxing (last_bars asked))

-- whether a format has a bar behind a column
abbrev pub has_bar : List Asked → Bool
has_bar [] = false
has_bar (a ∷ asked) = not (a.bars == 0) || has_bar asked

-- the bars of a table whose picture is boxed so
abbrev pub table_bars : Boxing → Format → Bars
table_bars boxing f = record {
  boxing = boxing;
  front = f.front;
  has_any = not (boxing.bars == 0) || boxing.is_inside || not (f.front == 0) || has_bar f.asked;
}
