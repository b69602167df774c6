-- The columns of a table: how wide they are, and where they begin (Lesk, "Tbl": Format, Formatting).
use Rattle.std.specs.Prelude.{ℕ, suc, ◌+◌, ◌-◌, ◌*◌, ◌/◌, ◌≤◌, max, min, nat_lt, Bool, false, not, ◌&&◌, ◌||◌, List, [], ◌∷◌, ◌++◌, get_or, map, replicate, Contains, Option, None, Some, unwrap_or, if◌then◌else◌, ◌==◌}
use Rattle.tbl_format.specs.declared.format.Asked.{Asked}
use Rattle.tbl_format.specs.declared.format.FormatKey.{FormatKey}
use Rattle.tbl_format.specs.declared.format.Key.{Key}
use Rattle.tbl_format.specs.declared.format.Key.TheVariants.{Alphabetic, Center, Left, Numeric, Right, WideNumeric}
use Rattle.tbl_layout.specs.Entries.{Block, Command, Content, Element, Row, Rule, Text, is_number}
use Rattle.tbl_layout.specs.Widths.{left_edge, right_edge, separation}
use Rattle.tbl_layout.specs.declared.bars.Bars.{Bars}
use Rattle.tbl_layout.specs.declared.columns.Column.{Column}
use Rattle.tbl_layout.specs.declared.columns.Needs.{Needs}
use Rattle.tbl_layout.specs.declared.columns.Stands.{Stands}
use Rattle.tbl_layout.specs.declared.columns.Stands.TheVariants.{Alone, Apart, InStrip, Nowhere}
use Rattle.tbl_text.specs.BlockLines.{has_word, lines_of, widest}
use Rattle.tbl_text.specs.BlockWords.{Part, parts_of}
use Rattle.tbl_text.specs.Measuring.{measured}
use Rattle.tbl_text.specs.declared.measure.Split.{Split}

-- an entry that isn't split, by its key
abbrev pub unsplit : Key → ℕ → Stands
unsplit Alphabetic columns = InStrip columns
unsplit (_) columns = Alone columns

-- a text, by where it is split
abbrev pub text_stands : Key → ℕ → Option Split → Stands
text_stands key columns None = unsplit key columns
text_stands key columns (Some s) = Apart s.left (columns - s.left)

-- a block that has no word is no entry; else it is as wide as its widest line
abbrev pub block_stands : ℕ → Key → List Part → Stands
block_stands measure key parts = if has_word parts then unsplit key (widest (lines_of measure parts)) else Nowhere

-- the entry that a field is under its key; rules are none
abbrev pub stands : Key → Content → Stands
stands key (Text []) = Nowhere
stands key (Text (b ∷ bytes)) = let m = measured (is_number key) (b ∷ bytes) in text_stands key m.width m.split
stands key (Block measure lines) = block_stands measure key (parts_of lines)
stands key field = Nowhere

-- the greatest of some numbers, 0 of none
abbrev pub greatest : List ℕ → ℕ
greatest [] = 0
greatest (n ∷ numbers) = max n (greatest numbers)

-- what an entry adds to its column: alone, in the strip of entries under `a`, which has a place in front, and to the two strips of
-- entries that are split
abbrev pub alone : Stands → ℕ
alone (Alone columns) = columns
alone (_) = 0

abbrev pub in_strip : Stands → ℕ
in_strip (InStrip columns) = columns + 1
in_strip (_) = 0

abbrev pub left_of : Stands → ℕ
left_of (Apart left right) = left
left_of (_) = 0

abbrev pub right_of : Stands → ℕ
right_of (Apart left right) = right
right_of (_) = 0

abbrev pub split_width : Stands → ℕ
split_width (Apart left right) = left + right
split_width (_) = 0

-- what entries need, and with one more
abbrev pub needs_of : List Stands → Needs
needs_of entries = record {
  alone = greatest (map alone entries);
  strip = greatest (map in_strip entries);
  left = greatest (map left_of entries);
  right = greatest (map right_of entries);
  split = greatest (map split_width entries);
}

abbrev pub needing : Needs → Stands → Needs
needing n entry = record {
  alone = max n.alone (alone entry);
  strip = max n.strip (in_strip entry);
  left = max n.left (left_of entry);
  right = max n.right (right_of entry);
  split = max n.split (split_width entry);
}

-- the columns of the widest entry: one in the strip needs a place more in front
abbrev pub widest_entry : Needs → ℕ
widest_entry n = greatest (n.alone ∷ (n.strip - 1) ∷ n.split ∷ [])

-- the width of a column, by what is asked of it and what its entries need: the parts of split ones stand side by side
abbrev pub width_by : Asked → Needs → ℕ
width_by asked n = greatest (unwrap_or asked.least 0 ∷ n.alone ∷ n.strip ∷ (n.left + n.right) ∷ [])

abbrev pub width_of : Asked → List Stands → ℕ
width_of asked entries = width_by asked (needs_of entries)

-- so many columns of the page are enough for a column: for what is asked of it, for each entry that stands alone or, with a place
-- in front, in the strip, and for the left part of each split entry beside the right part of any
pub record Holds (asks : Asked) (entries : List Stands) (width : ℕ) : Type 0 where
  pub asked : unwrap_or asks.least 0 ≤ width
  pub alone : (columns : ℕ) → Contains entries (Alone columns) → columns ≤ width
  pub strip : (columns : ℕ) → Contains entries (InStrip columns) → columns + 1 ≤ width
  pub sides : (left right left_other right_other : ℕ) → Contains entries (Apart left right) → Contains entries (Apart left_other right_other)
      → left + right_other ≤ width

-- the width of a column is enough, and whatever is enough is no less
pub record IsLeast (asked : Asked) (entries : List Stands) : Type 0 where
  pub holds : Holds asked entries (width_of asked entries)
  pub least : (width : ℕ) → Holds asked entries width → width_of asked entries ≤ width

-- how a cell of so many columns stands in them: in its one column, and in none of several
abbrev pub in_columns : ℕ → Stands → List Stands
in_columns count entry = if count == 1 then entry ∷ [] else replicate count Nowhere

-- an entry under a key, but for one with `z`, counts for the widths of columns
abbrev pub counted : FormatKey → Stands → Stands
counted k entry = if k.has_no_width then Nowhere else entry

-- and how all fields of a row do, under its keys, the first of which has a cell behind so many columns
abbrev pub row_stands : {A : Type 0} → (Key → A → Stands) → ℕ → List FormatKey → List A → List Stands
row_stands entry_of from keys [] = []
row_stands entry_of from [] (field ∷ fields) = entry_of Left field ∷ row_stands entry_of (suc from) [] fields
row_stands entry_of from (k ∷ keys) (field ∷ fields) =
    in_columns (k.end - from) (counted k (entry_of k.key field)) ++ row_stands entry_of k.end keys fields

-- the entries of a column
abbrev pub entries_of : ℕ → List Element → List Stands
entries_of column [] = []
entries_of column (Row rules format fields ∷ elements) =
    get_or (row_stands stands 0 format.keys fields) column Nowhere ∷ entries_of column elements
entries_of column (Rule sign ∷ elements) = entries_of column elements
entries_of column (Command bytes ∷ elements) = entries_of column elements

-- the columns of a table from one on: what their entries need
abbrev pub columns_from : List Element → ℕ → List Asked → List Column
columns_from elements column [] = []
columns_from elements column (a ∷ asked) =
    record { needs = needs_of (entries_of column elements); bars = a.bars; width = 0; start = 0 }
    ∷ columns_from elements (suc column) asked

-- columns with the most bars behind each
abbrev pub with_bars : List Asked → List Column → List Column
with_bars [] columns = columns
with_bars (a ∷ asked) [] = []
with_bars (a ∷ asked) (c ∷ columns) = record c { bars = a.bars } ∷ with_bars asked columns

-- each gets the width that its own entries need
abbrev pub with_widths : List Asked → List Column → List Column
with_widths [] columns = columns
with_widths (a ∷ asked) [] = []
with_widths (a ∷ asked) (c ∷ columns) = record c { width = width_by a c.needs } ∷ with_widths asked columns

-- the width of a column, if it is to be as wide as others, and with such a width
abbrev pub equal_width : Asked → Column → ℕ
equal_width a c = if a.is_equal then c.width else 0

abbrev pub made_equal : ℕ → Asked → Column → Column
made_equal width a c = if a.is_equal then record c { width = width } else c

abbrev pub equal_widths : List Asked → List Column → List ℕ
equal_widths [] columns = []
equal_widths (a ∷ asked) [] = []
equal_widths (a ∷ asked) (c ∷ columns) = equal_width a c ∷ equal_widths asked columns

abbrev pub with_equal : ℕ → List Asked → List Column → List Column
with_equal width [] columns = columns
with_equal width (a ∷ asked) [] = []
with_equal width (a ∷ asked) (c ∷ columns) = made_equal width a c ∷ with_equal width asked columns

-- those with `e` get the width of the widest of them
abbrev pub equalled : List Asked → List Column → List Column
equalled asked columns = with_equal (greatest (equal_widths asked columns)) asked columns

-- the gaps in front of columns, the first of which is this one: in front of each other one its separation from the one before it
abbrev pub gaps_from : Bars → ℕ → List Asked → List ℕ
gaps_from bars gap [] = []
gaps_from bars gap (a ∷ asked) = gap ∷ gaps_from bars (separation bars a) asked

-- in front of the first column of a table there is none
abbrev pub gaps : Bars → List Asked → List ℕ
gaps bars asked = gaps_from bars 0 asked

-- all of some numbers
abbrev pub total : List ℕ → ℕ
total [] = 0
total (n ∷ numbers) = n + total numbers

-- the width of columns with their gaps, and with the edges of the picture
abbrev pub width_of_all : Bars → List Column → List Asked → ℕ
width_of_all bars columns asked =
    total (map (λ c. c.width) columns) + total (gaps bars asked) + (left_edge bars + right_edge bars asked)

-- the part of so many columns more that falls to a front of all gaps: none where these are nothing
abbrev pub share : ℕ → ℕ → ℕ → ℕ
share more front all = if all == 0 then 0 else more * front / all

-- gaps in whose front so much of all lies, with their parts of what is spread, in proportion
abbrev pub spread : ℕ → ℕ → ℕ → List ℕ → List ℕ
spread more all front [] = []
spread more all front (gap ∷ gaps) = (gap + (share more (front + gap) all - share more front all)) ∷ spread more all (front + gap) gaps

-- where columns begin, each behind its gap
abbrev pub placed : ℕ → List ℕ → List Column → List Column
placed place [] columns = columns
placed place (gap ∷ gaps) [] = []
placed place (gap ∷ gaps) (c ∷ columns) = record c { start = place + gap } ∷ placed (place + gap + c.width) gaps columns

-- how many columns of the page are spread over the gaps, so that the picture is as wide as the line
abbrev pub lacking : Bool → ℕ → ℕ → ℕ → ℕ
lacking is_expanded line_length width all = if is_expanded && not (all == 0) then line_length - width else 0

-- a table's columns, and how wide its picture is
pub record Laid : Type 0 where
  pub columns : List Column
  pub width : ℕ

-- so many columns of the page are spread over all gaps; the first column stands behind the edge
abbrev pub placed_with : Bars → ℕ → List Asked → List Column → List Column
placed_with bars more asked columns =
    let spaces = gaps bars asked in placed (left_edge bars) (spread more (total spaces) 0 spaces) columns

abbrev pub laid_with : Bars → ℕ → ℕ → List Asked → List Column → Laid
laid_with bars more width asked columns = record { columns = placed_with bars more asked columns; width = width + more }

abbrev pub laid_by : Bars → Bool → ℕ → List Asked → List Column → Laid
laid_by bars is_expanded line_length asked columns =
    let width = width_of_all bars columns asked in
    laid_with bars (lacking is_expanded line_length width (total (gaps bars asked))) width asked columns

-- where so many bars begin between two columns
abbrev pub bar_place : ℕ → Column → Column → ℕ
bar_place count c d = let end = c.start + c.width in end + (d.start - end - count) / 2

-- where the places of bars end behind a column and in front of the next one: a rule that rules the first has them, and the second one's
-- begins behind them. There is one place, or two where any row has two bars there; without a separation there is none
abbrev pub bars_end : Column → Column → ℕ
bars_end c d = let count = min (max 1 c.bars) (d.start - (c.start + c.width)) in bar_place count c d + count

-- and where they begin: a rule that rules the second column alone has them from there on
abbrev pub bars_begin : Column → Column → ℕ
bars_begin c d = bar_place (min (max 1 c.bars) (d.start - (c.start + c.width))) c d

-- where an entry begins in its column
abbrev pub shift : Key → ℕ → ℕ
shift Right spare = spare
shift Center spare = spare / 2
shift Numeric spare = spare / 2
shift WideNumeric spare = spare / 2
shift (_) spare = 0

abbrev pub place_in : Column → Key → Stands → ℕ
place_in c key Nowhere = 0
place_in c key (Apart left right) = (c.width - (c.needs.left + c.needs.right)) / 2 + c.needs.left - left
place_in c key (InStrip columns) = max 1 ((c.width - (c.needs.strip - 1)) / 2)
place_in c key (Alone columns) = shift key (c.width - columns)

-- whether an entry passes an end of its columns where its key puts it
abbrev pub passes : Column → Key → Stands → Bool
passes c key Nowhere = false
passes c key (Apart left right) =
    let middle = (c.width - (c.needs.left + c.needs.right)) / 2 + c.needs.left in nat_lt middle left || nat_lt c.width (middle + right)
passes c key (InStrip columns) = nat_lt c.width (place_in c key (InStrip columns) + columns)
passes c key (Alone columns) = nat_lt c.width columns

-- where a rule begins that is as wide as its column's widest entry: under `n` and `a` it isn't moved
abbrev pub shift_of_rule : Key → ℕ → ℕ
shift_of_rule Right spare = spare
shift_of_rule Center spare = spare / 2
shift_of_rule (_) spare = 0

abbrev pub place_of_rule : Column → Key → ℕ
place_of_rule c key = shift_of_rule key (c.width - widest_entry c.needs)
