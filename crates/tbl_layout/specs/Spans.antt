-- Cells of several columns: the measures of their blocks, the room that their entries need, and where they stand (Lesk, "Tbl": Format,
-- Text Blocks).
use Rattle.std.specs.Prelude.{ℕ, suc, ◌+◌, ◌-◌, ◌*◌, ◌/◌, max, min, Bool, ◌||◌, List, [], ◌∷◌, ◌++◌, length, map, take, drop, is_some, unwrap_or, if◌then◌else◌, ◌==◌}
use Rattle.std.specs.List.{list_any}
use Rattle.tbl_format.specs.Cells.{by_cells}
use Rattle.tbl_format.specs.declared.format.Asked.{Asked}
use Rattle.tbl_format.specs.declared.format.FormatKey.{FormatKey}
use Rattle.tbl_format.specs.declared.format.Key.{Key}
use Rattle.tbl_layout.specs.Columns.{alone, counted, equalled, columns_from, gaps, laid_by, Laid, stands, total, with_widths}
use Rattle.tbl_layout.specs.Entries.{Block, Command, Content, Element, Row, Rule}
use Rattle.tbl_layout.specs.LayoutLaws.{last_end}
use Rattle.tbl_layout.specs.declared.bars.Bars.{Bars}
use Rattle.tbl_layout.specs.declared.columns.Column.{Column}
use Rattle.tbl_layout.specs.declared.columns.Stands.{Stands}

-- the measure of the blocks of a cell, in a table of so many columns: where `w` is asked of one of its columns, these widths and the
-- separations between, of which no more count than the widest picture has; else its part of the line
abbrev pub has_least : List Asked → Bool
has_least asked = list_any (λ a. is_some a.least) asked

abbrev pub least_of : List Asked → ℕ
least_of asked = total (map (λ a. unwrap_or a.least 0) asked)

abbrev pub measure_of : Bars → ℕ → ℕ → List Asked → ℕ
measure_of bars line_length count asked =
    if has_least asked then min (least_of asked + total (gaps bars asked)) 4294967295
    else max 1 (line_length * length asked / (count + 1))

-- a field, its block with a measure
abbrev pub filled_in : ℕ → Content → Content
filled_in measure (Block other lines) = Block measure lines
filled_in measure field = field

-- the fields of a row, of whose cells so much is asked, in a table of so many columns
abbrev pub filled_fields : Bars → ℕ → ℕ → List (List Asked) → List Content → List Content
filled_fields bars line_length count [] fields = fields
filled_fields bars line_length count (asked ∷ cells) [] = []
filled_fields bars line_length count (asked ∷ cells) (field ∷ fields) =
    filled_in (measure_of bars line_length count asked) field ∷ filled_fields bars line_length count cells fields

-- what stands in a table, each block with its measure
abbrev pub filled_element : Bars → ℕ → List Asked → Element → Element
filled_element bars line_length asked (Row rules format fields) =
    Row rules format (filled_fields bars line_length (length asked) (by_cells 0 format.keys asked) fields)
filled_element bars line_length asked (Rule sign) = Rule sign
filled_element bars line_length asked (Command bytes) = Command bytes

abbrev pub filled : Bars → ℕ → List Asked → List Element → List Element
filled bars line_length asked elements = map (filled_element bars line_length asked) elements

-- an entry of several columns, behind so many, and how wide it is, if it has a width
pub record Wide : Type 0 where
  pub from : ℕ
  pub count : ℕ
  pub width : ℕ

abbrev pub if_wide : ℕ → ℕ → ℕ → List Wide
if_wide from count width = if count == 1 || width == 0 then [] else record { from = from; count = count; width = width } ∷ []

-- those of a row, under its keys, the first of which has a cell behind so many columns
abbrev pub wide_entries : {A : Type 0} → (Key → A → Stands) → ℕ → List FormatKey → List A → List Wide
wide_entries entry_of from keys [] = []
wide_entries entry_of from [] (field ∷ fields) = []
wide_entries entry_of from (k ∷ keys) (field ∷ fields) =
    if_wide from (k.end - from) (alone (counted k (entry_of k.key field))) ++ wide_entries entry_of k.end keys fields

-- and those of all rows, in order
abbrev pub all_wide : List Element → List Wide
all_wide [] = []
all_wide (Row rules format fields ∷ elements) = wide_entries stands 0 format.keys fields ++ all_wide elements
all_wide (Rule sign ∷ elements) = all_wide elements
all_wide (Command bytes ∷ elements) = all_wide elements

-- columns of a cell that has so many, the first of which stands behind some of them: so many columns of the page are spread over all
abbrev pub spread_over : ℕ → ℕ → ℕ → List Column → List Column
spread_over more count at [] = []
spread_over more count at (c ∷ columns) =
    record c { width = c.width + (suc at * more / count - at * more / count) } ∷ spread_over more count (suc at) columns

-- how much wider an entry is than the columns of its cell, of which so much is asked, and the separations between
abbrev pub lacks : Bars → List Asked → List Column → ℕ → ℕ
lacks bars asked columns width = width - (total (map (λ c. c.width) columns) + total (gaps bars asked))

-- columns of which some have room for an entry, and for all of some
abbrev pub fitted : Bars → List Asked → Wide → List Column → List Column
fitted bars asked w columns =
    let own = take w.count (drop w.from columns) in
    let more = lacks bars (take w.count (drop w.from asked)) own w.width in
    take w.from columns ++ (spread_over more w.count 0 own ++ drop (w.from + w.count) columns)

abbrev pub all_fitted : Bars → List Asked → List Wide → List Column → List Column
all_fitted bars asked [] columns = columns
all_fitted bars asked (w ∷ entries) columns = all_fitted bars asked entries (fitted bars asked w columns)

-- the columns of a table with their widths, by what is asked of each: as wide as their own entries need, then as those of several
-- columns need, then those with `e` alike
abbrev pub columns_laid : Bars → ℕ → List Asked → List Element → List Column
columns_laid bars line_length asked elements =
    let all = filled bars line_length asked elements in
    equalled asked (all_fitted bars asked (all_wide all) (with_widths asked (columns_from all 0 asked)))

-- and with their places
abbrev pub laid : Bars → Bool → ℕ → List Asked → List Element → Laid
laid bars is_expanded line_length asked elements =
    laid_by bars is_expanded line_length asked (columns_laid bars line_length asked elements)

-- the columns of a cell as one, from the first one's beginning to the last one's end: the entries of the first are its own
abbrev pub as_one : List Column → Column
as_one [] = record { needs = record { alone = 0; strip = 0; left = 0; right = 0; split = 0 }; bars = 0; width = 0; start = 0 }
as_one (c ∷ []) = c
as_one (c ∷ d ∷ columns) = record c { width = last_end (d.start + d.width) columns - c.start }

-- the columns of a row with these keys, those of each cell as one
abbrev pub cells_of : List FormatKey → List Column → List Column
cells_of keys columns = map as_one (by_cells 0 keys columns)
