-- The pictures of small tables, by the lines of their data.
use Rattle.std.specs.Prelude.{ℕ, true, false, not, List, [], ◌∷◌, length, map, Option, ◌==◌}
use Rattle.tbl_format.specs.Format.{FormatRow, nothing_asked, plain_key}
use Rattle.tbl_format.specs.declared.format.Asked.{Asked}
use Rattle.tbl_format.specs.declared.format.FormatKey.{FormatKey}
use Rattle.tbl_format.specs.declared.format.Key.{Key}
use Rattle.tbl_options.specs.declared.options.Boxing.{Boxing}
use Rattle.tbl_layout.specs.Columns.{needs_of}
use Rattle.tbl_layout.specs.Data.{fields}
use Rattle.tbl_layout.specs.DataLines.{line_kind}
use Rattle.tbl_layout.specs.Entries.{Block, Command, Element, Row, Rule, content_read}
use Rattle.tbl_layout.specs.declared.data_lines.LineKind.{LineKind}
use Rattle.tbl_layout.specs.declared.data_lines.LineKind.TheVariants.{Command as CommandKind, Rule as RuleKind}
use Rattle.tbl_layout.specs.RulesWorked.{row_of, column_at}
use Rattle.tbl_layout.specs.Spans.{filled, laid}
use Rattle.tbl_layout.specs.declared.bars.Bars.{Bars}
use Rattle.tbl_layout.specs.Heights.{heights}
use Rattle.tbl_lines.specs.CutEntries.{cut_entries}
use Rattle.tbl_lines.specs.PictureLeft.{picture_left}
use Rattle.tbl_layout.specs.declared.columns.Column.{Column}
use Rattle.tbl_layout.specs.declared.data_lines.RuleSign.{RuleSign}
use Rattle.tbl_lines.specs.PictureLines.{drawn, picture_lines, places_mark}

-- a line of the data: a rule, a command, or a row whose fields are split at colons
abbrev pub element_by : FormatRow → LineKind → List ℕ → Element
element_by format (RuleKind sign) line = Rule sign
element_by format CommandKind line = Command line
element_by format kind line = Row [] format (map content_read (fields 58 line))

abbrev pub elements_read : FormatRow → List (List ℕ) → List Element
elements_read format lines = map (λ line. element_by format (line_kind line) line) lines

-- the lines of a picture that is boxed so, with columns of which this is asked, and these elements; and with rows of such a format
abbrev pub lines_of_elements : Bars → List Asked → List Element → List ℕ
lines_of_elements bars asked elements =
    let table = laid bars false 65 asked elements in
    picture_lines (record { bars = bars; width = table.width; columns = table.columns }) (filled bars 65 asked elements)

abbrev pub lines_laid_out : Bars → List Asked → FormatRow → List (List ℕ) → List ℕ
lines_laid_out bars asked format lines = lines_of_elements bars asked (elements_read format lines)

-- how a picture is boxed: not, by `box`, by `allbox`, by `doublebox`, and by both of these
abbrev pub not_boxed : Boxing
not_boxed = record { bars = 0; is_inside = false }

abbrev pub around : Boxing
around = record { bars = 1; is_inside = false }

abbrev pub double : Boxing
double = record { bars = 2; is_inside = false }

abbrev pub double_each : Boxing
double_each = record { bars = 2; is_inside = true }

-- of one that is boxed so, whose columns have these keys and are at least so wide
abbrev pub lines_boxed : Boxing → Option ℕ → List Key → List (List ℕ) → List ℕ
lines_boxed boxing least keys lines =
    lines_laid_out (record { boxing = boxing; front = 0; has_any = not (boxing.bars == 0) })
    (map (λ k. record nothing_asked { least = least }) keys) (row_of keys) lines

-- and of one that isn't boxed
abbrev pub lines_of_data : Option ℕ → List Key → List (List ℕ) → List ℕ
lines_of_data least keys lines = lines_boxed not_boxed least keys lines

-- the bars in front of a row's first key, and behind each column, of which the last has so many behind it
abbrev pub first_bars : List FormatKey → ℕ
first_bars [] = 0
first_bars (k ∷ keys) = k.bars

abbrev pub bars_asked : List FormatKey → ℕ → List Asked
bars_asked [] last = []
bars_asked (k ∷ []) last = record nothing_asked { bars = last } ∷ []
bars_asked (k ∷ l ∷ keys) last = record nothing_asked { bars = l.bars } ∷ bars_asked (l ∷ keys) last

-- of one that may have bars and is boxed so, whose format asks for the bars of these keys, and rows of such a format
abbrev pub lines_asking : Boxing → List FormatKey → ℕ → FormatRow → List (List ℕ) → List ℕ
lines_asking boxing keys last format lines =
    lines_laid_out (record { boxing = boxing; front = first_bars keys; has_any = true }) (bars_asked keys last) format lines

-- of one whose format is this row; and of one that has such a row beside that of its rows, which has no bars
abbrev pub lines_barred : Boxing → List FormatKey → ℕ → List (List ℕ) → List ℕ
lines_barred boxing keys last lines = lines_asking boxing keys last (record { keys = keys; bars = last }) lines

abbrev pub lines_without_bars : List FormatKey → ℕ → List (List ℕ) → List ℕ
lines_without_bars keys last lines =
    lines_asking not_boxed keys last (record { keys = map (λ (k : FormatKey). record k { bars = 0 }) keys; bars = 0 }) lines

-- elements whose rows have these rows of rule keys in front of them
abbrev pub with_rules : List (List FormatRow) → List Element → List Element
with_rules [] elements = elements
with_rules (rules ∷ further) [] = []
with_rules (rules ∷ further) (Row none format fields ∷ elements) = Row rules format fields ∷ with_rules further elements
with_rules (rules ∷ further) (Rule sign ∷ elements) = Rule sign ∷ with_rules (rules ∷ further) elements
with_rules (rules ∷ further) (Command bytes ∷ elements) = Command bytes ∷ with_rules (rules ∷ further) elements

-- a row of rule keys
abbrev pub keys_alone : List Key → FormatRow
keys_alone keys = row_of keys

-- the lines of a picture with these bars, whose format asks for the bars of these keys, and has such rows of rule keys in front of those
-- of its rows
abbrev pub lines_ruled_by : Bars → List FormatKey → ℕ → List (List FormatRow) → List (List ℕ) → List ℕ
lines_ruled_by bars keys last rules lines =
    lines_of_elements bars (bars_asked keys last) (with_rules rules (elements_read (record { keys = keys; bars = last }) lines))

-- of one that may have bars and is boxed so, and of one that has none
abbrev pub lines_ruled : Boxing → List FormatKey → ℕ → List (List FormatRow) → List (List ℕ) → List ℕ
lines_ruled boxing keys last rules lines =
    lines_ruled_by (record { boxing = boxing; front = first_bars keys; has_any = true }) keys last rules lines

abbrev pub lines_ruled_alone : List Key → List (List FormatRow) → List (List ℕ) → List ℕ
lines_ruled_alone keys rules lines =
    lines_ruled_by (record { boxing = not_boxed; front = 0; has_any = false }) (row_of keys).keys 0 rules lines

-- what stands in a table with rows of several formats: rows of these keys, and one that has a block of these lines in front of other fields
abbrev pub rows_under : List FormatKey → List (List ℕ) → List Element
rows_under keys lines = elements_read (record { keys = keys; bars = 0 }) lines

abbrev pub row_with_block : List FormatKey → List (List ℕ) → List ℕ → Element
row_with_block keys block line = Row [] (record { keys = keys; bars = 0 }) (Block 0 block ∷ map content_read (fields 58 line))

-- its lines: it may have bars and is boxed so, and asks for so many bars behind each column; and where its columns are at least so wide
abbrev pub lines_of_rows : Boxing → List ℕ → List Element → List ℕ
lines_of_rows boxing bars elements =
    lines_of_elements (record { boxing = boxing; front = 0; has_any = true }) (map (λ n. record nothing_asked { bars = n }) bars) elements

abbrev pub lines_of_widths : Boxing → List (Option ℕ) → List Element → List ℕ
lines_of_widths boxing widths elements =
    lines_of_elements (record { boxing = boxing; front = 0; has_any = not (boxing.bars == 0) })
    (map (λ least. record nothing_asked { least = least }) widths) elements

-- the same by what is left of cells, also of several rows
abbrev pub lines_left_of : Bars → List Asked → List Element → List ℕ
lines_left_of bars asked elements =
    let table = laid bars false 65 asked elements in
    let all = filled bars 65 asked elements in
    let columns = table.columns in
    picture_left (record { bars = bars; width = table.width; columns = columns }) (heights bars.boxing.is_inside (length columns) all) all

abbrev pub tall_lines : Boxing → List ℕ → List Element → List ℕ
tall_lines boxing bars elements =
    lines_left_of (record { boxing = boxing; front = 0; has_any = true }) (map (λ n. record nothing_asked { bars = n }) bars) elements

-- how many of its entries are cut
abbrev pub cut_in : Boxing → List ℕ → List Element → ℕ
cut_in boxing bars elements =
    let all = map (λ n. record nothing_asked { bars = n }) bars in
    let own : Bars = record { boxing = boxing; front = 0; has_any = true } in
    let table = laid own false 65 all elements in
    cut_entries (record { bars = own; width = table.width; columns = table.columns }) (filled own 65 all elements)

-- a key whose entries have no width
abbrev pub free_key : ℕ → Key → ℕ → FormatKey
free_key bars key column = record (plain_key bars key column) { has_no_width = true }

-- what is drawn behind a column with so many bars behind it, of which so many meet, in front of a column four places further
abbrev pub places_drawn : ℕ → Option RuleSign → Option RuleSign → ℕ → List ℕ
places_drawn bars sign next count = drawn 0 (places_mark sign next count (column_at 0 3 bars) (column_at 7 2 0) ∷ [])
