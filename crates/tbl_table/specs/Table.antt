-- A table, line by line: what it is behind each of them, and what is written in its place (Lesk, "Tbl").
use Rattle.std.specs.Prelude.{ℕ, suc, ◌+◌, Bool, true, false, not, ◌&&◌, List, [], ◌∷◌, ◌++◌, length, map, replicate, take, drop, Option, None, Some, is_some, if◌then◌else◌, ◌==◌}
use Rattle.input_source.specs.Bytes.{newline}
use Rattle.tbl_format.specs.Format.{Format, format_read, letters_left_out, no_format}
use Rattle.tbl_options.specs.Notes.{ignored_message, told_at}
use Rattle.tbl_options.specs.Options.{ignored_options, options_end, options_read}
use Rattle.tbl_format.specs.declared.format.FormatPlace.{FormatPlace}
use Rattle.tbl_format.specs.declared.format.FormatPlace.TheVariants.{AtEnd, AtFault, InRows}
use Rattle.tbl_options.specs.declared.message.Message.TheVariants.{EntryCut, LeftOut}
use Rattle.tbl_options.specs.declared.message.Told.{Told}
use Rattle.tbl_kept.specs.Joined.{Joined, behind_joined, goes_on}
use Rattle.tbl_layout.specs.Columns.{Laid}
use Rattle.tbl_layout.specs.DataLines.{ends_row}
use Rattle.tbl_layout.specs.Entries.{Element}
use Rattle.tbl_layout.specs.Spans.{filled, laid}
use Rattle.tbl_layout.specs.Widths.{table_bars}
use Rattle.tbl_giving.specs.Frame.{indent, picture}
use Rattle.tbl_lines.specs.CutEntries.{cut_entries}
use Rattle.tbl_lines.specs.PictureLeft.{table_lines}
use Rattle.tbl_lines.specs.PictureLines.{Sheet}
use Rattle.tbl_data.specs.DataRead.{closed_block, data_line, whole_line}
pub use Rattle.tbl_data.specs.TableRead.{TableRead, bad, columns, no_lines, with_notes}
use Rattle.tbl_data.specs.declared.phase.Phase.{Phase}
use Rattle.tbl_data.specs.declared.phase.Phase.TheVariants.{AtHead, Bad, InData, InFormat}

-- behind bytes of the format, by where its reading stands: its first row serves the next row of data
abbrev pub behind_format : FormatPlace → ℕ → TableRead → TableRead
behind_format (InRows part) n t = record t { phase = InFormat }
behind_format AtEnd n t = record t { phase = InData; next_row = 0 }
behind_format AtFault n t = bad n t

-- a line of the format, with a message for each letter that is left out
abbrev pub with_format : ℕ → Format → TableRead → TableRead
with_format n f t = behind_format f.place n (record t { format = f })

abbrev pub left_out_notes : ℕ → Format → List ℕ → List Told
left_out_notes n f line = map (λ letter. told_at n (LeftOut letter)) (letters_left_out f line)

abbrev pub format_line : ℕ → List ℕ → TableRead → TableRead
format_line n line t =
    with_format n (format_read t.format (line ++ newline ∷ [])) (with_notes (left_out_notes n t.format (line ++ newline ∷ [])) t)

-- options, with a message for each that is ignored, and the format behind them
abbrev pub with_options : ℕ → List ℕ → TableRead → TableRead
with_options n text t =
    with_notes (map (λ word. told_at n (ignored_message word)) (ignored_options text)) (record t { options = options_read text })

abbrev pub options_line : ℕ → List ℕ → List ℕ → TableRead → TableRead
options_line n text line t = format_line n line (with_options n text t)

-- the first line, by where its options end
abbrev pub head_line : Option ℕ → ℕ → List ℕ → TableRead → TableRead
head_line None n line t = format_line n line t
head_line (Some end) n line t = options_line n (take end line) (drop (suc end) line) t

-- a line, by what is read
abbrev pub line_in : Phase → ℕ → List ℕ → TableRead → TableRead
line_in AtHead n line t = head_line (options_end line) n line t
line_in InFormat n line t = format_line n line t
line_in InData n line t = data_line n line t
line_in Bad n line t = t

-- one line more of the input, without its newline, by its number
unfoldable pub line_read : ℕ → List ℕ → TableRead → TableRead
line_read n line t = line_in t.phase n line t

-- the columns of a format, of which those of a fault count
abbrev pub columns_of : Format → ℕ
columns_of f = length f.asked

-- where the reading of the format stands behind the first line and its newline, by where its options end
abbrev pub head_place : Option ℕ → List ℕ → FormatPlace
head_place None line = (format_read no_format (line ++ newline ∷ [])).place
head_place (Some end) line = (format_read no_format (drop (suc end) line ++ newline ∷ [])).place

-- whether a line has its newline
abbrev pub has_newline : List ℕ → Bool
has_newline [] = false
has_newline (b ∷ []) = b == newline
has_newline (b ∷ c ∷ line) = has_newline (c ∷ line)

-- the columns of the first line: without options its keys count once its newline has come
abbrev pub head_columns : Option ℕ → List ℕ → ℕ
head_columns None line = if has_newline line then columns_of (format_read no_format line) else 0
head_columns (Some end) line = columns_of (format_read no_format (drop (suc end) line))

-- the columns that count behind bytes of a line, by what is read
abbrev pub columns_in : Phase → TableRead → List ℕ → ℕ
columns_in AtHead t line = head_columns (options_end line) line
columns_in InFormat t line = columns_of (format_read t.format line)
columns_in InData t line = columns t
columns_in Bad t line = columns t

unfoldable pub columns_at : TableRead → List ℕ → ℕ
columns_at t line = columns_in t.phase t line

-- how many rows and commands there are
unfoldable pub rows : TableRead → ℕ
rows t = length t.body

-- whether one more ends with a line, also if it isn't laid out
abbrev pub ends_in_data : TableRead → List ℕ → Bool
ends_in_data t line =
    not (goes_on line) && ends_row (is_some t.begun) t.options.separator (behind_joined t.pending line)

abbrev pub ends_in : Phase → TableRead → List ℕ → Bool
ends_in AtHead t line = false
ends_in InFormat t line = false
ends_in InData t line = ends_in_data t line
ends_in Bad t line = false

-- and behind a line
unfoldable pub rows_behind : TableRead → List ℕ → ℕ
rows_behind t line = rows t + (if ends_in t.phase t line then 1 else 0)

-- as if it ended there: a line that goes on ends, and then a text block that is open
abbrev pub closed_line : Option Joined → TableRead → TableRead
closed_line None t = t
closed_line (Some j) t = whole_line j.ends 0 j.bytes t

unfoldable pub closed : TableRead → TableRead
closed t = let whole = closed_line t.pending t in closed_block whole.begun whole

-- its columns, and how wide its picture is
abbrev pub laid_out : ℕ → TableRead → Laid
laid_out line_length t = laid (table_bars t.options.boxing t.format) t.options.expanded line_length t.format.asked t.body

-- its bars, and how wide it and its columns are
abbrev pub sheet_of : ℕ → TableRead → Sheet
sheet_of line_length t =
    let table = laid_out line_length t in
    record { bars = table_bars t.options.boxing t.format; width = table.width; columns = table.columns }

-- what stands in it, each text block with its measure
abbrev pub body_filled : ℕ → TableRead → List Element
body_filled line_length t = filled (table_bars t.options.boxing t.format) line_length t.format.asked t.body

-- the messages of its entries that are cut
abbrev pub cut_told : ℕ → ℕ → TableRead → List Told
cut_told n line_length t =
    replicate (cut_entries (sheet_of line_length t) (body_filled line_length t)) (told_at n EntryCut)

-- at the line that ends the table, by what was read then: a format that is open lacks its end, and of each entry that is cut it is told
abbrev pub ended_in : Phase → ℕ → ℕ → TableRead → TableRead
ended_in AtHead n line_length t = bad n t
ended_in InFormat n line_length t = bad n t
ended_in InData n line_length t = with_notes (cut_told n line_length t) t
ended_in Bad n line_length t = t

unfoldable pub ended : ℕ → ℕ → TableRead → TableRead
ended n line_length t = ended_in (closed t).phase n line_length (closed t)

-- whether it passes as it was read
abbrev pub is_bad_phase : Phase → Bool
is_bad_phase AtHead = false
is_bad_phase InFormat = false
is_bad_phase InData = false
is_bad_phase Bad = true

unfoldable pub is_bad : TableRead → Bool
is_bad t = is_bad_phase t.phase

-- its messages
unfoldable pub notes : TableRead → List Told
notes t = t.notes

-- those that are told where it is cut: of a line that goes on none, as its end isn't known
unfoldable pub told_at_cut : TableRead → List Told
told_at_cut t = notes t

-- how wide it is
abbrev pub width_in : Phase → ℕ → TableRead → ℕ
width_in AtHead line_length t = 0
width_in InFormat line_length t = 0
width_in InData line_length t = (laid_out line_length t).width
width_in Bad line_length t = 0

unfoldable pub width : ℕ → TableRead → ℕ
width line_length t = width_in t.phase line_length t

-- what is written in its place
abbrev pub picture_of : ℕ → TableRead → List ℕ
picture_of line_length t =
    let sheet = sheet_of line_length t in
    picture (indent t.options.centered line_length sheet.width) (table_lines sheet (body_filled line_length t))

abbrev pub output_in : Phase → ℕ → TableRead → Option (List ℕ)
output_in AtHead line_length t = None
output_in InFormat line_length t = None
output_in InData line_length t = Some (picture_of line_length t)
output_in Bad line_length t = None

unfoldable pub output : ℕ → TableRead → Option (List ℕ)
output line_length t = output_in t.phase line_length t

-- a table of these lines, the first of which has this number
abbrev pub lines_read : ℕ → List (List ℕ) → TableRead → TableRead
lines_read n [] t = t
lines_read n (line ∷ lines) t = lines_read (suc n) lines (line_read n line t)

-- the table of these lines, where the line that ends it follows, for lines of the page of such a length
abbrev pub ended_after : ℕ → List (List ℕ) → TableRead
ended_after line_length lines = ended (suc (length lines)) line_length (lines_read 1 lines no_lines)

-- what is written in its place, the lines of that, its messages, and how many rows it has
abbrev pub picture_after : ℕ → List (List ℕ) → Option (List ℕ)
picture_after line_length lines = output line_length (ended_after line_length lines)

abbrev pub lines_after : ℕ → List (List ℕ) → List ℕ
lines_after line_length lines =
    let t = ended_after line_length lines in table_lines (sheet_of line_length t) (body_filled line_length t)

abbrev pub notes_after : List (List ℕ) → List Told
notes_after lines = notes (ended_after 65 lines)

abbrev pub rows_after : List (List ℕ) → ℕ
rows_after lines = rows (ended_after 65 lines)
