-- The lines of a table's data: what each of them adds to it (Lesk, "Tbl": Data, Additional Command Lines).
--
-- A line that is whole may be joined of several lines of the input: `ends` says where each of these ended but the last, which has
-- the number `n`. A message names the line on which what it tells begins.
use Rattle.std.specs.Prelude.{ℕ, suc, ◌+◌, ◌-◌, Bool, true, false, not, ◌&&◌, ◌||◌, List, [], ◌∷◌, ◌++◌, length, map, take, drop, nat_lt, Option, None, Some, is_some, option_map, option_to_list, if◌then◌else◌}
use Rattle.tbl_format.specs.Cells.{cell_count}
use Rattle.tbl_format.specs.Format.{FormatRow, further}
use Rattle.tbl_options.specs.Notes.{told_at}
use Rattle.tbl_format.specs.RowsServed.{next_of, row_at}
use Rattle.tbl_options.specs.declared.message.Message.TheVariants.{NotMeasured, RequestInTextBlock, TooManyFields}
use Rattle.tbl_options.specs.declared.message.Told.{Told}
use Rattle.tbl_kept.specs.Joined.{behind_joined, ends_joined, goes_on, line_at}
use Rattle.tbl_layout.specs.Data.{fields}
use Rattle.tbl_layout.specs.DataLines.{block_line_kind, ends_in_block, kind_under, len_of_fields, line_kind, without_opening}
use Rattle.tbl_layout.specs.Entries.{Block, Command as OneCommand, Content, Row as OneRow, Rule as OneRule, completed, content_of_kind, content_under, key_at}
use Rattle.tbl_layout.specs.RuleKeys.{kind_of_key, rule_rows}
use Rattle.tbl_format.specs.declared.format.Key.{Key}
use Rattle.tbl_layout.specs.declared.data_lines.BlockLineKind.{BlockLineKind}
use Rattle.tbl_layout.specs.declared.data_lines.BlockLineKind.TheVariants.{End, Request, Text}
use Rattle.tbl_layout.specs.declared.data_lines.FieldKind.{FieldKind}
use Rattle.tbl_layout.specs.declared.data_lines.FieldKind.TheVariants.{Text as OneText}
use Rattle.tbl_layout.specs.declared.data_lines.LineKind.{LineKind}
use Rattle.tbl_layout.specs.declared.data_lines.LineKind.TheVariants.{Command, Formats, Row, Rule}
use Rattle.tbl_data.specs.TableRead.{RowBegun, TableRead, columns, with_note, with_notes}
use Rattle.tbl_data.specs.declared.phase.Phase.TheVariants.{InFormat}
use Rattle.tbl_text.specs.Items.{Item, items, note}

-- the messages of items that aren't measured, the first of which stands at a place
abbrev pub item_notes : List (ℕ × ℕ) → ℕ → ℕ → List Item → List Told
item_notes ends n place [] = []
item_notes ends n place (item ∷ items) =
    option_to_list (option_map (λ b. told_at (line_at ends place n) (NotMeasured b)) (note item.what))
    ++ item_notes ends n (place + length item.bytes) items

-- those of a field, by what it is: only a text has some
abbrev pub notes_by_kind : FieldKind → List (ℕ × ℕ) → ℕ → ℕ → List ℕ → List Told
notes_by_kind OneText ends n place field = item_notes ends n place (items field)
notes_by_kind kind ends n place field = []

abbrev pub notes_of_field : Key → List (ℕ × ℕ) → ℕ → ℕ → List ℕ → List Told
notes_of_field key ends n place field = notes_by_kind (kind_under key field) ends n place field

-- those of fields under these keys, each with a separator behind it
abbrev pub field_notes : List (ℕ × ℕ) → ℕ → ℕ → List (Key × List ℕ) → List Told
field_notes ends n place [] = []
field_notes ends n place (field ∷ fields) =
    notes_of_field field.0 ends n place field.1 ++ field_notes ends n (place + length field.1 + 1) fields

-- how many rows of rule keys stand in front of the row of the format that serves the next row of data; they themselves; and that row
abbrev pub rules_next : TableRead → ℕ
rules_next t = rule_rows (drop t.next_row t.format.rows)

abbrev pub rules_in_front : TableRead → List FormatRow
rules_in_front t = take (rules_next t) (drop t.next_row t.format.rows)

abbrev pub serving : TableRead → FormatRow
serving t = row_at t.format.rows (t.next_row + rules_next t)

-- how many cells that has
abbrev pub cells : TableRead → ℕ
cells t = cell_count (serving t).keys (columns t)

-- a row is whole that has these fields: the next row of the format comes next, and the last one serves all further rows of data
abbrev pub with_row : List Content → TableRead → TableRead
with_row contents t = record t {
  next_row = next_of (t.next_row + rules_next t) (length t.format.rows);
  begun = None;
  body = t.body ++ OneRow (rules_in_front t) (serving t) (completed (serving t) contents) ∷ [];
}

-- the row of which a text block opens behind some fields, in the cell of a key: under one that says what its fields are it is dropped
abbrev pub row_opened_under : Option FieldKind → List Content → RowBegun
row_opened_under None contents = record { fields = contents; block = Some []; had_surplus = false }
row_opened_under (Some kind) contents = record { fields = contents ++ content_of_kind kind ∷ []; block = None; had_surplus = false }

-- and without a cell
abbrev pub row_opened : Bool → Key → List Content → RowBegun
row_opened true key contents = record { fields = contents; block = None; had_surplus = true }
row_opened false key contents = row_opened_under (kind_of_key key) contents

-- a row of which a text block opens behind its fields, the last of them or too many, or which is whole
abbrev pub with_open_row : Bool → Bool → List Content → TableRead → TableRead
with_open_row true had_surplus contents t =
    record t { begun = Some (row_opened had_surplus (key_at (serving t) (length contents)) contents) }
with_open_row false had_surplus contents t = with_row contents t

-- fields with their keys, from a cell on
abbrev pub keyed : FormatRow → ℕ → List (List ℕ) → List (Key × List ℕ)
keyed format cell [] = []
keyed format cell (field ∷ fields) = (key_at format cell, field) ∷ keyed format (suc cell) fields

-- the message of surplus fields, once a row: it names the line of the separator in front of the first
abbrev pub surplus_notes : Bool → ℕ → List Told
surplus_notes is_first line = if is_first then told_at line TooManyFields ∷ [] else []

-- Fields from a place on, behind those that a row has: those are kept for which there is a cell. The last of them may open a text
-- block.
abbrev pub with_fields : List (ℕ × ℕ) → ℕ → ℕ → List (List ℕ) → List Content → Bool → TableRead → TableRead
with_fields ends n place all in_front had_surplus t =
    let room = cells t - length in_front in
    let texts = take room (without_opening all) in
    let keyed_texts = keyed (serving t) (length in_front) texts in
    let has_surplus = nat_lt room (length all) in
    with_open_row (ends_in_block all) (has_surplus || had_surplus)
    (in_front ++ map (λ field. content_under field.0 field.1) keyed_texts)
    (with_notes (surplus_notes (has_surplus && not had_surplus) (line_at ends (place + len_of_fields texts - 1) n))
    (with_notes (field_notes ends n place keyed_texts) t))

-- a line, by what it is, where no text block is open
abbrev pub with_line : LineKind → List (ℕ × ℕ) → ℕ → List ℕ → TableRead → TableRead
with_line (Rule sign) ends n line t = record t { body = t.body ++ OneRule sign ∷ [] }
with_line Formats ends n line t = record t { phase = InFormat; format = further t.format; next_row = 0 }
with_line Command ends n line t = record t { body = t.body ++ OneCommand line ∷ [] }
with_line Row ends n line t = with_fields ends n 0 (fields t.options.separator line) [] false t

-- the fields of a row whose block ends
abbrev pub fields_with_block : RowBegun → List Content
fields_with_block row = row.fields ++ option_to_list (option_map (Block 0) row.block)

-- the fields of the line that ends a block, behind its `T}`: the first of them is none
abbrev pub behind_block : List (ℕ × ℕ) → ℕ → List (List ℕ) → RowBegun → TableRead → TableRead
behind_block ends n [] row t = with_row (fields_with_block row) t
behind_block ends n (first ∷ []) row t = with_row (fields_with_block row) t
behind_block ends n (first ∷ field ∷ fields) row t =
    with_fields ends n (length first + 3) (field ∷ fields) (fields_with_block row) row.had_surplus t

-- a text block that is open ends with the table
abbrev pub closed_block : Option RowBegun → TableRead → TableRead
closed_block None t = t
closed_block (Some row) t = with_row (fields_with_block row) t

-- one line more of a block
abbrev pub with_text : List ℕ → RowBegun → RowBegun
with_text line row = record row { block = option_map (λ lines. lines ++ line ∷ []) row.block }

-- a line, by what it is, where a text block is open
abbrev pub with_block_line : BlockLineKind → List (ℕ × ℕ) → ℕ → List ℕ → RowBegun → TableRead → TableRead
with_block_line End ends n line row t = behind_block ends n (fields t.options.separator (drop 2 line)) row t
with_block_line Request ends n line row t = with_note (line_at ends 0 n) RequestInTextBlock (record t { begun = Some (with_text line row) })
with_block_line Text ends n line row t =
    with_notes (if is_some row.block then item_notes ends n 0 (items line) else []) (record t { begun = Some (with_text line row) })

-- a line that is whole
abbrev pub with_whole : Option RowBegun → List (ℕ × ℕ) → ℕ → List ℕ → TableRead → TableRead
with_whole None ends n line t = with_line (line_kind line) ends n line t
with_whole (Some row) ends n line t = with_block_line (block_line_kind line) ends n line row t

abbrev pub whole_line : List (ℕ × ℕ) → ℕ → List ℕ → TableRead → TableRead
whole_line ends n line t = with_whole t.begun ends n line (record t { pending = None })

-- a line that goes on in the next: the backslash vanishes, as does the newline
abbrev pub with_pending : ℕ → List ℕ → TableRead → TableRead
with_pending n line t =
    let bytes = behind_joined t.pending (take (length line - 1) line) in
    record t { pending = Some (record { bytes = bytes; ends = ends_joined t.pending ++ (length bytes, n) ∷ [] }) }

-- a line of the data
abbrev pub data_line : ℕ → List ℕ → TableRead → TableRead
data_line n line t =
    if goes_on line then with_pending n line t else whole_line (ends_joined t.pending) n (behind_joined t.pending line) t
