-- The messages of a table so far stay.
use Rattle.std.proofs.Common.{ℕ, suc, ◌+◌, ◌-◌, Bool, true, false, not, ◌&&◌, ◌||◌, List, [], ◌∷◌, ◌++◌, length, map, take, drop, Option, Some, None, refl, sym, ap, ◌∙◌, append-nil, append_assoc, nat_lt, if◌then◌else◌}
use Rattle.input_source.specs.Bytes.{newline}
use Rattle.tbl_format.specs.Format.{Format, format_read}
use Rattle.tbl_options.specs.Options.{options_end}
use Rattle.tbl_format.specs.declared.format.FormatPlace.{FormatPlace}
use Rattle.tbl_format.specs.declared.format.FormatPlace.TheVariants.{AtEnd, AtFault, InRows}
use Rattle.tbl_options.specs.declared.message.Told.{Told}
use Rattle.tbl_kept.specs.Joined.{Joined, behind_joined, ends_joined, goes_on, line_at}
use Rattle.tbl_layout.specs.Data.{fields}
use Rattle.tbl_layout.specs.DataLines.{block_line_kind, ends_in_block, len_of_fields, line_kind, without_opening}
use Rattle.tbl_layout.specs.Entries.{Content}
use Rattle.tbl_layout.specs.declared.data_lines.BlockLineKind.{BlockLineKind}
use Rattle.tbl_layout.specs.declared.data_lines.BlockLineKind.TheVariants.{End, Request, Text}
use Rattle.tbl_layout.specs.declared.data_lines.LineKind.{LineKind}
use Rattle.tbl_layout.specs.declared.data_lines.LineKind.TheVariants.{Command, Formats, Row, Rule}
use Rattle.tbl_data.specs.DataRead.{closed_block, behind_block, cells, field_notes, fields_with_block, keyed, serving, surplus_notes, whole_line, with_block_line, with_fields, with_line, with_open_row, with_pending, with_whole}
use Rattle.tbl_data.proofs.FieldSteps.{content-of}
use Rattle.tbl_table.specs.NotesStay.{Begins, NotesStay}
use Rattle.tbl_table.specs.Table.{behind_format, closed, closed_line, cut_told, ended, ended_in, format_line, head_line, left_out_notes, line_in, line_read, notes, told_at_cut, with_options}
use Rattle.tbl_data.specs.TableRead.{RowBegun, TableRead, with_notes}
use Rattle.tbl_data.specs.declared.phase.Phase.{Phase}
use Rattle.tbl_data.specs.declared.phase.Phase.TheVariants.{AtHead, Bad, InData, InFormat}

-- a list begins with itself
pub begins_same : {A : Type 0} (xs : List A) → Begins xs xs
begins_same xs = record { rest = []; is = sym (append-nil xs) }

-- and a longer one with it
begins_longer : {A : Type 0} (xs ys : List A) → Begins xs (xs ++ ys)
begins_longer xs ys = record { rest = ys; is = refl }

begins_behind : {A : Type 0} (xs ys zs : List A) → Begins xs ys → Begins ys zs → Begins xs zs
begins_behind xs ys zs first second = record {
  rest = first.rest ++ second.rest;
  is = second.is ∙ ap (λ all. all ++ second.rest) first.is ∙ append_assoc xs first.rest second.rest;
}

-- behind bytes of the format
place_stays : (place : FormatPlace) (n : ℕ) (t : TableRead) → Begins t.notes (behind_format place n t).notes
place_stays (InRows part) n t = begins_same t.notes
place_stays AtEnd n t = begins_same t.notes
place_stays AtFault n t = begins_longer t.notes _

format_stays : (n : ℕ) (line : List ℕ) (t : TableRead) → Begins t.notes (format_line n line t).notes
format_stays n line t =
    let f : Format = format_read t.format (line ++ newline ∷ []) in
    let told : List Told = left_out_notes n t.format (line ++ newline ∷ []) in
    begins_behind t.notes (t.notes ++ told) (format_line n line t).notes (begins_longer t.notes told)
    (place_stays f.place n (record (with_notes told t) { format = f }))

-- and behind options
options_stay : (n : ℕ) (text line : List ℕ) (t : TableRead) → Begins t.notes (format_line n line (with_options n text t)).notes
options_stay n text line t =
    begins_behind t.notes (with_options n text t).notes (format_line n line (with_options n text t)).notes
    (begins_longer t.notes _) (format_stays n line (with_options n text t))

head_stays : (end : Option ℕ) (n : ℕ) (line : List ℕ) (t : TableRead) → Begins t.notes (head_line end n line t).notes
head_stays None n line t = format_stays n line t
head_stays (Some end) n line t = options_stay n (take end line) (drop (suc end) line) t

-- a row that is whole, or of which a text block opens
open_stays : (opens had : Bool) (contents : List Content) (t : TableRead) → Begins t.notes (with_open_row opens had contents t).notes
open_stays true had contents t = begins_same t.notes
open_stays false had contents t = begins_same t.notes

-- fields
fields_by : (opens had : Bool) (contents : List Content) (surplus : List Told) (t : TableRead)
    → Begins t.notes (with_open_row opens had contents (with_notes surplus t)).notes
fields_by opens had contents surplus t =
    begins_behind t.notes (t.notes ++ surplus) (with_open_row opens had contents (with_notes surplus t)).notes (begins_longer t.notes surplus) (open_stays opens had contents (with_notes surplus t))

fields_stay : (ends : List (ℕ × ℕ)) (n place : ℕ) (all : List (List ℕ)) (in_front : List Content) (had_surplus : Bool) (t : TableRead)
    → Begins t.notes (with_fields ends n place all in_front had_surplus t).notes
fields_stay ends n place all in_front had_surplus t =
    let column = length in_front in
    let room = cells t - column in
    let texts = take room (without_opening all) in
    let fields = keyed (serving t) column texts in
    let has_surplus = nat_lt room (length all) in
    let told = field_notes ends n place fields in
    begins_behind t.notes (t.notes ++ told) (with_fields ends n place all in_front had_surplus t).notes (begins_longer t.notes told)
    (fields_by (ends_in_block all) (has_surplus || had_surplus) (in_front ++ map content-of fields)
    (surplus_notes (has_surplus && not had_surplus) (line_at ends (place + len_of_fields texts - 1) n)) (with_notes told t))

-- a whole line of the data
line_kind_stays : (kind : LineKind) (ends : List (ℕ × ℕ)) (n : ℕ) (line : List ℕ) (t : TableRead) → Begins t.notes (with_line kind ends n line t).notes
line_kind_stays (Rule sign) ends n line t = begins_same t.notes
line_kind_stays Formats ends n line t = begins_same t.notes
line_kind_stays Command ends n line t = begins_same t.notes
line_kind_stays Row ends n line t = fields_stay ends n 0 (fields t.options.separator line) [] false t

behind_block_stays : (ends : List (ℕ × ℕ)) (n : ℕ) (all : List (List ℕ)) (row : RowBegun) (t : TableRead) → Begins t.notes (behind_block ends n all row t).notes
behind_block_stays ends n [] row t = begins_same t.notes
behind_block_stays ends n (first ∷ []) row t = begins_same t.notes
behind_block_stays ends n (first ∷ field ∷ more) row t =
    fields_stay ends n (length first + 3) (field ∷ more) (fields_with_block row) row.had_surplus t

block_kind_stays : (kind : BlockLineKind) (ends : List (ℕ × ℕ)) (n : ℕ) (line : List ℕ) (row : RowBegun) (t : TableRead)
    → Begins t.notes (with_block_line kind ends n line row t).notes
block_kind_stays End ends n line row t = behind_block_stays ends n (fields t.options.separator (drop 2 line)) row t
block_kind_stays Request ends n line row t = begins_longer t.notes _
block_kind_stays Text ends n line row t = begins_longer t.notes _

with_whole_stays : (begun : Option RowBegun) (ends : List (ℕ × ℕ)) (n : ℕ) (line : List ℕ) (t : TableRead) → Begins t.notes (with_whole begun ends n line t).notes
with_whole_stays None ends n line t = line_kind_stays (line_kind line) ends n line t
with_whole_stays (Some row) ends n line t = block_kind_stays (block_line_kind line) ends n line row t

whole_stays : (ends : List (ℕ × ℕ)) (n : ℕ) (line : List ℕ) (t : TableRead) → Begins t.notes (whole_line ends n line t).notes
whole_stays ends n line t = with_whole_stays t.begun ends n line (record t { pending = None })

data_stays : (on : Bool) (n : ℕ) (line : List ℕ) (t : TableRead)
    → Begins t.notes (if on then with_pending n line t else whole_line (ends_joined t.pending) n (behind_joined t.pending line) t).notes
data_stays true n line t = begins_same t.notes
data_stays false n line t = whole_stays (ends_joined t.pending) n (behind_joined t.pending line) t

line_stays : (phase : Phase) (n : ℕ) (line : List ℕ) (t : TableRead) → Begins t.notes (line_in phase n line t).notes
line_stays AtHead n line t = head_stays (options_end line) n line t
line_stays InFormat n line t = format_stays n line t
line_stays InData n line t = data_stays (goes_on line) n line t
line_stays Bad n line t = begins_same t.notes

-- where a line that goes on ends, and a text block that is open
closed_line_stays : (pending : Option Joined) (t : TableRead) → Begins t.notes (closed_line pending t).notes
closed_line_stays None t = begins_same t.notes
closed_line_stays (Some j) t = whole_stays j.ends 0 j.bytes t

closed_block_stays : (begun : Option RowBegun) (t : TableRead) → Begins t.notes (closed_block begun t).notes
closed_block_stays None t = begins_same t.notes
closed_block_stays (Some row) t = begins_same t.notes

cut_closed : (t : TableRead) → Begins (told_at_cut t) (notes (closed t))
unfolding told_at_cut notes closed
cut_closed t =
    let whole = closed_line t.pending t in
    begins_behind t.notes whole.notes (closed_block whole.begun whole).notes (closed_line_stays t.pending t) (closed_block_stays whole.begun whole)

ended_stays : (phase : Phase) (n line_length : ℕ) (t : TableRead) → Begins t.notes (ended_in phase n line_length t).notes
ended_stays AtHead n line_length t = begins_longer t.notes _
ended_stays InFormat n line_length t = begins_longer t.notes _
ended_stays InData n line_length t = begins_longer t.notes (cut_told n line_length t)
ended_stays Bad n line_length t = begins_same t.notes

-- behind the line that goes on
pub behind_closed : (line line_length : ℕ) (t : TableRead) → Begins (notes (closed t)) (notes (ended line line_length t))
unfolding notes closed ended
behind_closed line line_length t = ended_stays (closed t).phase line line_length (closed t)

line_behind : (line : ℕ) (bytes : List ℕ) (t : TableRead) → Begins (told_at_cut t) (told_at_cut (line_read line bytes t))
unfolding told_at_cut notes line_read
line_behind line bytes t = line_stays t.phase line bytes t

end_behind : (line line_length : ℕ) (t : TableRead) → Begins (told_at_cut t) (notes (ended line line_length t))
unfolding told_at_cut notes closed ended
end_behind line line_length t =
    begins_behind t.notes (closed t).notes (ended_in (closed t).phase line line_length (closed t)).notes (cut_closed t) (ended_stays (closed t).phase line line_length (closed t))

pub notes_stay : NotesStay
notes_stay = record { behind_line = line_behind; closing = cut_closed; at_end = end_behind }
