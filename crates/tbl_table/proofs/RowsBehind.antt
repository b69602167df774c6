-- The rows and commands of a table behind a line, and the columns that count in it.
use Rattle.std.proofs.Common.{◌≡◌, ℕ, suc, ◌+◌, ◌-◌, ◌≤◌, Bool, true, false, not, ◌&&◌, ◌||◌, List, [], ◌∷◌, ◌++◌, length, map, take, drop, Option, Some, None, refl, ap, arith, length-append, nat_lt, if◌then◌else◌, is_some}
use Rattle.input_source.specs.Bytes.{newline}
use Rattle.tbl_format.specs.Format.{format_read}
use Rattle.tbl_options.specs.Options.{options_end}
use Rattle.tbl_format.specs.declared.format.FormatPlace.{FormatPlace}
use Rattle.tbl_format.specs.declared.format.FormatPlace.TheVariants.{AtEnd, AtFault, InRows}
use Rattle.tbl_kept.specs.Joined.{behind_joined, ends_joined, goes_on, line_at}
use Rattle.tbl_layout.specs.Data.{fields}
use Rattle.tbl_layout.specs.DataLines.{behind_first, block_kind_ends_row, block_line_kind, ends_in_block, ends_row, kind_ends_row, len_of_fields, line_kind, without_opening}
use Rattle.tbl_layout.specs.Entries.{Command as OneCommand, Content, Row as OneRow, Rule as OneRule, completed}
use Rattle.tbl_layout.specs.declared.data_lines.BlockLineKind.{BlockLineKind}
use Rattle.tbl_layout.specs.declared.data_lines.BlockLineKind.TheVariants.{End, Request, Text}
use Rattle.tbl_layout.specs.declared.data_lines.LineKind.{LineKind}
use Rattle.tbl_layout.specs.declared.data_lines.LineKind.TheVariants.{Command, Formats, Row, Rule}
use Rattle.tbl_data.specs.DataRead.{behind_block, cells, field_notes, fields_with_block, keyed, rules_in_front, serving, surplus_notes, whole_line, with_block_line, with_fields, with_line, with_open_row, with_pending, with_row, with_whole}
use Rattle.tbl_table.specs.Table.{behind_format, columns_at, columns_in, ends_in, format_line, head_line, left_out_notes, line_in, line_read, rows, rows_behind, with_options}
use Rattle.tbl_data.proofs.FieldSteps.{content-of}
use Rattle.tbl_data.specs.TableRead.{RowBegun, TableRead, with_notes}
use Rattle.tbl_data.specs.declared.phase.Phase.{Phase}
use Rattle.tbl_data.specs.declared.phase.Phase.TheVariants.{AtHead, Bad, InData, InFormat}

-- one more, or none
abbrev one-if : Bool → ℕ
one-if ends = if ends then 1 else 0

pub one-at_most : (ends : Bool) → (if ends then 1 else 0) ≤ 1
one-at_most true = omega arith
one-at_most false = omega arith

-- the format adds none
format-rows : (place : FormatPlace) (n : ℕ) (t : TableRead) → (behind_format place n t).body ≡ t.body
format-rows (InRows part) n t = refl
format-rows AtEnd n t = refl
format-rows AtFault n t = refl

line-rows : (n : ℕ) (line : List ℕ) (t : TableRead) → (format_line n line t).body ≡ t.body
line-rows n line t =
    let f = format_read t.format (line ++ newline ∷ []) in
    format-rows f.place n (record (with_notes (left_out_notes n t.format (line ++ newline ∷ [])) t) { format = f })

head-rows : (end : Option ℕ) (n : ℕ) (line : List ℕ) (t : TableRead) → (head_line end n line t).body ≡ t.body
head-rows None n line t = line-rows n line t
head-rows (Some end) n line t =
    line-rows n (drop (suc end) line) (with_options n (take end line) t)

-- a row that isn't whole yet adds none either
row-more : (contents : List Content) (t : TableRead) → length (with_row contents t).body ≡ length t.body + 1
row-more contents t = length-append t.body (OneRow (rules_in_front t) (serving t) (completed (serving t) contents) ∷ [])

open-rows : (opens had : Bool) (contents : List Content) (t : TableRead) → length (with_open_row opens had contents t).body ≡ length t.body + one-if (not opens)
open-rows true had contents t = omega arith
open-rows false had contents t = row-more contents t

fields-rows : (ends : List (ℕ × ℕ)) (n place : ℕ) (all : List (List ℕ)) (in_front : List Content) (had_surplus : Bool) (t : TableRead)
    → length (with_fields ends n place all in_front had_surplus t).body ≤ length t.body + one-if (not (ends_in_block all))
fields-rows ends n place all in_front had_surplus t =
    let column = length in_front in
    let room = cells t - column in
    let texts = take room (without_opening all) in
    let fields = keyed (serving t) column texts in
    let has_surplus = nat_lt room (length all) in
    let surplus = surplus_notes (has_surplus && not had_surplus) (line_at ends (place + len_of_fields texts - 1) n) in
    omega (
      arith,
      open-rows (ends_in_block all) (has_surplus || had_surplus) (in_front ++ map content-of fields)
          (with_notes surplus (with_notes (field_notes ends n place fields) t)),
    )

kind-rows : (kind : LineKind) (ends : List (ℕ × ℕ)) (n : ℕ) (line : List ℕ) (t : TableRead)
    → length (with_line kind ends n line t).body ≤ length t.body + one-if (kind_ends_row kind t.options.separator line)
kind-rows (Rule sign) ends n line t = omega (arith, length-append t.body (OneRule sign ∷ []))
kind-rows Formats ends n line t = omega arith
kind-rows Command ends n line t = omega (arith, length-append t.body (OneCommand line ∷ []))
kind-rows Row ends n line t = fields-rows ends n 0 (fields t.options.separator line) [] false t

behind-rows : (ends : List (ℕ × ℕ)) (n : ℕ) (all : List (List ℕ)) (row : RowBegun) (t : TableRead)
    → length (behind_block ends n all row t).body ≤ length t.body + one-if (not (ends_in_block (behind_first all)))
behind-rows ends n [] row t = omega (arith, row-more (fields_with_block row) t)
behind-rows ends n (first ∷ []) row t = omega (arith, row-more (fields_with_block row) t)
behind-rows ends n (first ∷ field ∷ more) row t =
    fields-rows ends n (length first + 3) (field ∷ more) (fields_with_block row) row.had_surplus t

block-rows : (kind : BlockLineKind) (ends : List (ℕ × ℕ)) (n : ℕ) (line : List ℕ) (row : RowBegun) (t : TableRead)
    → length (with_block_line kind ends n line row t).body ≤ length t.body + one-if (block_kind_ends_row kind t.options.separator line)
block-rows End ends n line row t = behind-rows ends n (fields t.options.separator (drop 2 line)) row t
block-rows Request ends n line row t = omega arith
block-rows Text ends n line row t = omega arith

with-rows : (begun : Option RowBegun) (ends : List (ℕ × ℕ)) (n : ℕ) (line : List ℕ) (t : TableRead)
    → length (with_whole begun ends n line t).body ≤ length t.body + one-if (ends_row (is_some begun) t.options.separator line)
with-rows None ends n line t = kind-rows (line_kind line) ends n line t
with-rows (Some row) ends n line t = block-rows (block_line_kind line) ends n line row t

pub whole-rows : (ends : List (ℕ × ℕ)) (n : ℕ) (line : List ℕ) (t : TableRead)
    → length (whole_line ends n line t).body ≤ length t.body + one-if (ends_row (is_some t.begun) t.options.separator line)
whole-rows ends n line t = with-rows t.begun ends n line (record t { pending = None })

data-by : (on : Bool) (n : ℕ) (line : List ℕ) (t : TableRead)
    → length (if on then with_pending n line t else whole_line (ends_joined t.pending) n (behind_joined t.pending line) t).body
    ≤ length t.body + one-if (not on && ends_row (is_some t.begun) t.options.separator (behind_joined t.pending line))
data-by true n line t = omega arith
data-by false n line t = whole-rows (ends_joined t.pending) n (behind_joined t.pending line) t

rows-in : (phase : Phase) (n : ℕ) (line : List ℕ) (t : TableRead) → length (line_in phase n line t).body ≤ length t.body + one-if (ends_in phase t line)
rows-in AtHead n line t = omega (arith, ap (λ b. length b) (head-rows (options_end line) n line t))
rows-in InFormat n line t = omega (arith, ap (λ b. length b) (line-rows n line t))
rows-in InData n line t = data-by (goes_on line) n line t
rows-in Bad n line t = omega arith

-- no more than are counted behind it
pub rows_behind_line : (n : ℕ) (line : List ℕ) (t : TableRead) → rows (line_read n line t) ≤ rows_behind t line
unfolding rows_behind rows line_read
rows_behind_line n line t = rows-in t.phase n line t

-- by whether one ends
pub rows-behind : (t : TableRead) (line : List ℕ) (b : Bool) → ends_in t.phase t line ≡ b → rows_behind t line ≡ length t.body + (if b then 1 else 0)
unfolding rows_behind rows
rows-behind t line b is = ap (λ (e : Bool). length t.body + (if e then 1 else 0)) is

-- a line makes one at most
pub rows-few : (t : TableRead) (line : List ℕ) → rows_behind t line ≤ rows t + 1
unfolding rows_behind
rows-few t line =
    let one = one-at_most (ends_in t.phase t line) in
    omega (arith, one)

-- the columns of a line, by what is read
pub columns-in : (t : TableRead) (line : List ℕ) (p : Phase) → t.phase ≡ p → columns_at t line ≡ columns_in p t line
unfolding columns_at
columns-in t line p is = ap (λ (q : Phase). columns_in q t line) is
