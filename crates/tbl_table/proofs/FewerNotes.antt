-- A whole line of the data has one message for each of its bytes at the most, where there is a column.
use Rattle.std.proofs.Common.{◌≡◌, ℕ, suc, ◌+◌, ◌-◌, ◌≤◌, Bool, false, not, ◌&&◌, ◌||◌, List, [], ◌∷◌, ◌++◌, length, map, take, drop, Option, Some, None, refl, arith, length-append, length-drop, nat_lt, if◌then◌else◌, is_some}
use Rattle.tbl_data.specs.DataRead.{behind_block, cells, field_notes, fields_with_block, item_notes, keyed, serving, surplus_notes, whole_line, with_block_line, with_fields, with_line, with_whole}
use Rattle.tbl_data.proofs.FieldSteps.{content-of}
use Rattle.tbl_data.specs.TableRead.{RowBegun, TableRead, columns, with_notes}
use Rattle.tbl_options.specs.Notes.{told_at}
use Rattle.tbl_options.specs.declared.message.Message.TheVariants.{RequestInTextBlock}
use Rattle.tbl_options.specs.declared.message.Told.{Told}
use Rattle.tbl_kept.specs.Joined.{line_at}
use Rattle.tbl_layout.specs.Data.{fields}
use Rattle.tbl_layout.specs.DataLines.{block_line_kind, ends_in_block, len_of_fields, line_kind, without_opening}
use Rattle.tbl_layout.specs.Entries.{Content}
use Rattle.tbl_layout.specs.declared.data_lines.BlockLineKind.{BlockLineKind}
use Rattle.tbl_layout.specs.declared.data_lines.BlockLineKind.TheVariants.{End, Request, Text}
use Rattle.tbl_layout.specs.declared.data_lines.LineKind.{LineKind}
use Rattle.tbl_layout.specs.declared.data_lines.LineKind.TheVariants.{Command, Formats, Row, Rule}
use Rattle.tbl_text.specs.Items.{items}
use Rattle.tbl_table.proofs.FewFields.{cells-some, fields_most, kept-few, len-fields, less, notes-keyed, part-behind, part-opening, part-take, surplus-few, told-few}
use Rattle.tbl_table.proofs.LastPlaces.{request-some}

fields-fewer : (ends : List (ℕ × ℕ)) (n place : ℕ) (all : List (List ℕ)) (in_front : List Content) (had : Bool) (t : TableRead) → 1 ≤ length all → 1 ≤ cells t - length in_front
    → 1 ≤ len_of_fields all → length (with_fields ends n place all in_front had t).notes + 1 ≤ length t.notes + len_of_fields all
fields-fewer ends n place all in_front had t one some least =
    let format = serving t in
    let column = length in_front in
    let room = cells t - column in
    let texts = take room (without_opening all) in
    let line = line_at ends (place + len_of_fields texts - 1) n in
    let has = nat_lt room (length all) in
    let told = field_notes ends n place (keyed format column texts) in
    let notes = notes-keyed ends n place format column texts in
    let kept = part-behind texts (without_opening all) all (part-take room (without_opening all)) (part-opening all) in
    let few = length-append t.notes told in
    let most = length t.notes + (len_of_fields all - 1) in
    let within = told-few (ends_in_block all) (has || had) (in_front ++ map content-of (keyed format column texts))
    (surplus_notes (has && not had) line) (with_notes told t) most
    (surplus-few has had line most (length (t.notes ++ told))
    (λ is. omega (arith, few, notes, kept.shorter, less room (length all) is, some))
    (omega (arith, few, notes, kept.shorter, one))) in
    omega (arith, within, least)

fields-some : (all : List (List ℕ)) (n : ℕ) → len_of_fields all ≡ suc n → 1 ≤ length all
fields-some [] n is = absurd (cc)
fields-some (field ∷ all) n is = omega arith

line-fewer : (kind : LineKind) (ends : List (ℕ × ℕ)) (n : ℕ) (line : List ℕ) (t : TableRead) → line_kind line ≡ kind → 1 ≤ columns t
    → length (with_line kind ends n line t).notes ≤ length t.notes + length line
line-fewer (Rule sign) ends n line t is some = omega arith
line-fewer Formats ends n line t is some = omega arith
line-fewer Command ends n line t is some = omega arith
line-fewer Row ends n line t is some =
    let all = fields t.options.separator line in
    let len = len-fields t.options.separator line in
    omega (
      arith,
      fields-fewer ends n 0 all [] false t (fields-some all (length line) len)
          (omega (arith, cells-some (serving t).keys (columns t) some)) (omega (arith, len)),
      len,
    )

behind-fewer : (ends : List (ℕ × ℕ)) (n : ℕ) (line : List ℕ) (all : List (List ℕ)) (row : RowBegun) (t : TableRead) → len_of_fields all ≡ suc (length (drop 2 line))
    → length (behind_block ends n all row t).notes ≤ length t.notes + length line
behind-fewer ends n line [] row t is = omega arith
behind-fewer ends n line (first ∷ []) row t is = omega arith
behind-fewer ends n line (first ∷ field ∷ more) row t is =
    omega (arith, fields_most ends n (length first + 3) (field ∷ more) (fields_with_block row) row.had_surplus t, is, length-drop 2 line)

block-fewer : (kind : BlockLineKind) (ends : List (ℕ × ℕ)) (n : ℕ) (line : List ℕ) (row : RowBegun) (t : TableRead) → block_line_kind line ≡ kind
    → length (with_block_line kind ends n line row t).notes ≤ length t.notes + length line
block-fewer End ends n line row t is =
    omega (arith, behind-fewer ends n line (fields t.options.separator (drop 2 line)) row t (len-fields t.options.separator (drop 2 line)))
block-fewer Request ends n line row t is =
    omega (arith, request-some line is, length-append t.notes (told_at (line_at ends 0 n) RequestInTextBlock ∷ []))
block-fewer Text ends n line row t is =
    let told : List Told = if is_some row.block then item_notes ends n 0 (items line) else [] in
    omega (arith, kept-few (is_some row.block) ends n line, length-append t.notes told)

whole-by : (begun : Option RowBegun) (ends : List (ℕ × ℕ)) (n : ℕ) (line : List ℕ) (t : TableRead) → 1 ≤ columns t
    → length (with_whole begun ends n line t).notes ≤ length t.notes + length line
whole-by None ends n line t some = line-fewer (line_kind line) ends n line t refl some
whole-by (Some row) ends n line t some = block-fewer (block_line_kind line) ends n line row t refl

pub whole-fewer : (ends : List (ℕ × ℕ)) (n : ℕ) (line : List ℕ) (t : TableRead) → 1 ≤ columns t
    → length (whole_line ends n line t).notes ≤ length t.notes + length line
whole-fewer ends n line t some = whole-by t.begun ends n line (record t { pending = None }) some
