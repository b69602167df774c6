-- The messages of a joined line name the same lines, whether the end of its last one is known or its number alone.
use Rattle.std.proofs.Common.{◌≡◌, ℕ, zero, suc, ◌+◌, ◌-◌, ◌≤◌, ◌<◌, Bool, true, false, not, ◌&&◌, ◌||◌, List, [], ◌∷◌, ◌++◌, length, map, take, drop, Option, Some, None, refl, ap, ◌∙◌, arith, length-drop, nat_lt, if◌then◌else◌, is_some, option_map, option_to_list}
use Rattle.std.proofs.lemmas.Bool.Decides.{nat_tests}
use Rattle.tbl_data.specs.DataRead.{behind_block, cells, field_notes, fields_with_block, item_notes, keyed, notes_by_kind, notes_of_field, serving, surplus_notes, whole_line, with_block_line, with_fields, with_line, with_open_row, with_text, with_whole}
use Rattle.tbl_data.proofs.FieldSteps.{content-of}
use Rattle.tbl_format.specs.Format.{FormatRow}
use Rattle.tbl_data.specs.TableRead.{RowBegun, TableRead, columns, with_note, with_notes}
use Rattle.tbl_options.specs.Notes.{told_at}
use Rattle.tbl_options.specs.declared.message.Message.TheVariants.{NotMeasured, RequestInTextBlock}
use Rattle.tbl_options.specs.declared.message.Told.{Told}
use Rattle.tbl_kept.specs.Joined.{line_at}
use Rattle.tbl_layout.specs.Data.{fields}
use Rattle.tbl_layout.specs.DataLines.{block_line_kind, ends_in_block, kind_under, len_of_fields, line_kind, without_opening}
use Rattle.tbl_layout.specs.Entries.{Content, key_at}
use Rattle.tbl_layout.specs.declared.data_lines.BlockLineKind.{BlockLineKind}
use Rattle.tbl_layout.specs.declared.data_lines.BlockLineKind.TheVariants.{End, Request, Text}
use Rattle.tbl_layout.specs.declared.data_lines.FieldKind.{FieldKind}
use Rattle.tbl_layout.specs.declared.data_lines.FieldKind.TheVariants.{Above, Repeated, Ruled, Short, Text as TextField}
use Rattle.tbl_layout.specs.declared.data_lines.LineKind.{LineKind}
use Rattle.tbl_layout.specs.declared.data_lines.LineKind.TheVariants.{Command, Formats, Row, Rule}
use Rattle.tbl_text.specs.Items.{first_item, first_items, note}
use Rattle.tbl_table.proofs.FewFields.{cells-some, len-fields, less, part-behind, part-opening, part-take, take-few}

-- a place in front of the last line's end isn't one of a further line
pub line_at-last : (ends : List (ℕ × ℕ)) (len place n : ℕ) → place < len → line_at (ends ++ (len, n) ∷ []) place 0 ≡ line_at ends place n
line_at-last [] len place n before =
    let test : nat_lt place len ≡ true = grind (arith, nat_tests) in
    ap (λ (t : Bool). if t then n else 0) test
line_at-last (end ∷ ends) len place n before =
    ap (λ (line : ℕ). if nat_lt place end.0 then end.1 else line) (line_at-last ends len place n before)

-- where there is a surplus, some text stands in front of it
kept-some : (room : ℕ) (all : List (List ℕ)) → room < length all → 1 ≤ room → 1 ≤ len_of_fields (take room (without_opening all))
kept-some zero all fewer some = absurd (omega (arith, some))
kept-some (suc room) [] fewer some = absurd (omega (arith, fewer))
kept-some (suc room) (field ∷ []) fewer some = absurd (omega (arith, fewer))
kept-some (suc room) (field ∷ next ∷ all) fewer some = omega arith

front-some : (place room : ℕ) (all : List (List ℕ)) → room < length all → 1 ≤ place + room → 1 ≤ place + len_of_fields (take room (without_opening all))
front-some place zero all fewer some = omega (arith, some)
front-some place (suc room) all fewer some = omega (arith, kept-some (suc room) all fewer (omega arith))

-- a row, by its surplus
surplus-same : (first opens : Bool) (s u : ℕ) (dropped : Bool) (contents : List Content) (t : TableRead) → (first ≡ true → s ≡ u)
    → with_open_row opens dropped contents (with_notes (surplus_notes first s) t) ≡ with_open_row opens dropped contents (with_notes (surplus_notes first u) t)
surplus-same true opens s u dropped contents t surplus =
    ap (λ (k : ℕ). with_open_row opens dropped contents (with_notes (surplus_notes true k) t)) (surplus refl)
surplus-same false opens s u dropped contents t surplus = refl

one-of : (has had : Bool) → (has && not had) ≡ true → has ≡ true
one-of true had is = refl
one-of false had is = absurd (cc)

pub request-some : (line : List ℕ) → block_line_kind line ≡ Request → 1 ≤ length line
request-some [] is = absurd (cc)
request-some (b ∷ line) is = omega arith

-- two ways to name the line of each byte of a line
module _ (others : List (ℕ × ℕ)) (m : ℕ) (ends : List (ℕ × ℕ)) (n len : ℕ) (same : (place : ℕ) → place < len → line_at others place m ≡ line_at ends place n) where
  items-same : (most place : ℕ) (text : List ℕ) → (1 ≤ length text → place + length text ≤ len)
      → item_notes others m place (first_items most text) ≡ item_notes ends n place (first_items most text)
  items-same zero place text within = refl
  items-same (suc most) place [] within = refl
  items-same (suc most) place (b ∷ text) within =
      let item = first_item b text in
      let size = length item.bytes in
      let left = drop size (b ∷ text) in
      let here = λ (k : ℕ). option_to_list (option_map (λ c. told_at k (NotMeasured c)) (note item.what)) in
      let further = item_notes others m (place + size) (first_items most left) in
      let whole : place + length (b ∷ text) ≤ len = within (omega arith) in
      ap (λ (k : ℕ). here k ++ further) (same place (omega (arith, whole)))
      ∙ ap (λ (ts : List Told). here (line_at ends place n) ++ ts)
      (items-same most (place + size) left (λ some. omega (arith, some, whole, length-drop size (b ∷ text))))

  kind-same : (kind : FieldKind) (place : ℕ) (field : List ℕ) → (1 ≤ length field → place + length field ≤ len)
      → notes_by_kind kind others m place field ≡ notes_by_kind kind ends n place field
  kind-same TextField place field within = items-same (length field) place field within
  kind-same (Ruled sign) place field within = refl
  kind-same Short place field within = refl
  kind-same (Repeated b) place field within = refl
  kind-same Above place field within = refl

  notes-same : (place : ℕ) (format : FormatRow) (cell : ℕ) (texts : List (List ℕ)) → place + len_of_fields texts ≤ len + 1
      → field_notes others m place (keyed format cell texts) ≡ field_notes ends n place (keyed format cell texts)
  notes-same place format cell [] within = refl
  notes-same place format cell (field ∷ texts) within =
      let key = key_at format cell in
      ap (λ (ts : List Told). ts ++ field_notes others m (place + length field + 1) (keyed format (suc cell) texts))
      (kind-same (kind_under key field) place field (λ some. omega (arith, within)))
      ∙ ap (λ (ts : List Told). notes_of_field key ends n place field ++ ts) (notes-same (place + length field + 1) format (suc cell) texts (omega (arith, within)))

  fields-same : (place : ℕ) (all : List (List ℕ)) (in_front : List Content) (had : Bool) (t : TableRead) → place + len_of_fields all ≤ len + 1
      → 1 ≤ place + (cells t - length in_front) → with_fields others m place all in_front had t ≡ with_fields ends n place all in_front had t
  fields-same place all in_front had t within some =
      let format = serving t in
      let column = length in_front in
      let room = cells t - column in
      let texts = take room (without_opening all) in
      let has = nat_lt room (length all) in
      let contents = in_front ++ map content-of (keyed format column texts) in
      let kept = part-behind texts (without_opening all) all (part-take room (without_opening all)) (part-opening all) in
      let few : length texts ≤ room = take-few room (without_opening all) in
      let last = place + len_of_fields texts - 1 in
      let behind = λ (ts : List Told). with_open_row (ends_in_block all) (has || had) contents (with_notes (surplus_notes (has && not had) (line_at others last m)) (with_notes ts t)) in
      ap behind (notes-same place format column texts (omega (arith, within, kept.shorter, kept.fewer)))
      ∙ surplus-same (has && not had) (ends_in_block all) (line_at others last m) (line_at ends last n) (has || had) contents
      (with_notes (field_notes ends n place (keyed format column texts)) t)
      (λ is.
      let fewer = less room (length all) (one-of has had is) in
      same last (omega (arith, within, kept.shorter, few, fewer, front-some place room all fewer some)))

  line-same : (kind : LineKind) (line : List ℕ) (t : TableRead) → line_kind line ≡ kind → length line ≡ len → 1 ≤ columns t
      → with_line kind others m line t ≡ with_line kind ends n line t
  line-same (Rule sign) line t is whole some = refl
  line-same Formats line t is whole some = refl
  line-same Command line t is whole some = refl
  line-same Row line t is whole some =
      fields-same 0 (fields t.options.separator line) [] false t (omega (arith, whole, len-fields t.options.separator line))
      (omega (arith, cells-some (serving t).keys (columns t) some))

  behind-same : (line : List ℕ) (all : List (List ℕ)) (row : RowBegun) (t : TableRead) → length line ≡ len → len_of_fields all ≡ suc (length (drop 2 line))
      → behind_block others m all row t ≡ behind_block ends n all row t
  behind-same line [] row t whole is = refl
  behind-same line (first ∷ []) row t whole is = refl
  behind-same line (first ∷ field ∷ more) row t whole is =
      fields-same (length first + 3) (field ∷ more) (fields_with_block row) row.had_surplus t (omega (arith, whole, is, length-drop 2 line)) (omega arith)

  block-same : (kind : BlockLineKind) (line : List ℕ) (row : RowBegun) (t : TableRead) → block_line_kind line ≡ kind → length line ≡ len
      → with_block_line kind others m line row t ≡ with_block_line kind ends n line row t
  block-same End line row t is whole = behind-same line (fields t.options.separator (drop 2 line)) row t whole (len-fields t.options.separator (drop 2 line))
  block-same Request line row t is whole =
      ap (λ (k : ℕ). with_note k RequestInTextBlock (record t { begun = Some (with_text line row) })) (same 0 (omega (arith, request-some line is, whole)))
  block-same Text line row t is whole =
      ap (λ (ts : List Told). with_notes (if is_some row.block then ts else []) (record t { begun = Some (with_text line row) }))
      (items-same (length line) 0 line (λ some. omega (arith, whole)))

  pub whole-same : (begun : Option RowBegun) (line : List ℕ) (t : TableRead) → length line ≡ len → 1 ≤ columns t
      → with_whole begun others m line t ≡ with_whole begun ends n line t
  whole-same None line t whole some = line-same (line_kind line) line t refl whole some
  whole-same (Some row) line t whole some = block-same (block_line_kind line) line row t refl whole

-- a line that would go on is done as it is with its number
pub whole-last : (ends : List (ℕ × ℕ)) (n : ℕ) (line : List ℕ) (t : TableRead) → 1 ≤ columns t
    → whole_line (ends ++ (length line, n) ∷ []) 0 line t ≡ whole_line ends n line t
whole-last ends n line t some =
    whole-same (ends ++ (length line, n) ∷ []) 0 ends n (length line) (λ place before. line_at-last ends (length line) place n before) t.begun line (record t { pending = None }) refl some
