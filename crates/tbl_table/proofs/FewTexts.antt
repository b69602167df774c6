-- How many texts a line of a table adds: no more than it has bytes, and one.
use Rattle.std.proofs.Common.{◌≡◌, ℕ, suc, ◌+◌, ◌-◌, ◌≤◌, Bool, true, false, not, ◌&&◌, ◌||◌, List, [], ◌∷◌, ◌++◌, length, map, take, drop, Option, Some, None, refl, ap, arith, length-append, length-drop, nat_lt, if◌then◌else◌, option_map, option_to_list, length-take}
use Rattle.std.proofs.lemmas.List.{length-map}
use Rattle.input_source.specs.Bytes.{newline}
use Rattle.tbl_format.specs.Cells.{by_cells}
use Rattle.tbl_format.specs.Format.{Format, FormatRow, format_read}
use Rattle.tbl_format.specs.declared.format.Asked.{Asked}
use Rattle.tbl_format.specs.declared.format.FormatKey.{FormatKey}
use Rattle.tbl_format.specs.declared.format.FormatPlace.{FormatPlace}
use Rattle.tbl_format.specs.declared.format.FormatPlace.TheVariants.{AtEnd, AtFault, InRows}
use Rattle.tbl_format.specs.declared.format.Key.{Key}
use Rattle.tbl_options.specs.Options.{options_end}
use Rattle.tbl_kept.specs.Joined.{Joined, behind_joined, ends_joined, goes_on, line_at}
use Rattle.tbl_layout.specs.Data.{fields}
use Rattle.tbl_layout.specs.DataLines.{block_line_kind, ends_in_block, len_of_fields, line_kind, opens_block, without_opening}
use Rattle.tbl_layout.specs.Entries.{Above, Block, Command as OneCommand, Content, Element, Repeated, Row as OneRow, Rule as OneRule, Ruled, Short, Text, completed, content_of_kind, key_at}
use Rattle.tbl_layout.specs.RuleKeys.{in_front_of, kind_of_key, under_keys}
use Rattle.tbl_layout.specs.Spans.{filled, filled_fields, filled_in, measure_of}
use Rattle.tbl_layout.specs.Texts.{is_text, texts_among, texts_of}
use Rattle.tbl_layout.specs.declared.bars.Bars.{Bars}
use Rattle.tbl_layout.specs.declared.data_lines.BlockLineKind.{BlockLineKind}
use Rattle.tbl_layout.specs.declared.data_lines.BlockLineKind.TheVariants.{End, Request, Text as TextLine}
use Rattle.tbl_layout.specs.declared.data_lines.FieldKind.{FieldKind}
use Rattle.tbl_layout.specs.declared.data_lines.FieldKind.TheVariants.{Above as AboveKind, Repeated as RepeatedKind, Ruled as RuledKind, Short as ShortKind, Text as TextKind}
use Rattle.tbl_layout.specs.declared.data_lines.LineKind.{LineKind}
use Rattle.tbl_layout.specs.declared.data_lines.LineKind.TheVariants.{Command, Formats, Row, Rule}
use Rattle.tbl_data.specs.DataRead.{behind_block, cells, closed_block, field_notes, fields_with_block, keyed, row_opened, row_opened_under, rules_in_front, serving, surplus_notes, whole_line, with_block_line, with_fields, with_line, with_open_row, with_pending, with_row, with_text, with_whole}
use Rattle.tbl_data.specs.TableRead.{RowBegun, TableRead, no_lines, with_notes}
use Rattle.tbl_data.specs.declared.phase.Phase.{Phase}
use Rattle.tbl_data.specs.declared.phase.Phase.TheVariants.{AtHead, Bad, InData, InFormat}
use Rattle.tbl_data.proofs.FieldSteps.{content-of}
use Rattle.tbl_table.specs.MayTell.{line_may_tell, may_cut, texts_begun}
use Rattle.tbl_table.specs.Table.{behind_format, closed, closed_line, format_line, head_line, left_out_notes, line_in, line_read, with_options}
use Rattle.tbl_table.proofs.FewFields.{len-fields, len-least, part-opening, part-take, whole_pending}

-- none before the first line
pub none_at_first : may_cut no_lines ≡ 0
unfolding may_cut no_lines
none_at_first = refl

-- texts of fields behind each other
texts-append : (xs ys : List Content) → texts_among (xs ++ ys) ≡ texts_among xs + texts_among ys
texts-append [] ys = omega arith
texts-append (x ∷ xs) ys = omega (arith, texts-append xs ys)

texts_of-append : (xs ys : List Element) → texts_of (xs ++ ys) ≡ texts_of xs + texts_of ys
texts_of-append [] ys = omega arith
texts_of-append (OneRow rules format fields ∷ xs) ys = omega (arith, texts_of-append xs ys)
texts_of-append (OneRule sign ∷ xs) ys = texts_of-append xs ys
texts_of-append (OneCommand bytes ∷ xs) ys = texts_of-append xs ys

-- no more than there are fields
one-text : (field : Content) → is_text field ≤ 1
one-text (Text []) = omega arith
one-text (Text (b ∷ bytes)) = omega arith
one-text (Block measure lines) = omega arith
one-text (Ruled sign) = omega arith
one-text Short = omega arith
one-text (Repeated b) = omega arith
one-text Above = omega arith

texts-few : (fields : List Content) → texts_among fields ≤ length fields
texts-few [] = omega arith
texts-few (field ∷ fields) = omega (arith, one-text field, texts-few fields)

-- what keys say of the fields that a row lacks is no text
kind-none : (kind : FieldKind) → is_text (content_of_kind kind) ≡ 0
kind-none TextKind = refl
kind-none (RuledKind sign) = refl
kind-none ShortKind = refl
kind-none (RepeatedKind b) = refl
kind-none AboveKind = refl

front-none : (kind : Option FieldKind) (fields : List Content) → texts_among fields ≡ 0
    → texts_among (in_front_of content_of_kind (Text []) kind fields) ≡ 0
front-none (Some kind) fields none = omega (arith, kind-none kind, none)
front-none None [] none = refl
front-none None (field ∷ fields) none = omega (arith, none)

under-none : (keys : List FormatKey) → texts_among (under_keys content_of_kind (Text []) keys) ≡ 0
under-none [] = refl
under-none (k ∷ keys) = front-none (kind_of_key k.key) (under_keys content_of_kind (Text []) keys) (under-none keys)

completed-same : (format : FormatRow) (fields : List Content) → texts_among (completed format fields) ≡ texts_among fields
completed-same format fields =
    let lacking = drop (length fields) format.keys in
    omega (arith, texts-append fields (under_keys content_of_kind (Text []) lacking), under-none lacking)

-- texts that a table has, also in a row that is begun
abbrev texts-kept : TableRead → ℕ
texts-kept t = texts_of t.body + texts_begun t.begun

-- a row that is whole
row-texts : (contents : List Content) (t : TableRead) → texts-kept (with_row contents t) ≡ texts_of t.body + texts_among contents
row-texts contents t =
    let row = OneRow (rules_in_front t) (serving t) (completed (serving t) contents) in
    omega (arith, texts_of-append t.body (row ∷ []), completed-same (serving t) contents)

-- or of which a block opens
opened-under : (kind : Option FieldKind) (contents : List Content) → texts_among (fields_with_block (row_opened_under kind contents)) ≤ texts_among contents + 1
opened-under None contents = omega (arith, texts-append contents (Block 0 [] ∷ []))
opened-under (Some kind) contents =
    let more = contents ++ content_of_kind kind ∷ [] in
    omega (arith, texts-append more [], texts-append contents (content_of_kind kind ∷ []), kind-none kind)

opened-texts : (had : Bool) (key : Key) (contents : List Content) → texts_among (fields_with_block (row_opened had key contents)) ≤ texts_among contents + 1
opened-texts true key contents = omega (arith, texts-append contents [])
opened-texts false key contents = opened-under (kind_of_key key) contents

open-texts : (opens had : Bool) (contents : List Content) (t : TableRead) (most : ℕ) → (opens ≡ true → texts_among contents + 1 ≤ most)
    → texts_among contents ≤ most → texts-kept (with_open_row opens had contents t) ≤ texts_of t.body + most
open-texts true had contents t most one few = omega (arith, one refl, opened-texts had (key_at (serving t) (length contents)) contents)
open-texts false had contents t most one few = omega (arith, few, row-texts contents t)

-- a block that opens is one of the fields
opening-by : (opens : Bool) (field : List ℕ) → opens ≡ true → length (if opens then [] else field ∷ []) + 1 ≤ 1
opening-by true field is = omega arith
opening-by false field is = absurd (cc)

opening-fewer : (all : List (List ℕ)) → ends_in_block all ≡ true → length (without_opening all) + 1 ≤ length all
opening-fewer [] is = absurd (cc)
opening-fewer (field ∷ []) is = opening-by (opens_block field) field is
opening-fewer (field ∷ next ∷ all) is = omega (arith, opening-fewer (next ∷ all) is)

opening-most : (all : List (List ℕ)) → length (without_opening all) ≤ length all
opening-most all = (part-opening all).fewer

length-keyed : (format : FormatRow) (cell : ℕ) (texts : List (List ℕ)) → length (keyed format cell texts) ≡ length texts
length-keyed format cell [] = refl
length-keyed format cell (text ∷ texts) = omega (arith, length-keyed format (suc cell) texts)

-- fields
fields-texts : (ends : List (ℕ × ℕ)) (n place : ℕ) (all : List (List ℕ)) (in_front : List Content) (had : Bool) (t : TableRead)
    → texts-kept (with_fields ends n place all in_front had t) ≤ texts_of t.body + (texts_among in_front + length all)
fields-texts ends n place all in_front had t =
    let column = length in_front in
    let room = cells t - column in
    let texts = take room (without_opening all) in
    let fields = keyed (serving t) column texts in
    let has = nat_lt room (length all) in
    let line = line_at ends (place + len_of_fields texts - 1) n in
    let few = texts-few (map content-of fields) in
    let count = length-map fields content-of in
    let keyed_len = length-keyed (serving t) column texts in
    let kept = (part-take room (without_opening all)).fewer in
    let more = texts-append in_front (map content-of fields) in
    open-texts (ends_in_block all) (has || had) (in_front ++ map content-of fields)
    (with_notes (surplus_notes (has && not had) line) (with_notes (field_notes ends n place fields) t)) (texts_among in_front + length all)
    (λ is. omega (arith, few, count, keyed_len, kept, more, opening-fewer all is))
    (omega (arith, few, count, keyed_len, kept, more, opening-most all))

-- a line where no block is open
line-texts : (kind : LineKind) (ends : List (ℕ × ℕ)) (n : ℕ) (line : List ℕ) (t : TableRead)
    → texts-kept (with_line kind ends n line t) ≤ texts-kept t + length line + 1
line-texts (Rule sign) ends n line t = omega (arith, texts_of-append t.body (OneRule sign ∷ []))
line-texts Formats ends n line t = omega arith
line-texts Command ends n line t = omega (arith, texts_of-append t.body (OneCommand line ∷ []))
line-texts Row ends n line t =
    let all = fields t.options.separator line in
    omega (arith, fields-texts ends n 0 all [] false t, len-least all, len-fields t.options.separator line)

-- and where one is
behind-texts : (ends : List (ℕ × ℕ)) (n : ℕ) (all : List (List ℕ)) (row : RowBegun) (t : TableRead)
    → texts-kept (behind_block ends n all row t) ≤ texts_of t.body + texts_begun (Some row) + length all
behind-texts ends n [] row t = omega (arith, row-texts (fields_with_block row) t)
behind-texts ends n (first ∷ []) row t = omega (arith, row-texts (fields_with_block row) t)
behind-texts ends n (first ∷ field ∷ more) row t =
    omega (arith, fields-texts ends n (length first + 3) (field ∷ more) (fields_with_block row) row.had_surplus t)

text-by : (block : Option (List (List ℕ))) (line : List ℕ) (fields : List Content)
    → texts_among (fields ++ option_to_list (option_map (Block 0) (option_map (λ lines. lines ++ line ∷ []) block)))
    ≡ texts_among (fields ++ option_to_list (option_map (Block 0) block))
text-by None line fields = refl
text-by (Some lines) line fields =
    omega (arith, texts-append fields (Block 0 (lines ++ line ∷ []) ∷ []), texts-append fields (Block 0 lines ∷ []))

block-texts : (kind : BlockLineKind) (ends : List (ℕ × ℕ)) (n : ℕ) (line : List ℕ) (row : RowBegun) (t : TableRead)
    → texts-kept (with_block_line kind ends n line row t) ≤ texts_of t.body + texts_begun (Some row) + length line + 1
block-texts End ends n line row t =
    let all = fields t.options.separator (drop 2 line) in
    omega (arith, behind-texts ends n all row t, len-least all, len-fields t.options.separator (drop 2 line), length-drop 2 line)
block-texts Request ends n line row t = omega (arith, text-by row.block line row.fields)
block-texts TextLine ends n line row t = omega (arith, text-by row.block line row.fields)

with-texts : (begun : Option RowBegun) (ends : List (ℕ × ℕ)) (n : ℕ) (line : List ℕ) (t : TableRead) → t.begun ≡ begun
    → texts-kept (with_whole begun ends n line t) ≤ texts-kept t + length line + 1
with-texts None ends n line t is = line-texts (line_kind line) ends n line t
with-texts (Some row) ends n line t is = omega (arith, block-texts (block_line_kind line) ends n line row t, ap texts_begun is)

whole-texts : (ends : List (ℕ × ℕ)) (n : ℕ) (line : List ℕ) (t : TableRead)
    → texts-kept (whole_line ends n line t) ≤ texts-kept t + length line + 1
whole-texts ends n line t = with-texts t.begun ends n line (record t { pending = None }) refl

-- no more where the table is closed
closed-texts : (pending : Option Joined) (t : TableRead) → texts-kept (closed_line pending t) ≤ texts-kept t + line_may_tell pending
closed-texts None t = omega arith
closed-texts (Some j) t = omega (arith, whole-texts j.ends 0 j.bytes t)

block-closed : (begun : Option RowBegun) (t : TableRead) → t.begun ≡ begun → texts_of (closed_block begun t).body ≤ texts-kept t
block-closed None t is = omega arith
block-closed (Some row) t is = omega (arith, row-texts (fields_with_block row) t, ap texts_begun is)

pub texts_closed : (t : TableRead) → texts_of (closed t).body ≤ may_cut t
unfolding closed may_cut
texts_closed t =
    let whole = closed_line t.pending t in
    omega (arith, closed-texts t.pending t, block-closed whole.begun whole refl)

-- a block with its measure is a text as before
filled-one : (measure : ℕ) (field : Content) → is_text (filled_in measure field) ≡ is_text field
filled-one measure (Text bytes) = refl
filled-one measure (Block other lines) = refl
filled-one measure (Ruled sign) = refl
filled-one measure Short = refl
filled-one measure (Repeated b) = refl
filled-one measure Above = refl

filled-row : (bars : Bars) (line_length count : ℕ) (asked : List (List Asked)) (fields : List Content)
    → texts_among (filled_fields bars line_length count asked fields) ≡ texts_among fields
filled-row bars line_length count [] fields = refl
filled-row bars line_length count (asked ∷ cells) [] = refl
filled-row bars line_length count (asked ∷ cells) (field ∷ fields) =
    omega (arith, filled-one (measure_of bars line_length count asked) field, filled-row bars line_length count cells fields)

pub texts-filled : (bars : Bars) (line_length : ℕ) (asked : List Asked) (elements : List Element)
    → texts_of (filled bars line_length asked elements) ≡ texts_of elements
texts-filled bars line_length asked [] = refl
texts-filled bars line_length asked (OneRow rules format fields ∷ elements) =
    omega (arith, filled-row bars line_length (length asked) (by_cells 0 format.keys asked) fields, texts-filled bars line_length asked elements)
texts-filled bars line_length asked (OneRule sign ∷ elements) = texts-filled bars line_length asked elements
texts-filled bars line_length asked (OneCommand bytes ∷ elements) = texts-filled bars line_length asked elements

-- a line of options or of the format adds none
place-texts : (place : FormatPlace) (n : ℕ) (t : TableRead) → may_cut (behind_format place n t) ≤ may_cut t
unfolding may_cut
place-texts (InRows part) n t = omega arith
place-texts AtEnd n t = omega arith
place-texts AtFault n t = omega arith

format-texts : (n : ℕ) (line : List ℕ) (t : TableRead) → may_cut (format_line n line t) ≤ may_cut t
unfolding may_cut
format-texts n line t =
    let whole = line ++ newline ∷ [] in
    let f : Format = format_read t.format whole in
    place-texts f.place n (record (with_notes (left_out_notes n t.format whole) t) { format = f })

head-texts : (end : Option ℕ) (n : ℕ) (line : List ℕ) (t : TableRead) → may_cut (head_line end n line t) ≤ may_cut t
unfolding may_cut
head-texts None n line t = format-texts n line t
head-texts (Some end) n line t = format-texts n (drop (suc end) line) (with_options n (take end line) t)

-- the bytes of a line behind those of one that goes on
pub joined-len : (pending : Option Joined) (line : List ℕ) → length (behind_joined pending line) ≤ line_may_tell pending + length line
joined-len None line = omega arith
joined-len (Some j) line = omega (arith, length-append j.bytes line)

pub joined-less : (pending : Option Joined) (line : List ℕ) → length (behind_joined pending line) + 1 ≤ line_may_tell pending + length line + 1
joined-less pending line = omega (arith, joined-len pending line)

data-texts : (on : Bool) (n : ℕ) (line : List ℕ) (t : TableRead)
    → may_cut (if on then with_pending n line t else whole_line (ends_joined t.pending) n (behind_joined t.pending line) t) ≤ may_cut t + length line + 1
unfolding may_cut
data-texts true n line t = omega (arith, joined-less t.pending (take (length line - 1) line), length-take (length line - 1) line)
data-texts false n line t =
    let joined = behind_joined t.pending line in
    let none = ap line_may_tell (whole_pending (ends_joined t.pending) n joined t) in
    omega (arith, whole-texts (ends_joined t.pending) n joined t, none, joined-len t.pending line)

line-in-texts : (phase : Phase) (n : ℕ) (line : List ℕ) (t : TableRead) → may_cut (line_in phase n line t) ≤ may_cut t + length line + 1
line-in-texts AtHead n line t = omega (arith, head-texts (options_end line) n line t)
line-in-texts InFormat n line t = omega (arith, format-texts n line t)
line-in-texts InData n line t = data-texts (goes_on line) n line t
line-in-texts Bad n line t = omega arith

-- one for each byte of a line, and one for its newline
pub cut_behind_line : (line : ℕ) (bytes : List ℕ) (t : TableRead) → may_cut (line_read line bytes t) ≤ may_cut t + length bytes + 1
unfolding line_read
cut_behind_line line bytes t = line-in-texts t.phase line bytes t
