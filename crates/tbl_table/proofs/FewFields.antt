-- How many messages the fields of a line have.
use Rattle.std.proofs.Common.{◌≡◌, ℕ, zero, suc, ◌+◌, ◌-◌, ◌≤◌, ◌<◌, Bool, true, false, not, ◌&&◌, ◌||◌, List, [], ◌∷◌, ◌++◌, length, map, take, drop, Option, Some, None, refl, arith, length-append, length-drop, nat_lt, if◌then◌else◌, ◌==◌, is_some, option_map, option_to_list}
use Rattle.std.proofs.lemmas.Bool.Decides.{nat_tests}
use Rattle.tbl_options.specs.Notes.{told_at}
use Rattle.tbl_options.specs.declared.message.Message.TheVariants.{NotMeasured, RequestInTextBlock}
use Rattle.tbl_options.specs.declared.message.Told.{Told}
use Rattle.tbl_kept.specs.Joined.{line_at}
use Rattle.tbl_layout.specs.Data.{fields, in_first}
use Rattle.tbl_layout.specs.DataLines.{block_line_kind, ends_in_block, kind_under, len_of_fields, line_kind, opens_block, without_opening}
use Rattle.tbl_layout.specs.Entries.{Content, key_at}
use Rattle.tbl_layout.specs.declared.data_lines.BlockLineKind.{BlockLineKind}
use Rattle.tbl_layout.specs.declared.data_lines.BlockLineKind.TheVariants.{End, Request, Text}
use Rattle.tbl_layout.specs.declared.data_lines.FieldKind.{FieldKind}
use Rattle.tbl_layout.specs.declared.data_lines.FieldKind.TheVariants.{Above, Repeated, Ruled, Short, Text as TextField}
use Rattle.tbl_layout.specs.declared.data_lines.LineKind.{LineKind}
use Rattle.tbl_layout.specs.declared.data_lines.LineKind.TheVariants.{Command, Formats, Row, Rule}
use Rattle.tbl_data.specs.DataRead.{behind_block, cells, field_notes, fields_with_block, item_notes, keyed, notes_by_kind, notes_of_field, serving, surplus_notes, whole_line, with_block_line, with_fields, with_line, with_open_row, with_whole}
use Rattle.tbl_data.proofs.FieldSteps.{content-of}
use Rattle.tbl_format.specs.Cells.{cell_count}
use Rattle.tbl_format.specs.Format.{FormatRow}
use Rattle.tbl_format.specs.declared.format.FormatKey.{FormatKey}
use Rattle.tbl_data.specs.TableRead.{RowBegun, TableRead, with_notes}
use Rattle.tbl_text.specs.Items.{Item, first_item, first_items, items, note}

-- where there is a column a row has a cell
pub cells-some : (keys : List FormatKey) (count : ℕ) → 1 ≤ count → 1 ≤ cell_count keys count
cells-some [] count some = omega (arith, some)
cells-some (k ∷ keys) count some = omega arith

-- at most one for each item, and no more items than bytes
one-at_most : (line : ℕ) (note : Option ℕ) → length (option_to_list (option_map (λ b. told_at line (NotMeasured b)) note)) ≤ 1
one-at_most line None = omega arith
one-at_most line (Some b) = omega arith

item_notes-most : (ends : List (ℕ × ℕ)) (n place : ℕ) (its : List Item) → length (item_notes ends n place its) ≤ length its
item_notes-most ends n place [] = omega arith
item_notes-most ends n place (item ∷ its) =
    let here = option_to_list (option_map (λ b. told_at (line_at ends place n) (NotMeasured b)) (note item.what)) in
    let further = item_notes ends n (place + length item.bytes) its in
    omega (arith, one-at_most (line_at ends place n) (note item.what), item_notes-most ends n (place + length item.bytes) its, length-append here further)

first_items-most : (most : ℕ) (text : List ℕ) → length (first_items most text) ≤ most
first_items-most zero text = omega arith
first_items-most (suc most) [] = omega arith
first_items-most (suc most) (b ∷ text) = omega (arith, first_items-most most (drop (length (first_item b text).bytes) (b ∷ text)))

pub notes-of-text : (ends : List (ℕ × ℕ)) (n place : ℕ) (text : List ℕ) → length (item_notes ends n place (items text)) ≤ length text
notes-of-text ends n place text = omega (arith, item_notes-most ends n place (items text), first_items-most (length text) text)

-- of a rule there is none
notes-by_kind : (kind : FieldKind) (ends : List (ℕ × ℕ)) (n place : ℕ) (field : List ℕ) → length (notes_by_kind kind ends n place field) ≤ length field
notes-by_kind TextField ends n place field = notes-of-text ends n place field
notes-by_kind (Ruled sign) ends n place field = omega arith
notes-by_kind Short ends n place field = omega arith
notes-by_kind (Repeated b) ends n place field = omega arith
notes-by_kind Above ends n place field = omega arith

-- those of all fields: a line has a separator more behind each
pub notes-keyed : (ends : List (ℕ × ℕ)) (n place : ℕ) (format : FormatRow) (cell : ℕ) (texts : List (List ℕ))
    → length (field_notes ends n place (keyed format cell texts)) + length texts ≤ len_of_fields texts
notes-keyed ends n place format cell [] = omega arith
notes-keyed ends n place format cell (field ∷ texts) =
    let key = key_at format cell in
    let here = notes_of_field key ends n place field in
    let further = field_notes ends n (place + length field + 1) (keyed format (suc cell) texts) in
    omega (arith, notes-by_kind (kind_under key field) ends n place field, notes-keyed ends n (place + length field + 1) format (suc cell) texts, length-append here further)

-- some of these fields are fewer, and shorter by one at least for each that is left out
pub record IsPart (some all : List (List ℕ)) : Type 0 where
  pub fewer : length some ≤ length all
  pub shorter : len_of_fields some + length all ≤ len_of_fields all + length some

pub part-behind : (some more all : List (List ℕ)) → IsPart some more → IsPart more all → IsPart some all
part-behind some more all first second = record {
  fewer = omega (arith, first.fewer, second.fewer);
  shorter = omega (arith, first.shorter, second.shorter);
}

part-longer : (field : List ℕ) (some all : List (List ℕ)) → IsPart some all → IsPart (field ∷ some) (field ∷ all)
part-longer field some all part = record { fewer = omega (arith, part.fewer); shorter = omega (arith, part.shorter) }

pub len-least : (all : List (List ℕ)) → length all ≤ len_of_fields all
len-least [] = omega arith
len-least (field ∷ all) = omega (arith, len-least all)

part-none : (all : List (List ℕ)) → IsPart [] all
part-none all = record { fewer = omega arith; shorter = omega (arith, len-least all) }

part-same : (all : List (List ℕ)) → IsPart all all
part-same all = record { fewer = omega arith; shorter = omega arith }

pub part-take : (n : ℕ) (all : List (List ℕ)) → IsPart (take n all) all
part-take zero all = part-none all
part-take (suc n) [] = part-same []
part-take (suc n) (field ∷ all) = part-longer field (take n all) all (part-take n all)

opening-by : (opens : Bool) (field : List ℕ) → IsPart (if opens then [] else field ∷ []) (field ∷ [])
opening-by true field = part-none (field ∷ [])
opening-by false field = part-same (field ∷ [])

pub part-opening : (all : List (List ℕ)) → IsPart (without_opening all) all
part-opening [] = part-same []
part-opening (field ∷ []) = opening-by (opens_block field) field
part-opening (field ∷ next ∷ all) = part-longer field (without_opening (next ∷ all)) (next ∷ all) (part-opening (next ∷ all))

pub less : (a b : ℕ) → nat_lt a b ≡ true → a < b
less a b is = grind (arith, nat_tests, is)

pub take-few : (n : ℕ) (all : List (List ℕ)) → length (take n all) ≤ n
take-few zero all = omega arith
take-few (suc n) [] = omega arith
take-few (suc n) (field ∷ all) = omega (arith, take-few n all)

-- with the fields that are surplus there is one more at most
pub surplus-few : (has had : Bool) (line most told : ℕ) → (has ≡ true → told + 1 ≤ most) → told ≤ most → told + length (surplus_notes (has && not had) line) ≤ most
surplus-few true true line most told one none = omega (arith, none)
surplus-few true false line most told one none = omega (arith, one refl)
surplus-few false had line most told one none = omega (arith, none)

pub open-few : (opens had : Bool) (contents : List Content) (t : TableRead) (most : ℕ) → length t.notes ≤ most
    → length (with_open_row opens had contents t).notes ≤ most
open-few true had contents t most few = few
open-few false had contents t most few = few

pub told-few : (opens had : Bool) (contents : List Content) (surplus : List Told) (t : TableRead) (most : ℕ) → length t.notes + length surplus ≤ most
    → length (with_open_row opens had contents (with_notes surplus t)).notes ≤ most
told-few opens had contents surplus t most few = open-few opens had contents (with_notes surplus t) most (omega (arith, few, length-append t.notes surplus))

pub fields_most : (ends : List (ℕ × ℕ)) (n place : ℕ) (all : List (List ℕ)) (in_front : List Content) (had_surplus : Bool) (t : TableRead)
    → length (with_fields ends n place all in_front had_surplus t).notes ≤ length t.notes + len_of_fields all
fields_most ends n place all in_front had_surplus t =
    let format = serving t in
    let column = length in_front in
    let room = cells t - column in
    let texts = take room (without_opening all) in
    let line = line_at ends (place + len_of_fields texts - 1) n in
    let has_surplus = nat_lt room (length all) in
    let told = field_notes ends n place (keyed format column texts) in
    let notes = notes-keyed ends n place format column texts in
    let kept = part-behind texts (without_opening all) all (part-take room (without_opening all)) (part-opening all) in
    let few = length-append t.notes told in
    told-few (ends_in_block all) (has_surplus || had_surplus) (in_front ++ map content-of (keyed format column texts))
    (surplus_notes (has_surplus && not had_surplus) line) (with_notes told t) (length t.notes + len_of_fields all)
    (surplus-few has_surplus had_surplus line (length t.notes + len_of_fields all) (length (t.notes ++ told))
    (λ is. omega (arith, few, notes, kept.shorter, less room (length all) is))
    (omega (arith, few, notes, kept.shorter)))

-- a row that is whole, or of which a block opens, leaves no line that goes on
open-pending : (opens had : Bool) (contents : List Content) (t : TableRead) → t.pending ≡ None → (with_open_row opens had contents t).pending ≡ None
open-pending true had contents t none = none
open-pending false had contents t none = none

pub fields_pending : (ends : List (ℕ × ℕ)) (n place : ℕ) (all : List (List ℕ)) (in_front : List Content) (had_surplus : Bool) (t : TableRead) → t.pending ≡ None
    → (with_fields ends n place all in_front had_surplus t).pending ≡ None
fields_pending ends n place all in_front had_surplus t none =
    let column = length in_front in
    let room = cells t - column in
    let texts = take room (without_opening all) in
    let fields = keyed (serving t) column texts in
    let has_surplus = nat_lt room (length all) in
    open-pending (ends_in_block all) (has_surplus || had_surplus) (in_front ++ map content-of fields)
    (with_notes (surplus_notes (has_surplus && not had_surplus) (line_at ends (place + len_of_fields texts - 1) n)) (with_notes (field_notes ends n place fields) t)) none

-- the fields of a line are as long as it, with a separator behind each
in_first-len : (b : ℕ) (fs : List (List ℕ)) (n : ℕ) → len_of_fields fs ≡ suc n → len_of_fields (in_first b fs) ≡ suc (suc n)
in_first-len b [] n is = absurd (omega (arith, is))
in_first-len b (field ∷ fs) n is = omega (arith, is)

fields-by : (t : Bool) (b : ℕ) (fs : List (List ℕ)) (n : ℕ) → len_of_fields fs ≡ suc n → len_of_fields (if t then [] ∷ fs else in_first b fs) ≡ suc (suc n)
fields-by true b fs n is = omega (arith, is)
fields-by false b fs n is = in_first-len b fs n is

pub len-fields : (separator : ℕ) (line : List ℕ) → len_of_fields (fields separator line) ≡ suc (length line)
len-fields separator [] = refl
len-fields separator (b ∷ line) = fields-by (b == separator) b (fields separator line) (length line) (len-fields separator line)

-- a whole line of the data has one for each byte at the most, and one more
line-few : (kind : LineKind) (ends : List (ℕ × ℕ)) (n : ℕ) (line : List ℕ) (t : TableRead)
    → length (with_line kind ends n line t).notes ≤ length t.notes + length line + 1
line-few (Rule sign) ends n line t = omega arith
line-few Formats ends n line t = omega arith
line-few Command ends n line t = omega arith
line-few Row ends n line t = omega (arith, fields_most ends n 0 (fields t.options.separator line) [] false t, len-fields t.options.separator line)

behind-few : (ends : List (ℕ × ℕ)) (n : ℕ) (all : List (List ℕ)) (row : RowBegun) (t : TableRead)
    → length (behind_block ends n all row t).notes ≤ length t.notes + len_of_fields all
behind-few ends n [] row t = omega arith
behind-few ends n (first ∷ []) row t = omega arith
behind-few ends n (first ∷ field ∷ more) row t =
    omega (arith, fields_most ends n (length first + 3) (field ∷ more) (fields_with_block row) row.had_surplus t)

pub kept-few : (kept : Bool) (ends : List (ℕ × ℕ)) (n : ℕ) (line : List ℕ) → length (if kept then item_notes ends n 0 (items line) else []) ≤ length line
kept-few true ends n line = notes-of-text ends n 0 line
kept-few false ends n line = omega arith

block-few : (kind : BlockLineKind) (ends : List (ℕ × ℕ)) (n : ℕ) (line : List ℕ) (row : RowBegun) (t : TableRead)
    → length (with_block_line kind ends n line row t).notes ≤ length t.notes + length line + 1
block-few End ends n line row t =
    omega (arith, behind-few ends n (fields t.options.separator (drop 2 line)) row t, len-fields t.options.separator (drop 2 line), length-drop 2 line)
block-few Request ends n line row t = omega (arith, length-append t.notes (told_at (line_at ends 0 n) RequestInTextBlock ∷ []))
block-few Text ends n line row t =
    let told = if is_some row.block then item_notes ends n 0 (items line) else [] in
    omega (arith, kept-few (is_some row.block) ends n line, length-append t.notes told)

with-few : (begun : Option RowBegun) (ends : List (ℕ × ℕ)) (n : ℕ) (line : List ℕ) (t : TableRead)
    → length (with_whole begun ends n line t).notes ≤ length t.notes + length line + 1
with-few None ends n line t = line-few (line_kind line) ends n line t
with-few (Some row) ends n line t = block-few (block_line_kind line) ends n line row t

pub whole_most : (ends : List (ℕ × ℕ)) (n : ℕ) (line : List ℕ) (t : TableRead)
    → length (whole_line ends n line t).notes ≤ length t.notes + length line + 1
whole_most ends n line t = with-few t.begun ends n line (record t { pending = None })

-- and goes on no more
line-pending : (kind : LineKind) (ends : List (ℕ × ℕ)) (n : ℕ) (line : List ℕ) (t : TableRead) → t.pending ≡ None → (with_line kind ends n line t).pending ≡ None
line-pending (Rule sign) ends n line t none = none
line-pending Formats ends n line t none = none
line-pending Command ends n line t none = none
line-pending Row ends n line t none = fields_pending ends n 0 (fields t.options.separator line) [] false t none

behind-pending : (ends : List (ℕ × ℕ)) (n : ℕ) (all : List (List ℕ)) (row : RowBegun) (t : TableRead) → t.pending ≡ None → (behind_block ends n all row t).pending ≡ None
behind-pending ends n [] row t none = none
behind-pending ends n (first ∷ []) row t none = none
behind-pending ends n (first ∷ field ∷ more) row t none =
    fields_pending ends n (length first + 3) (field ∷ more) (fields_with_block row) row.had_surplus t none

block-pending : (kind : BlockLineKind) (ends : List (ℕ × ℕ)) (n : ℕ) (line : List ℕ) (row : RowBegun) (t : TableRead) → t.pending ≡ None
    → (with_block_line kind ends n line row t).pending ≡ None
block-pending End ends n line row t none = behind-pending ends n (fields t.options.separator (drop 2 line)) row t none
block-pending Request ends n line row t none = none
block-pending Text ends n line row t none = none

with-pending : (begun : Option RowBegun) (ends : List (ℕ × ℕ)) (n : ℕ) (line : List ℕ) (t : TableRead) → t.pending ≡ None → (with_whole begun ends n line t).pending ≡ None
with-pending None ends n line t none = line-pending (line_kind line) ends n line t none
with-pending (Some row) ends n line t none = block-pending (block_line_kind line) ends n line row t none

pub whole_pending : (ends : List (ℕ × ℕ)) (n : ℕ) (line : List ℕ) (t : TableRead) → (whole_line ends n line t).pending ≡ None
whole_pending ends n line t = with-pending t.begun ends n line (record t { pending = None }) refl
