-- What the items of a text measure, where a number splits, and what is told of them (Lesk, "Tbl": the key letter `n`, and
-- "Additional features").
use Rattle.std.specs.Prelude.{ℕ, ◌+◌, ◌≤◌, ◌==◌, Bool, true, false, not, ◌&&◌, ◌||◌, List, [], ◌∷◌, ◌++◌, filter, flat_map, length, sum_by, Option, Some, None, is_some, option_map, option_to_list, if◌then◌else◌}
use Rattle.std.specs.List.{list_any}
use Rattle.std.specs.Option.{option_or}
use Rattle.input_source.specs.Bytes.{dot, is_digit, is_dropped}
use Rattle.tbl_text.specs.Items.{Item, columns, is_ampersand, is_glyph, items, note}
use Rattle.tbl_text.specs.declared.items.What.TheVariants.{Nothing}
use Rattle.tbl_text.specs.declared.measure.Measured.{Measured}
use Rattle.tbl_text.specs.declared.measure.Note.{Note}
use Rattle.tbl_text.specs.declared.measure.Split.{Split}

-- the bytes of items, in order, and how many they are
abbrev pub bytes_of : List Item → List ℕ
bytes_of items = flat_map (λ i. i.bytes) items

abbrev pub len_of : List Item → ℕ
len_of items = sum_by (λ i. length i.bytes) items

-- the columns of items
abbrev pub width_of : List Item → ℕ
width_of items = sum_by (λ i. columns i.what) items

-- an item in front of what is left of others up to their last glyph
abbrev pub before_glyphs : Item → List Item → List Item
before_glyphs x [] = if is_glyph x.what then x ∷ [] else []
before_glyphs x (y ∷ items) = x ∷ y ∷ items

-- items up to their last glyph
abbrev pub up_to_last_glyph : List Item → List Item
up_to_last_glyph [] = []
up_to_last_glyph (x ∷ items) = before_glyphs x (up_to_last_glyph items)

-- what is told of items of which the first begins at a place, from the left: the byte of each that isn't measured, and where it
-- begins
abbrev pub notes_from : ℕ → List Item → List Note
notes_from place [] = []
notes_from place (x ∷ items) =
    option_to_list (option_map (λ b. record { place = place; byte = b }) (note x.what)) ++ notes_from (place + length x.bytes) items

-- whether something is told of items
abbrev pub has_notes : List Item → Bool
has_notes items = list_any (λ i. is_some (note i.what)) items

-- whether an item is a byte of a kind that stands for itself: no escape is one
abbrev pub stands_for : (ℕ → Bool) → List ℕ → Bool
stands_for is_such (b ∷ []) = is_such b
stands_for is_such (_) = false

abbrev pub is_digit_itself : Item → Bool
is_digit_itself i = stands_for is_digit i.bytes

abbrev pub is_dot_itself : Item → Bool
is_dot_itself i = stands_for (λ b. b == dot) i.bytes

-- whether the first of items is such
abbrev pub begins_with : (Item → Bool) → List Item → Bool
begins_with is_such [] = false
begins_with is_such (x ∷ items) = is_such x

-- whether a digit is the nearest of these, but for what is dropped
abbrev pub adjoins_digit : List Item → Bool
adjoins_digit nearest = begins_with is_digit_itself (filter (λ i. not (stands_for is_dropped i.bytes)) nearest)

-- a place before an item: what stands before the place, the nearest first, the item, and what stands behind it
pub record Place : Type 0 where
  pub before : List Item
  pub item : Item
  pub behind : List Item

-- whether it stands before a dot that adjoins a digit, before a digit, or before a `\&`
abbrev pub is_before_dot : Place → Bool
is_before_dot p = is_dot_itself p.item && (adjoins_digit p.before || adjoins_digit p.behind)

abbrev pub is_before_digit : Place → Bool
is_before_digit p = is_digit_itself p.item

abbrev pub is_before_ampersand : Place → Bool
is_before_ampersand p = is_ampersand p.item.what

-- a place, if it is such
abbrev pub place_if : (Place → Bool) → Place → Option Place
place_if is_such p = if is_such p then Some p else None

-- the leftmost and the rightmost place that is such, from one on
abbrev pub leftmost : (Place → Bool) → List Item → List Item → Option Place
leftmost is_such before [] = None
leftmost is_such before (x ∷ behind) =
    option_or (place_if is_such (record { before = before; item = x; behind = behind })) (leftmost is_such (x ∷ before) behind)

abbrev pub rightmost : (Place → Bool) → List Item → List Item → Option Place
rightmost is_such before [] = None
rightmost is_such before (x ∷ behind) =
    option_or (rightmost is_such (x ∷ before) behind) (place_if is_such (record { before = before; item = x; behind = behind }))

-- a split around the item at a place, which goes, before it, or behind it
abbrev pub split_around : Place → Split
split_around p = record { left = width_of p.before; end = len_of p.before; behind = len_of p.before + length p.item.bytes }

abbrev pub split_before : Place → Split
split_before p = record { left = width_of p.before; end = len_of p.before; behind = len_of p.before }

abbrev pub split_behind : Place → Split
split_behind p = record {
  left = width_of p.before + columns p.item.what;
  end = len_of p.before + length p.item.bytes;
  behind = len_of p.before + length p.item.bytes;
}

-- where a number is split: around its first `\&`, else before the rightmost dot that adjoins a digit, else behind the
-- rightmost digit
abbrev pub split_of : List Item → Option Split
split_of items =
    option_or (option_map split_around (leftmost is_before_ampersand [] items))
    (option_or (option_map split_before (rightmost is_before_dot [] items)) (option_map split_behind (rightmost is_before_digit [] items)))

-- items of which the first `\&` prints nothing
abbrev pub without_ampersand : List Item → List Item
without_ampersand [] = []
without_ampersand (x ∷ items) = if is_ampersand x.what then record x { what = Nothing } ∷ items else x ∷ without_ampersand items

-- a split of a text that has so many bytes and so many columns
pub record SplitLies (len width : ℕ) (s : Split) : Type 0 where
  pub left : s.left ≤ width
  pub order : s.end ≤ s.behind
  pub within : s.behind ≤ len

-- what items measure, as a text and as a number
abbrev pub text_measured : List Item → Measured
text_measured items = record { width = width_of items; glyphs = len_of (up_to_last_glyph items); split = None; has_notes = has_notes items }

abbrev pub number_measured : List Item → Measured
number_measured items = record (text_measured (without_ampersand items)) { split = split_of items }

-- what a text measures; as a number or not
abbrev pub measured : Bool → List ℕ → Measured
measured false text = text_measured (items text)
measured true text = number_measured (items text)
