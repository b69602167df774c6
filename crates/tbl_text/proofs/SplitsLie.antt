-- Where a number splits lies within it.
use Rattle.std.proofs.Common.{◌≡◌, ℕ, ◌+◌, ◌≤◌, Bool, true, false, List, [], ◌∷◌, length, flat_map, refl, sym, ap, ◌∙◌, arith, length-append, IfSome, Option, Some, None, option_map, if◌then◌else◌}
use Rattle.std.proofs.lemmas.List.Sums.{sum_by-cons}
use Rattle.std.specs.Option.{option_or}
use Rattle.tbl_text.specs.Items.{Item, columns, is_ampersand, items}
use Rattle.tbl_text.specs.Measuring.{Place, SplitLies, is_before_ampersand, is_before_digit, is_before_dot, leftmost, len_of, measured, place_if, rightmost, split_around, split_before, split_behind, split_of, width_of, without_ampersand}
use Rattle.tbl_text.specs.declared.items.What.{What}
use Rattle.tbl_text.specs.declared.items.What.TheVariants.{Blank, Byte, Glyph, Ampersand, NotMeasured, Nothing, Dropped}
use Rattle.tbl_text.specs.declared.measure.Split.{Split}
use Rattle.tbl_text.proofs.ItemLaws.{items-joined}

-- an item more
len-more : (x : Item) (list : List Item) → len_of (x ∷ list) ≡ length x.bytes + len_of list
len-more x list = sum_by-cons (λ (i : Item). length i.bytes) x list

width-more : (x : Item) (list : List Item) → width_of (x ∷ list) ≡ columns x.what + width_of list
width-more x list = sum_by-cons (λ (i : Item). columns i.what) x list

-- a place before an item, among items that have so many bytes and so many columns
pub record PlaceLies (len width : ℕ) (p : Place) : Type 0 where
  pub bytes : len_of p.before + length p.item.bytes ≤ len
  pub columns : width_of p.before + columns p.item.what ≤ width

module _ (len width : ℕ) where
  -- one of two options
  either : (a b : Option Place) → IfSome a (PlaceLies len width) → IfSome b (PlaceLies len width) → IfSome (option_or a b) (PlaceLies len width)
  either None b first second = second
  either (Some p) b first second = first

  only_if : (is : Bool) (p : Place) → PlaceLies len width p → IfSome (if is then Some p else None) (PlaceLies len width)
  only_if true p lies = lies
  only_if false p lies = tt

module _ (is_such : Place → Bool) where
  pub leftmost-lies : (before list : List Item) (len width : ℕ) → len_of before + len_of list ≤ len → width_of before + width_of list ≤ width
      → IfSome (leftmost is_such before list) (PlaceLies len width)
  leftmost-lies before [] len width fits narrow = tt
  leftmost-lies before (x ∷ behind) len width fits narrow =
      let here : Place = record { before = before; item = x; behind = behind } in
      either len width (place_if is_such here) (leftmost is_such (x ∷ before) behind)
      (only_if len width (is_such here) here (record { bytes = omega (arith, fits, len-more x behind); columns = omega (arith, narrow, width-more x behind) }))
      (leftmost-lies (x ∷ before) behind len width (omega (arith, fits, len-more x behind, len-more x before)) (omega (arith, narrow, width-more x behind, width-more x before)))

  pub rightmost-lies : (before list : List Item) (len width : ℕ) → len_of before + len_of list ≤ len → width_of before + width_of list ≤ width
      → IfSome (rightmost is_such before list) (PlaceLies len width)
  rightmost-lies before [] len width fits narrow = tt
  rightmost-lies before (x ∷ behind) len width fits narrow =
      let here : Place = record { before = before; item = x; behind = behind } in
      either len width (rightmost is_such (x ∷ before) behind) (place_if is_such here)
      (rightmost-lies (x ∷ before) behind len width (omega (arith, fits, len-more x behind, len-more x before)) (omega (arith, narrow, width-more x behind, width-more x before)))
      (only_if len width (is_such here) here (record { bytes = omega (arith, fits, len-more x behind); columns = omega (arith, narrow, width-more x behind) }))

module _ (len width : ℕ) where
  around : (o : Option Place) → IfSome o (PlaceLies len width) → IfSome (option_map split_around o) (SplitLies len width)
  around None lies = tt
  around (Some p) lies = record { left = omega (arith, lies.columns); order = omega arith; within = omega (arith, lies.bytes) }

  before : (o : Option Place) → IfSome o (PlaceLies len width) → IfSome (option_map split_before o) (SplitLies len width)
  before None lies = tt
  before (Some p) lies = record { left = omega (arith, lies.columns); order = omega arith; within = omega (arith, lies.bytes) }

  behind : (o : Option Place) → IfSome o (PlaceLies len width) → IfSome (option_map split_behind o) (SplitLies len width)
  behind None lies = tt
  behind (Some p) lies = record { left = omega (arith, lies.columns); order = omega arith; within = omega (arith, lies.bytes) }

  one_of : (a b : Option Split) → IfSome a (SplitLies len width) → IfSome b (SplitLies len width) → IfSome (option_or a b) (SplitLies len width)
  one_of None b first second = second
  one_of (Some s) b first second = first

  pub split-lies : (list : List Item) → len_of list ≤ len → width_of list ≤ width → IfSome (split_of list) (SplitLies len width)
  split-lies list fits narrow =
      let left = leftmost is_before_ampersand [] list in
      let dot = rightmost is_before_dot [] list in
      let digit = rightmost is_before_digit [] list in
      one_of (option_map split_around left) (option_or (option_map split_before dot) (option_map split_behind digit))
      (around left (leftmost-lies is_before_ampersand [] list len width (omega (arith, fits)) (omega (arith, narrow))))
      (one_of (option_map split_before dot) (option_map split_behind digit)
      (before dot (rightmost-lies is_before_dot [] list len width (omega (arith, fits)) (omega (arith, narrow))))
      (behind digit (rightmost-lies is_before_digit [] list len width (omega (arith, fits)) (omega (arith, narrow)))))

-- a `\&` that prints nothing has no columns, as it has none
no_columns : (what : What) → is_ampersand what ≡ true → columns what ≡ 0
no_columns Blank is = absurd (cc is)
no_columns (Byte b) is = absurd (cc is)
no_columns (Glyph n) is = absurd (cc is)
no_columns Ampersand is = refl
no_columns (NotMeasured b) is = refl
no_columns Nothing is = refl
no_columns Dropped is = refl

without-first : (is : Bool) (x : Item) (list : List Item) → is_ampersand x.what ≡ is → width_of (without_ampersand list) ≡ width_of list
    → width_of (if is then record x { what = Nothing } ∷ list else x ∷ without_ampersand list) ≡ columns x.what + width_of list
without-first true x list is rest = width-more (record x { what = Nothing }) list ∙ ap (λ (n : ℕ). n + width_of list) (sym (no_columns x.what is))
without-first false x list is rest = width-more x (without_ampersand list) ∙ ap (λ (n : ℕ). columns x.what + n) rest

pub width-without : (list : List Item) → width_of (without_ampersand list) ≡ width_of list
width-without [] = refl
width-without (x ∷ list) = without-first (is_ampersand x.what) x list refl (width-without list) ∙ sym (width-more x list)

len_of-bytes : (list : List Item) → len_of list ≡ length (flat_map (λ (i : Item). i.bytes) list)
len_of-bytes [] = refl
len_of-bytes (x ∷ list) =
    len-more x list ∙ ap (λ (n : ℕ). length x.bytes + n) (len_of-bytes list)
    ∙ sym (length-append x.bytes (flat_map (λ (i : Item). i.bytes) list))

-- what a text measures is split within it; as a number or not
pub measured-split : (is_number : Bool) (text : List ℕ)
    → IfSome (measured is_number text).split (SplitLies (length text) (measured is_number text).width)
measured-split false text = tt
measured-split true text =
    split-lies (length text) (width_of (without_ampersand (items text))) (items text)
    (omega (arith, len_of-bytes (items text), ap length (items-joined text)))
    (omega (arith, width-without (items text)))
