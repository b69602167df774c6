-- Where a number splits, item by item.
use Rattle.std.proofs.Common.{◌≡◌, ℕ, ◌+◌, Bool, true, false, List, [], ◌∷◌, length, refl, sym, ap, ◌∙◌, arith, ne_eqb, ◌==◌, ◌&&◌, ◌||◌, cond, not, filter, Option, Some, None, option_map, slice_index, if◌then◌else◌}
use Rattle.std.specs.Option.{option_or}
use Rattle.std.proofs.lemmas.Bool.Decides.{nat_tests}
use Rattle.input_source.specs.Bytes.{dot, is_digit, is_dropped}
use Rattle.tbl_text.specs.Items.{Item, columns, is_ampersand}
use Rattle.tbl_text.specs.Measuring.{Place, adjoins_digit, begins_with, is_before_ampersand, is_before_digit, is_before_dot, is_digit_itself, is_dot_itself, leftmost, len_of, place_if, rightmost, split_around, split_before, split_behind, split_of, stands_for, width_of}
use Rattle.tbl_text.specs.MeasuredSoFar.{ampersand_split, byte_split, dot_before, is_digit_before, item_split, split_between}
use Rattle.tbl_text.specs.declared.items.What.{What}
use Rattle.tbl_text.specs.declared.items.What.TheVariants.{Blank, Byte, Glyph, Ampersand, NotMeasured, Nothing, Dropped}
use Rattle.tbl_text.specs.declared.measure.Before.{Before}
use Rattle.tbl_text.specs.declared.measure.Before.TheVariants.{Other, Digit, Dot}
use Rattle.tbl_text.specs.declared.measure.Split.{Split}
use Rattle.tbl_text.specs.declared.measure.Splitting.{Splitting}
use Rattle.tbl_text.proofs.Onto.{onto}

-- nothing is read of a number
abbrev pub unsplit : Splitting
unsplit = record { ampersand = None; dot = None; digit = None; before = Other }

-- behind one item more
abbrev pub split_more : Splitting → List Item → Item → Splitting
split_more s before x = item_split s (len_of before) (width_of before) (slice_index x.bytes 0) (length x.bytes) x.what

-- where it may be split behind items, the nearest first
abbrev pub splitting_of : List Item → Splitting
splitting_of [] = unsplit
splitting_of (x ∷ before) = split_more (splitting_of before) before x

-- a `\&` changes nothing but the split around it
with_ampersand : (s : Splitting) (at width len : ℕ) (what : What)
    → ampersand_split s at width len what ≡ record s { ampersand = (ampersand_split s at width len what).ampersand }
with_ampersand s at width len Blank = refl
with_ampersand s at width len (Byte b) = refl
with_ampersand s at width len (Glyph n) = refl
with_ampersand s at width len Ampersand = refl
with_ampersand s at width len (NotMeasured b) = refl
with_ampersand s at width len Nothing = refl
with_ampersand s at width len Dropped = refl

-- the place before an item
abbrev pub place : List Item → Item → List Item → Place
place before x behind = record { before = before; item = x; behind = behind }

-- where a number is split before a dot, by what stands behind
abbrev pub best : Splitting → List Item → Option Split
best s behind = if adjoins_digit behind then option_or (dot_before s.before) s.dot else s.dot

-- the first of options that there is
or-none : {A : Type 0} (o : Option A) → option_or o None ≡ o
or-none None = refl
or-none (Some x) = refl

or-assoc : {A : Type 0} (a b c : Option A) → option_or (option_or a b) c ≡ option_or a (option_or b c)
or-assoc None b c = refl
or-assoc (Some x) b c = refl

map-or : {A B : Type 0} (f : A → B) (a b : Option A) → option_map f (option_or a b) ≡ option_or (option_map f a) (option_map f b)
map-or f None b = refl
map-or f (Some x) b = refl

map-if : {A B : Type 0} (f : A → B) (c : Bool) (x : A) → option_map f (if c then Some x else None) ≡ (if c then Some (f x) else None)
map-if f true x = refl
map-if f false x = refl

or-if : (c : Bool) (x : Split) (o : Option Split) → option_or (if c then Some x else None) o ≡ (if c then Some x else o)
or-if true x o = refl
or-if false x o = refl

-- what a byte that stands for itself makes of the split before a dot, and of what stands before
abbrev pub new_dot : Bool → Bool → Bool → Before → Option Split → Split → Option Split
new_dot is_digit is_dot behind_digit before dot here =
    if is_digit then option_or (dot_before before) dot else if is_dot then (if behind_digit then Some here else dot) else dot

abbrev pub new_before : Bool → Bool → Bool → Before → Split → Before
new_before is_digit is_dot is_dropped before here =
    if is_digit then Digit else if is_dot then Dot here else if is_dropped then before else Other

-- the split before the rightmost dot that adjoins a digit, with one byte more in front of what stands behind; `left` says whether a
-- digit adjoins it from the left, `right` whether one does from the right
dot_moved : (D T R left right : Bool) (before : Before) (dot : Option Split) (here : Split)
    → (D ≡ true → T ≡ false) → (D ≡ true → R ≡ false) → (T ≡ true → R ≡ false)
    → option_or (if T && (left || right) then Some here else None) (if (if R then right else D) then option_or (dot_before before) dot else dot)
    ≡ (if right then option_or (dot_before (new_before D T R before here)) (new_dot D T left before dot here) else new_dot D T left before dot here)
dot_moved true true R left right before dot here no_dot no_drop not_dropped = absurd (let wrong : true ≡ false = no_dot refl in cc)
dot_moved true false true left right before dot here no_dot no_drop not_dropped = absurd (let wrong : true ≡ false = no_drop refl in cc)
dot_moved true false false left true before dot here no_dot no_drop not_dropped = refl
dot_moved true false false left false before dot here no_dot no_drop not_dropped = refl
dot_moved false true true left right before dot here no_dot no_drop not_dropped = absurd (let wrong : true ≡ false = not_dropped refl in cc)
dot_moved false true false true true before dot here no_dot no_drop not_dropped = refl
dot_moved false true false true false before dot here no_dot no_drop not_dropped = refl
dot_moved false true false false true before dot here no_dot no_drop not_dropped = refl
dot_moved false true false false false before dot here no_dot no_drop not_dropped = refl
dot_moved false false true left right before dot here no_dot no_drop not_dropped = refl
dot_moved false false false left true before dot here no_dot no_drop not_dropped = refl
dot_moved false false false left false before dot here no_dot no_drop not_dropped = refl

-- a byte is one of these at most
digit_no_dot : (b : ℕ) → is_digit b ≡ true → (b == dot) ≡ false
digit_no_dot b is = grind (arith, nat_tests)

digit_stays : (b : ℕ) → is_digit b ≡ true → is_dropped b ≡ false
digit_stays b is = grind (arith, nat_tests)

dot_stays : (b : ℕ) → (b == dot) ≡ true → is_dropped b ≡ false
dot_stays b is = grind (arith, nat_tests)

itself : (p q : ℕ → Bool) (bytes : List ℕ) → ((b : ℕ) → p b ≡ true → q b ≡ false) → stands_for p bytes ≡ true → stands_for q bytes ≡ false
itself p q [] none is = refl
itself p q (b ∷ []) none is = none b is
itself p q (b ∷ c ∷ more) none is = refl

-- what is kept behind an item, but for the `\&`
abbrev pub behind_byte : Splitting → ℕ → ℕ → List ℕ → What → Splitting
behind_byte s at width bytes what = if length bytes == 1 then byte_split s at width (slice_index bytes 0) what else record s { before = Other }

-- several bytes are no byte
several : (b c : ℕ) (more : List ℕ) → (length (b ∷ c ∷ more) == 1) ≡ false
several b c more = ne_eqb (length (b ∷ c ∷ more)) 1 (λ is. omega (arith, is))

-- each field of it
choice_dot : (D T R : Bool) (s a b c d : Splitting) → (if D then a else if T then b else if R then c else d).dot ≡ (if D then a.dot else if T then b.dot else if R then c.dot else d.dot)
choice_dot true T R s a b c d = refl
choice_dot false true R s a b c d = refl
choice_dot false false true s a b c d = refl
choice_dot false false false s a b c d = refl

same_dot : (D T R : Bool) (x y z : Option Split) → (if D then x else if T then y else if R then z else z) ≡ (if D then x else if T then y else z)
same_dot true T R x y z = refl
same_dot false true R x y z = refl
same_dot false false true x y z = refl
same_dot false false false x y z = refl

choice_digit : (D T R : Bool) (digit : Option Split) (a b c d : Splitting) → b.digit ≡ digit → c.digit ≡ digit → d.digit ≡ digit
    → (if D then a else if T then b else if R then c else d).digit ≡ (if D then a.digit else digit)
choice_digit true T R digit a b c d of_b of_c of_d = refl
choice_digit false true R digit a b c d of_b of_c of_d = of_b
choice_digit false false true digit a b c d of_b of_c of_d = of_c
choice_digit false false false digit a b c d of_b of_c of_d = of_d

choice_ampersand : (D T R : Bool) (split : Option Split) (a b c d : Splitting) → a.ampersand ≡ split → b.ampersand ≡ split → c.ampersand ≡ split → d.ampersand ≡ split
    → (if D then a else if T then b else if R then c else d).ampersand ≡ split
choice_ampersand true T R split a b c d of_a of_b of_c of_d = of_a
choice_ampersand false true R split a b c d of_a of_b of_c of_d = of_b
choice_ampersand false false true split a b c d of_a of_b of_c of_d = of_c
choice_ampersand false false false split a b c d of_a of_b of_c of_d = of_d

choice_before : (D T R : Bool) (a b c d : Splitting) → (if D then a else if T then b else if R then c else d).before ≡ (if D then a.before else if T then b.before else if R then c.before else d.before)
choice_before true T R a b c d = refl
choice_before false true R a b c d = refl
choice_before false false true a b c d = refl
choice_before false false false a b c d = refl

module _ (s : Splitting) (at width : ℕ) (what : What) where
  behind_dot : (bytes : List ℕ) → (behind_byte s at width bytes what).dot
      ≡ new_dot (stands_for is_digit bytes) (stands_for (λ b. b == dot) bytes) (is_digit_before s.before) s.before s.dot (split_between width at)
  behind_dot [] = refl
  behind_dot (b ∷ []) = choice_dot (is_digit b) (b == dot) (is_dropped b) s _ _ s (record s { before = Other }) ∙ same_dot (is_digit b) (b == dot) (is_dropped b) _ _ s.dot
  behind_dot (b ∷ c ∷ more) = ap (λ (t : Bool). (if t then byte_split s at width b what else record s { before = Other }).dot) (several b c more)

  behind_before : (bytes : List ℕ) → (behind_byte s at width bytes what).before
      ≡ new_before (stands_for is_digit bytes) (stands_for (λ b. b == dot) bytes) (stands_for is_dropped bytes) s.before (split_between width at)
  behind_before [] = refl
  behind_before (b ∷ []) = choice_before (is_digit b) (b == dot) (is_dropped b) _ _ s (record s { before = Other })
  behind_before (b ∷ c ∷ more) = ap (λ (t : Bool). (if t then byte_split s at width b what else record s { before = Other }).before) (several b c more)

  behind_digit : (bytes : List ℕ) → (behind_byte s at width bytes what).digit
      ≡ (if stands_for is_digit bytes then Some (split_between (width + columns what) (at + length bytes)) else s.digit)
  behind_digit [] = refl
  behind_digit (b ∷ []) = choice_digit (is_digit b) (b == dot) (is_dropped b) s.digit _ _ s (record s { before = Other }) refl refl refl
  behind_digit (b ∷ c ∷ more) = ap (λ (t : Bool). (if t then byte_split s at width b what else record s { before = Other }).digit) (several b c more)

  behind_ampersand : (bytes : List ℕ) → (behind_byte s at width bytes what).ampersand ≡ s.ampersand
  behind_ampersand [] = refl
  behind_ampersand (b ∷ []) = choice_ampersand (is_digit b) (b == dot) (is_dropped b) s.ampersand _ _ s (record s { before = Other }) refl refl refl refl
  behind_ampersand (b ∷ c ∷ more) = ap (λ (t : Bool). (if t then byte_split s at width b what else record s { before = Other }).ampersand) (several b c more)

-- the same with the split around a `\&`
module _ (s : Splitting) (before : List Item) (x : Item) where
  abbrev made : Splitting
  made = behind_byte s (len_of before) (width_of before) x.bytes x.what

  others : split_more s before x ≡ record made { ampersand = (split_more s before x).ampersand }
  others = with_ampersand made (len_of before) (width_of before) (length x.bytes) x.what

  more_dot : (split_more s before x).dot
      ≡ new_dot (is_digit_itself x) (is_dot_itself x) (is_digit_before s.before) s.before s.dot (split_between (width_of before) (len_of before))
  more_dot = ap (λ (t : Splitting). t.dot) others ∙ behind_dot s (len_of before) (width_of before) x.what x.bytes

  more_before : (split_more s before x).before
      ≡ new_before (is_digit_itself x) (is_dot_itself x) (stands_for is_dropped x.bytes) s.before (split_between (width_of before) (len_of before))
  more_before = ap (λ (t : Splitting). t.before) others ∙ behind_before s (len_of before) (width_of before) x.what x.bytes

  more_digit : (split_more s before x).digit
      ≡ (if is_digit_itself x then Some (split_between (width_of before + columns x.what) (len_of before + length x.bytes)) else s.digit)
  more_digit = ap (λ (t : Splitting). t.digit) others ∙ behind_digit s (len_of before) (width_of before) x.what x.bytes

-- the split around a `\&`
ampersand_by : (s t : Splitting) (at width len : ℕ) (what : What) → s.ampersand ≡ t.ampersand
    → (ampersand_split s at width len what).ampersand
    ≡ option_or t.ampersand (if is_ampersand what then Some (record { left = width; end = at; behind = at + len }) else None)
ampersand_by s t at width len Blank same = same ∙ sym (or-none t.ampersand)
ampersand_by s t at width len (Byte b) same = same ∙ sym (or-none t.ampersand)
ampersand_by s t at width len (Glyph n) same = same ∙ sym (or-none t.ampersand)
ampersand_by s t at width len Ampersand same = ap (λ (o : Option Split). option_or o (Some (record { left = width; end = at; behind = at + len }))) same
ampersand_by s t at width len (NotMeasured b) same = same ∙ sym (or-none t.ampersand)
ampersand_by s t at width len Nothing same = same ∙ sym (or-none t.ampersand)
ampersand_by s t at width len Dropped same = same ∙ sym (or-none t.ampersand)

-- whether a digit adjoins what stands behind an item, or the item is one
adjoins_by : (x : Item) (kept : List Item) (dropped : Bool)
    → begins_with is_digit_itself (cond (not dropped) (x ∷ kept) kept) ≡ (if dropped then begins_with is_digit_itself kept else is_digit_itself x)
adjoins_by x kept true = refl
adjoins_by x kept false = refl

adjoins-more : (x : Item) (behind : List Item) → adjoins_digit (x ∷ behind) ≡ (if stands_for is_dropped x.bytes then adjoins_digit behind else is_digit_itself x)
adjoins-more x behind = adjoins_by x (filter (λ i. not (stands_for is_dropped i.bytes)) behind) (stands_for is_dropped x.bytes)

-- what is kept says whether a digit adjoins a place from the left
digit_moved : (D T R : Bool) (before : Before) (here : Split) → (D ≡ true → R ≡ false) → (T ≡ true → R ≡ false)
    → is_digit_before (new_before D T R before here) ≡ (if R then is_digit_before before else D)
digit_moved true T true before here no_drop not_dropped = absurd (let wrong : true ≡ false = no_drop refl in cc)
digit_moved true T false before here no_drop not_dropped = refl
digit_moved false true true before here no_drop not_dropped = absurd (let wrong : true ≡ false = not_dropped refl in cc)
digit_moved false true false before here no_drop not_dropped = refl
digit_moved false false true before here no_drop not_dropped = refl
digit_moved false false false before here no_drop not_dropped = refl

digit-before : (before : List Item) → is_digit_before (splitting_of before).before ≡ adjoins_digit before
digit-before [] = refl
digit-before (x ∷ before) =
    let s : Splitting = splitting_of before in
    ap is_digit_before (more_before s before x)
    ∙ digit_moved (is_digit_itself x) (is_dot_itself x) (stands_for is_dropped x.bytes) s.before (split_between (width_of before) (len_of before))
    (itself is_digit is_dropped x.bytes digit_stays) (itself (λ b. b == dot) is_dropped x.bytes dot_stays)
    ∙ ap (λ (t : Bool). if stands_for is_dropped x.bytes then t else is_digit_itself x) (digit-before before)
    ∙ sym (adjoins-more x before)

-- a place before a dot moves over
module _ (before : List Item) (x : Item) (behind : List Item) where
  abbrev here : Place
  here = place before x behind

  abbrev kept : Splitting
  kept = splitting_of before

  abbrev next : Splitting
  next = splitting_of (x ∷ before)

  abbrev between : Split
  between = split_between (width_of before) (len_of before)

  ampersand-moved : option_or kept.ampersand (option_map split_around (place_if is_before_ampersand here)) ≡ next.ampersand
  ampersand-moved =
      ap (option_or kept.ampersand) (map-if split_around (is_ampersand x.what) here)
      ∙ sym (ampersand_by (behind_byte kept (len_of before) (width_of before) x.bytes x.what) kept (len_of before) (width_of before) (length x.bytes) x.what
      (behind_ampersand kept (len_of before) (width_of before) x.what x.bytes))

  digit-moved : option_or (option_map split_behind (place_if is_before_digit here)) kept.digit ≡ next.digit
  digit-moved =
      ap (λ (o : Option Split). option_or o kept.digit) (map-if split_behind (is_digit_itself x) here)
      ∙ or-if (is_digit_itself x) (split_behind here) kept.digit
      ∙ sym (more_digit kept before x)

  dot-moved : option_or (option_map split_before (place_if is_before_dot here)) (best kept (x ∷ behind)) ≡ best next behind
  dot-moved =
      ap (λ (o : Option Split). option_or o (best kept (x ∷ behind))) (map-if split_before (is_before_dot here) here)
      ∙ ap (λ (t : Bool). option_or (if is_dot_itself x && (t || adjoins_digit behind) then Some between else None) (best kept (x ∷ behind))) (sym (digit-before before))
      ∙ ap (λ (t : Bool). option_or (if is_dot_itself x && (is_digit_before kept.before || adjoins_digit behind) then Some between else None)
      (if t then option_or (dot_before kept.before) kept.dot else kept.dot)) (adjoins-more x behind)
      ∙ dot_moved (is_digit_itself x) (is_dot_itself x) (stands_for is_dropped x.bytes) (is_digit_before kept.before) (adjoins_digit behind) kept.before kept.dot between
      (itself is_digit (λ b. b == dot) x.bytes digit_no_dot) (itself is_digit is_dropped x.bytes digit_stays) (itself (λ b. b == dot) is_dropped x.bytes dot_stays)
      ∙ ap (λ (b : Before). if adjoins_digit behind then option_or (dot_before b) (new_dot (is_digit_itself x) (is_dot_itself x) (is_digit_before kept.before) kept.before kept.dot between)
      else new_dot (is_digit_itself x) (is_dot_itself x) (is_digit_before kept.before) kept.before kept.dot between) (sym (more_before kept before x))
      ∙ ap (λ (d : Option Split). if adjoins_digit behind then option_or (dot_before next.before) d else d) (sym (more_dot kept before x))

-- the splits of all items, by those that were read and those behind
pub record SplitsAt (all before behind : List Item) : Type 0 where
  pub ampersand : option_map split_around (leftmost is_before_ampersand [] all)
      ≡ option_or (splitting_of before).ampersand (option_map split_around (leftmost is_before_ampersand before behind))
  pub dot : option_map split_before (rightmost is_before_dot [] all)
      ≡ option_or (option_map split_before (rightmost is_before_dot before behind)) (best (splitting_of before) behind)
  pub digit : option_map split_behind (rightmost is_before_digit [] all)
      ≡ option_or (option_map split_behind (rightmost is_before_digit before behind)) (splitting_of before).digit

no_best : (right : Bool) → (if right then option_or {T = Split} None None else None) ≡ None
no_best true = refl
no_best false = refl

splits-onto : (before behind : List Item) → SplitsAt (onto before behind) before behind
splits-onto [] behind = record {
  ampersand = refl;
  dot = sym (ap (option_or (option_map split_before (rightmost is_before_dot [] behind))) (no_best (adjoins_digit behind)) ∙ or-none _);
  digit = sym (or-none _);
}
splits-onto (x ∷ before) behind =
    let at : SplitsAt (onto before (x ∷ behind)) before (x ∷ behind) = splits-onto before (x ∷ behind) in
    let s : Splitting = splitting_of before in
    let p : Place = place before x behind in
    record {
      ampersand =
          at.ampersand
          ∙ ap (option_or s.ampersand) (map-or split_around (place_if is_before_ampersand p) (leftmost is_before_ampersand (x ∷ before) behind))
          ∙ sym (or-assoc s.ampersand (option_map split_around (place_if is_before_ampersand p)) (option_map split_around (leftmost is_before_ampersand (x ∷ before) behind)))
          ∙ ap (λ (o : Option Split). option_or o (option_map split_around (leftmost is_before_ampersand (x ∷ before) behind))) (ampersand-moved before x behind);
      dot =
          at.dot
          ∙ ap (λ (o : Option Split). option_or o (best s (x ∷ behind))) (map-or split_before (rightmost is_before_dot (x ∷ before) behind) (place_if is_before_dot p))
          ∙ or-assoc (option_map split_before (rightmost is_before_dot (x ∷ before) behind)) (option_map split_before (place_if is_before_dot p)) (best s (x ∷ behind))
          ∙ ap (option_or (option_map split_before (rightmost is_before_dot (x ∷ before) behind))) (dot-moved before x behind);
      digit =
          at.digit
          ∙ ap (λ (o : Option Split). option_or o s.digit) (map-or split_behind (rightmost is_before_digit (x ∷ before) behind) (place_if is_before_digit p))
          ∙ or-assoc (option_map split_behind (rightmost is_before_digit (x ∷ before) behind)) (option_map split_behind (place_if is_before_digit p)) s.digit
          ∙ ap (option_or (option_map split_behind (rightmost is_before_digit (x ∷ before) behind))) (digit-moved before x behind);
    }

-- where all items are split that were read
pub split-all : (before : List Item) → let s : Splitting = splitting_of before in
    split_of (onto before []) ≡ option_or s.ampersand (option_or s.dot s.digit)
split-all before =
    let at : SplitsAt (onto before []) before [] = splits-onto before [] in
    let s : Splitting = splitting_of before in
    ap (λ (o : Option Split). option_or o (option_or (option_map split_before (rightmost is_before_dot [] (onto before []))) (option_map split_behind (rightmost is_before_digit [] (onto before [])))))
    (at.ampersand ∙ or-none s.ampersand)
    ∙ ap (λ (o : Option Split). option_or s.ampersand (option_or o (option_map split_behind (rightmost is_before_digit [] (onto before []))))) at.dot
    ∙ ap (λ (o : Option Split). option_or s.ampersand (option_or s.dot o)) at.digit

-- whether a `\&` has split it
pub ampersand-more : (before : List Item) (x : Item) → (splitting_of (x ∷ before)).ampersand
    ≡ option_or (splitting_of before).ampersand
    (if is_ampersand x.what then Some (record { left = width_of before; end = len_of before; behind = len_of before + length x.bytes }) else None)
ampersand-more before x =
    let s : Splitting = splitting_of before in
    ampersand_by (behind_byte s (len_of before) (width_of before) x.bytes x.what) s (len_of before) (width_of before) (length x.bytes) x.what
    (behind_ampersand s (len_of before) (width_of before) x.what x.bytes)
