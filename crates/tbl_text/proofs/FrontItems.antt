-- Items of a front of a text: where it ends behind an item, they are the first items of the text.
use Rattle.std.proofs.Common.{◌≡◌, ℕ, zero, suc, ◌+◌, ◌-◌, ◌≤◌, ◌<◌, Bool, true, false, not, List, [], ◌∷◌, length, take, drop, refl, sym, ap, subst, ◌∙◌, arith, length-drop, length-take, ◌==◌, Some, None, fold, nat_lt, if◌then◌else◌, ltb-false, ltb-true, take-take}
use Rattle.std.proofs.lemmas.List.{drop-take}
use Rattle.std.proofs.lemmas.List.Sums.{sum_by-cons}
use Rattle.input_source.specs.Bytes.{backslash, is_dropped}
use Rattle.input_escapes.specs.Nesting.{is_nothing}
use Rattle.input_escapes.specs.OpenEscape.{OpenEscape, Reads}
use Rattle.input_escapes.specs.OpenEscapes.{reading_ended}
use Rattle.input_escapes.specs.Waiting.{is_ended_by}
use Rattle.input_escapes.specs.declared.open_escape.Found.{Found}
use Rattle.tbl_text.specs.Fitted.{fitting, fitting_text}
use Rattle.tbl_text.specs.Items.{Item, Reading, all_ended, begun, byte_what, columns, ended, first_item, found_what, item_read, items, line_start, met, taken, whole}
use Rattle.tbl_text.specs.Measuring.{len_of, width_of}
use Rattle.tbl_text.proofs.ItemLists.{begun-within, first_item-some, fold-within, items-first}
use Rattle.tbl_text.proofs.ItemsRead.{IsWithin, fold-whole, met-within}

-- what a byte ends is half read
is-open : (half : List OpenEscape) (b : ℕ) → is_ended_by half (Some b) ≡ true → not (is_nothing half) ≡ true
is-open [] b ends = ends
is-open (first ∷ rest) b ends = refl

-- what a byte ends so that nothing is half read any more ends alike at the text's end
ended-by : (most b : ℕ) (r : Reads)
    → ((s : Reads) → is_nothing (ended most (Some b) s).1 ≡ true → ended most None s ≡ ended most (Some b) s)
    → (half_read ends : Bool) → not (is_nothing r.1) ≡ half_read → is_ended_by r.1 (Some b) ≡ ends
    → is_nothing (if ends then ended most (Some b) (reading_ended line_start r.1) else r).1 ≡ true
    → (if half_read then ended most None (reading_ended line_start r.1) else r)
    ≡ (if ends then ended most (Some b) (reading_ended line_start r.1) else r)
ended-by most b r rest true true half_read ends none = rest (reading_ended line_start r.1) none
ended-by most b r rest true false half_read ends none = let closed = ap not none in absurd cc
ended-by most b r rest false true half_read ends none = let opened = is-open r.1 b ends in absurd cc
ended-by most b r rest false false half_read ends none = refl

ended-alike : (most b : ℕ) (r : Reads) → is_nothing (ended most (Some b) r).1 ≡ true → ended most None r ≡ ended most (Some b) r
ended-alike zero b r none = refl
ended-alike (suc most) b r none =
    ended-by most b r (λ s. ended-alike most b s) (not (is_nothing r.1)) (is_ended_by r.1 (Some b)) refl refl none

-- an escape has no fewer bytes behind more of them
either-more : (n : ℕ) (c : Bool) (x y : Reading) → n ≤ x.len → n ≤ y.len → n ≤ (if c then x else y).len
either-more n true x y of_x of_y = of_x
either-more n false x y of_x of_y = of_y

taken-more : (r : Reading) (b : ℕ) (half : List OpenEscape) → r.len ≤ r.seen → r.len ≤ (taken r b half).len
taken-more r b [] fewer = omega arith
taken-more r b (first ∷ rest) fewer = omega (arith, fewer)

met-more : (r : Reading) (b : ℕ) → r.len ≤ r.seen → r.len ≤ (met r b).len
met-more r b fewer =
    let before : Reads = all_ended (Some b) r.read in
    either-more r.len (is_nothing r.read.1) _ _ (omega arith)
    (either-more r.len (is_dropped b) (record r { seen = r.seen + 1 }) (taken (record r { read = before }) b before.1) (omega arith)
    (taken-more (record r { read = before }) b before.1 fewer))

fold-more : (most : ℕ) (r : Reading) (text : List ℕ) → IsWithin most r → r.len ≤ (fold met r text).len
fold-more most r [] within = omega arith
fold-more most r (b ∷ text) within =
    omega (arith, met-more r b within.fewer, fold-more (most + 1) (met r b) text (met-within most r b within))

-- what an escape is of which this is read, and what of more text
record SameItem (x y : Reading) : Type 0 where
  len : x.len ≡ y.len
  found : x.read.0 ≡ y.read.0

-- an escape that doesn't go on in a text is what it is at the text's end
module _ (most : ℕ) (r : Reading) (b : ℕ) (text : List ℕ) (within : IsWithin most r) where
  abbrev before : Reads
  before = all_ended (Some b) r.read

  taken-stays : (half : List OpenEscape) → half ≡ before.1 → (fold met (taken (record r { read = before }) b half) text).len ≤ r.seen
      → SameItem (whole (taken (record r { read = before }) b half) text) (whole r [])
  taken-stays [] nothing short =
      let closed : Reading = record r { read = before } in
      let none : is_nothing before.1 ≡ true = ap is_nothing (sym nothing) in
      let ends : all_ended None r.read ≡ before = ended-alike (length r.read.1 + length r.read.1) b r.read none in
      let same : whole closed text ≡ whole closed [] =
      ap (λ (last : Reading). record last { read = all_ended None last.read }) (fold-whole closed text none) in
      let over : all_ended None before ≡ before = ap (λ (half : List OpenEscape). ended (length half + length half) None before) (sym nothing) in
      record {
        len = ap (λ (x : Reading). x.len) same;
        found = ap (λ (x : Reading). x.read.0) same ∙ ap (λ (x : Reads). x.0) over ∙ ap (λ (x : Reads). x.0) (sym ends);
      }
  taken-stays (first ∷ rest) half_read short =
      let goes_on : Reading = taken (record r { read = before }) b (first ∷ rest) in
      let inside : IsWithin (most + 1) goes_on = record { some = omega arith; fewer = omega arith; few = omega (arith, within.few) } in
      absurd (omega (arith, short, fold-more (most + 1) goes_on text inside))

  step-stays : ((s : Reading) → IsWithin (most + 1) s → (fold met s text).len ≤ s.seen → SameItem (whole s text) (whole s []))
      → (closed is_left : Bool) → is_nothing r.read.1 ≡ closed → is_dropped b ≡ is_left
      → let s : Reading = if closed then r else if is_left then record r { seen = r.seen + 1 } else taken (record r { read = before }) b before.1 in
      (fold met s text).len ≤ r.seen → SameItem (whole s text) (whole r [])
  step-stays rest true is_left is drops short = rest r (record { some = within.some; fewer = within.fewer; few = omega (arith, within.few) }) short
  step-stays rest false true is drops short =
      let s : Reading = record r { seen = r.seen + 1 } in
      let same = rest s (record { some = within.some; fewer = omega (arith, within.fewer); few = omega (arith, within.few) })
      (omega (arith, short)) in
      record { len = same.len; found = same.found }
  step-stays rest false false is drops short = taken-stays before.1 refl short

stays : (most : ℕ) (r : Reading) (text : List ℕ) → IsWithin most r → (fold met r text).len ≤ r.seen → SameItem (whole r text) (whole r [])
stays most r [] within short = record { len = refl; found = refl }
stays most r (b ∷ text) within short =
    step-stays most r b text within (λ s inside less. stays (most + 1) s text inside less) (is_nothing r.read.1) (is_dropped b) refl refl short

-- behind a byte one more was looked at, where the escape isn't whole
seen-taken : (r : Reading) (b : ℕ) (half : List OpenEscape) → half ≡ r.read.1 → is_nothing (taken r b half).read.1 ≡ false
    → (taken r b half).seen ≡ r.seen + 1
seen-taken r b [] same half_read = let nothing = ap is_nothing same in absurd cc
seen-taken r b (first ∷ rest) same half_read = refl

seen-by : (r : Reading) (b : ℕ) (closed is_left : Bool) → is_nothing r.read.1 ≡ closed
    → let before : Reads = all_ended (Some b) r.read in
    let s : Reading = if closed then r else if is_left then record r { seen = r.seen + 1 } else taken (record r { read = before }) b before.1 in
    is_nothing s.read.1 ≡ false → s.seen ≡ r.seen + 1
seen-by r b true is_left is half_read = absurd cc
seen-by r b false true is half_read = refl
seen-by r b false false is half_read =
    let before : Reads = all_ended (Some b) r.read in seen-taken (record r { read = before }) b before.1 refl half_read

met-seen : (r : Reading) (b : ℕ) → is_nothing (met r b).read.1 ≡ false → (met r b).seen ≡ r.seen + 1
met-seen r b half_read = seen-by r b (is_nothing r.read.1) (is_dropped b) refl half_read

-- an escape is what it is in a front of the text, that ends behind it
abbrev closed_by : Reading → Reading
closed_by last = record last { read = all_ended None last.read }

front-step : (n most : ℕ) (r s : Reading) (text : List ℕ)
    → (IsWithin (most + 1) s → (fold met s text).len ≤ s.seen + n → SameItem (whole s (take n text)) (whole s text))
    → IsWithin (most + 1) s → (fold met s text).len ≤ r.seen + suc n → (closed : Bool) → is_nothing s.read.1 ≡ closed
    → (is_nothing s.read.1 ≡ false → s.seen ≡ r.seen + 1) → SameItem (whole s (take n text)) (whole s text)
front-step n most r s text rest within short true is seen =
    let same : whole s (take n text) ≡ whole s text = ap closed_by (fold-whole s (take n text) is ∙ sym (fold-whole s text is)) in
    record { len = ap (λ (x : Reading). x.len) same; found = ap (λ (x : Reading). x.read.0) same }
front-step n most r s text rest within short false is seen = rest within (omega (arith, short, seen is))

front-read : (n most : ℕ) (r : Reading) (text : List ℕ) → IsWithin most r → (fold met r text).len ≤ r.seen + n
    → SameItem (whole r (take n text)) (whole r text)
front-read zero most r text within short =
    let same = stays most r text within (omega (arith, short)) in record { len = sym same.len; found = sym same.found }
front-read (suc n) most r [] within short = record { len = refl; found = refl }
front-read (suc n) most r (b ∷ text) within short =
    let s = met r b in
    let next = front-step n most r s text (λ inside less. front-read n (most + 1) s text inside less) (met-within most r b within) short
    (is_nothing s.read.1) refl (met-seen r b) in
    record { len = next.len; found = next.found }

item-by : (b n : ℕ) (text : List ℕ) (is_escape : Bool)
    → length (if is_escape then item_read (b ∷ text) (whole begun text) else record { bytes = b ∷ []; what = byte_what b }).bytes ≤ suc n
    → (if is_escape then item_read (b ∷ take n text) (whole begun (take n text)) else record { bytes = b ∷ []; what = byte_what b })
    ≡ (if is_escape then item_read (b ∷ text) (whole begun text) else record { bytes = b ∷ []; what = byte_what b })
item-by b n text false short = refl
item-by b n text true short =
    let all = fold-within 1 begun text begun-within in
    let len = (whole begun text).len in
    let few : len ≤ suc n = omega (arith, length-take len (b ∷ text), short, all.few, all.fewer) in
    let same = front-read n 1 begun text begun-within (omega (arith, few)) in
    let front = whole begun (take n text) in
    let item : List ℕ → Found → Item = λ bytes found. record { bytes = bytes; what = found_what found } in
    ap (λ (k : ℕ). item (take k (b ∷ take n text)) front.read.0) same.len
    ∙ ap (λ (f : Found). item (take len (b ∷ take n text)) f) same.found
    ∙ ap (λ (bytes : List ℕ). item bytes (whole begun text).read.0) (take-take len (suc n) (b ∷ text) few)

item-of-front : (b n : ℕ) (text : List ℕ) → length (first_item b text).bytes ≤ suc n → first_item b (take n text) ≡ first_item b text
item-of-front b n text short = item-by b n text (b == backslash) short

-- the first items of a text are all of its front that has their bytes
items-front : (most : ℕ) (text : List ℕ) (count : ℕ) → length text ≤ most
    → items (take (len_of (take count (items text))) text) ≡ take count (items text)
items-front most text zero few = refl
items-front most [] (suc count) few = refl
items-front zero (b ∷ text) (suc count) few = absurd (omega (arith, few))
items-front (suc most) (b ∷ text) (suc count) few =
    let own = first_item b text in
    let a = length own.bytes in
    let some : 1 ≤ a = first_item-some b text in
    let rest = drop a (b ∷ text) in
    let front = take count (items rest) in
    let m = len_of front in
    let n = a + m - 1 in
    let first : take (suc count) (items (b ∷ text)) ≡ own ∷ front = ap (λ (xs : List Item). take (suc count) xs) (items-first b text) in
    let len : len_of (take (suc count) (items (b ∷ text))) ≡ a + m = ap len_of first ∙ sum_by-cons (λ (x : Item). length x.bytes) own front in
    let whole_len : suc n ≡ a + m = omega (arith, some) in
    let cut : take (a + m) (b ∷ text) ≡ b ∷ take n text = ap (λ (k : ℕ). take k (b ∷ text)) (sym whole_len) in
    let behind : drop a (b ∷ take n text) ≡ take m rest = ap (λ (xs : List ℕ). drop a xs) (sym cut) ∙ drop-take a m (b ∷ text) in
    ap (λ (k : ℕ). items (take k (b ∷ text))) len
    ∙ ap items cut
    ∙ items-first b (take n text)
    ∙ ap (λ (x : Item). x ∷ items (drop (length x.bytes) (b ∷ take n text))) (item-of-front b n text (omega (arith, whole_len)))
    ∙ ap (λ (xs : List ℕ). own ∷ items xs) behind
    ∙ ap (λ (xs : List Item). own ∷ xs) (items-front most rest count (omega (arith, few, some, length-drop a (b ∷ text))))
    ∙ sym first

-- items as far as they fit are the first ones
fit-by : (x : Item) (xs front : List Item) (t : Bool) → take (length front) xs ≡ front
    → take (length (if t then [] else x ∷ front)) (x ∷ xs) ≡ (if t then [] else x ∷ front)
fit-by x xs front true is = refl
fit-by x xs front false is = ap (λ (ys : List Item). x ∷ ys) is

pub fitting-front : (room : ℕ) (xs : List Item) → take (length (fitting room xs)) xs ≡ fitting room xs
fitting-front room [] = refl
fitting-front room (x ∷ xs) =
    let own = columns x.what in fit-by x xs (fitting (room - own) xs) (nat_lt room own) (fitting-front (room - own) xs)

pub fitting-items : (room : ℕ) (text : List ℕ) → items (fitting_text room text) ≡ fitting room (items text)
fitting-items room text =
    let front = fitting room (items text) in
    let is = fitting-front room (items text) in
    ap (λ (xs : List Item). items (take (len_of xs) text)) (sym is) ∙ items-front (length text) text (length front) (omega arith) ∙ is

-- they fit
width-by : (room : ℕ) (x : Item) (front : List Item) (t : Bool) → nat_lt room (columns x.what) ≡ t → width_of front ≤ room - columns x.what
    → width_of (if t then [] else x ∷ front) ≤ room
width-by room x front true is fits = omega arith
width-by room x front false is fits =
    omega (arith, fits, ltb-false room (columns x.what) is, sum_by-cons (λ (i : Item). columns i.what) x front)

pub fitting-width : (room : ℕ) (xs : List Item) → width_of (fitting room xs) ≤ room
fitting-width room [] = omega arith
fitting-width room (x ∷ xs) =
    let own = columns x.what in width-by room x (fitting (room - own) xs) (nat_lt room own) refl (fitting-width (room - own) xs)

-- and one more wouldn't
most-by : (room : ℕ) (y x : Item) (xs rest front : List Item) (t : Bool) → nat_lt room (columns y.what) ≡ t
    → (drop (length front) xs ≡ x ∷ rest → room - columns y.what < width_of front + columns x.what)
    → drop (length (if t then [] else y ∷ front)) (y ∷ xs) ≡ x ∷ rest → room < width_of (if t then [] else y ∷ front) + columns x.what
most-by room y x xs rest front true is more next =
    let same : y ≡ x = cc in
    let wide = ltb-true room (columns y.what) is in
    subst (λ (i : Item). room < 0 + columns i.what) same (omega (arith, wide))
most-by room y x xs rest front false is more next =
    omega (arith, more next, ltb-false room (columns y.what) is, sum_by-cons (λ (i : Item). columns i.what) y front)

pub fitting-most : (room : ℕ) (xs rest : List Item) (x : Item) → drop (length (fitting room xs)) xs ≡ x ∷ rest
    → room < width_of (fitting room xs) + columns x.what
fitting-most room [] rest x next = absurd cc
fitting-most room (y ∷ xs) rest x next =
    let own = columns y.what in
    most-by room y x xs rest (fitting (room - own) xs) (nat_lt room own) refl (fitting-most (room - own) xs rest x) next
