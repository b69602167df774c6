-- The bytes of a text's items, and items that are bytes.
use Rattle.std.proofs.Common.{◌≡◌, ℕ, zero, suc, ◌≤◌, Bool, true, false, List, [], ◌∷◌, ◌++◌, length, take, drop, map, refl, sym, ap, ◌∙◌, arith, length-drop, append-nil, ◌==◌, if◌then◌else◌, take-append-drop, length-take}
use Rattle.std.specs.List.{AllByRecursion}
use Rattle.std.proofs.lemmas.List.{take_min}
use Rattle.std.proofs.lemmas.Bool.Decides.{nat_tests}
use Rattle.input_source.specs.Bytes.{backslash, is_text_byte}
use Rattle.tbl_text.specs.Items.{Item, begun, first_item, first_items, item_read, items, whole}
use Rattle.tbl_text.specs.Laws.{ArePlain, byte_item}
use Rattle.tbl_text.specs.Measuring.{bytes_of}
use Rattle.tbl_text.proofs.ItemLists.{first_item-some, items-first}

-- an item's bytes are the front of its text
front_by : (b : ℕ) (text : List ℕ) (is_escape : Bool)
    → let item : Item = if is_escape then item_read (b ∷ text) (whole begun text) else byte_item b in
    take (length item.bytes) (b ∷ text) ≡ item.bytes
front_by b text true =
    let len = (whole begun text).len in
    ap (λ (n : ℕ). take n (b ∷ text)) (length-take len (b ∷ text)) ∙ take_min len (b ∷ text)
front_by b text false = refl

first_item-front : (b : ℕ) (text : List ℕ) → take (length (first_item b text).bytes) (b ∷ text) ≡ (first_item b text).bytes
first_item-front b text = front_by b text (b == backslash)

-- joined they are the text
joined_items : (most : ℕ) (text : List ℕ) → length text ≤ most → bytes_of (first_items most text) ≡ text
joined_items zero [] few = refl
joined_items zero (b ∷ text) few = absurd (omega (arith, few))
joined_items (suc most) [] few = refl
joined_items (suc most) (b ∷ text) few =
    let bytes = (first_item b text).bytes in
    let left = drop (length bytes) (b ∷ text) in
    ap (λ (rest : List ℕ). bytes ++ rest) (joined_items most left (omega (arith, few, length-drop (length bytes) (b ∷ text), first_item-some b text)))
    ∙ ap (λ (front : List ℕ). front ++ left) (sym (first_item-front b text))
    ∙ take-append-drop (length bytes) (b ∷ text)

pub items-joined : (text : List ℕ) → bytes_of (items text) ≡ text
items-joined text = joined_items (length text) text (omega arith)

-- each has one
some_items : (most : ℕ) (text : List ℕ) → AllByRecursion (λ i. 1 ≤ length i.bytes) (first_items most text)
some_items zero text = tt
some_items (suc most) [] = tt
some_items (suc most) (b ∷ text) = (first_item-some b text, some_items most (drop (length (first_item b text).bytes) (b ∷ text)))

pub items-some : (text : List ℕ) → AllByRecursion (λ i. 1 ≤ length i.bytes) (items text)
items-some text = some_items (length text) text

-- bytes of plain text are no backslash
plain-other : (b : ℕ) → is_text_byte b ≡ true → (b == backslash) ≡ false
plain-other b plain = grind (arith, nat_tests)

first_item-plain : (b : ℕ) (text : List ℕ) → is_text_byte b ≡ true → first_item b text ≡ byte_item b
first_item-plain b text plain =
    ap (λ (t : Bool). if t then item_read (b ∷ text) (whole begun text) else byte_item b) (plain-other b plain)

-- each is an item, whatever stands behind them
pub items-plain : (front text : List ℕ) → ArePlain front → items (front ++ text) ≡ map byte_item front ++ items text
items-plain [] text plain = refl
items-plain (b ∷ front) text plain =
    items-first b (front ++ text)
    ∙ ap (λ (i : Item). i ∷ items (drop (length i.bytes) (b ∷ front ++ text))) (first_item-plain b (front ++ text) plain.0)
    ∙ ap (λ (rest : List Item). byte_item b ∷ rest) (items-plain front text plain.1)

pub items-all_plain : (text : List ℕ) → ArePlain text → items text ≡ map byte_item text
items-all_plain text plain =
    ap items (sym (append-nil text)) ∙ items-plain text [] plain ∙ append-nil (map byte_item text)
