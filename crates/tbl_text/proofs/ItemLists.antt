-- The items of a text: its first one and what is left, and of bytes that print themselves.
use Rattle.std.proofs.Common.{◌≡◌, ℕ, zero, suc, ◌+◌, ◌≤◌, Bool, true, false, List, [], ◌∷◌, length, take, drop, refl, ap, ◌∙◌, arith, length-drop, length-take, eq-eqb, ◌==◌, fold, slice_index, if◌then◌else◌, length-take-le}
use Rattle.input_source.specs.Bytes.{backslash}
use Rattle.tbl_text.specs.Items.{Item, Reading, begun, byte_what, first_item, first_items, found_what, item_read, items, met, whole}
use Rattle.tbl_text.proofs.ItemsRead.{IsWithin, met-within}

-- so many items of a text are all, if they are as many as its bytes
more_items : (m n : ℕ) (text : List ℕ) → ((b : ℕ) (text : List ℕ) → 1 ≤ length (first_item b text).bytes) → length text ≤ m → length text ≤ n
    → first_items m text ≡ first_items n text
more_items zero zero text some few less = refl
more_items zero (suc n) [] some few less = refl
more_items (suc m) zero [] some few less = refl
more_items (suc m) (suc n) [] some few less = refl
more_items zero (suc n) (b ∷ text) some few less = absurd (omega (arith, few))
more_items (suc m) zero (b ∷ text) some few less = absurd (omega (arith, less))
more_items (suc m) (suc n) (b ∷ text) some few less =
    let len = length (first_item b text).bytes in
    ap (λ (rest : List Item). first_item b text ∷ rest)
    (more_items m n (drop len (b ∷ text)) some (omega (arith, length-drop len (b ∷ text), some b text)) (omega (arith, length-drop len (b ∷ text), some b text)))

-- an escape has a byte
pub fold-within : (most : ℕ) (r : Reading) (text : List ℕ) → IsWithin most r → IsWithin (most + length text) (fold met r text)
fold-within most r [] within = record { some = within.some; fewer = within.fewer; few = omega (arith, within.few) }
fold-within most r (b ∷ text) within =
    let behind = fold-within (most + 1) (met r b) text (met-within most r b within) in
    record { some = behind.some; fewer = behind.fewer; few = omega (arith, behind.few) }

pub begun-within : IsWithin 1 begun
begun-within = record { some = omega arith; fewer = omega arith; few = omega arith }

-- the first item has a byte
item-some : (b : ℕ) (text : List ℕ) (is_escape : Bool)
    → 1 ≤ length (if is_escape then item_read (b ∷ text) (whole begun text) else record { bytes = b ∷ []; what = byte_what b }).bytes
item-some b text true = omega (arith, length-take (whole begun text).len (b ∷ text), (fold-within 1 begun text begun-within).some)
item-some b text false = omega arith

pub first_item-some : (b : ℕ) (text : List ℕ) → 1 ≤ length (first_item b text).bytes
first_item-some b text = item-some b text (b == backslash)

-- the first item of a text, and those of what is left
pub items-first : (b : ℕ) (text : List ℕ) → items (b ∷ text) ≡ first_item b text ∷ items (drop (length (first_item b text).bytes) (b ∷ text))
items-first b text =
    let len = length (first_item b text).bytes in
    let left = drop len (b ∷ text) in
    ap (λ (rest : List Item). first_item b text ∷ rest)
    (more_items (length text) (length left) left first_item-some (omega (arith, length-drop len (b ∷ text), first_item-some b text)) (omega arith))

-- the first item of a text by what is read of it
pub items-escape : (text : List ℕ) (r : Reading) → 1 ≤ length text → slice_index text 0 ≡ backslash → whole begun (drop 1 text) ≡ r → r.len ≤ length text
    → items text ≡ record { bytes = take r.len text; what = found_what r.read.0 } ∷ items (drop r.len text)
items-escape [] r some is same within = absurd (omega (arith, some))
items-escape (b ∷ text) r some is same within =
    let item : first_item b text ≡ item_read (b ∷ text) (whole begun text) = ap (λ (t : Bool). if t then item_read (b ∷ text) (whole begun text) else record { bytes = b ∷ []; what = byte_what b }) (eq-eqb b backslash is) in
    let whole_item : first_item b text ≡ item_read (b ∷ text) r = item ∙ ap (item_read (b ∷ text)) same in
    let len : length (take r.len (b ∷ text)) ≡ r.len = length-take-le r.len (b ∷ text) within in
    items-first b text
    ∙ ap (λ (i : Item). i ∷ items (drop (length i.bytes) (b ∷ text))) whole_item
    ∙ ap (λ (n : ℕ). item_read (b ∷ text) r ∷ items (drop n (b ∷ text))) len

-- the same of a byte that is no backslash
pub items-byte : (text : List ℕ) → 1 ≤ length text → (slice_index text 0 == backslash) ≡ false
    → items text ≡ record { bytes = take 1 text; what = byte_what (slice_index text 0) } ∷ items (drop 1 text)
items-byte [] some other = absurd (omega (arith, some))
items-byte (b ∷ text) some other =
    let item : first_item b text ≡ record { bytes = b ∷ []; what = byte_what b } = ap (λ (t : Bool). if t then item_read (b ∷ text) (whole begun text) else record { bytes = b ∷ []; what = byte_what b }) other in
    items-first b text ∙ ap (λ (i : Item). i ∷ items (drop (length i.bytes) (b ∷ text))) item
