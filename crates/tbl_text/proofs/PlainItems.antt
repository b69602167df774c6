-- Bytes that print themselves are an item each.
use Rattle.std.proofs.Common.{◌≡◌, ◌==◌, ℕ, ◌<◌, Bool, true, false, not, ◌&&◌, ◌||◌, List, [], ◌∷◌, ◌++◌, length, drop, map, refl, ap, ◌∙◌, arith, if◌then◌else◌, nat_lt, ne_eqb, ltb-true, le-ltb}
use Rattle.std.specs.List.{list_all}
use Rattle.std.proofs.lemmas.Bool.{lt-leb}
use Rattle.roff_num.specs.Widths.{byte_width}
use Rattle.input_source.specs.Bytes.{blank, tab, newline, backslash, is_dropped, is_silent}
use Rattle.tbl_text.specs.Items.{Item, items, first_items, item_read, whole, begun, byte_what}
use Rattle.tbl_text.specs.declared.items.What.{What}
use Rattle.tbl_text.specs.declared.items.What.TheVariants.{Blank, Byte, NotMeasured, Nothing, Dropped}
use Rattle.tbl_text.specs.BlockWords.{is_plain}

-- two facts that hold both
pub both : (a b : Bool) → (a && b) ≡ true → (a ≡ true) × (b ≡ true)
both true true hold = (refl, refl)
both true false hold = absurd (cc)
both false b hold = absurd (cc)

unnot : (a : Bool) → not a ≡ true → a ≡ false
unnot true is = absurd (cc)
unnot false is = refl

-- what is known of such a byte
pub record IsPlain (b : ℕ) : Type 0 where
  pub low : 32 < b
  pub high : b < 127
  pub no_backslash : (b == backslash) ≡ false

pub plain-is : (b : ℕ) → is_plain b ≡ true → IsPlain b
plain-is b is =
    let first = both (nat_lt 32 b) (nat_lt b 127 && not (b == backslash)) is in
    let second = both (nat_lt b 127) (not (b == backslash)) first.1 in
    record { low = ltb-true 32 b first.0; high = ltb-true b 127 second.0; no_backslash = unnot (b == backslash) second.1 }

-- it isn't dropped, and not silent
plain-kept : (b : ℕ) → IsPlain b → is_dropped b ≡ false
plain-kept b is =
    ap (λ (t : Bool). (t || b == 127) && not (b == newline || b == tab || is_silent b)) (le-ltb b 32 (omega (arith, is.low)))
    ∙ ap (λ (t : Bool). t && not (b == newline || b == tab || is_silent b)) (ne_eqb b 127 (λ e. omega (arith, e, is.high)))

silent_by : (t u v w x : Bool) → t ≡ false → u ≡ false → v ≡ false → w ≡ false → x ≡ false
    → (t || (u || (v || (w || (x || false))))) ≡ false
silent_by false false false false false a b c d e = refl
silent_by true u v w x a b c d e = a
silent_by false true v w x a b c d e = b
silent_by false false true w x a b c d e = c
silent_by false false false true x a b c d e = d
silent_by false false false false true a b c d e = e

plain-heard : (b : ℕ) → IsPlain b → is_silent b ≡ false
plain-heard b is =
    silent_by (b == 2) (b == 3) (b == 5) (b == 6) (b == 7)
    (ne_eqb b 2 (λ e. omega (arith, e, is.low))) (ne_eqb b 3 (λ e. omega (arith, e, is.low)))
    (ne_eqb b 5 (λ e. omega (arith, e, is.low))) (ne_eqb b 6 (λ e. omega (arith, e, is.low)))
    (ne_eqb b 7 (λ e. omega (arith, e, is.low)))

-- it prints itself
pub byte_what-plain : (b : ℕ) → IsPlain b → byte_what b ≡ Byte b
byte_what-plain b is =
    ap (λ (t : Bool). if t then Blank else if b == tab then NotMeasured 116 else if is_dropped b then Dropped else if is_silent b then Nothing else Byte b)
    (ne_eqb b blank (λ e. omega (arith, e, is.low)))
    ∙ ap (λ (t : Bool). if t then NotMeasured 116 else if is_dropped b then Dropped else if is_silent b then Nothing else Byte b)
    (ne_eqb b tab (λ e. omega (arith, e, is.low)))
    ∙ ap (λ (t : Bool). if t then Dropped else if is_silent b then Nothing else Byte b) (plain-kept b is)
    ∙ ap (λ (t : Bool). if t then Nothing else Byte b) (plain-heard b is)

-- in one column
pub byte_width-plain : (b : ℕ) → IsPlain b → byte_width b ≡ 1
byte_width-plain b is = ap (λ (t : Bool). if t && nat_lt b 192 then 0 else 1) (lt-leb 128 b (omega (arith, is.high)))

-- the item of such a byte
abbrev pub plain_item : ℕ → Item
plain_item b = record { bytes = b ∷ []; what = Byte b }

-- a text that begins with one
pub items-byte : (b : ℕ) (text : List ℕ) → IsPlain b → items (b ∷ text) ≡ plain_item b ∷ items text
items-byte b text is =
    let family : Item → List Item = λ i. i ∷ first_items (length text) (drop (length i.bytes) (b ∷ text)) in
    ap (λ (t : Bool). family (if t then item_read (b ∷ text) (whole begun text) else record { bytes = b ∷ []; what = byte_what b })) is.no_backslash
    ∙ ap (λ (what : What). record { bytes = b ∷ []; what = what } ∷ items text) (byte_what-plain b is)

-- and one that begins with several
pub items-plain : (bytes rest : List ℕ) → list_all is_plain bytes ≡ true → items (bytes ++ rest) ≡ map plain_item bytes ++ items rest
items-plain [] rest is = refl
items-plain (b ∷ bytes) rest is =
    let parts = both (is_plain b) (list_all is_plain bytes) is in
    items-byte b (bytes ++ rest) (plain-is b parts.0)
    ∙ ap (λ (is : List Item). plain_item b ∷ is) (items-plain bytes rest parts.1)
