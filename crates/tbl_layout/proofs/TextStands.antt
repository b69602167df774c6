-- A text that is kept by its places stands in its column as it measures.
use Rattle.std.proofs.Common.{◌≡◌, ℕ, ◌+◌, Bool, true, false, List, [], ◌∷◌, length, Option, Some, None, refl, ap, ◌∙◌, arith, ◌==◌, eq-eqb, ne_eqb}
use Rattle.tbl_format.specs.declared.format.Key.{Key}
use Rattle.tbl_layout.specs.Columns.{stands, text_stands}
use Rattle.tbl_layout.specs.Entries.{Text, is_number}
use Rattle.tbl_layout.specs.KeptEntries.{kind_with, stands_by, stands_of, text_entry}
use Rattle.tbl_layout.specs.declared.entry.EntryKind.TheVariants.{Text as TextKind}
use Rattle.tbl_text.specs.Measuring.{measured}
use Rattle.tbl_text.specs.declared.measure.Split.{Split}

-- a text without a byte isn't split
pub empty-split : (number : Bool) → (measured number []).split ≡ None
empty-split true = refl
empty-split false = refl

-- one with a byte stands by where it is split
kind-stands : (key : Key) (from glyphs width : ℕ) (split : Option Split)
    → stands_by key (kind_with from glyphs width split) false ≡ text_stands key width split
kind-stands key from glyphs width None = refl
kind-stands key from glyphs width (Some s) = refl

-- and so does a text as its field is kept
pub text-stands : (key : Key) (from : ℕ) (text : List ℕ)
    → stands_of key (text_entry (is_number key) from text) ≡ stands key (Text text)
text-stands key from [] =
    let m = measured (is_number key) [] in
    let end : from ≡ from + 0 = omega arith in
    ap (λ (split : Option Split). stands_by key (kind_with from (from + m.glyphs) m.width split) (from == from + 0))
    (empty-split (is_number key))
    ∙ ap (λ (is_empty : Bool). stands_by key (TextKind (from + m.glyphs) m.width) is_empty) (eq-eqb from (from + 0) end)
text-stands key from (b ∷ text) =
    let m = measured (is_number key) (b ∷ text) in
    let some : (from == from + length (b ∷ text)) ≡ false = ne_eqb from (from + length (b ∷ text)) (λ same. omega (arith, same)) in
    ap (λ (is_empty : Bool). stands_by key (kind_with from (from + m.glyphs) m.width m.split) is_empty) some
    ∙ kind-stands key from (from + m.glyphs) m.width m.split
