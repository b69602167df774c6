-- The glyphs of a text, and what a line of them prints.
use Rattle.std.proofs.Common.{◌≡◌, ℕ, ◌+◌, ◌-◌, ◌<◌, ◌≤◌, Bool, true, false, List, [], ◌∷◌, ◌++◌, length, reverse, inl, inr, refl, sym, ap, ◌∙◌, arith, append_assoc, ◌==◌, ◌||◌, nat_lt, if◌then◌else◌, eqb-true, ltb-false, ne_eqb, append-nil, length-append}
use Rattle.std.specs.List.{AllByRecursion, flat_map}
use Rattle.std.proofs.lemmas.Bool.{cases_Bool, eqb-false, lt-leb, not-true, or_from, or_parts}
use Rattle.std.proofs.lemmas.List.{reverse-append}
use Rattle.std.proofs.lemmas.List.Concat.{flat_map-append}
use Rattle.page_model.specs.Columns.{added_columns, printed, spaces, spread}
use Rattle.page_model.specs.Glyphs.{gaps_in, glyph_blank, glyph_text}
use Rattle.page_model.specs.Lines.{Finished}
use Rattle.page_model.specs.declared.glyph.Glyph.{Glyph}
use Rattle.page_model.specs.declared.glyph.Glyph.TheVariants.{Printed, Blanks}
use Rattle.law_reading_again.specs.Again.{is_printable}

-- a byte's glyph as a diversion has it read: a blank that isn't spread, or itself
abbrev pub glyph_of : ℕ → Glyph
glyph_of b = if b == 32 then Blanks 1 else Printed b

-- glyphs of a text behind others, the newest first
abbrev pub glyphs_behind : List ℕ → List Glyph → List Glyph
glyphs_behind [] gs = gs
glyphs_behind (b ∷ text) gs = glyphs_behind text (glyph_of b ∷ gs)

-- the text that they leave in a line
abbrev pub line_of : List Glyph → List ℕ
line_of gs = flat_map glyph_text (reverse gs)

abbrev pub kept : List ℕ → List ℕ
kept text = flat_map (λ b. glyph_text (glyph_of b)) text

-- a glyph more
pub line_of-glyph : (g : Glyph) (gs : List Glyph) → line_of (g ∷ gs) ≡ line_of gs ++ glyph_text g
line_of-glyph g gs =
    ap (flat_map glyph_text) (reverse-append (g ∷ []) gs)
    ∙ flat_map-append glyph_text (reverse gs) (g ∷ [])
    ∙ ap (λ (t : List ℕ). line_of gs ++ t) (append-nil (glyph_text g))

-- all of a text's
line_of-behind : (text : List ℕ) (gs : List Glyph) → line_of (glyphs_behind text gs) ≡ line_of gs ++ kept text
line_of-behind [] gs = sym (append-nil (line_of gs))
line_of-behind (b ∷ text) gs =
    line_of-behind text (glyph_of b ∷ gs)
    ∙ ap (λ (t : List ℕ). t ++ kept text) (line_of-glyph (glyph_of b) gs)
    ∙ append_assoc (line_of gs) (glyph_text (glyph_of b)) (kept text)

-- a byte's glyph is as long as the byte
length-glyph : (c : Bool) (b : ℕ) → length (glyph_text (if c then Blanks 1 else Printed b)) ≡ 1
length-glyph true b = refl
length-glyph false b = refl

pub length-line_of : (b : ℕ) (gs : List Glyph) → length (line_of (glyph_of b ∷ gs)) ≡ length (line_of gs) + 1
length-line_of b gs =
    ap length (line_of-glyph (glyph_of b) gs)
    ∙ length-append (line_of gs) (glyph_text (glyph_of b))
    ∙ ap (λ (n : ℕ). length (line_of gs) + n) (length-glyph (b == 32) b)

-- a byte that is printed isn't below the blank
pub above : (b : ℕ) → is_printable b ≡ true → 32 ≤ b
above b is = ltb-false b 32 (or_parts (nat_lt b 32) (b == 127) (not-true (nat_lt b 32 || b == 127) is)).0

-- a glyph's blanks are printed as blanks, and other bytes as they are
spread-blank : (gaps i b : ℕ) (rest : List ℕ) → (b == 32) ≡ true
    → spread 0 gaps i (glyph_text (glyph_of b) ++ rest) ≡ b ∷ spread 0 gaps i rest
spread-blank gaps i b rest is =
    ap (λ (c : Bool). spread 0 gaps i (glyph_text (if c then Blanks 1 else Printed b) ++ rest)) is
    ∙ ap (λ (n : ℕ). n ∷ spread 0 gaps i rest) (sym (eqb-true b 32 is))

spread-other : (gaps i b : ℕ) (rest : List ℕ) → 32 ≤ b → (b == 32) ≡ false
    → spread 0 gaps i (glyph_text (glyph_of b) ++ rest) ≡ b ∷ spread 0 gaps i rest
spread-other gaps i b rest is_above isnt =
    let others : List ℕ = spread 0 gaps i rest in
    let gap : List ℕ = 32 ∷ (spaces (added_columns 0 gaps (i + 1) - added_columns 0 gaps i) ++ spread 0 gaps (i + 1) rest) in
    let differs = eqb-false b 32 isnt in
    let beyond : 32 < b = omega (arith, differs) in
    let low : (b == 1 || b == 0) ≡ false = or_from (b == 1) (b == 0) (ne_eqb b 1 (λ is. omega (arith, is)))
    (ne_eqb b 0 (λ is. omega (arith, is))) in
    ap (λ (c : Bool). spread 0 gaps i (glyph_text (if c then Blanks 1 else Printed b) ++ rest)) isnt
    ∙ ap (λ (c : Bool). spread 0 gaps i ((if c then glyph_blank else b) ∷ rest)) (lt-leb b 32 beyond)
    ∙ ap (λ (c : Bool). if c then gap else if b == 1 || b == 0 then 32 ∷ others else b ∷ others) isnt
    ∙ ap (λ (c : Bool). if c then 32 ∷ others else b ∷ others) low

spread-byte : (gaps i b : ℕ) (rest : List ℕ) → is_printable b ≡ true
    → spread 0 gaps i (glyph_text (glyph_of b) ++ rest) ≡ b ∷ spread 0 gaps i rest
spread-byte gaps i b rest is = elim (cases_Bool (b == 32)) [
  | inl same ↦ spread-blank gaps i b rest same
  | inr differs ↦ spread-other gaps i b rest (above b is) differs
]

spread-kept : (gaps i : ℕ) (text : List ℕ) → AllByRecursion (λ b. is_printable b ≡ true) text → spread 0 gaps i (kept text) ≡ text
spread-kept gaps i [] are = refl
spread-kept gaps i (b ∷ text) are =
    spread-byte gaps i b (kept text) are.0 ∙ ap (λ (t : List ℕ). b ∷ t) (spread-kept gaps i text are.1)

-- a line without lead, spread and blank lines
abbrev pub plain_line : List ℕ → Finished
plain_line text = record { text = text; lead = 0; spare = 0; gaps = gaps_in text; after = 0 }

-- the line of a text's glyphs, behind one without width, prints the text
abbrev pub glyphs_of : List ℕ → List Glyph
glyphs_of text = glyphs_behind text (Blanks 0 ∷ [])

pub printed-again : (text : List ℕ) → AllByRecursion (λ b. is_printable b ≡ true) text
    → printed (plain_line (line_of (glyphs_of text))) ≡ text
printed-again text are =
    ap (λ (t : List ℕ). printed (plain_line t)) (line_of-behind text (Blanks 0 ∷ []))
    ∙ spread-kept (gaps_in (kept text)) 0 text are
