-- How many bytes a diversion keeps of a line.
use Rattle.std.proofs.Common.{◌≡◌, ℕ, zero, suc, ◌+◌, ◌-◌, ◌*◌, ◌^◌, Bool, true, false, ◌||◌, List, [], ◌∷◌, ◌++◌, length, min, count_by, cond, zero-add, add-zero, arith, refl, sym, ap, ◌∙◌, if◌then◌else◌, ◌==◌, eqb-true, length-append}
use Rattle.std.proofs.lemmas.List.Sums.{sum_by-cons}
use Rattle.page_model.specs.Glyphs.{gap_blank, further_blank, glyph_blank, gaps_in}
use Rattle.page_model.specs.Lines.{Finished}
use Rattle.page_model.specs.Columns.{added_columns, printed, spaces, spread}
use Rattle.page_model.specs.Diverted.{diverted, escaped}
use Rattle.page_bytes.specs.DivertedBytes.{is_doubled}
use Rattle.roff_lines.proofs.Columns.{added_before_none, added_columns-le}
use Rattle.roff_lines.proofs.Widths.{gaps_in-cons}

-- blanks are kept as twice as many bytes
pub length-escaped_spaces : (n : ℕ) (bytes : List ℕ) → length (escaped (spaces n ++ bytes)) ≡ 2 * n + length (escaped bytes)
length-escaped_spaces zero bytes = omega arith
length-escaped_spaces (suc n) bytes = omega (arith, length-escaped_spaces n bytes)

-- the bytes of a text that are kept as two, with one byte more
doubled-cons : (b : ℕ) (text : List ℕ) → count_by is_doubled (b ∷ text) ≡ cond (is_doubled b) 1 0 + count_by is_doubled text
doubled-cons b text = sum_by-cons (λ x. cond (is_doubled x) 1 0) b text

-- what is kept of a byte that isn't the blank of a gap, as it is written
length-mark : (further glyph backslash : Bool) (b : ℕ) (rest : List ℕ) → (b == gap_blank) ≡ false → (b == further_blank) ≡ further
    → (b == glyph_blank) ≡ glyph → (b == 92) ≡ backslash
    → length (escaped (if further || glyph then 32 ∷ rest else b ∷ rest)) ≡ 1 + cond (is_doubled b) 1 0 + length (escaped rest)
length-mark true glyph backslash b rest other is_further is_glyph is_backslash = rw (other, is_further) (omega arith)
length-mark false true backslash b rest other is_further is_glyph is_backslash = rw (other, is_further, is_glyph) (omega arith)
length-mark false false true b rest other is_further is_glyph is_backslash = rw (other, is_further, is_glyph, is_backslash) (omega arith)
length-mark false false false b rest other is_further is_glyph is_backslash = rw (other, is_further, is_glyph, is_backslash) (omega arith)

-- what is kept of a gap: its blank, and what is added
length-gap : (spare gaps i b : ℕ) (text : List ℕ) → (b == gap_blank) ≡ true
    → length (escaped (spread spare gaps i (b ∷ text)))
    ≡ 2 + 2 * (added_columns spare gaps (i + 1) - added_columns spare gaps i) + length (escaped (spread spare gaps (i + 1) text))
length-gap spare gaps i b text is_gap =
    let more = added_columns spare gaps (i + 1) - added_columns spare gaps i in
    rw is_gap (omega (arith, length-escaped_spaces more (spread spare gaps (i + 1) text)))

-- what is kept of a text behind i gaps, and what was added before it
length_by_test : (gap : Bool) (spare gaps i b : ℕ) (text : List ℕ) → (b == gap_blank) ≡ gap
    → ((j : ℕ) → 2 * added_columns spare gaps j + length (escaped (spread spare gaps j text))
    ≡ length text + count_by is_doubled text + 2 * added_columns spare gaps (j + gaps_in text))
    → 2 * added_columns spare gaps i + length (escaped (spread spare gaps i (b ∷ text)))
    ≡ length (b ∷ text) + count_by is_doubled (b ∷ text) + 2 * added_columns spare gaps (i + gaps_in (b ∷ text))
length_by_test true spare gaps i b text is_gap before =
    let twice : cond {A = ℕ} (is_doubled b) 1 0 ≡ 1 = rw (eqb-true b gap_blank is_gap) refl in
    let one_more : gaps_in (b ∷ text) ≡ 1 + gaps_in text = gaps_in-cons b text ∙ rw is_gap refl in
    let same : added_columns spare gaps (i + gaps_in (b ∷ text)) ≡ added_columns spare gaps (i + 1 + gaps_in text) =
    ap (added_columns spare gaps) (omega (arith, one_more)) in
    omega (arith, same, twice, before (i + 1), added_columns-le spare gaps i, length-gap spare gaps i b text is_gap, doubled-cons b text)
length_by_test false spare gaps i b text other before =
    let rest : List ℕ = spread spare gaps i text in
    let written : spread spare gaps i (b ∷ text) ≡ (if b == further_blank || b == glyph_blank then 32 ∷ rest else b ∷ rest) = rw other refl in
    let kept : length (escaped (spread spare gaps i (b ∷ text))) ≡ 1 + cond (is_doubled b) 1 0 + length (escaped rest) =
    ap (λ bytes. length (escaped bytes)) written
    ∙ length-mark (b == further_blank) (b == glyph_blank) (b == 92) b rest other refl refl refl in
    let no_more : gaps_in (b ∷ text) ≡ gaps_in text =
    gaps_in-cons b text ∙ rw other (zero-add (gaps_in text)) in
    let same : added_columns spare gaps (i + gaps_in (b ∷ text)) ≡ added_columns spare gaps (i + gaps_in text) =
    ap (λ n. added_columns spare gaps (i + n)) no_more in
    omega (arith, same, before i, kept, doubled-cons b text)

length-spread : (spare gaps i : ℕ) (text : List ℕ) → 2 * added_columns spare gaps i + length (escaped (spread spare gaps i text))
    ≡ length text + count_by is_doubled text + 2 * added_columns spare gaps (i + gaps_in text)
length-spread spare gaps i [] =
    let same : added_columns spare gaps i ≡ added_columns spare gaps (i + 0) = ap (added_columns spare gaps) (sym (add-zero i)) in omega (arith, same)
length-spread spare gaps i (b ∷ text) = length_by_test (b == gap_blank) spare gaps i b text refl (λ j. length-spread spare gaps j text)

-- what is kept of a line: three bytes, and one for each byte of its text, or two for a blank or a backslash
pub length-diverted : (l : Finished) → length (diverted (printed l))
    ≡ 3 + 2 * (l.lead + added_columns l.spare l.gaps (gaps_in l.text)) + (length l.text + count_by is_doubled l.text)
length-diverted l =
    let text : List ℕ = spread l.spare l.gaps 0 l.text in
    let none = added_before_none (l.gaps == 0) l.spare l.gaps refl in
    let same : added_columns l.spare l.gaps (0 + gaps_in l.text) ≡ added_columns l.spare l.gaps (gaps_in l.text) =
    ap (added_columns l.spare l.gaps) (zero-add (gaps_in l.text)) in
    omega (arith, none, same, length-append (escaped (printed l)) (10 ∷ []), length-escaped_spaces l.lead text, length-spread l.spare l.gaps 0 l.text)

-- blanks that are counted up to the greatest number
pub counted_blanks : (wide blanks bytes whole more : ℕ) → blanks ≡ min wide (2 ^ 64 - 1) → bytes ≡ 3 + 2 * blanks + more → whole ≡ 3 + 2 * wide + more
    → min bytes (2 ^ 64 - 1) ≡ min whole (2 ^ 64 - 1)
counted_blanks wide blanks bytes whole more counted all is_whole = omega (arith, counted, all, is_whole)
