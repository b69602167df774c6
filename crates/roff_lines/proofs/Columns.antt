-- Columns of a line's text.
use Rattle.std.proofs.Common.{◌≡◌, ℕ, zero, suc, ◌+◌, ◌-◌, ◌*◌, ◌/◌, ◌≤◌, Bool, true, false, List, [], ◌∷◌, ◌++◌, take, zero-add, add-zero, arith, refl, sym, ap, ◌∙◌, if◌then◌else◌, ◌==◌, ◌||◌, eqb-true}
use Rattle.std.proofs.lemmas.List.Folds.{sum_by-replicate}
use Rattle.std.proofs.lemmas.List.Sums.{sum_by-cons, sum_by-append}
use Rattle.std.proofs.lemmas.Nat.{le-div}
use Rattle.std.proofs.Math.Nat.{div-le_self, div-mul-le_self}
use Rattle.roff_num.specs.Widths.{byte_width}
use Rattle.page_model.specs.Glyphs.{gap_blank, further_blank, glyph_blank, text_width, gaps_in}
use Rattle.page_model.specs.Lines.{Finished}
use Rattle.page_model.specs.Columns.{added_columns, spaces, spread, StandsInColumns}
use Rattle.roff_lines.proofs.Widths.{gaps_in-cons}

-- blanks are as wide as they are many
text_width-spaces : (n : ℕ) → text_width (spaces n) ≡ n
text_width-spaces n = omega (arith, sum_by-replicate byte_width n 32)

-- more gaps have no fewer columns
added_by_test : (none : Bool) (spare gaps i : ℕ) → (gaps == 0) ≡ none → added_columns spare gaps i ≤ added_columns spare gaps (i + 1)
added_by_test true spare gaps i is_none = rw is_none (omega arith)
added_by_test false spare zero i some = cc
added_by_test false spare (suc g) i some =
    rw some (le-div (i * spare / suc g) ((i + 1) * spare) (suc g) (omega arith) (omega (arith, div-mul-le_self (i * spare) (suc g))))

pub added_columns-le : (spare gaps i : ℕ) → added_columns spare gaps i ≤ added_columns spare gaps (i + 1)
added_columns-le spare gaps i = added_by_test (gaps == 0) spare gaps i refl

-- a byte that stands for a blank is one column wide
mark_width : (further : Bool) (b : ℕ) → (b == further_blank) ≡ further → (further || b == glyph_blank) ≡ true → byte_width b ≡ 1
mark_width true b is_further is_mark = rw (eqb-true b further_blank is_further) refl
mark_width false b other is_mark = rw (eqb-true b glyph_blank is_mark) refl

-- a byte that is no gap is written as wide as it is
written-width : (mark : Bool) (b : ℕ) (rest : List ℕ) → (b == further_blank || b == glyph_blank) ≡ mark
    → text_width (if mark then 32 ∷ rest else b ∷ rest) ≡ byte_width b + text_width rest
written-width false b rest other = sum_by-cons byte_width b rest
written-width true b rest is_mark = rw (mark_width (b == further_blank) b refl is_mark) (sum_by-cons byte_width 32 rest)

-- what is written of a gap: its blank, and what is added
gap-width : (spare gaps i b : ℕ) (text : List ℕ) → (b == gap_blank) ≡ true
    → text_width (spread spare gaps i (b ∷ text))
    ≡ 1 + ((added_columns spare gaps (i + 1) - added_columns spare gaps i) + text_width (spread spare gaps (i + 1) text))
gap-width spare gaps i b text is_gap =
    let more = added_columns spare gaps (i + 1) - added_columns spare gaps i in
    let rest = spread spare gaps (i + 1) text in
    rw is_gap (sum_by-cons byte_width 32 (spaces more ++ rest)
    ∙ ap (λ n. 1 + n) (sum_by-append byte_width (spaces more) rest ∙ ap (λ n. n + text_width rest) (text_width-spaces more)))

-- what is written of a text behind i gaps, and what was added before it
spread_by_test : (gap : Bool) (spare gaps i b : ℕ) (text : List ℕ) → (b == gap_blank) ≡ gap
    → ((j : ℕ) → added_columns spare gaps j + text_width (spread spare gaps j text) ≡ text_width text + added_columns spare gaps (j + gaps_in text))
    → added_columns spare gaps i + text_width (spread spare gaps i (b ∷ text)) ≡ text_width (b ∷ text) + added_columns spare gaps (i + gaps_in (b ∷ text))
spread_by_test true spare gaps i b text is_gap before =
    let wide : byte_width b ≡ 1 = rw (eqb-true b gap_blank is_gap) refl in
    let one_more : gaps_in (b ∷ text) ≡ 1 + gaps_in text = gaps_in-cons b text ∙ rw is_gap refl in
    let same : added_columns spare gaps (i + gaps_in (b ∷ text)) ≡ added_columns spare gaps (i + 1 + gaps_in text) =
    ap (added_columns spare gaps) (omega (arith, one_more)) in
    omega (arith, same, wide, before (i + 1), added_columns-le spare gaps i, gap-width spare gaps i b text is_gap, sum_by-cons byte_width b text)
spread_by_test false spare gaps i b text other before =
    let written : text_width (spread spare gaps i (b ∷ text)) ≡ byte_width b + text_width (spread spare gaps i text) =
    rw other (written-width (b == further_blank || b == glyph_blank) b (spread spare gaps i text) refl) in
    let no_more : gaps_in (b ∷ text) ≡ gaps_in text =
    gaps_in-cons b text ∙ rw other (zero-add (gaps_in text)) in
    let same : added_columns spare gaps (i + gaps_in (b ∷ text)) ≡ added_columns spare gaps (i + gaps_in text) =
    ap (λ n. added_columns spare gaps (i + n)) no_more in
    omega (arith, same, before i, written, sum_by-cons byte_width b text)

spread-width : (spare gaps i : ℕ) (text : List ℕ)
    → added_columns spare gaps i + text_width (spread spare gaps i text) ≡ text_width text + added_columns spare gaps (i + gaps_in text)
spread-width spare gaps i [] =
    let same : added_columns spare gaps i ≡ added_columns spare gaps (i + 0) = ap (added_columns spare gaps) (sym (add-zero i)) in omega (arith, same)
spread-width spare gaps i (b ∷ text) = spread_by_test (b == gap_blank) spare gaps i b text refl (λ j. spread-width spare gaps j text)

-- before the first gap nothing is added
pub added_before_none : (none : Bool) (spare gaps : ℕ) → (gaps == 0) ≡ none → added_columns spare gaps 0 ≡ 0
added_before_none true spare gaps is_none = rw is_none refl
added_before_none false spare gaps some = rw some (omega (arith, div-le_self (0 * spare) gaps))

-- a line's text stands in its columns
pub stands_in_columns : (l : Finished) → StandsInColumns l
stands_in_columns l k =
    let text = take k l.text in
    let none = added_before_none (l.gaps == 0) l.spare l.gaps refl in
    let same : added_columns l.spare l.gaps (0 + gaps_in text) ≡ added_columns l.spare l.gaps (gaps_in text) =
    ap (added_columns l.spare l.gaps) (zero-add (gaps_in text)) in
    omega (arith, none, same, sum_by-append byte_width (spaces l.lead) (spread l.spare l.gaps 0 text), text_width-spaces l.lead, spread-width l.spare l.gaps 0 text)
