-- Widths of texts.
use Rattle.std.proofs.Common.{◌≡◌, ℕ, ◌+◌, ◌-◌, ◌<◌, ◌≤◌, Bool, true, false, ◌&&◌, List, [], ◌∷◌, length, nat_le, nat_lt, cond, zero-add, refl, ◌∙◌, arith, eqb, replicate, if◌then◌else◌, ◌==◌, eqb-true}
use Rattle.std.specs.List.{AllByRecursion}
use Rattle.std.proofs.lemmas.Bool.{cond_both, eqb-false}
use Rattle.std.proofs.lemmas.List.Folds.{sum_by-replicate}
use Rattle.std.proofs.lemmas.List.Sums.{sum_by-cons}
use Rattle.roff_num.specs.Widths.{byte_width}
use Rattle.page_model.specs.Glyphs.{gap_blank, further_blank, text_width, gaps_in}
use Rattle.page_model.specs.Fitting.{gap_text}
use Rattle.roff_lines.proofs.GlyphsInFront.{eqb-above}

-- a byte is at most one column wide
pub byte_width_le : (b : ℕ) → byte_width b ≤ 1
byte_width_le b =
    let P : Bool → Type 0 = λ v. (if v then 0 else 1) ≤ 1 in
    let cases : (v : Bool) → P v = elim [ true ↦ omega arith | false ↦ omega arith ] in
    cases (nat_le 128 b && nat_lt b 192)

-- a text isn't wider than it is long
pub text_width_le : (text : List ℕ) → text_width text ≤ length text
text_width_le [] = omega arith
text_width_le (b ∷ text) = omega (arith, sum_by-cons byte_width b text, byte_width_le b, text_width_le text)

-- a gap is as wide as it has blanks
pub text_width-gap_text : (n : ℕ) → text_width (gap_text n) ≡ n
text_width-gap_text n =
    cond_both (eqb n 0) [] (gap_blank ∷ replicate (n - 1) further_blank) (λ text. text_width text ≡ n)
    (λ e. omega (arith, eqb-true n 0 e))
    (λ e. let further = replicate (n - 1) further_blank in
    omega (arith, eqb-false n 0 e, sum_by-cons byte_width gap_blank further, sum_by-replicate byte_width (n - 1) further_blank))

-- the gaps of a text with a byte more
pub gaps_in-cons : (b : ℕ) (text : List ℕ) → gaps_in (b ∷ text) ≡ cond (b == gap_blank) 1 0 + gaps_in text
gaps_in-cons b text = sum_by-cons (λ x. cond (x == gap_blank) 1 0) b text

-- bytes above the blank have no gap
pub gaps_in-above : (bytes : List ℕ) → AllByRecursion (λ b. 32 < b) bytes → gaps_in bytes ≡ 0
gaps_in-above [] above = refl
gaps_in-above (b ∷ bytes) above =
    let here : (b == gap_blank) ≡ false = eqb-above b gap_blank (omega arith) above.0 in
    gaps_in-cons b bytes ∙ rw here (zero-add (gaps_in bytes)) ∙ gaps_in-above bytes above.1
