-- The columns that adjusting adds, gap by gap, by what is over of those before.
use Rattle.std.proofs.Common.{◌≡◌, ℕ, ◌+◌, ◌*◌, ◌-◌, ◌/◌, ◌<◌, true, false, inl, inr, List, [], ◌∷◌, ◌++◌, refl, ap, sym, ◌∙◌, arith, ne_eqb, append_assoc, Bool, ◌%◌, ◌==◌, ◌||◌, if◌then◌else◌, eqb-true, div-add-mod'}
use Rattle.std.proofs.lemmas.Bool.{cases_Bool}
use Rattle.std.proofs.lemmas.Nat.{div-mul-add, mod-mul-add}
use Rattle.page_model.specs.Glyphs.{gap_blank, further_blank, glyph_blank}
use Rattle.page_model.specs.Columns.{spaces, added_columns, spread}
use Rattle.page_bytes.specs.LineBytes.Shares.{shared_out}

-- what one gap more is given of the product: the columns that are added there, and what is over behind it
product_behind : (spare gaps i added over behind : ℕ) → over ≡ i * spare % gaps → added * gaps + behind ≡ spare + over
    → (i + 1) * spare ≡ (i * spare / gaps + added) * gaps + behind
product_behind spare gaps i added over behind before shared = omega (arith, div-add-mod' (i * spare) gaps)

-- what is over behind the gap is the remainder there
pub over-behind : (spare gaps i added over behind : ℕ) → over ≡ i * spare % gaps → behind < gaps
    → added * gaps + behind ≡ spare + over → behind ≡ (i + 1) * spare % gaps
over-behind spare gaps i added over behind before less shared =
    let product = product_behind spare gaps i added over behind before shared in
    sym (ap (λ n. n % gaps) product ∙ mod-mul-add (i * spare / gaps + added) gaps behind less)

-- and the columns that are added there are those that the definition says
pub added-behind : (spare gaps i added over behind : ℕ) → over ≡ i * spare % gaps → behind < gaps
    → added * gaps + behind ≡ spare + over → added ≡ added_columns spare gaps (i + 1) - added_columns spare gaps i
added-behind spare gaps i added over behind before less shared =
    let product = product_behind spare gaps i added over behind before shared in
    let quotient : (i + 1) * spare / gaps ≡ i * spare / gaps + added =
    ap (λ n. n / gaps) product ∙ div-mul-add (i * spare / gaps + added) gaps behind less in
    rw (ne_eqb gaps 0 (λ e. absurd (omega arith))) (omega (arith, quotient))

-- so the blanks of a gap are the gap itself and those that are added there
pub next_gap : (spare gaps i added over behind b blanks : ℕ) (text rest newlines : List ℕ) → over ≡ i * spare % gaps → behind < gaps
    → added * gaps + behind ≡ spare + over → blanks ≡ 0 → text ≡ b ∷ rest → b ≡ 32
    → 32 ∷ (spaces added ++ (spread spare gaps (i + 1) rest ++ newlines)) ≡ spaces blanks ++ (spread spare gaps i text ++ newlines)
next_gap spare gaps i added over behind b blanks text rest newlines before less shared none is_text gap =
    let wide = added-behind spare gaps i added over behind before less shared in
    rw (none, is_text, gap, wide) (ap (λ bytes. 32 ∷ bytes) (sym (append_assoc _ (spread spare gaps (i + 1) rest) newlines)))

-- nothing is added to a gap where nothing is spare
added-nothing : (i : ℕ) → added_columns 0 1 (i + 1) - added_columns 0 1 i ≡ 0
added-nothing i = sym (added-behind 0 1 i 0 0 0 (omega arith) (omega arith) (omega arith))

-- so a text is written as if nothing were spare where there are no gaps
spread-no_gaps : (spare i : ℕ) (text : List ℕ) → spread spare 0 i text ≡ spread 0 1 i text
spread-no_gaps spare i [] = refl
spread-no_gaps spare i (b ∷ text) =
    elim (cases_Bool (b == gap_blank)) [
      | inl e ↦ rw (e, added-nothing i) (ap (λ bytes. 32 ∷ bytes) (spread-no_gaps spare (i + 1) text))
      | inr e ↦ rw e (elim (cases_Bool (b == further_blank || b == glyph_blank)) [
        | inl f ↦ rw f (ap (λ bytes. 32 ∷ bytes) (spread-no_gaps spare i text))
        | inr f ↦ rw f (ap (λ bytes. b ∷ bytes) (spread-no_gaps spare i text))
      ])
    ]

-- what the test of the gaps leads to
abbrev shared_by : Bool → ℕ → ℕ → ℕ × ℕ × ℕ
shared_by none spare gaps = if none then (0, 0, 1) else (spare / gaps, spare % gaps, gaps)

-- how a text is written, by that test
spread-shared_by : (none : Bool) (spare gaps : ℕ) (text : List ℕ) → (gaps == 0) ≡ none
    → let out = shared_by none spare gaps in spread (out.0 * out.2 + out.1) out.2 0 text ≡ spread spare gaps 0 text
spread-shared_by true spare gaps text e =
    sym (ap (λ g. spread spare g 0 text) (eqb-true gaps 0 e) ∙ spread-no_gaps spare 0 text)
spread-shared_by false spare gaps text e = ap (λ n. spread n gaps 0 text) (div-add-mod' spare gaps)

-- a text is written as if the columns that were shared out were spread over as many gaps
pub spread-shares : (spare gaps : ℕ) (text : List ℕ)
    → let out = shared_out spare gaps in spread (out.0 * out.2 + out.1) out.2 0 text ≡ spread spare gaps 0 text
spread-shares spare gaps text = spread-shared_by (gaps == 0) spare gaps text refl
