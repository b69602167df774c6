-- Blanks at the end of a line.
use Rattle.std.proofs.Common.{◌≡◌, ℕ, zero, suc, ◌+◌, ◌-◌, true, false, ◌||◌, inl, inr, List, [], ◌∷◌, ◌++◌, length, replicate, refl, ap, ◌∙◌, append_assoc, add-one, arith, ne_eqb, if◌then◌else◌, ◌==◌}
use Rattle.std.proofs.lemmas.Bool.{and_right, cases_Bool}
use Rattle.page_model.specs.Glyphs.{gap_blank, further_blank, glyph_blank}
use Rattle.page_model.specs.Words.{is_empty}
use Rattle.page_model.specs.Columns.{spaces, added_columns, spread, trimmed}
use Rattle.page_bytes.specs.LineBytes.Fronts.{is_blank_mark, without_blanks}

-- a list with something at its end isn't empty
is_empty-push : (xs : List ℕ) (b : ℕ) → is_empty (xs ++ b ∷ []) ≡ false
is_empty-push [] b = refl
is_empty-push (x ∷ xs) b = refl

-- a blank at a text's end is left out; a text whose last byte is no blank stays as it is
pub without_blanks_push : (xs : List ℕ) (b : ℕ) →
    without_blanks (xs ++ b ∷ []) ≡ (if is_blank_mark b then without_blanks xs else xs ++ b ∷ [])
without_blanks_push [] b = elim (cases_Bool (is_blank_mark b)) [ inl e ↦ rw e | inr e ↦ rw e ]
without_blanks_push (x ∷ xs) b =
    elim (cases_Bool (is_blank_mark b)) [
      | inl e ↦ rw (without_blanks_push xs b, e)
      | inr e ↦ rw (without_blanks_push xs b, e, is_empty-push xs b, and_right (is_blank_mark x) false refl)
    ]

-- blanks with something behind them aren't empty
is_empty-spaces : (n b : ℕ) (xs : List ℕ) → is_empty (spaces n ++ b ∷ xs) ≡ false
is_empty-spaces zero b xs = refl
is_empty-spaces (suc n) b xs = refl

-- a text with its blanks written is empty only where the text is
is_empty-spread : (spare gaps i : ℕ) (text : List ℕ) → is_empty (spread spare gaps i text) ≡ is_empty text
is_empty-spread spare gaps i [] = refl
is_empty-spread spare gaps i (b ∷ text) =
    elim (cases_Bool (b == gap_blank)) [
      | inl e ↦ rw e
      | inr e ↦ rw e (elim (cases_Bool (b == further_blank || b == glyph_blank)) [ inl f ↦ rw f | inr f ↦ rw f ])
    ]

-- blanks before what is left of a text: none where nothing is left
abbrev indented : ℕ → List ℕ → List ℕ
indented n xs = if is_empty xs then [] else spaces n ++ xs

-- no blanks leave it as it is
indented-zero : (xs : List ℕ) → xs ≡ indented 0 xs
indented-zero [] = refl
indented-zero (b ∷ xs) = refl

-- one blank more goes before the others
indented-suc : (n : ℕ) (xs : List ℕ) → indented 1 (indented n xs) ≡ indented (suc n) xs
indented-suc n [] = refl
indented-suc n (b ∷ xs) = rw (is_empty-spaces n b xs)

-- blanks before a text are left out only where nothing is left of the text
trimmed-spaces : (n : ℕ) (xs : List ℕ) → trimmed (spaces n ++ xs) ≡ indented n (trimmed xs)
trimmed-spaces zero xs = indented-zero (trimmed xs)
trimmed-spaces (suc n) xs = rw (trimmed-spaces n xs) (indented-suc n (trimmed xs))

-- a gap before what is left of a text, as it is written
spread-gap : (spare gaps i b : ℕ) (text : List ℕ) → b == gap_blank ≡ true →
    indented (suc (added_columns spare gaps (i + 1) - added_columns spare gaps i)) (spread spare gaps (i + 1) text)
    ≡ spread spare gaps i (if is_empty text then [] else b ∷ text)
spread-gap spare gaps i b [] e = refl
spread-gap spare gaps i b (c ∷ text) e = rw (is_empty-spread spare gaps (i + 1) (c ∷ text), e)

-- another blank before what is left of a text, as it is written
spread-blank : (spare gaps i b : ℕ) (text : List ℕ) → b == gap_blank ≡ false → (b == further_blank || b == glyph_blank) ≡ true →
    indented 1 (spread spare gaps i text) ≡ spread spare gaps i (if is_empty text then [] else b ∷ text)
spread-blank spare gaps i b [] e f = refl
spread-blank spare gaps i b (c ∷ text) e f = rw (is_empty-spread spare gaps i (c ∷ text), e, f)

-- trailing blanks may be left out before the other blanks are written
trimmed-spread : (spare gaps i : ℕ) (text : List ℕ) →
    trimmed (spread spare gaps i text) ≡ spread spare gaps i (without_blanks text)
trimmed-spread spare gaps i [] = refl
trimmed-spread spare gaps i (b ∷ text) =
    let added = added_columns spare gaps (i + 1) - added_columns spare gaps i in
    elim (cases_Bool (b == gap_blank)) [
      | inl e ↦ rw e (
          trimmed-spaces (suc added) (spread spare gaps (i + 1) text)
          ∙ ap (indented (suc added)) (trimmed-spread spare gaps (i + 1) text)
          ∙ spread-gap spare gaps i b (without_blanks text) e)
      | inr e ↦ rw e (elim (cases_Bool (b == further_blank || b == glyph_blank)) [
        | inl f ↦ rw (f, trimmed-spread spare gaps i text) (spread-blank spare gaps i b (without_blanks text) e f)
        | inr f ↦ rw (f, trimmed-spread spare gaps i text, e, f)
      ])
    ]

-- a lead before what is left of a text: none where nothing is left
indented-spread : (lead spare gaps : ℕ) (text : List ℕ) →
    indented lead (spread spare gaps 0 text)
    ≡ spaces (if length text == 0 then 0 else lead) ++ spread spare gaps 0 text
indented-spread lead spare gaps [] = refl
indented-spread lead spare gaps (b ∷ text) =
    rw (is_empty-spread spare gaps 0 (b ∷ text), ne_eqb (length (b ∷ text)) 0 (λ e. absurd (omega arith)))

-- what a line writes, by its text without trailing blanks
pub line_bytes_of_front : (lead spare gaps after : ℕ) (text : List ℕ) →
    trimmed (spaces lead ++ spread spare gaps 0 text) ++ 10 ∷ replicate after 10
    ≡ spaces (if length (without_blanks text) == 0 then 0 else lead)
    ++ (spread spare gaps 0 (without_blanks text) ++ replicate (after + 1) 10)
line_bytes_of_front lead spare gaps after text =
    rw (trimmed-spaces lead (spread spare gaps 0 text), trimmed-spread spare gaps 0 text, indented-spread, append_assoc, add-one)
