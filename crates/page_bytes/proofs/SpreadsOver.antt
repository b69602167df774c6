-- A text that is written with its blanks spread, step by step.
use Rattle.std.proofs.Common.{◌≡◌, ℕ, zero, suc, ◌+◌, ◌*◌, ◌<◌, ◌≤◌, List, [], ◌∷◌, ◌++◌, length, take, drop, slice_index_or, refl, sym, ap, ◌∙◌, arith, append_assoc, append-nil, ◌%◌, drop-drop, length-append, length-drop, length-take}
use Rattle.std.proofs.Math.Seq.{drop-cons}
use Rattle.std.proofs.lemmas.List.{length-replicate}
use Rattle.page_model.specs.Columns.{spaces, spread}
use Rattle.roff_lines.specs.GlyphsInFront.{glyphs_in_front}
use Rattle.page_bytes.specs.LineBytes.Fronts.{SpreadsOver, WritesOver}
use Rattle.page_bytes.proofs.GlyphsSpread.{take-append-spread}
use Rattle.page_bytes.proofs.SharedColumns.{added-behind}

-- a text from a place on is its byte there, and the others
drop-more : (text : List ℕ) (n : ℕ) → n < length text → drop n text ≡ slice_index_or text n 0 ∷ drop (n + 1) text
drop-more text n within =
    let next : suc n ≡ n + 1 = omega arith in
    drop-cons text n 0 within ∙ ap (λ m. slice_index_or text n 0 ∷ drop m text) next

-- a gap is written as its first blank and those that are added
pub spread-widened : (spare gaps i added over behind b : ℕ) (rest : List ℕ) → over ≡ i * spare % gaps → behind < gaps
    → added * gaps + behind ≡ spare + over → b ≡ 32 → spread spare gaps i (b ∷ rest) ≡ spaces (suc added) ++ spread spare gaps (i + 1) rest
spread-widened spare gaps i added over behind b rest before less shared gap =
    let wide = added-behind spare gaps i added over behind before less shared in
    rw (gap, wide) refl

-- another blank of a text is written as one
pub spread-mark : (spare gaps i b : ℕ) (rest : List ℕ) → b ≤ 1 → spread spare gaps i (b ∷ rest) ≡ spaces 1 ++ spread spare gaps i rest
spread-mark spare gaps i zero rest low = refl
spread-mark spare gaps i (suc zero) rest low = refl
spread-mark spare gaps i (suc (suc b)) rest low = absurd (omega arith)

module _ (spare gaps passed passed_then taken start end : ℕ) (text out mid out_then : List ℕ)
    (s : SpreadsOver spare gaps passed passed_then taken start end text out mid) where
  -- more was written behind it
  pub SpreadsOver-more : (n long behind taken_then end_then : ℕ) (more : List ℕ) → length more ≡ n → end + n ≤ length mid → length out_then ≡ length mid
      → take (end + n) out_then ≡ take end mid ++ more
      → spread spare gaps passed_then (drop taken text) ≡ more ++ spread spare gaps behind (drop taken_then text)
      → taken_then ≡ taken + long → end_then ≡ end + n
      → SpreadsOver spare gaps passed behind taken_then start end_then text out out_then
  SpreadsOver-more n long behind taken_then end_then more counted room same written rest takes ends = record {
    moved = s.moved ++ more;
    place = omega (arith, ends, s.place, counted, length-append s.moved more);
    within = omega (arith, ends, room, same);
    written =
        ap (λ m. take m out_then) ends ∙ written ∙ ap (λ (xs : List ℕ). xs ++ more) s.written ∙ append_assoc (take start out) s.moved more;
    rest =
        append_assoc s.moved more (spread spare gaps behind (drop taken_then text)) ∙ ap (λ (xs : List ℕ). s.moved ++ xs) (sym rest) ∙ s.rest;
  }

  -- glyphs are written as themselves
  pub SpreadsOver-glyphs : (n : ℕ) → taken + n ≤ length text → end + n ≤ length mid → length out_then ≡ length mid
      → take n (drop taken text) ≡ take n (glyphs_in_front (drop taken text)) → take (end + n) out_then ≡ take end mid ++ take n (drop taken text)
      → SpreadsOver spare gaps passed passed_then (taken + n) start (end + n) text out out_then
  SpreadsOver-glyphs n within room same glyphs written =
      let rest : List ℕ = drop taken text in
      let nothing = append-nil (spread spare gaps passed_then rest) in
      let first : spread spare gaps passed_then rest ≡ take n rest ++ spread spare gaps passed_then (drop (taken + n) text) =
      sym nothing ∙ sym (take-append-spread spare gaps passed_then n n rest [] glyphs)
      ∙ ap (λ (xs : List ℕ). take n rest ++ xs) (append-nil (spread spare gaps passed_then (drop n rest)))
      ∙ ap (λ (xs : List ℕ). take n rest ++ spread spare gaps passed_then xs) (drop-drop n taken text) in
      SpreadsOver-more n n passed_then (taken + n) (end + n) (take n rest)
      (omega (arith, length-take n rest, length-drop taken text, within)) room same written first refl refl

  -- so is a blank, with those that are added to it
  pub SpreadsOver-blanks : (n behind end_then : ℕ) → taken < length text → end + n ≤ length mid → length out_then ≡ length mid
      → take (end + n) out_then ≡ take end mid ++ spaces n → end_then ≡ end + n
      → spread spare gaps passed_then (slice_index_or text taken 0 ∷ drop (taken + 1) text) ≡ spaces n ++ spread spare gaps behind (drop (taken + 1) text)
      → SpreadsOver spare gaps passed behind (taken + 1) start end_then text out out_then
  SpreadsOver-blanks n behind end_then more room same written ends spreads =
      SpreadsOver-more n 1 behind (taken + 1) end_then (spaces n) (length-replicate {A = ℕ} n 32) room same written
      (ap (spread spare gaps passed_then) (drop-more text taken more) ∙ spreads) refl ends

-- what was written of a text was written of the bytes to come
pub WritesOver-spread : (spare gaps passed passed_then taken start end blanks : ℕ) (text behind newlines out out_then : List ℕ)
    → SpreadsOver spare gaps passed passed_then taken start end text out out_then → blanks ≡ 0 → behind ≡ drop taken text
    → WritesOver start end out out_then (spaces blanks ++ (spread spare gaps passed text ++ newlines))
    (spaces blanks ++ (spread spare gaps passed_then behind ++ newlines))
WritesOver-spread spare gaps passed passed_then taken start end blanks text behind newlines out out_then s none is_behind =
    rw (none, is_behind) (record {
      moved = s.moved;
      within = s.within;
      written = s.written;
      taken =
          sym (append_assoc s.moved (spread spare gaps passed_then (drop taken text)) newlines)
          ∙ ap (λ (xs : List ℕ). xs ++ newlines) s.rest;
    })

-- the first of some blanks
pub take-spaces : (n all : ℕ) → n ≤ all → take n (spaces all) ≡ spaces n
take-spaces zero all few = refl
take-spaces (suc n) zero few = absurd (omega arith)
take-spaces (suc n) (suc all) few = ap (λ (xs : List ℕ). 32 ∷ xs) (take-spaces n all (omega arith))
