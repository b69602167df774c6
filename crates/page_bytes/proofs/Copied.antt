-- A text that is written as it stands, where nothing is added to a gap.
use Rattle.std.proofs.Common.{◌≡◌, ℕ, zero, suc, ◌+◌, ◌-◌, ◌*◌, ◌<◌, ◌≤◌, true, false, inl, inr, List, [], ◌∷◌, ◌++◌, length, take, drop, map, nat_le, refl, ap, sym, ◌∙◌, arith, ne_eqb, ◌%◌, ◌==◌, ◌||◌, eqb-true}
use Rattle.std.proofs.lemmas.Bool.{cases_Bool}
use Rattle.std.proofs.lemmas.Bool.Decides.{nat_tests}
use Rattle.std.proofs.lemmas.List.{drop_all}
use Rattle.std.proofs.lemmas.Nat.{mod-mul-add}
use Rattle.page_model.specs.Glyphs.{gap_blank, further_blank, glyph_blank}
use Rattle.page_model.specs.Columns.{added_columns, spaces, spread}
use Rattle.page_bytes.specs.LineBytes.Fronts.{WritesOver, written_mark}
use Rattle.page_bytes.proofs.SharedColumns.{added-behind}

-- nothing is added where nothing is spare
added-none : (gaps i : ℕ) → 0 < gaps → added_columns 0 gaps (i + 1) - added_columns 0 gaps i ≡ 0
added-none gaps i some =
    let nothing : 0 ≡ i * 0 % gaps = sym (ap (λ n. n % gaps) (omega arith) ∙ mod-mul-add 0 gaps 0 some) in
    sym (added-behind 0 gaps i 0 0 0 nothing some (omega arith))

-- a byte above 1 is no mark of a blank
no_mark : (b : ℕ) → 1 < b → (b == further_blank || b == glyph_blank) ≡ false
no_mark b above =
    let further : (b == further_blank) ≡ false = ne_eqb b further_blank (λ e. absurd (omega arith)) in
    let glyph : (b == glyph_blank) ≡ false = ne_eqb b glyph_blank (λ e. absurd (omega arith)) in
    rw (further, glyph) refl

-- a mark of a blank is written as one
written-mark : (b : ℕ) → (b == further_blank || b == glyph_blank) ≡ true → 32 ≡ written_mark b
written-mark zero e = refl
written-mark (suc zero) e = refl
written-mark (suc (suc b)) e =
    let wrong : false ≡ true = sym (no_mark (suc (suc b)) (omega arith)) ∙ e in
    cc

-- another byte as itself
written-other : (b : ℕ) → (b == further_blank || b == glyph_blank) ≡ false → b ≡ written_mark b
written-other zero e = let wrong : true ≡ false = e in cc
written-other (suc zero) e = let wrong : true ≡ false = e in cc
written-other (suc (suc b)) e =
    let high : nat_le (suc (suc b)) 1 ≡ false = grind (arith, nat_tests) in
    rw high refl

-- so each byte of a text is written as itself or as a blank
spread-none : (gaps i : ℕ) (text : List ℕ) → 0 < gaps → spread 0 gaps i text ≡ map written_mark text
spread-none gaps i [] some = refl
spread-none gaps i (b ∷ text) some =
    elim (cases_Bool (b == gap_blank)) [
      | inl e ↦
          let gap : b ≡ 32 = eqb-true b gap_blank e in
          rw (gap, added-none gaps i some) (ap (λ bytes. 32 ∷ bytes) (spread-none gaps (i + 1) text some))
      | inr e ↦ rw e (elim (cases_Bool (b == further_blank || b == glyph_blank)) [
        | inl f ↦ rw (f, ← written-mark b f) (ap (λ bytes. 32 ∷ bytes) (spread-none gaps i text some))
        | inr f ↦ rw (f, ← written-other b f) (ap (λ bytes. b ∷ bytes) (spread-none gaps i text some))
      ])
    ]

-- a text that was copied was written of the bytes to come
pub WritesOver-copied : (each rest spare gaps passed start blanks : ℕ) (text behind newlines out out_then : List ℕ) → each ≡ 0 → rest ≡ 0
    → spare ≡ each * gaps + rest → rest < gaps → blanks ≡ 0 → behind ≡ drop (length text) text → start + length text ≤ length out
    → length out_then ≡ length out → take (start + length text) out_then ≡ take start out ++ map written_mark text
    → WritesOver start (start + length text) out out_then (spaces blanks ++ (spread spare gaps passed text ++ newlines))
    (spaces blanks ++ (spread spare gaps passed behind ++ newlines))
WritesOver-copied each rest spare gaps passed start blanks text behind newlines out out_then no_each no_rest is_spare less none is_behind room same written =
    let nothing : spare ≡ 0 = is_spare ∙ rw (no_each, no_rest) (omega arith) in
    let left : behind ≡ [] = is_behind ∙ drop_all (length text) text (omega arith) in
    rw (none, nothing, left) (record {
      moved = map written_mark text;
      within = omega (arith, same, room);
      written = written;
      taken = ap (λ (xs : List ℕ). xs ++ newlines) (sym (spread-none gaps passed text (omega (arith, less))));
    })
