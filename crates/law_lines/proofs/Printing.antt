-- Printed bytes above the blank are written as themselves.
use Rattle.std.proofs.Common.{◌≡◌, ℕ, ◌<◌, false, List, [], ◌∷◌, ◌++◌, length, Some, refl, ap, ◌∙◌, arith, map, reverse, All, option_map}
use Rattle.std.specs.List.{flat_map}
use Rattle.std.proofs.lemmas.List.Elements.{All-head, All-tail}
use Rattle.page_model.specs.declared.glyph.Glyph.TheVariants.{Printed}
use Rattle.page_model.specs.Glyphs.{glyph_text}
use Rattle.page_model.specs.declared.event.Event.TheVariants.{WordEnd, Break}
use Rattle.page_model.specs.Words.{is_empty}
use Rattle.page_model.specs.Columns.{line_bytes, spread, trimmed}
use Rattle.page_model.specs.Lines.{finished_in}
use Rattle.page_model.specs.Telling.{glyphs_told}
use Rattle.law_lines.specs.Written.{written_by_break}
use Rattle.roff_lines.proofs.GlyphsInFront.{eqb-above, spread-glyph, text_byte-above}
use Rattle.roff_lines.proofs.Unfielded.{finished_as, told-event_as, told-glyphs_told_as}
use Rattle.roff_lines.proofs.Telling.{settings_after-told, words-word}

-- the first of some bytes above the blank is above it, and so are the others
first_above : (b : ℕ) (bytes : List ℕ) → All (λ c. 32 < c) (b ∷ bytes) → 32 < b
first_above b bytes above = All-head (λ c. 32 < c) b bytes above

others_above : (b : ℕ) (bytes : List ℕ) → All (λ c. 32 < c) (b ∷ bytes) → All (λ c. 32 < c) bytes
others_above b bytes above = All-tail (λ c. 32 < c) b bytes above

-- bytes above the blank are their own text
pub text-above : (bytes : List ℕ) → All (λ b. 32 < b) bytes → flat_map glyph_text (map Printed bytes) ≡ bytes
text-above [] above = refl
text-above (b ∷ bytes) above =
    let here : 32 < b = first_above b bytes above in
    rw (text_byte-above b here) (ap (λ xs. b ∷ xs) (text-above bytes (others_above b bytes above)))

-- none of them is written as a blank
pub spread-above : (spare gaps i : ℕ) (bytes : List ℕ) → All (λ b. 32 < b) bytes → spread spare gaps i bytes ≡ bytes
spread-above spare gaps i [] above = refl
spread-above spare gaps i (b ∷ bytes) above =
    let here : 32 < b = first_above b bytes above in
    spread-glyph spare gaps i b bytes here ∙ ap (λ xs. b ∷ xs) (spread-above spare gaps i bytes (others_above b bytes above))

-- so none is left out
pub trimmed-above : (bytes : List ℕ) → All (λ b. 32 < b) bytes → trimmed bytes ≡ bytes
trimmed-above [] above = refl
trimmed-above (b ∷ bytes) above =
    let here : 32 < b = first_above b bytes above in
    rw (eqb-above b 32 (omega arith) here) (ap (λ xs. b ∷ xs) (trimmed-above bytes (others_above b bytes above)))

-- a list with an element isn't empty
is_empty-some : (bytes : List ℕ) → 0 < length bytes → is_empty (map Printed bytes) ≡ false
is_empty-some [] some = absurd (omega arith)
is_empty-some (b ∷ bytes) some = refl

-- a word of bytes above the blank, told to a new environment, is written as itself
written_in-above : (bytes : List ℕ) → 0 < length bytes → All (λ b. 32 < b) bytes
    → option_map line_bytes (finished_in (WordEnd ∷ glyphs_told (map Printed bytes) []) Break) ≡ Some (bytes ++ 10 ∷ [])
written_in-above bytes some above =
    let told = words-word (map Printed bytes) [] (is_empty-some bytes some) refl in
    let initial = settings_after-told (reverse (map Printed bytes)) [] in
    rw (told, text-above bytes above, initial, spread-above, trimmed-above bytes above) refl

-- no field is open behind it, so a break writes it
pub written-above : (bytes : List ℕ) → 0 < length bytes → All (λ b. 32 < b) bytes
    → written_by_break (WordEnd ∷ glyphs_told (map Printed bytes) []) ≡ Some (bytes ++ 10 ∷ [])
written-above bytes some above =
    let glyphs = glyphs_told (map Printed bytes) [] in
    let all = told-event_as glyphs glyphs (told-glyphs_told_as (map Printed bytes) [] [] refl) WordEnd tt in
    ap (option_map line_bytes) (finished_as (WordEnd ∷ glyphs) (WordEnd ∷ glyphs) all Break) ∙ written_in-above bytes some above
