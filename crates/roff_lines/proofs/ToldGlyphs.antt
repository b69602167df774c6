-- Glyphs of printed bytes, where an environment stands for its history.
use Rattle.std.proofs.Common.{◌≡◌, ℕ, ◌+◌, ◌-◌, ◌<◌, ◌≤◌, false, List, [], ◌∷◌, ◌++◌, length, refl, sym, ap, subst, ◌∙◌, arith, append_assoc, if◌then◌else◌, ◌==◌, length-append}
use Rattle.std.specs.List.{AllByRecursion}
use Rattle.std.proofs.lemmas.List.Sums.{sum_by-cons, sum_by-append}
use Rattle.page_model.specs.declared.glyph.Glyph.TheVariants.{Printed}
use Rattle.roff_num.specs.Widths.{byte_width}
use Rattle.page_model.specs.Glyphs.{text_width}
use Rattle.page_model.specs.declared.event.Event.TheVariants.{Print}
use Rattle.page_model.specs.Events.{History}
use Rattle.page_model.specs.Places.{moved}
use Rattle.page_model.specs.Lines.{pending_length}
use Rattle.page_model.specs.Telling.{bytes_told}
use Rattle.roff_lines.specs.Env.Kept.{Kept, begun_blanks, glyph_room, kept_with_glyph, with_glyphs}
use Rattle.roff_lines.specs.Env.Stands.{StandsPlain}
use Rattle.roff_lines.specs.Env.Tells.{TellsPlain}
use Rattle.roff_lines.proofs.Gaps.{begun_blanks-twice}
use Rattle.roff_lines.proofs.GlyphsInFront.{eqb-above, text_byte-above}
use Rattle.roff_lines.proofs.Printed.{Stands-print, room-print, within-print}
use Rattle.roff_lines.proofs.Tells.{Tells-append}

-- places move by some columns, and then by others
pub moved-moved : (m n place : ℕ) → moved n (moved m place) ≡ moved (m + n) place
moved-moved m n place = omega arith

-- one byte is as wide as it is
pub text_width-one : (b : ℕ) → text_width (b ∷ []) ≡ byte_width b
text_width-one b = omega (arith, sum_by-cons byte_width b [])

-- such a byte is a glyph
with_glyphs-one : (b : ℕ) (k : Kept) → 32 < b → kept_with_glyph (Printed b) k ≡ with_glyphs (b ∷ []) k
with_glyphs-one b k above = rw (text_byte-above b above, text_width-one b) refl

module _ (line_cap : ℕ) (h : History) (k : Kept) (s : StandsPlain line_cap h k) (b : ℕ) (above : 32 < b) where
  -- it is within the limit where there is room
  within-glyph : 0 < glyph_room k → pending_length (Print (Printed b) ∷ h) ≤ line_cap
  within-glyph room = within-print line_cap h k s (Printed b) (omega (arith, room))

  -- it isn't where there is none
  pub within-full : glyph_room k ≡ 0 → pending_length (Print (Printed b) ∷ h) ≤ line_cap → ⊥
  within-full full within = omega (arith, full, room-print line_cap h k s (Printed b) within)

  -- what is kept behind it stands for the history with it
  Stands-glyph : 0 < glyph_room k → StandsPlain line_cap (Print (Printed b) ∷ h) (with_glyphs (b ∷ []) k)
  Stands-glyph room =
      subst (StandsPlain line_cap (Print (Printed b) ∷ h)) (with_glyphs-one b k above)
      (Stands-print line_cap h k s (Printed b) (omega (arith, room)))

-- a byte above the blank is told as a glyph
pub bytes_told-glyph : (b : ℕ) (h : History) → 32 < b → bytes_told (b ∷ []) h ≡ Print (Printed b) ∷ h
bytes_told-glyph b h above = rw (eqb-above b 32 (omega arith) above) refl

-- it can be told where there is room
pub Tells-glyph : (b : ℕ) → 32 < b → (k : Kept) → 0 < glyph_room k → TellsPlain (b ∷ []) k (with_glyphs (b ∷ []) k)
Tells-glyph b above k room = record {
  quiet = λ line_cap h s.
      let no_blank : (b == 32) ≡ false = eqb-above b 32 (omega arith) above in
      let within = subst (λ told. pending_length told ≤ line_cap) (sym (bytes_told-glyph b h above)) (within-glyph line_cap h k s b above room) in
      (rw no_blank refl, within, tt);
  stands = λ line_cap h s.
      subst (λ told. StandsPlain line_cap told (with_glyphs (b ∷ []) k)) (sym (bytes_told-glyph b h above)) (Stands-glyph line_cap h k s b above room);
  field = refl;
}

-- glyphs leave less room
pub glyph_room-glyphs : (bytes : List ℕ) (k : Kept) → glyph_room (with_glyphs bytes k) ≡ glyph_room k - length bytes
glyph_room-glyphs bytes k =
    let begun = begun_blanks-twice k (with_glyphs bytes k).ends_sentence in
    let same : (if k.has_line then begun_blanks (with_glyphs bytes k) else 0) ≡ (if k.has_line then begun_blanks k else 0) =
    ap (λ n. if k.has_line then n else 0) begun in
    omega (arith, length-append k.word bytes, same)

-- one glyph and others behind it are all of them
with_glyphs-cons : (b : ℕ) (bytes : List ℕ) (k : Kept) → with_glyphs bytes (with_glyphs (b ∷ []) k) ≡ with_glyphs (b ∷ bytes) k
with_glyphs-cons b bytes k =
    let place : moved (text_width bytes) (moved (text_width (b ∷ [])) k.place) ≡ moved (text_width (b ∷ bytes)) k.place =
    moved-moved (text_width (b ∷ [])) (text_width bytes) k.place
    ∙ ap (λ n. moved n k.place) (sym (sum_by-append byte_width (b ∷ []) bytes)) in
    ap (λ w. record (with_glyphs bytes (with_glyphs (b ∷ []) k)) { word = w }) (append_assoc k.word (b ∷ []) bytes)
    ∙ ap (λ n. record (with_glyphs bytes (with_glyphs (b ∷ []) k)) { word = k.word ++ b ∷ bytes; blanks = n })
    (begun_blanks-twice k (with_glyphs (b ∷ []) k).ends_sentence)
    ∙ ap (λ p. record (with_glyphs (b ∷ bytes) k) { place = p }) place

-- glyphs can be told where there is room for them
Tells-some : (b : ℕ) (bytes : List ℕ) → AllByRecursion (λ c. 32 < c) (b ∷ bytes) → (k : Kept)
    → length (b ∷ bytes) ≤ glyph_room k → TellsPlain (b ∷ bytes) k (with_glyphs (b ∷ bytes) k)
Tells-some b [] above k room = Tells-glyph b above.0 k (omega arith)
Tells-some b (c ∷ bytes) above k room =
    let first = with_glyphs (b ∷ []) k in
    let others = Tells-some c bytes above.1 first (omega (arith, glyph_room-glyphs (b ∷ []) k, room)) in
    subst (TellsPlain (b ∷ c ∷ bytes) k) (with_glyphs-cons b (c ∷ bytes) k)
    (Tells-append (b ∷ []) (c ∷ bytes) k first (with_glyphs (c ∷ bytes) first) (Tells-glyph b above.0 k (omega arith)) others)

pub Tells-glyphs : (bytes : List ℕ) → 0 < length bytes → AllByRecursion (λ c. 32 < c) bytes → (k : Kept)
    → length bytes ≤ glyph_room k → TellsPlain bytes k (with_glyphs bytes k)
Tells-glyphs [] some above k room = absurd (omega arith)
Tells-glyphs (b ∷ bytes) some above k room = Tells-some b bytes above k room
