-- Glyphs of printed bytes in an open field, where an environment stands for its history.
use Rattle.std.proofs.Common.{◌≡◌, ℕ, ◌-◌, ◌<◌, ◌≤◌, true, false, inl, inr, List, [], ◌∷◌, ◌++◌, length, replicate, take, drop, Option, Some, None, refl, sym, ap, subst, ◌∙◌, arith, append_assoc, ◌⊎◌, ◌==◌, is_some, length-append, length-take, take-append-drop}
use Rattle.std.specs.List.{AllByRecursion}
use Rattle.std.proofs.lemmas.Bool.{cases_lt}
use Rattle.std.proofs.lemmas.List.{length-replicate}
use Rattle.std.proofs.lemmas.List.Sums.{sum_by-append}
use Rattle.roff_num.specs.Widths.{byte_width}
use Rattle.page_model.specs.declared.event.Event.TheVariants.{Print}
use Rattle.page_model.specs.declared.glyph.Glyph.TheVariants.{Printed}
use Rattle.page_model.specs.Behind.{pending_length}
use Rattle.page_model.specs.Glyphs.{glyph_blank, text_width}
use Rattle.page_model.specs.Places.{moved}
use Rattle.roff_lines.specs.GlyphsInFront.{glyphs_in_front}
use Rattle.roff_lines.specs.Env.Kept.{Kept, KeptField, field_room, length_told, with_glyph_in, with_glyph_told, with_glyphs_in, with_glyphs_told}
use Rattle.roff_lines.specs.Env.Tells.{EndsInField, Tells}
use Rattle.roff_lines.proofs.GlyphTold.{Stands-glyph_told, limit-glyph_told}
use Rattle.roff_lines.proofs.GlyphsInFront.{eqb-above, text_byte-above}
use Rattle.roff_lines.proofs.Tells.{AllByRecursion-behind}
use Rattle.roff_lines.proofs.TextRuns.{BeginsBlank, above-front, behind-front}
use Rattle.roff_lines.proofs.TextTold.{Tells-both}
use Rattle.roff_lines.proofs.ToldGlyphs.{moved-moved, text_width-one}

-- what is kept with this field open
abbrev in_field : KeptField → Kept → Kept
in_field f k = record k { field = Some f }

-- what holds whichever field is open holds where one is
open_as : (P : Kept → Type 0) (k : Kept) (o : Option KeptField) → is_some o ≡ true → ((f : KeptField) → P (in_field f k)) → P (record k { field = o })
open_as P k None some at = cc
open_as P k (Some f) some at = at f

-- a glyph is told where there is room for it
Tells-one : (b : ℕ) (k : Kept) → (b == 32) ≡ false → length_told (Printed b) k ≤ k.cap → Tells (b ∷ []) k (with_glyph_told (Printed b) k)
Tells-one b k glyph room = record {
  quiet = λ line_cap h s.
      let within : pending_length (Print (Printed b) ∷ h) ≤ line_cap =
      elim (cases_lt line_cap (pending_length (Print (Printed b) ∷ h))) [
        | inl over ↦ absurd (omega (arith, room, (limit-glyph_told (Printed b) line_cap h k s).1 over))
        | inr few ↦ few
      ] in
      (rw glyph refl, rw glyph within, tt);
  stands = λ line_cap h s. rw glyph (Stands-glyph_told (Printed b) line_cap h k s room);
}

-- such a byte is a glyph
with_glyphs_in-one : (b : ℕ) (f : KeptField) (k : Kept) → 32 < b → with_glyph_in (Printed b) f k ≡ with_glyphs_in (b ∷ []) f k
with_glyphs_in-one b f k above = rw (text_byte-above b above, text_width-one b) refl

-- glyphs leave less room
field_room-glyphs : (bytes : List ℕ) (f : KeptField) (k : Kept)
    → field_room (with_glyphs_in bytes f k) ≡ field_room (in_field f k) - length bytes
field_room-glyphs bytes f k =
    let blank : List ℕ = replicate k.blanks glyph_blank in
    omega (
      arith,
      length-append k.word f.text,
      length-append k.word (f.text ++ (blank ++ bytes)),
      length-append f.text (blank ++ bytes),
      length-append blank bytes,
      length-replicate k.blanks glyph_blank,
    )

-- the field behind one glyph
abbrev behind_one : ℕ → KeptField → Kept → KeptField
behind_one b f k = record f { text = f.text ++ (replicate k.blanks glyph_blank ++ b ∷ []) }

-- one glyph and others behind it are all of them
with_glyphs_in-cons : (b : ℕ) (bytes : List ℕ) (f : KeptField) (k : Kept)
    → with_glyphs_in bytes (behind_one b f k) (with_glyphs_in (b ∷ []) f k) ≡ with_glyphs_in (b ∷ bytes) f k
with_glyphs_in-cons b bytes f k =
    let blank : List ℕ = replicate k.blanks glyph_blank in
    let text : (f.text ++ (blank ++ b ∷ [])) ++ bytes ≡ f.text ++ (blank ++ b ∷ bytes) =
    append_assoc f.text (blank ++ b ∷ []) bytes ∙ ap (λ (t : List ℕ). f.text ++ t) (append_assoc blank (b ∷ []) bytes) in
    let place : moved (text_width bytes) (moved (text_width (b ∷ [])) k.place) ≡ moved (text_width (b ∷ bytes)) k.place =
    moved-moved (text_width (b ∷ [])) (text_width bytes) k.place
    ∙ ap (λ n. moved n k.place) (sym (sum_by-append byte_width (b ∷ []) bytes)) in
    let behind : Kept = with_glyphs_in bytes (behind_one b f k) (with_glyphs_in (b ∷ []) f k) in
    ap (λ (t : List ℕ). record behind { field = Some (record f { text = t }) }) text
    ∙ ap (λ p. record (with_glyphs_in (b ∷ bytes) f k) { place = p }) place

-- one glyph is told in a field where there is room for it
Tells-first : (b : ℕ) → 32 < b → (f : KeptField) (k : Kept) → 0 < field_room (in_field f k)
    → Tells (b ∷ []) (in_field f k) (with_glyphs_in (b ∷ []) f k)
Tells-first b above f k room =
    subst (Tells (b ∷ []) (in_field f k)) (with_glyphs_in-one b f k above)
    (Tells-one b (in_field f k) (eqb-above b 32 (omega arith) above) (omega (arith, room)))

-- so are others behind it
Tells-some : (b : ℕ) (bytes : List ℕ) → AllByRecursion (λ c. 32 < c) (b ∷ bytes) → (f : KeptField) (k : Kept)
    → length (b ∷ bytes) ≤ field_room (in_field f k) → Tells (b ∷ bytes) (in_field f k) (with_glyphs_in (b ∷ bytes) f k)
Tells-some b [] above f k room = Tells-first b above.0 f k (omega (arith, room))
Tells-some b (c ∷ bytes) above f k room =
    let first : Kept = with_glyphs_in (b ∷ []) f k in
    let one : Tells (b ∷ []) (in_field f k) first = Tells-first b above.0 f k (omega (arith, room)) in
    let others : Tells (c ∷ bytes) first (with_glyphs_in (c ∷ bytes) (behind_one b f k) first) =
    Tells-some c bytes above.1 (behind_one b f k) first (omega (arith, field_room-glyphs (b ∷ []) f k, room)) in
    subst (Tells (b ∷ c ∷ bytes) (in_field f k)) (with_glyphs_in-cons b (c ∷ bytes) f k)
    (Tells-both (b ∷ []) (c ∷ bytes) (in_field f k) first (with_glyphs_in (c ∷ bytes) (behind_one b f k) first) one others)

pub Tells-glyphs_in : (bytes : List ℕ) → 0 < length bytes → AllByRecursion (λ c. 32 < c) bytes → (k : Kept) → is_some k.field ≡ true
    → length bytes ≤ field_room k → Tells bytes k (with_glyphs_told bytes k)
Tells-glyphs_in [] some above k is_open room = absurd (omega arith)
Tells-glyphs_in (b ∷ bytes) some above k is_open room =
    open_as (λ (k : Kept). length (b ∷ bytes) ≤ field_room k → Tells (b ∷ bytes) k (with_glyphs_told (b ∷ bytes) k)) k k.field is_open
    (λ f. Tells-some b bytes above f k) room

-- where there is no room, or a blank, no glyph in front is let through
ends_in : (rest : List ℕ) (f : KeptField) (k : Kept) → AllByRecursion (λ b. 31 < b) rest → (field_room (in_field f k) ≡ 0) ⊎ BeginsBlank rest
    → EndsInField rest (in_field f k)
ends_in [] f k printed ends = tt
ends_in (b ∷ rest) f k printed (inl full) = λ glyph. omega (arith, full)
ends_in (b ∷ rest) f k printed (inr blank) = λ glyph. absurd (glyph (omega (arith, blank, printed.0)))

-- what was counted of the glyphs in front of these bytes
module _ (bytes : List ℕ) (k : Kept) (count room : ℕ) (within : count ≤ length bytes) (printed : AllByRecursion (λ b. 31 < b) bytes)
    (taken : take count bytes ≡ take room (glyphs_in_front bytes)) (all : room ≡ field_room k) (is_open : is_some k.field ≡ true) where
  -- they are above the blank
  pub above-in : AllByRecursion (λ b. 32 < b) (take count bytes)
  above-in = subst (AllByRecursion (λ b. 32 < b)) (sym taken) (above-front room bytes)

  -- there is room for them
  pub room-in : count ≤ field_room k
  room-in = omega (arith, within, length-take count bytes, ap length taken, length-take room (glyphs_in_front bytes), all)

  -- those behind them are printed too
  printed-behind : AllByRecursion (λ b. 31 < b) (drop count bytes)
  printed-behind =
      AllByRecursion-behind (λ b. 31 < b) (take count bytes) (drop count bytes)
      (subst (AllByRecursion (λ b. 31 < b)) (sym (take-append-drop count bytes)) printed)

  -- they are told where there are some
  pub Tells-counted : 0 < count → Tells (take count bytes) k (with_glyphs_told (take count bytes) k)
  Tells-counted some =
      Tells-glyphs_in (take count bytes) (omega (arith, some, within, length-take count bytes)) above-in k is_open
      (omega (arith, room-in, within, length-take count bytes))

  -- behind them none is let through
  pub EndsInField-counted : EndsInField (drop count bytes) (with_glyphs_told (take count bytes) k)
  EndsInField-counted =
      open_as (λ (k : Kept). room ≡ field_room k → EndsInField (drop count bytes) (with_glyphs_told (take count bytes) k)) k k.field is_open
      (λ f all. ends_in (drop count bytes) (record f { text = f.text ++ (replicate k.blanks glyph_blank ++ take count bytes) })
      (with_glyphs_in (take count bytes) f k) printed-behind
      (elim (behind-front count room bytes within taken) [
        | inl same ↦ inl (omega (arith, field_room-glyphs (take count bytes) f k, length-take count bytes, within, same, all))
        | inr ends ↦ inr ends
      ])) all

  -- where none was counted, none is let through
  pub EndsInField-none : count ≡ 0 → EndsInField bytes k
  EndsInField-none none =
      open_as (λ (k : Kept). room ≡ field_room k → EndsInField bytes k) k k.field is_open
      (λ f all. ends_in bytes f k printed (elim (behind-front count room bytes within taken) [
        | inl same ↦ inl (omega (arith, none, same, all))
        | inr ends ↦ inr (subst (λ n. BeginsBlank (drop n bytes)) none ends)
      ])) all
