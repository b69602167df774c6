-- Bytes of a text line that are told at once, where a field is open or none is.
use Rattle.std.proofs.Common.{◌≡◌, ℕ, ◌+◌, ◌<◌, ◌≤◌, false, inl, inr, List, [], ◌∷◌, ◌++◌, length, take, drop, slice_index_or, None, sym, subst, arith, ◌==◌, eqb-true}
use Rattle.std.proofs.lemmas.Bool.{cases_Bool, eqb-false}
use Rattle.std.proofs.lemmas.List.{take_more}
use Rattle.page_model.specs.declared.event.Event.TheVariants.{Print}
use Rattle.page_model.specs.declared.glyph.Glyph.TheVariants.{Printed}
use Rattle.page_model.specs.Events.{History}
use Rattle.page_model.specs.Behind.{pending_length}
use Rattle.page_model.specs.Telling.{bytes_told, QuietlyTold}
use Rattle.roff_lines.specs.Env.Kept.{Kept}
use Rattle.roff_lines.specs.Env.Stands.{Stands, StandsPlain}
use Rattle.roff_lines.specs.Env.Tells.{EndsInField, PlainlyTold, Tells}
use Rattle.roff_lines.proofs.GlyphTold.{limit-glyph_told}
use Rattle.roff_lines.proofs.PlainStanding.{plain_of, plainly_quiet, quiet_plain, stands_plain}
use Rattle.roff_lines.proofs.Unfielded.{told-bytes_as}
use Rattle.roff_lines.proofs.Tells.{bytes_told-append}
use Rattle.roff_lines.proofs.TextFront.{drop-place}

-- those in front were told quietly, and so was the byte behind them
quiet-last : (line_cap : ℕ) (xs : List ℕ) (b : ℕ) (h : History) → QuietlyTold line_cap (xs ++ b ∷ []) h
    → QuietlyTold line_cap (b ∷ []) (bytes_told xs h)
quiet-last line_cap [] b h quiet = quiet
quiet-last line_cap (x ∷ xs) b h quiet = quiet-last line_cap xs b (bytes_told (x ∷ []) h) quiet.2

-- a byte that isn't a blank is a glyph, and within the limit
within-told : (line_cap : ℕ) (b : ℕ) (h : History) → (b == 32) ≡ false → QuietlyTold line_cap (b ∷ []) h
    → pending_length (Print (Printed b) ∷ h) ≤ line_cap
within-told line_cap b h glyph quiet = rw glyph at quiet.1

-- of so many bytes in front no more can be told in a field: a blank is in front
module _ (count told : ℕ) (bytes : List ℕ) (old new : Kept) (text : count ≤ length bytes) (less : told < count)
    (t : Tells (take told bytes) old new) (ends : EndsInField (drop told (take count bytes)) new) where
  pub most-field : (line_cap : ℕ) (h : History) → Stands line_cap h old → QuietlyTold line_cap (take (told + 1) bytes) h
      → slice_index_or bytes told 0 ≡ 32
  most-field line_cap h s quiet =
      let b : ℕ = slice_index_or bytes told 0 in
      let more : take (told + 1) bytes ≡ take told bytes ++ b ∷ [] = take_more bytes told 0 (omega (arith, text, less)) in
      let here : Stands line_cap (bytes_told (take told bytes) h) new = t.stands line_cap h s in
      let last : QuietlyTold line_cap (b ∷ []) (bytes_told (take told bytes) h) =
      quiet-last line_cap (take told bytes) b h (subst (λ (xs : List ℕ). QuietlyTold line_cap xs h) more quiet) in
      let stops : EndsInField (b ∷ drop (told + 1) (take count bytes)) new =
      subst (λ (xs : List ℕ). EndsInField xs new) (sym (drop-place bytes told count text less)) ends in
      elim (cases_Bool (b == 32)) [
        | inl blank ↦ eqb-true b 32 blank
        | inr glyph ↦
            let over = stops (λ (e : b ≡ 32). eqb-false b 32 glyph e) in
            let limit = (limit-glyph_told (Printed b) line_cap (bytes_told (take told bytes) h) new here).0 over in
            absurd (omega (arith, limit, within-told line_cap b (bytes_told (take told bytes) h) glyph last))
      ]

-- what is told behind plain histories is told where no field is kept
module _ (line_cap : ℕ) (h : History) (old : Kept) (none : old.field ≡ None) (s : Stands line_cap h old) where
  pub quiet-unfielded : (bytes : List ℕ) → ((p : History) → StandsPlain line_cap p old → PlainlyTold line_cap bytes p)
      → QuietlyTold line_cap bytes h
  quiet-unfielded bytes quiet =
      let p = plain_of line_cap h old none s in quiet_plain line_cap bytes h p.events p.is_told (quiet p.events p.stands)

  pub stands-unfielded : (bytes : List ℕ) (new : Kept) → ((p : History) → StandsPlain line_cap p old → StandsPlain line_cap (bytes_told bytes p) new)
      → Stands line_cap (bytes_told bytes h) new
  stands-unfielded bytes new stands =
      let p = plain_of line_cap h old none s in
      stands_plain line_cap (bytes_told bytes h) (bytes_told bytes p.events) new (told-bytes_as bytes h p.events p.is_told) (stands p.events p.stands)

  pub most-unfielded : (bytes : List ℕ) → ((p : History) → StandsPlain line_cap p old → PlainlyTold line_cap bytes p → ⊥)
      → QuietlyTold line_cap bytes h → ⊥
  most-unfielded bytes most quiet =
      let p = plain_of line_cap h old none s in most p.events p.stands (plainly_quiet line_cap bytes h p.events p.is_told quiet)

-- bytes are told, and others behind them
QuietlyTold-both : (line_cap : ℕ) (xs ys : List ℕ) (h : History) → QuietlyTold line_cap xs h → QuietlyTold line_cap ys (bytes_told xs h)
    → QuietlyTold line_cap (xs ++ ys) h
QuietlyTold-both line_cap [] ys h first second = second
QuietlyTold-both line_cap (b ∷ xs) ys h first second = (first.0, first.1, QuietlyTold-both line_cap xs ys (bytes_told (b ∷ []) h) first.2 second)

pub Tells-both : (xs ys : List ℕ) (old mid new : Kept) → Tells xs old mid → Tells ys mid new → Tells (xs ++ ys) old new
Tells-both xs ys old mid new first second = record {
  quiet = λ line_cap h s.
      QuietlyTold-both line_cap xs ys h (first.quiet line_cap h s) (second.quiet line_cap (bytes_told xs h) (first.stands line_cap h s));
  stands = λ line_cap h s.
      subst (λ (told : History). Stands line_cap told new) (sym (bytes_told-append xs ys h))
      (second.stands line_cap (bytes_told xs h) (first.stands line_cap h s));
}
