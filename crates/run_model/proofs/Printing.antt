-- Bytes that are printed, one after another.
use Rattle.std.proofs.Common.{◌≡◌, ℕ, List, [], ◌∷◌, map, refl, ap}
use Rattle.page_model.specs.declared.event.Event.TheVariants.{Print}
use Rattle.page_model.specs.declared.glyph.Glyph.TheVariants.{Printed}
use Rattle.run_model.specs.Requests.{PageEvent, Text}

-- their events
abbrev pub prints : List ℕ → List PageEvent
prints bytes = map (λ byte. Text (Print (Printed byte))) bytes

-- as glyphs
pub prints-glyphs : (bytes : List ℕ) → map (λ glyph. Text (Print glyph)) (map Printed bytes) ≡ prints bytes
prints-glyphs [] = refl
prints-glyphs (b ∷ bytes) = ap (λ (es : List PageEvent). Text (Print (Printed b)) ∷ es) (prints-glyphs bytes)
