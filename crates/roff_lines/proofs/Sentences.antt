-- Ends of sentences behind printed bytes.
use Rattle.std.proofs.Common.{◌≡◌, ℕ, Bool, List, [], ◌∷◌, ◌++◌, refl, if◌then◌else◌}
use Rattle.page_model.specs.declared.glyph.Glyph.TheVariants.{Printed}
use Rattle.page_model.specs.Words.{is_closer, is_sentence_mark, ends_sentence_behind}

-- a byte more
pub ends_sentence_behind_push : (bytes : List ℕ) (b : ℕ) (before : Bool) →
    ends_sentence_behind (bytes ++ b ∷ []) before
    ≡ (if is_closer (Printed b) then ends_sentence_behind bytes before else is_sentence_mark (Printed b))
ends_sentence_behind_push [] b before = refl
ends_sentence_behind_push (c ∷ bytes) b before =
    ends_sentence_behind_push bytes b (if is_closer (Printed c) then before else is_sentence_mark (Printed c))
