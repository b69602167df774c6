-- A blank of a text line, which ends a word, whether a field is open or not.
use Rattle.std.proofs.Common.{◌≡◌, ℕ, ◌∷◌, false, not, ◌&&◌, Option, Some, None, refl, is_some}
use Rattle.page_model.specs.Behind.{has_open_word, pending_length}
use Rattle.page_model.specs.Events.{History}
use Rattle.page_model.specs.Fields.{Field, Told, so_far, told_plainly, told_behind}
use Rattle.page_model.specs.Lines.{pending_length as length_in}
use Rattle.page_model.specs.Words.{has_open_word as has_word_in}
use Rattle.page_model.specs.declared.event.Event.TheVariants.{Gap, WordEnd}
use Rattle.roff_lines.proofs.Fields.{pending_length-field_gap}

-- behind a word end no word is open that one would end
pub closed-word_end : (h : History) → has_open_word (WordEnd ∷ h) ≡ false
closed-word_end h = by_field (told_plainly h).events (told_plainly h).field
  where
    by_field : (events : History) (field : Option Field) → let t : Told = told_behind WordEnd (record { events = events; field = field }) in
        (not (is_some t.field) && has_word_in (so_far t)) ≡ false
    by_field events None = refl
    by_field events (Some f) = refl

-- and the pending line is as long in front of the gap as behind it
pub pending_length-blank : (n : ℕ) (h : History) → pending_length (Gap n ∷ WordEnd ∷ h) ≡ pending_length (WordEnd ∷ h)
pending_length-blank n h = by_field (told_plainly h).events (told_plainly h).field
  where
    by_field : (events : History) (field : Option Field) → let t : Told = told_behind WordEnd (record { events = events; field = field }) in
        length_in (so_far (told_behind (Gap n) t)) ≡ length_in (so_far t)
    by_field events None = refl
    by_field events (Some f) = pending_length-field_gap 0 n f events
