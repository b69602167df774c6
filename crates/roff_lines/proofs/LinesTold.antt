-- Ends of words and lines, where an environment stands for its history.
use Rattle.std.proofs.Common.{◌≡◌, ℕ, false, not, Option, Some, None, refl, sym, subst, ◌∙◌, true≢false}
use Rattle.std.proofs.lemmas.Bool.{cond_both, not-false}
use Rattle.page_model.specs.declared.event.Event.TheVariants.{WordEnd, LineEnd}
use Rattle.page_model.specs.Events.{History}
use Rattle.page_model.specs.Fields.{Field, plain, told_plainly, told_behind}
use Rattle.roff_lines.specs.Env.Kept.{Kept, finished_by_line_end, finished_by_word, with_field_left, with_input_line_ended, with_word_ended, word_fits}
use Rattle.roff_lines.specs.Env.Stands.{Finishes, StandsBehind, StandsFor, StandsInField, StandsTold}
use Rattle.roff_lines.proofs.LineEnd.{Stands-line_end, finished_by_line_end-stands}
use Rattle.roff_lines.proofs.Standing.{left_stands}
use Rattle.roff_lines.proofs.Told.{finished_told, finished_told-is, told_as}
use Rattle.roff_lines.proofs.WordEnd.{Stands-word_end, finished_by_word-stands}

-- a line end, behind which no field is open
pub StandsBehind-line_end : (k : Kept) → StandsBehind k LineEnd (with_input_line_ended (with_field_left k))
StandsBehind-line_end k line_cap h s = Stands-line_end line_cap (plain h) (with_field_left k) (left_stands line_cap h k s)

pub Finishes-line_end : (k : Kept) → Finishes k LineEnd (finished_by_line_end (with_field_left k))
Finishes-line_end k line_cap h s = finished_by_line_end-stands line_cap (plain h) (with_field_left k) (left_stands line_cap h k s)

-- where no word is open, a word end ends none
with_word_ended-closed : (k : Kept) → k.is_open ≡ false → with_word_ended k ≡ k
with_word_ended-closed k closed =
    cond_both (not k.is_open) _ _ (λ n. n ≡ k) (λ _. refl) (λ e. absurd (true≢false (sym (not-false k.is_open e) ∙ closed)))

-- so in a field
word_end_told : (line_cap : ℕ) (h : History) (f : Option Field) (k : Kept) → StandsTold line_cap h f k
    → StandsFor line_cap (told_behind WordEnd (told_as h f)) (with_word_ended k)
word_end_told line_cap h None k s = Stands-word_end line_cap h k s
word_end_told line_cap h (Some f) k s = subst (StandsInField line_cap h f) (sym (with_word_ended-closed k s.none_open)) s

pub StandsBehind-word_end : (k : Kept) → StandsBehind k WordEnd (with_word_ended k)
StandsBehind-word_end k line_cap h s = word_end_told line_cap (told_plainly h).events (told_plainly h).field k s

word_end_finished : (line_cap : ℕ) (h : History) (f : Option Field) (k : Kept) → StandsTold line_cap h f k
    → finished_by_word k ≡ finished_told WordEnd (told_as h f)
word_end_finished line_cap h None k s = finished_by_word-stands line_cap h k s
word_end_finished line_cap h (Some f) k s = rw s.none_open refl

pub Finishes-word_end : (k : Kept) → Finishes k WordEnd (finished_by_word k)
Finishes-word_end k line_cap h s =
    word_end_finished line_cap (told_plainly h).events (told_plainly h).field k s ∙ sym (finished_told-is WordEnd h)

-- a word end opens no field, and ends none
pub field-word_ended : (k : Kept) → (with_word_ended k).field ≡ k.field
field-word_ended k =
    let Same : Kept → Type 0 = λ n. n.field ≡ k.field in
    cond_both (not k.is_open) _ _ Same (λ _. refl)
    (λ _. cond_both (not k.has_line) _ _ Same (λ _. refl) (λ _. cond_both (word_fits k) _ _ Same (λ _. refl) (λ _. refl)))
