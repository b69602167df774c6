-- The last finished line: its text and its width.
use Rattle.std.proofs.Common.{◌≡◌, ℕ, zero, suc, Bool, true, false, ◌&&◌, not, List, ◌∷◌, Option, Some, None, refl, sym, ap, arith, if◌then◌else◌, ◌==◌, IfSome}
use Rattle.std.specs.List.{cons_option}
use Rattle.std.proofs.lemmas.Bool.{cond_both}
use Rattle.std.proofs.Math.Nat.{mul-div_cancel_left}
use Rattle.std.proofs.Math.Seq.{take-length}
use Rattle.page_model.specs.declared.settings.Settings.{Settings}
use Rattle.page_model.specs.Glyphs.{gaps_in}
use Rattle.page_model.specs.declared.event.Event.{Event}
use Rattle.page_model.specs.declared.event.Event.TheVariants.{WordEnd, LineEnd, Break}
use Rattle.page_model.specs.Events.{History, settings_after}
use Rattle.page_model.specs.Words.{is_empty, has_open_word, open_word, words}
use Rattle.page_model.specs.Lines.{Finished, free_columns, spread_columns, laid_out, line_laid_out, pending_line, finished_in}
use Rattle.page_model.specs.Fitting.{fits, line_indent, line_text}
use Rattle.page_model.specs.Settings.{fills}
use Rattle.page_model.specs.Columns.{added_columns}
use Rattle.page_model.specs.Paragraphs.{finished_lines}
use Rattle.page_model.specs.LastLine.{line_width, newest_width, last_width, newest_text, last_text, EndsAtWidth}

module _ (h : History) (e : Event) where
  -- an event that finishes no line leaves it
  pub last_width-none : finished_in h e ≡ None → last_width (e ∷ h) ≡ last_width h
  last_width-none none = ap (λ (o : Option Finished). newest_width (cons_option o (finished_lines h))) none

  pub last_text-none : finished_in h e ≡ None → last_text (e ∷ h) ≡ last_text h
  last_text-none none = ap (λ (o : Option Finished). newest_text (cons_option o (finished_lines h))) none

  -- a line that is finished sets it
  pub last_width-some : (line : Finished) → finished_in h e ≡ Some line → last_width (e ∷ h) ≡ line_width line
  last_width-some line some = ap (λ (o : Option Finished). newest_width (cons_option o (finished_lines h))) some

  pub last_text-some : (line : Finished) → finished_in h e ≡ Some line → last_text (e ∷ h) ≡ line.text
  last_text-some line some = ap (λ (o : Option Finished). newest_text (cons_option o (finished_lines h))) some

-- behind all gaps stand all columns that are spread, if none are where there is no gap
added_behind_all : (none : Bool) (spare gaps : ℕ) → (gaps == 0) ≡ none → (none ≡ true → spare ≡ 0)
    → added_columns spare gaps gaps ≡ spare
added_behind_all true spare gaps is_none unspread = rw is_none (sym (unspread refl))
added_behind_all false spare zero some unspread = cc
added_behind_all false spare (suc g) some unspread = rw some (mul-div_cancel_left spare (omega arith))

-- where there is no gap, none are
spread_by_tests : (fills adjusts : Bool) (free : ℕ) → (if fills && adjusts && not true then free else 0) ≡ 0
spread_by_tests true true free = refl
spread_by_tests true false free = refl
spread_by_tests false adjusts free = refl

unspread-laid_out : (s : Settings) (by_word : Bool) (free gaps : ℕ) → (gaps == 0) ≡ true
    → (if by_word then spread_columns s free gaps else 0) ≡ 0
unspread-laid_out s true free gaps none = rw none (spread_by_tests (fills s) s.adjusting _)
unspread-laid_out s false free gaps none = refl

-- so a line's text ends at its width
EndsAtWidth-laid_out : (s : Settings) (by_word : Bool) (indent : ℕ) (text : List ℕ) → EndsAtWidth (laid_out s by_word indent text)
EndsAtWidth-laid_out s by_word indent text =
    let free = free_columns s indent text in
    let gaps = gaps_in text in
    let spare : ℕ = if by_word then spread_columns s free gaps else 0 in
    let all : added_columns spare gaps gaps ≡ spare =
    added_behind_all (gaps == 0) spare gaps refl (unspread-laid_out s by_word free gaps) in
    rw (take-length text) (omega (arith, all))

-- so does that of a history's pending line, as it is finished
EndsAtWidth-pending : (h : History) (by_word : Bool) → EndsAtWidth (line_laid_out (settings_after h) by_word (pending_line h))
EndsAtWidth-pending h by_word =
    EndsAtWidth-laid_out (settings_after h) by_word (line_indent (pending_line h)) (line_text (pending_line h))

-- so each finished line's does
pub EndsAtWidth-finished : (h : History) (e : Event) → IfSome (finished_in h e) EndsAtWidth
EndsAtWidth-finished h WordEnd =
    cond_both (has_open_word h && not (is_empty (words h)) && not (fits (pending_line h) (open_word h))) _ _
    (λ o. IfSome o EndsAtWidth) (λ _. EndsAtWidth-pending h true) (λ _. tt)
EndsAtWidth-finished h LineEnd =
    cond_both (fills (settings_after h)) _ _ (λ o. IfSome o EndsAtWidth) (λ _. tt)
    (λ _. cond_both (is_empty (words h)) _ _ (λ o. IfSome o EndsAtWidth)
    (λ _. cond_both (settings_after h).filling _ _ (λ o. IfSome o EndsAtWidth) (λ _. tt) (λ _. refl))
    (λ _. EndsAtWidth-pending h false))
EndsAtWidth-finished h Break =
    cond_both (is_empty (words h)) _ _ (λ o. IfSome o EndsAtWidth) (λ _. tt) (λ _. EndsAtWidth-pending h false)
EndsAtWidth-finished h (_) = tt
