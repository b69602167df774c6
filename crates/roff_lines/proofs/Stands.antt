-- What it says that an environment stands for its history.
use Rattle.std.proofs.Common.{◌≡◌, ℕ, Bool, true, false, [], refl, sym, ap, ◌∙◌, arith}
use Rattle.std.proofs.lemmas.Bool.{not-true, not-false}
use Rattle.page_model.specs.Events.{History, settings_after}
use Rattle.page_model.specs.Words.{is_empty, blanks, open_word, words}
use Rattle.page_model.specs.Fitting.{line_indent, fits}
use Rattle.page_model.specs.Lines.{laid_out, line_laid_out, pending_line}
use Rattle.roff_lines.specs.Env.Kept.{Kept, word_fits}
use Rattle.roff_lines.specs.Env.Stands.{StandsPlain}
use Rattle.roff_lines.proofs.PendingLine.{is_empty-true, is_empty-last_line}

module _ (line_cap : ℕ) (h : History) (k : Kept) (s : StandsPlain line_cap h k) where
  -- where a line is kept, a word is pending
  pub is_empty-pending_line : k.has_line ≡ true → is_empty (pending_line h) ≡ false
  is_empty-pending_line l = is_empty-last_line (words h) ∙ not-true (is_empty (words h)) (sym s.has_line ∙ l)

  -- where none is kept, no word is pending
  pub words-no_line : k.has_line ≡ false → words h ≡ []
  words-no_line l = is_empty-true (words h) (not-false (is_empty (words h)) (sym s.has_line ∙ l))

  -- the blanks between the pending line and an open word are within the limit, so they are all counted
  pub blanks-counted : k.is_open ≡ true → k.has_line ≡ true → k.blanks ≡ blanks h
  blanks-counted o l =
      let within = s.within in
      let counted = rw (sym s.is_open ∙ o, sym s.has_line ∙ l) at within in
      s.blanks ∙ omega (arith, s.small, counted)

  -- the test whether the open word fits is the definition's
  pub word_fits-stands : k.is_open ≡ true → k.has_line ≡ true → word_fits k ≡ fits (pending_line h) (open_word h)
  word_fits-stands o l = let counted = blanks-counted o l in rw (s.settings, s.indent l, s.line, counted, s.word) refl

  -- the kept line is laid out as the pending one is
  pub laid_out-stands : (by_word : Bool) → k.has_line ≡ true →
      laid_out k.settings by_word k.indent k.line ≡ line_laid_out (settings_after h) by_word (pending_line h)
  laid_out-stands by_word l =
      ap (λ t. laid_out t by_word k.indent k.line) s.settings
      ∙ ap (λ i. laid_out (settings_after h) by_word i k.line) (s.indent l)
      ∙ ap (laid_out (settings_after h) by_word (line_indent (pending_line h))) s.line
