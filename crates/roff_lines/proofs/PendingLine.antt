-- The pending line of a history, and its length.
use Rattle.std.proofs.Common.{◌≡◌, ℕ, ◌+◌, ◌-◌, ◌≤◌, true, false, not, List, [], ◌∷◌, ◌++◌, length, refl, arith, eqb, replicate, inl, inr, if◌then◌else◌, eqb-true, length-append}
use Rattle.std.proofs.lemmas.Bool.{cond_both, cases_Bool, not-false, eqb-false}
use Rattle.std.proofs.lemmas.List.{length-replicate}
use Rattle.page_model.specs.Glyphs.{gap_blank, further_blank}
use Rattle.page_model.specs.declared.event.Event.TheVariants.{WordEnd, LineEnd}
use Rattle.page_model.specs.Events.{History, settings_after}
use Rattle.page_model.specs.Settings.{fills}
use Rattle.page_model.specs.Fitting.{Word, word_text, gap_text, line_text, line_indent, fits, begins_line, placed, last_line}
use Rattle.page_model.specs.Words.{is_empty, open_glyphs, has_open_word, open_word, words}
use Rattle.page_model.specs.Lines.{pending_line, pending_length}

-- a list without an element is the empty one
pub is_empty-true : {A : Type 0} (xs : List A) → is_empty xs ≡ true → xs ≡ []
is_empty-true [] e = refl
is_empty-true (x ∷ xs) e = cc

-- a word behind others stays with them if it fits
pub placed-full : (line : List Word) (w : Word) → is_empty line ≡ false →
    placed line w ≡ (if fits line w then w ∷ line else w ∷ [])
placed-full [] w e = cc
placed-full (v ∷ line) w e = refl

-- and begins a line if it doesn't
pub begins_line-full : (line : List Word) (w : Word) → is_empty line ≡ false → begins_line line w ≡ not (fits line w)
begins_line-full [] w e = cc
begins_line-full (v ∷ line) w e = refl

-- there it stands behind their text and its gap
pub line_text-full : (line : List Word) (w : Word) → is_empty line ≡ false →
    line_text (w ∷ line) ≡ line_text line ++ (gap_text w.gap ++ word_text w)
line_text-full [] w e = cc
line_text-full (v ∷ line) w e = refl

-- and leaves the indent as it is
pub line_indent-full : (line : List Word) (w : Word) → is_empty line ≡ false →
    line_indent (w ∷ line) ≡ line_indent line
line_indent-full [] w e = cc
line_indent-full (v ∷ line) w e = refl

-- the line that a word was placed in has a word
is_empty-placed : (line : List Word) (w : Word) → is_empty (placed line w) ≡ false
is_empty-placed [] w = refl
is_empty-placed (v ∷ line) w =
    cond_both (fits (v ∷ line) w) (w ∷ v ∷ line) (w ∷ []) (λ ws. is_empty ws ≡ false) (λ _. refl) (λ _. refl)

-- so the last line of some words has one
pub is_empty-last_line : (ws : List Word) → is_empty (last_line ws) ≡ is_empty ws
is_empty-last_line [] = refl
is_empty-last_line (w ∷ ws) = is_empty-placed (last_line ws) w

-- a gap's text has a byte for each blank
pub length-gap_text : (n : ℕ) → length (gap_text n) ≡ n
length-gap_text n =
    cond_both (eqb n 0) [] (gap_blank ∷ replicate (n - 1) further_blank) (λ text. length text ≡ n)
    (λ e. omega (arith, eqb-true n 0 e))
    (λ e. simp length-replicate (omega (arith, eqb-false n 0 e)))

-- a word's line has no byte but those of the line before, of the gap and of the word
length-placed : (line : List Word) (w : Word) →
    length (line_text (placed line w))
    ≤ length (line_text line) + (if not (is_empty line) then w.gap else 0) + length (word_text w)
length-placed [] w = omega arith
length-placed (v ∷ line) w =
    let text = line_text (v ∷ line) in
    let gap = gap_text w.gap in
    cond_both (fits (v ∷ line) w) (w ∷ v ∷ line) (w ∷ [])
    (λ ws. length (line_text ws) ≤ length text + w.gap + length (word_text w))
    (λ _. omega (arith, length-append text (gap ++ word_text w), length-append gap (word_text w), length-gap_text w.gap))
    (λ _. omega arith)

-- where no word is open, there is no text of one
pub word_text-closed : (h : History) → has_open_word h ≡ false → word_text (open_word h) ≡ []
word_text-closed h e =
    let none : open_glyphs h ≡ [] = is_empty-true (open_glyphs h) (not-false (is_empty (open_glyphs h)) e) in
    rw none refl

-- a word end doesn't make the pending line longer
pub pending_length-word_end : (h : History) → pending_length (WordEnd ∷ h) ≤ pending_length h
pending_length-word_end h =
    let l = length-placed (pending_line h) (open_word h) in
    elim (cases_Bool (has_open_word h)) [
      | inl e ↦ rw e (omega (arith, rw (is_empty-last_line (words h)) at l))
      | inr e ↦ rw e (omega arith)
    ]

-- nor does a line's end
pub pending_length-line_end : (h : History) → pending_length (LineEnd ∷ h) ≤ pending_length h
pending_length-line_end h =
    elim (cases_Bool (fills (settings_after h))) [
      | inl f ↦ elim (cases_Bool (has_open_word h)) [ inl e ↦ rw (f, e) (omega arith) | inr e ↦ rw (f, e) (omega arith) ]
      | inr f ↦ elim (cases_Bool (has_open_word h)) [ inl e ↦ rw (f, e) (omega arith) | inr e ↦ rw (f, e) (omega arith) ]
    ]
