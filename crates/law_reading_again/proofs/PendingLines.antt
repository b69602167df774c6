-- What a line in a diversion has pending, where nothing is filled, and what its end finishes.
use Rattle.std.proofs.Common.{◌≡◌, ℕ, ◌+◌, Bool, true, false, List, [], ◌∷◌, length, reverse, Option, Some, None, refl, ap, ◌∙◌, arith, ◌&&◌, not, if◌then◌else◌}
use Rattle.std.specs.List.{flat_map}
use Rattle.page_model.specs.declared.event.Event.TheVariants.{Print, WordEnd, LineEnd, Break}
use Rattle.page_model.specs.Events.{History, settings_after}
use Rattle.page_model.specs.Fitting.{Word, begins_line, fits, last_line, line_text, word_text}
use Rattle.page_model.specs.Glyphs.{glyph_text}
use Rattle.page_model.specs.Lines.{Finished, empty_line, finished_in, line_laid_out, pending_length}
use Rattle.page_model.specs.Settings.{fills}
use Rattle.page_model.specs.Words.{Paragraph, blanks, has_open_word, indent_by, is_empty, open_glyphs, open_word, paragraph, word_ended, words}
use Rattle.page_model.specs.declared.glyph.Glyph.{Glyph}
use Rattle.page_model.specs.declared.settings.Settings.{Settings}
use Rattle.law_reading_again.proofs.Glyphs.{line_of, plain_line}

-- without filling, indent, centring and blank lines
abbrev pub unfilled : Settings → Settings
unfilled S = record S { filling = false; centring = 0; indent = 0; spacing = 1 }

-- nothing is pending for a line
abbrev pub clear : Paragraph
clear = record { words = []; temporary_indent = None }

-- no line is finished by a word end or a break then
no_line-word : (is_open fits : Bool) (line : Finished) → (if is_open && false && fits then Some line else None) ≡ None
no_line-word true fits line = refl
no_line-word false fits line = refl

pub finished-word_end : (T : History) → paragraph T ≡ clear → finished_in T WordEnd ≡ None
finished-word_end T cleared =
    ap (λ (p : Paragraph).
    if has_open_word T && not (is_empty p.words) && not (fits (last_line p.words) (word_ended p.temporary_indent T))
    then Some (line_laid_out (settings_after T) true (last_line p.words))
    else None) cleared
    ∙ no_line-word (has_open_word T) (not (fits [] (word_ended None T))) (line_laid_out (settings_after T) true [])

pub finished-break : (T : History) → words T ≡ [] → finished_in T Break ≡ None
finished-break T none =
    ap (λ (ws : List Word). if is_empty ws then None else Some (line_laid_out (settings_after T) false (last_line ws))) none

-- the word that ends with a line
abbrev line_word : Settings → List Glyph → ℕ → Word
line_word S gs gap = record { glyphs = reverse gs; gap = gap; under = unfilled S; indent = 0 }

words-ended : (S : Settings) (T : History) (g : Glyph) (gs : List Glyph) → settings_after T ≡ unfilled S → paragraph T ≡ clear
    → open_glyphs T ≡ g ∷ gs
    → words (WordEnd ∷ T) ≡ line_word S (g ∷ gs) (blanks T) ∷ []
words-ended S T g gs settings cleared glyphs =
    let word : List Glyph → Settings → Option ℕ → Word = λ os under pending.
    record { glyphs = reverse os; gap = blanks T; under = under; indent = indent_by pending under } in
    ap (λ (os : List Glyph). if not (is_empty os) then word os (settings_after T) (paragraph T).temporary_indent ∷ (paragraph T).words else (paragraph T).words) glyphs
    ∙ ap (λ (p : Paragraph). word (g ∷ gs) (settings_after T) p.temporary_indent ∷ p.words) cleared
    ∙ ap (λ (under : Settings). word (g ∷ gs) under None ∷ []) settings

-- where no word is open none ends
pub words-none : (T : History) → paragraph T ≡ clear → open_glyphs T ≡ [] → words (WordEnd ∷ T) ≡ []
words-none T cleared closed =
    ap (λ (os : List Glyph). if not (is_empty os) then word_ended (paragraph T).temporary_indent T ∷ (paragraph T).words else (paragraph T).words) closed
    ∙ ap (λ (p : Paragraph). p.words) cleared

-- the line's end finishes it
pub finished-line_end : (S : Settings) (T : History) (g : Glyph) (gs : List Glyph) → settings_after T ≡ unfilled S → paragraph T ≡ clear
    → open_glyphs T ≡ g ∷ gs
    → finished_in (WordEnd ∷ T) LineEnd ≡ Some (plain_line (line_of (g ∷ gs)))
finished-line_end S T g gs settings cleared glyphs =
    let line : Settings → List Word → Option Finished = λ under ws.
    if fills under then None
    else if is_empty ws then (if under.filling then None else Some (empty_line under))
    else Some (line_laid_out under false (last_line ws)) in
    ap (line (settings_after T)) (words-ended S T g gs settings cleared glyphs)
    ∙ ap (λ (under : Settings). line under (line_word S (g ∷ gs) (blanks T) ∷ [])) settings

-- how long the pending line is, where nothing is pending
pub pending-none : (T : History) → words T ≡ [] → open_glyphs T ≡ [] → pending_length T ≡ 0
pending-none T none closed =
    ap (λ (ws : List Word).
    length (line_text (last_line ws)) + (if has_open_word T && not (is_empty ws) then blanks T else 0) + length
    (word_text (open_word T))) none
    ∙ ap (λ (gs : List Glyph). 0 + (if not (is_empty gs) && false then blanks T else 0) + length (flat_map glyph_text (reverse gs))) closed

-- behind a glyph
pub pending-glyph : (T : History) (g : Glyph) (gs : List Glyph) → paragraph T ≡ clear → open_glyphs T ≡ gs
    → pending_length (Print g ∷ T) ≡ length (line_of (g ∷ gs))
pending-glyph T g gs cleared glyphs =
    ap (λ (p : Paragraph).
    length (line_text (last_line p.words)) + (if not (is_empty p.words) then blanks (Print g ∷ T) else 0)
    + length (flat_map glyph_text (reverse (g ∷ open_glyphs T)))) cleared
    ∙ ap (λ (os : List Glyph). 0 + 0 + length (line_of (g ∷ os))) glyphs
    ∙ omega arith

-- and behind the end of the word
pub pending-word_end : (S : Settings) (T : History) (g : Glyph) (gs : List Glyph) → settings_after T ≡ unfilled S → paragraph T ≡ clear
    → open_glyphs T ≡ g ∷ gs
    → pending_length (WordEnd ∷ T) ≡ length (line_of (g ∷ gs))
pending-word_end S T g gs settings cleared glyphs =
    ap (λ (ws : List Word). length (line_text (last_line ws)) + 0 + 0) (words-ended S T g gs settings cleared glyphs)
    ∙ omega arith

-- nothing is pending behind a line's end
pub words-line_end : (S : Settings) (T : History) → settings_after T ≡ unfilled S → words (LineEnd ∷ T) ≡ []
words-line_end S T settings = ap (λ (under : Settings). if fills under then words T else []) settings

pub temporary-word_end : (T : History) → paragraph T ≡ clear → (paragraph (WordEnd ∷ T)).temporary_indent ≡ None
temporary-word_end T cleared =
    ap (λ (p : Paragraph). if has_open_word T && begins_line (last_line p.words) (word_ended p.temporary_indent T) then None else p.temporary_indent) cleared
    ∙ none-either (has_open_word T && begins_line [] (word_ended None T))
  where
    none : Option ℕ
    none = None

    none-either : (c : Bool) → (if c then none else none) ≡ none
    none-either true = refl
    none-either false = refl
