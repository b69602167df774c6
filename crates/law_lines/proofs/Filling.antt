-- The lines of a paragraph are the longest fronts of its words.
use Rattle.std.proofs.Common.{◌≡◌, Bool, true, false, List, [], ◌∷◌, refl, sym, ap, ◌∙◌, if◌then◌else◌}
use Rattle.page_model.specs.Fitting.{Word, fits, placed}
use Rattle.law_lines.specs.Filling.{with_word, lines_of, words_of, last_of, EachFits, BeginsBehind, AreLongestFronts, FillsLines}

-- a word more, whether it fits behind the last line or not
words_of-placed : (fit : Bool) (w : Word) (line : List Word) (lines : List (List Word))
    → words_of (if fit then (w ∷ line) ∷ lines else (w ∷ []) ∷ line ∷ lines) ≡ w ∷ words_of (line ∷ lines)
words_of-placed true w line lines = refl
words_of-placed false w line lines = refl

-- the words of lines with a word more
words_of-with_word : (w : Word) (lines : List (List Word)) → words_of (with_word w lines) ≡ w ∷ words_of lines
words_of-with_word w [] = refl
words_of-with_word w (line ∷ lines) = words_of-placed (fits line w) w line lines

-- a line with a word that fits behind it is still one behind the line before
begins_behind : (before : List Word) (w : Word) (line : List Word) → BeginsBehind before line → BeginsBehind before (w ∷ line)
begins_behind before w [] begins = absurd begins
begins_behind before w (v ∷ line) begins = begins

-- a line's words fit with one more that fits
each_fits : (w : Word) (line : List Word) → fits line w ≡ true → EachFits line → EachFits (w ∷ line)
each_fits w [] fit each = tt
each_fits w (v ∷ line) fit each = (fit, each)

-- longest fronts, with a word that fits behind the last line
joined_by : (w : Word) (line : List Word) (lines : List (List Word)) → fits line w ≡ true
    → AreLongestFronts (line ∷ lines) → AreLongestFronts ((w ∷ line) ∷ lines)
joined_by w line [] fit longest = (tt, each_fits w line fit longest.1)
joined_by w line (before ∷ lines) fit longest =
    (tt, each_fits w line fit longest.1, begins_behind before w line longest.2, longest.3)

-- the same, with one that doesn't
followed_by : (fit : Bool) (w : Word) (line : List Word) (lines : List (List Word)) → fits line w ≡ fit
    → AreLongestFronts (line ∷ lines) → AreLongestFronts (if fit then (w ∷ line) ∷ lines else (w ∷ []) ∷ line ∷ lines)
followed_by true w line lines fit longest = joined_by w line lines fit longest
followed_by false w line lines fit longest = (tt, tt, fit, longest)

-- longest fronts with a word more
longest-with_word : (w : Word) (lines : List (List Word)) → AreLongestFronts lines → AreLongestFronts (with_word w lines)
longest-with_word w [] longest = (tt, tt)
longest-with_word w (line ∷ lines) longest = followed_by (fits line w) w line lines refl longest

-- the last line with a word more, whether it fits there or not
last_of-placed : (fit : Bool) (w v : Word) (line : List Word) (lines : List (List Word))
    → last_of (if fit then (w ∷ v ∷ line) ∷ lines else (w ∷ []) ∷ (v ∷ line) ∷ lines)
    ≡ (if fit then w ∷ v ∷ line else w ∷ [])
last_of-placed true w v line lines = refl
last_of-placed false w v line lines = refl

-- the last of the lines with a word more is the line that the word is placed in
last_of-with_word : (w : Word) (lines : List (List Word)) → AreLongestFronts lines → last_of (with_word w lines) ≡ placed (last_of lines) w
last_of-with_word w [] longest = refl
last_of-with_word w ([] ∷ []) longest = absurd longest.0
last_of-with_word w ([] ∷ before ∷ lines) longest = absurd longest.0
last_of-with_word w ((v ∷ line) ∷ lines) longest = last_of-placed (fits (v ∷ line) w) w v line lines

-- filling takes the longest fronts
pub fills_lines : (ws : List Word) → FillsLines ws
fills_lines [] = record { joined = refl; longest = tt; pending = refl }
fills_lines (w ∷ ws) =
    let before = fills_lines ws in record {
      joined = words_of-with_word w (lines_of ws) ∙ ap (λ vs. w ∷ vs) before.joined;
      longest = longest-with_word w (lines_of ws) before.longest;
      pending = rw before.pending (sym (last_of-with_word w (lines_of ws) before.longest));
    }
