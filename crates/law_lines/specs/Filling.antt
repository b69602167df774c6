-- The lines of a paragraph, said of the words alone: each is the longest front of the words that
-- remain (manual, section 4.1).
--
-- Words and lines are the newest first, as everywhere: the first line here is the pending one.
use Rattle.std.specs.Prelude.{◌≡◌, true, false, List, [], ◌∷◌, if◌then◌else◌}
use Rattle.std.specs.List.{flat_map}
use Rattle.page_model.specs.Fitting.{Word, fits, last_line}

-- the lines with a word more: it joins the last one if it fits there, and else begins the next
abbrev pub with_word : Word → List (List Word) → List (List Word)
with_word w [] = (w ∷ []) ∷ []
with_word w (line ∷ lines) = if fits line w then (w ∷ line) ∷ lines else (w ∷ []) ∷ line ∷ lines

-- the lines of a paragraph's words
abbrev pub lines_of : List Word → List (List Word)
lines_of [] = []
lines_of (w ∷ ws) = with_word w (lines_of ws)

-- the words of some lines
abbrev pub words_of : List (List Word) → List Word
words_of lines = flat_map (λ line. line) lines

-- the last of some lines, nothing where there is none
abbrev pub last_of : List (List Word) → List Word
last_of [] = []
last_of (line ∷ lines) = line

-- each word of a line but the first fits behind the words before it
abbrev pub EachFits : List Word → Type 0
EachFits [] = Unit {0}
EachFits (w ∷ []) = Unit {0}
EachFits (w ∷ v ∷ line) = (fits (v ∷ line) w ≡ true) × EachFits (v ∷ line)

-- the word that begins a line didn't fit behind the line before
abbrev pub BeginsBehind : List Word → List Word → Type 0
BeginsBehind before [] = ⊥
BeginsBehind before (w ∷ []) = fits before w ≡ false
BeginsBehind before (w ∷ v ∷ line) = BeginsBehind before (v ∷ line)

-- a line has a word
abbrev pub HasWord : List Word → Type 0
HasWord [] = ⊥
HasWord (w ∷ line) = Unit {0}

-- each line has a word, its words fit, and the word that begins the next line didn't
abbrev pub AreLongestFronts : List (List Word) → Type 0
AreLongestFronts [] = Unit {0}
AreLongestFronts (line ∷ []) = HasWord line × EachFits line
AreLongestFronts (line ∷ before ∷ lines) =
    HasWord line × EachFits line × BeginsBehind before line × AreLongestFronts (before ∷ lines)

-- of a paragraph's words
pub record FillsLines (ws : List Word) : Type 0 where
  -- the lines' words, one line after the other, are the words
  pub joined : words_of (lines_of ws) ≡ ws
  -- each line is the longest front of the words that remain
  pub longest : AreLongestFronts (lines_of ws)
  -- the line that is pending is the last
  pub pending : last_line ws ≡ last_of (lines_of ws)
