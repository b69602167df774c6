-- Where a finished line's text stands, and what it writes (manual, section 4.1).
use Rattle.std.specs.Prelude.{◌≡◌, ℕ, ◌+◌, ◌-◌, ◌*◌, ◌/◌, ◌&&◌, ◌||◌, List, [], ◌∷◌, ◌++◌, take, replicate, if◌then◌else◌, ◌==◌}
use Rattle.page_model.specs.declared.line.Line.{Line}
use Rattle.page_model.specs.Glyphs.{gap_blank, further_blank, glyph_blank, text_width, gaps_in}
use Rattle.page_model.specs.Words.{is_empty}
use Rattle.page_model.specs.Lines.{Finished}

-- the line that was handed out
abbrev pub finished_of : Line → Finished
finished_of l = record { text = l.text.now; lead = l.lead; spare = l.spare; gaps = l.gaps; after = l.after }

-- the columns that adjusting adds before the word behind the i-th gap, in all: the spare ones, by
-- equal parts, rounded down
abbrev pub added_columns : ℕ → ℕ → ℕ → ℕ
added_columns spare gaps i = if gaps == 0 then 0 else i * spare / gaps

-- the column at which the k-th byte of a line's text stands: the lead, the widths and gaps before it,
-- and what adjusting adds to these gaps
abbrev pub column_of : Finished → ℕ → ℕ
column_of l k =
    l.lead + text_width (take k l.text) + added_columns l.spare l.gaps (gaps_in (take k l.text))

-- so many blanks, as they are written
abbrev pub spaces : ℕ → List ℕ
spaces n = replicate n 32

-- a text with its blanks written, behind i gaps: the first blank of the next gap brings along what
-- adjusting adds there
abbrev pub spread : ℕ → ℕ → ℕ → List ℕ → List ℕ
spread spare gaps i [] = []
spread spare gaps i (b ∷ text) =
    if b == gap_blank
    then 32 ∷ (spaces (added_columns spare gaps (i + 1) - added_columns spare gaps i) ++ spread spare gaps (i + 1) text)
    else if b == further_blank || b == glyph_blank then 32 ∷ spread spare gaps i text
    else b ∷ spread spare gaps i text

-- a line as it is printed: its lead, and its text with its blanks written
abbrev pub printed : Finished → List ℕ
printed l = spaces l.lead ++ spread l.spare l.gaps 0 l.text

-- a text without its trailing blanks
abbrev pub trimmed : List ℕ → List ℕ
trimmed [] = []
trimmed (b ∷ text) = let rest = trimmed text in if b == 32 && is_empty rest then [] else b ∷ rest

-- what a line writes: the lead, its text, and a newline, without trailing blanks; then its blank lines
abbrev pub line_bytes : Finished → List ℕ
line_bytes l = trimmed (printed l) ++ 10 ∷ replicate l.after 10

-- what a printed text writes behind so many columns: without trailing blanks, and a newline
abbrev pub device_line : ℕ → List ℕ → List ℕ
device_line columns text = trimmed (spaces columns ++ text) ++ 10 ∷ []

-- where a line's text stands: what is written before its k-th byte is as wide as the byte's column says
abbrev pub StandsInColumns : Finished → Type 0
StandsInColumns l =
    (k : ℕ) → text_width (spaces l.lead ++ spread l.spare l.gaps 0 (take k l.text)) ≡ column_of l k
