-- The lines of an entry are no wider than it is.
use Rattle.std.proofs.Common.{◌≡◌, ℕ, zero, suc, ◌+◌, ◌-◌, ◌≤◌, Bool, true, false, List, [], ◌∷◌, length, map, get_or, Option, Some, None, refl, ap, ◌∙◌, arith, if◌then◌else◌, ◌==◌, ◌&&◌, ◌||◌, ◌/◌}
use Rattle.std.proofs.lemmas.List.{get_or_past}
use Rattle.std.proofs.lemmas.List.Sums.{sum_by-cons}
use Rattle.tbl_format.specs.declared.format.Key.{Key}
use Rattle.tbl_format.specs.declared.format.Key.TheVariants.{Above as AboveKey, Alphabetic, Center, DoubleRule, Left as LeftKey, Numeric, Right, Rule, Spanned, WideNumeric}
use Rattle.tbl_layout.specs.Columns.{stands, text_stands, unsplit}
use Rattle.tbl_layout.specs.Entries.{Above, Block, Content, Repeated, Ruled, Run, Short, Text, blanks, block_line, columns_of, further_words, is_number, lines_of_field, run_of, run_of_word}
use Rattle.tbl_layout.specs.declared.columns.Stands.{Stands}
use Rattle.tbl_layout.specs.declared.columns.Stands.TheVariants.{Alone, Apart, InStrip, Nowhere}
use Rattle.tbl_lines.proofs.WordRuns.{columns-further}
use Rattle.tbl_text.specs.BlockLines.{begun_width, has_word, leading, line_width, lines_of, lines_up_to, widest}
use Rattle.tbl_text.specs.BlockWords.{EmptyLine, OneWord, Part, parts_of}
use Rattle.tbl_text.specs.Measuring.{measured}
use Rattle.tbl_text.specs.declared.measure.Split.{Split}

-- a line of an entry is no wider than the entry
abbrev pub LineFits : Stands → List Run → Type 0
LineFits (Alone columns) runs = columns_of runs ≤ columns
LineFits (InStrip columns) runs = columns_of runs ≤ columns
LineFits (Apart left right) runs = columns_of runs ≤ left + right
LineFits Nowhere runs = runs ≡ []

pub none-fits : (s : Stands) → LineFits s []
none-fits (Alone columns) = omega arith
none-fits (InStrip columns) = omega arith
none-fits (Apart left right) = omega arith
none-fits Nowhere = refl

pub some-fits : (t : Bool) (s : Stands) (runs : List Run) → LineFits s runs → LineFits s (if t then runs else [])
some-fits true s runs fits = fits
some-fits false s runs fits = none-fits s

unsplit-fits : (k : Key) (width : ℕ) (runs : List Run) → columns_of runs ≤ width → LineFits (unsplit k width) runs
unsplit-fits LeftKey width runs fits = fits
unsplit-fits Right width runs fits = fits
unsplit-fits Center width runs fits = fits
unsplit-fits Numeric width runs fits = fits
unsplit-fits WideNumeric width runs fits = fits
unsplit-fits Alphabetic width runs fits = fits
unsplit-fits Spanned width runs fits = fits
unsplit-fits AboveKey width runs fits = fits
unsplit-fits Rule width runs fits = fits
unsplit-fits DoubleRule width runs fits = fits

text-fits : (k : Key) (width : ℕ) (split : Option Split) (runs : List Run) → columns_of runs ≤ width → LineFits (text_stands k width split) runs
text-fits k width None runs fits = unsplit-fits k width runs fits
text-fits k width (Some s) runs fits = omega (arith, fits)

block-fits : (t : Bool) (k : Key) (width : ℕ) (runs : List Run) → columns_of runs ≤ width → (t ≡ false → runs ≡ [])
    → LineFits (if t then unsplit k width else Nowhere) runs
block-fits true k width runs fits none = unsplit-fits k width runs fits
block-fits false k width runs fits none = none refl

-- the lines of a block
pub line-wide : (line : List Part) → columns_of (block_line line) ≡ line_width line
line-wide [] = omega arith
line-wide (EmptyLine ∷ parts) = omega (arith, columns-further 0 parts)
line-wide (OneWord w ∷ parts) =
    omega (
      arith,
      columns-further (begun_width w) parts,
      sum_by-cons (λ (run : Run). run.columns) (run_of_word w) (further_words parts),
      sum_by-cons (λ (run : Run). run.columns) (blanks (leading w)) (run_of_word w ∷ further_words parts),
    )

abbrev no_lines : List (List Run)
no_lines = []

no-run : (n : ℕ) → get_or no_lines n [] ≡ []
no-run n = get_or_past no_lines n [] (omega arith)

lines-wide : (lines : List (List Part)) (n : ℕ) → columns_of (get_or (map block_line lines) n []) ≤ widest lines
lines-wide [] n = omega (arith, ap columns_of (no-run n))
lines-wide (line ∷ lines) zero = omega (arith, line-wide line)
lines-wide (line ∷ lines) (suc n) = omega (arith, lines-wide lines n)

no-word : (count measure : ℕ) (parts : List Part) (n : ℕ) → has_word parts ≡ false
    → get_or (map block_line (lines_up_to count measure parts)) n [] ≡ []
no-word zero measure parts n none = no-run n
no-word (suc count) measure [] n none = no-run n
no-word (suc count) measure (EmptyLine ∷ parts) zero none = refl
no-word (suc count) measure (EmptyLine ∷ parts) (suc n) none = no-word count measure parts n none
no-word (suc count) measure (OneWord w ∷ parts) n none = absurd cc

text-line : (run : Run) (n : ℕ) → columns_of (get_or ((run ∷ []) ∷ []) n []) ≤ run.columns
text-line run zero = omega arith
text-line run (suc n) = omega (arith, ap columns_of (no-run n))

-- the lines of a field are no wider than its entry
pub lines-fit : (k : Key) (f : Content) (n : ℕ) → LineFits (stands k f) (get_or (lines_of_field k f) n [])
lines-fit k (Text []) n = no-run n
lines-fit k (Text (b ∷ bytes)) n =
    let m = measured (is_number k) (b ∷ bytes) in
    let run = run_of m (b ∷ bytes) in
    text-fits k m.width m.split (get_or ((run ∷ []) ∷ []) n []) (text-line run n)
lines-fit k (Block measure lines) n =
    let parts = parts_of lines in
    let filled = lines_of measure parts in
    block-fits (has_word parts) k (widest filled) (get_or (map block_line filled) n []) (lines-wide filled n)
    (no-word (length parts) measure parts n)
lines-fit k (Ruled sign) n = no-run n
lines-fit k Short n = no-run n
lines-fit k (Repeated b) n = no-run n
lines-fit k Above n = no-run n
