-- What is given of a cell of a line, by its kind.
use Rattle.std.proofs.Common.{◌≡◌, ◌≢◌, ℕ, zero, suc, ◌+◌, ◌-◌, ◌≤◌, max, Bool, true, false, List, [], ◌∷◌, ◌++◌, length, drop, min, replicate, get_or, refl, sym, ap, subst, ◌∙◌, arith, ◌<◌, ◌==◌, if◌then◌else◌, eq-eqb, ne_eqb, drop-drop}
use Rattle.std.specs.List.{slice_range}
use Rattle.input_source.specs.Bytes.{blank}
use Rattle.tbl_layout.specs.Entries.{Run, blanks, columns_of}
use Rattle.tbl_layout.specs.declared.entry.EntryKind.{EntryKind}
use Rattle.tbl_layout.specs.declared.entry.EntryKind.TheVariants.{Above, Split, Text}
use Rattle.tbl_layout.specs.declared.entry.SplitEntry.{SplitEntry}
use Rattle.tbl_lines.specs.PictureLines.{Cell, at_column, end_of, repeated}
use Rattle.tbl_lines.specs.RowsLeft.{begins_at, behind_first, cell_left, end_given, first_of, given, given_of, if_given, lines_left_by, one_less, repeated_lines, split_run, text_lines, text_run}
use Rattle.tbl_lines.specs.RowsWalked.{HasGlyph, Repeats}
use Rattle.tbl_lines.specs.declared.row_columns.RowColumn.{RowColumn}
use Rattle.tbl_lines.proofs.RunsGiven.{given-before, given-last, last_given}

-- the columns of a run alone
columns-one : (run : Run) → columns_of (run ∷ []) ≡ run.columns
columns-one run = omega arith

-- a cell of one run on this line
pub run-given : (count place : ℕ) (c : Cell) (run : Run) (cells : List Cell) → first_of c ≡ run ∷ [] → (count ≡ 1 → HasGlyph (first_of c))
    → given count place (c ∷ cells)
    ≡ (if_given count (replicate (c.at - place) blank) ++ last_given count run) ++ given (one_less count) (max c.at place + run.columns) cells
run-given count place c run cells is has =
    let f : List Run → List ℕ = λ runs. given_of count (at_column c.at place runs) ++ given (one_less count) (end_of c.at place runs) cells in
    let rest = given (one_less count) (max c.at place + run.columns) cells in
    ap f is
    ∙ ap (λ (n : ℕ). given_of count (blanks (c.at - place) ∷ run ∷ []) ++ given (one_less count) (max c.at place + n) cells) (columns-one run)
    ∙ ap (λ (front : List ℕ). front ++ rest)
    (given-before count (blanks (c.at - place)) (run ∷ []) (λ one. subst HasGlyph is (has one))
    ∙ ap (λ (last : List ℕ). if_given count (replicate (c.at - place) blank) ++ last) (given-last count run))

-- a cell of none
pub none-given : (count place : ℕ) (c : Cell) (cells : List Cell) → first_of c ≡ []
    → given count place (c ∷ cells) ≡ given (one_less count) place cells
none-given count place c cells is =
    let f : List Run → List ℕ = λ runs. given_of count (at_column c.at place runs) ++ given (one_less count) (end_of c.at place runs) cells in
    ap f is ∙ ap (λ (front : List ℕ). front ++ given (one_less count) place cells) (no-run count) where
      no-run : (n : ℕ) → given_of n [] ≡ []
      no-run zero = refl
      no-run (suc zero) = refl
      no-run (suc (suc n)) = refl

-- the last cell that is given has a glyph: its byte is no blank
all-by : (t : Bool) (xs : List ℕ) → 0 < length (if t then [] else xs) → (if t then [] else xs) ≡ xs
all-by true xs some = absurd (omega (arith, some))
all-by false xs some = refl

pub repeated-last : (count b n : ℕ) → (count ≡ 1 → HasGlyph (repeated b n ∷ [])) → last_given count (repeated b n) ≡ if_given count (replicate n b)
repeated-last zero b n has = refl
repeated-last (suc zero) b n has = all-by (b == blank) (replicate n b) (has refl)
repeated-last (suc (suc k)) b n has = refl

none-left-of : (n : ℕ) → drop {A = List Run} n [] ≡ []
none-left-of zero = refl
none-left-of (suc n) = refl

-- nothing stands on further lines of what has one
late : (n : ℕ) (lines : List (List Run)) → length lines ≤ 1 → n ≢ 0 → get_or (drop n lines) 0 [] ≡ []
late zero lines few other = absurd (other refl)
late (suc n) [] few other = refl
late (suc n) (runs ∷ []) few other = ap (λ (lines : List (List Run)). get_or lines 0 []) (none-left-of n)
late (suc n) (runs ∷ more ∷ lines) few other = absurd (omega (arith, few))

module _ (bytes : List ℕ) (r : RowColumn) where
  -- the first line of a text, and of a number that is split
  pub text-first : (line glyphs width : ℕ) → r.entry.kind ≡ Text glyphs width → line ≡ 0 → r.entry.from ≢ r.entry.to
      → first_of (cell_left bytes line r) ≡ text_run bytes r.entry glyphs width ∷ []
  text-first line glyphs width kind first some =
      ap (λ (k : EntryKind). get_or (lines_left_by k bytes line r.column r.end r.entry r.place) 0 []) kind
      ∙ ap (λ (n : ℕ). get_or (drop n (text_lines (r.entry.from == r.entry.to) (text_run bytes r.entry glyphs width))) 0 []) first
      ∙ ap (λ (t : Bool). get_or (text_lines t (text_run bytes r.entry glyphs width)) 0 []) (ne_eqb r.entry.from r.entry.to some)

  pub split-first : (line : ℕ) (s : SplitEntry) → r.entry.kind ≡ Split s → line ≡ 0
      → first_of (cell_left bytes line r) ≡ split_run bytes r.entry s ∷ []
  split-first line s kind first =
      ap (λ (k : EntryKind). get_or (lines_left_by k bytes line r.column r.end r.entry r.place) 0 []) kind
      ∙ ap (λ (n : ℕ). get_or (drop n ((split_run bytes r.entry s ∷ []) ∷ [])) 0 []) first

  -- their next lines, wherever a block would go on
  drop-line : (line : ℕ) (lines : List (List Run)) → drop (suc line) lines ≡ drop 1 (drop line lines)
  drop-line line lines = let same : suc line ≡ line + 1 = omega arith in ap (λ (n : ℕ). drop n lines) same ∙ sym (drop-drop 1 line lines)

  pub text-moved : (line glyphs width : ℕ) → r.entry.kind ≡ Text glyphs width
      → cell_left bytes (suc line) (record r { place = r.place }) ≡ behind_first (cell_left bytes line r)
  text-moved line glyphs width kind =
      let cell : List (List Run) → Cell = λ lines. record { at = begins_at r; lines = lines; below = [] } in
      ap (λ (k : EntryKind). cell (lines_left_by k bytes (suc line) r.column r.end r.entry r.place)) kind
      ∙ ap cell (drop-line line (text_lines (r.entry.from == r.entry.to) (text_run bytes r.entry glyphs width)))
      ∙ ap (λ (k : EntryKind). cell (drop 1 (lines_left_by k bytes line r.column r.end r.entry r.place))) (sym kind)

  pub split-moved : (line : ℕ) (s : SplitEntry) → r.entry.kind ≡ Split s
      → cell_left bytes (suc line) (record r { place = r.place }) ≡ behind_first (cell_left bytes line r)
  split-moved line s kind =
      let cell : List (List Run) → Cell = λ lines. record { at = begins_at r; lines = lines; below = [] } in
      ap (λ (k : EntryKind). cell (lines_left_by k bytes (suc line) r.column r.end r.entry r.place)) kind
      ∙ ap cell (drop-line line ((split_run bytes r.entry s ∷ []) ∷ []))
      ∙ ap (λ (k : EntryKind). cell (drop 1 (lines_left_by k bytes line r.column r.end r.entry r.place))) (sym kind)

  -- what is given of them
  pub text-last : (count glyphs width : ℕ) → last_given count (text_run bytes r.entry glyphs width)
      ≡ if_given count (slice_range bytes r.entry.from (end_given count glyphs r.entry.to))
  text-last zero glyphs width = refl
  text-last (suc zero) glyphs width = refl
  text-last (suc (suc n)) glyphs width = refl

  pub split-last : (count : ℕ) (s : SplitEntry) → let to = end_given count s.glyphs r.entry.to in
      last_given count (split_run bytes r.entry s)
      ≡ if_given count (slice_range bytes r.entry.from (min s.end to)) ++ if_given count (slice_range bytes s.behind to)
  split-last zero s = refl
  split-last (suc zero) s = refl
  split-last (suc (suc n)) s = refl

  -- nothing stands on further lines of them, nor of a text without a byte
  few-lines : (t : Bool) (run : Run) → length (text_lines t run) ≤ 1
  few-lines true run = omega arith
  few-lines false run = omega arith

  pub text-late : (line glyphs width : ℕ) → r.entry.kind ≡ Text glyphs width → line ≢ 0 → first_of (cell_left bytes line r) ≡ []
  text-late line glyphs width kind other =
      ap (λ (k : EntryKind). get_or (lines_left_by k bytes line r.column r.end r.entry r.place) 0 []) kind
      ∙ late line (text_lines (r.entry.from == r.entry.to) (text_run bytes r.entry glyphs width))
      (few-lines (r.entry.from == r.entry.to) (text_run bytes r.entry glyphs width)) other

  pub split-late : (line : ℕ) (s : SplitEntry) → r.entry.kind ≡ Split s → line ≢ 0 → first_of (cell_left bytes line r) ≡ []
  split-late line s kind other =
      ap (λ (k : EntryKind). get_or (lines_left_by k bytes line r.column r.end r.entry r.place) 0 []) kind
      ∙ late line ((split_run bytes r.entry s ∷ []) ∷ []) (omega arith) other

  -- a byte that is repeated so often
  module _ (b n : ℕ) (is : Repeats b n r) where
    pub repeated-first : (line : ℕ) → line ≡ 0 → first_of (cell_left bytes line r) ≡ repeated b n ∷ []
    repeated-first line first =
        ap (λ (lines : List (List Run)). get_or lines 0 []) (is.lines bytes line)
        ∙ ap (λ (k : ℕ). get_or (repeated_lines k b n) 0 []) first

    pub repeated-moved : (line : ℕ) → cell_left bytes (suc line) (record r { place = r.place }) ≡ behind_first (cell_left bytes line r)
    repeated-moved line =
        let cell : List (List Run) → Cell = λ lines. record { at = begins_at r; lines = lines; below = [] } in
        ap cell (is.lines bytes (suc line))
        ∙ ap cell (drop-line line ((repeated b n ∷ []) ∷ []))
        ∙ ap (λ (lines : List (List Run)). cell (drop 1 lines)) (sym (is.lines bytes line))

    pub repeated-late : (line : ℕ) → line ≢ 0 → first_of (cell_left bytes line r) ≡ []
    repeated-late line other =
        ap (λ (lines : List (List Run)). get_or lines 0 []) (is.lines bytes line)
        ∙ late line ((repeated b n ∷ []) ∷ []) (omega arith) other

  pub text-empty : (line glyphs width : ℕ) → r.entry.kind ≡ Text glyphs width → r.entry.from ≡ r.entry.to → first_of (cell_left bytes line r) ≡ []
  text-empty line glyphs width kind none =
      ap (λ (k : EntryKind). get_or (lines_left_by k bytes line r.column r.end r.entry r.place) 0 []) kind
      ∙ ap (λ (t : Bool). get_or (drop line (text_lines t (text_run bytes r.entry glyphs width))) 0 []) (eq-eqb r.entry.from r.entry.to none)
      ∙ ap (λ (lines : List (List Run)). get_or lines 0 []) (none-left-of line)

  -- the cell above goes on: nothing stands on the line
  pub above-empty : (line : ℕ) → r.entry.kind ≡ Above → first_of (cell_left bytes line r) ≡ []
  above-empty line kind = ap (λ (k : EntryKind). get_or (lines_left_by k bytes line r.column r.end r.entry r.place) 0 []) kind

  pub above-moved : (line : ℕ) → r.entry.kind ≡ Above
      → cell_left bytes (suc line) (record r { place = r.place }) ≡ behind_first (cell_left bytes line r)
  above-moved line kind =
      let cell : List (List Run) → Cell = λ lines. record { at = begins_at r; lines = lines; below = [] } in
      ap (λ (k : EntryKind). cell (lines_left_by k bytes (suc line) r.column r.end r.entry r.place)) kind
      ∙ ap (λ (k : EntryKind). cell (drop 1 (lines_left_by k bytes line r.column r.end r.entry r.place))) (sym kind)
