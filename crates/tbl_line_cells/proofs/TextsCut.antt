-- A text that runs on, as far as it fits.
use Rattle.std.proofs.Common.{◌≡◌, ℕ, zero, suc, ◌+◌, ◌-◌, ◌≤◌, ◌==◌, Bool, true, false, nat_lt, List, [], ◌∷◌, drop, get_or, length, take, Option, None, Some, refl, sym, ap, subst, ◌∙◌, arith, if◌then◌else◌, length-drop, eqb-true}
use Rattle.std.specs.List.{slice_range}
use Rattle.std.specs.Option.{MatchOption}
use Rattle.tbl_format.specs.declared.format.Key.{Key}
use Rattle.tbl_layout.specs.Columns.{place_in}
use Rattle.tbl_layout.specs.Entries.{Content, Run, Text as TextField, columns_of, is_number, line_within, lines_of_field, run_within}
use Rattle.tbl_layout.specs.KeptEntries.{IsLaidBy, IsText, Lies, content_by, kind_with, stands_by, text_entry}
use Rattle.tbl_layout.specs.declared.columns.Column.{Column}
use Rattle.tbl_layout.specs.declared.entry.Entry.{Entry}
use Rattle.tbl_layout.specs.declared.entry.BlockEntry.{BlockEntry}
use Rattle.tbl_layout.specs.declared.entry.SplitEntry.{SplitEntry}
use Rattle.tbl_layout.specs.declared.entry.EntryKind.{EntryKind}
use Rattle.tbl_layout.specs.declared.entry.EntryKind.TheVariants.{Above, Block, Repeated, Ruled, Short, Split, Text}
use Rattle.tbl_lines.specs.CellsLeft.{Left}
use Rattle.tbl_lines.specs.LinesLeft.{Shown, cut_to, shown_cell}
use Rattle.tbl_lines.specs.PictureLines.{Cell}
use Rattle.tbl_lines.specs.RowsLeft.{begins_by, cell_left, first_of, lines_left_by, text_lines, text_run}
use Rattle.tbl_line_cells.specs.LaidCells.{EndsItself, IsDrawn, IsRunning, IsShown, MayRun, RunsAs, at_first, on_line, row_column, runs_at, with_text}
use Rattle.tbl_line_cells.specs.declared.laid_cells.LaidCell.{LaidCell}
use Rattle.tbl_line_cells.specs.declared.laid_cells.RunsOn.{RunsOn}
use Rattle.tbl_line_cells.proofs.LaidShown.{lines-same}
use Rattle.tbl_line_cells.proofs.RunningLaid.{first-place}
use Rattle.tbl_line_cells.specs.declared.cells.CellLeft.{CellLeft}
use Rattle.tbl_text.specs.declared.block_parts.BlockPlace.TheVariants.{AtEnd}
use Rattle.tbl_text.specs.Fitted.{fitting_len, fitting_text}
use Rattle.tbl_text.specs.Measuring.{measured}
use Rattle.tbl_text.specs.declared.measure.Split.{Split as SplitAt}

-- what draws alike is as wide
on-columns : (runs : List Run) (at : ℕ) → columns_of (first_of (runs_at runs at)) ≡ columns_of runs
on-columns [] at = refl
on-columns (run ∷ runs) at = refl

pub same-columns : (c d : Cell) → on_line c ≡ on_line d → columns_of (first_of c) ≡ columns_of (first_of d)
same-columns c d same =
    sym (on-columns (first_of c) c.at) ∙ ap (λ (x : Cell). columns_of (first_of x)) same ∙ on-columns (first_of d) d.at

-- the columns that a text is kept with
abbrev pub kept_width : EntryKind → ℕ
kept_width (Text glyphs width) = width
kept_width (Split s) = s.width
kept_width kind = 0

width-with : (from glyphs width : ℕ) (s : Option SplitAt) → kept_width (kind_with from glyphs width s) ≡ width
width-with from glyphs width None = refl
width-with from glyphs width (Some s) = refl

nothing-wide : (n : Bool) → (measured n []).width ≡ 0
nothing-wide true = refl
nothing-wide false = refl

-- those that it shows
if-empty : (b : Bool) (run : Run) (width : ℕ) → (b ≡ true → width ≡ 0) → run.columns ≡ width
    → columns_of (get_or (text_lines b run) 0 []) ≡ width
if-empty true run width none is = sym (none refl)
if-empty false run width none is = omega (arith, is)

-- a text is kept as one or in two parts
abbrev pub IsTextKind : EntryKind → Type 0
IsTextKind (Text glyphs width) = Unit {0}
IsTextKind (Split s) = Unit {0}
IsTextKind kind = ⊥

-- a front of a list is the front of as many elements
front-self : {A : Type 0} (a b : ℕ) (xs : List A) → take (length (take a (take b xs))) xs ≡ take a (take b xs)
front-self zero b xs = refl
front-self (suc a) zero xs = refl
front-self (suc a) (suc b) [] = refl
front-self (suc a) (suc b) (x ∷ xs) = ap (λ (rest : List _). x ∷ rest) (front-self a b xs)

front-few : {A : Type 0} (a b : ℕ) (xs : List A) → length (take a (take b xs)) ≤ length xs
front-few zero b xs = omega arith
front-few (suc a) zero xs = omega arith
front-few (suc a) (suc b) [] = omega arith
front-few (suc a) (suc b) (x ∷ xs) = omega (arith, front-few a b xs)

module _ (bytes : List ℕ) (c : LaidCell) (s : Shown) (r : RunsOn) (own : Left) (is : IsShown bytes c s) (run : IsRunning bytes c s.at r own) where
  abbrev n : Bool
  n = is_number own.key.key

  abbrev e : Entry
  e = c.entry

  abbrev text : List ℕ
  text = slice_range bytes e.from e.to

  laid-text : (k : EntryKind) → k ≡ e.kind → IsTextKind k → IsText bytes n e
  laid-text (Text glyphs width) same may = subst (λ (k : EntryKind). IsLaidBy k bytes own.key.key e) (sym same) run.laid
  laid-text (Split s) same may = subst (λ (k : EntryKind). IsLaidBy k bytes own.key.key e) (sym same) run.laid
  laid-text (Block b) same may = absurd may
  laid-text (Ruled sign) same may = absurd may
  laid-text Short same may = absurd may
  laid-text (Repeated b) same may = absurd may
  laid-text Above same may = absurd may

  -- as many columns as it shows are kept
  kept-width : (k : EntryKind) → k ≡ e.kind → IsTextKind k → kept_width k ≡ (measured n text).width
  kept-width k same may =
      let m = measured n text in
      ap kept_width same ∙ ap (λ (x : Entry). kept_width x.kind) (laid-text k same may).is ∙ width-with e.from (e.from + m.glyphs) m.width m.split

  none-wide : (k : EntryKind) → k ≡ e.kind → IsTextKind k → (e.from == e.to) ≡ true → kept_width k ≡ 0
  none-wide k same may empty =
      let none : e.to - e.from ≡ 0 = omega (arith, eqb-true e.from e.to empty) in
      kept-width k same may ∙ ap (λ (d : ℕ). (measured n (take d (drop e.from bytes))).width) none ∙ nothing-wide n

  first-columns : (k : EntryKind) → k ≡ e.kind → IsTextKind k
      → columns_of (get_or (lines_left_by k bytes 0 c.column 0 e c.place) 0 []) ≡ kept_width k
  first-columns (Text glyphs width) same may =
      if-empty (e.from == e.to) (text_run bytes e glyphs width) width (none-wide (Text glyphs width) same may) refl
  first-columns (Split s) same may = omega arith
  first-columns (Block b) same may = absurd may
  first-columns (Ruled sign) same may = absurd may
  first-columns Short same may = absurd may
  first-columns (Repeated b) same may = absurd may
  first-columns Above same may = absurd may

  pub text-columns : (k : EntryKind) → k ≡ e.kind → IsTextKind k → columns_of s.runs ≡ kept_width k
  text-columns k same may =
      sym (same-columns (cell_left bytes 0 (row_column c)) (shown_cell s) is.drawn.shows)
      ∙ ap (λ (x : EntryKind). columns_of (get_or (lines_left_by x bytes 0 c.column 0 e c.place) 0 [])) (sym same)
      ∙ first-columns k same may

  -- what stands in it is a text
  text-field : (k : EntryKind) → k ≡ e.kind → IsTextKind k → TextField text ≡ own.field
  text-field (Text glyphs width) same may = ap (λ (x : EntryKind). content_by x bytes e.from e.to) same ∙ run.field
  text-field (Split s) same may = ap (λ (x : EntryKind). content_by x bytes e.from e.to) same ∙ run.field
  text-field (Block b) same may = absurd may
  text-field (Ruled sign) same may = absurd may
  text-field Short same may = absurd may
  text-field (Repeated b) same may = absurd may
  text-field Above same may = absurd may

  -- as much of it as fits is one, too
  module _ (room : ℕ) (lies : Lies bytes e) where
    abbrev front : List ℕ
    front = fitting_text room text

    abbrev cut : Entry
    cut = text_entry n e.from front

    front-is : slice_range bytes e.from (e.from + length front) ≡ front
    front-is =
        ap (λ (d : ℕ). take d (drop e.from bytes)) (omega arith)
        ∙ front-self (fitting_len room text) (e.to - e.from) (drop e.from bytes)

    cut-text : IsText bytes n cut
    cut-text = record {
      order = omega arith;
      within = omega (arith, lies.order, lies.within, front-few (fitting_len room text) (e.to - e.from) (drop e.from bytes), length-drop e.from bytes);
      is = ap (text_entry n e.from) (sym front-is);
    }

    cut-laid : (split : Option SplitAt) → let m = measured n front in IsLaidBy (kind_with e.from (e.from + m.glyphs) m.width split) bytes own.key.key cut
    cut-laid None = cut-text
    cut-laid (Some x) = cut-text

    cut-kind : (split : Option SplitAt) → let m = measured n front in IsTextKind (kind_with e.from (e.from + m.glyphs) m.width split)
    cut-kind None = tt
    cut-kind (Some x) = tt

    cut-ends : (split : Option SplitAt) → let m = measured n front in EndsItself (kind_with e.from (e.from + m.glyphs) m.width split)
    cut-ends None = tt
    cut-ends (Some x) = tt

    -- it stands at the same column of the page
    first-begins : c.column.start + place_in c.column c.key (stands_by c.key cut.kind (cut.from == cut.to)) ≡ s.at
    first-begins =
        let empty = cut.from == cut.to in
        let start = c.column.start in
        ap (λ (x : Column). start + place_in x c.key (stands_by c.key cut.kind empty)) run.first
        ∙ ap (λ (k : Key). start + place_in (at_first c.column.bars start) k (stands_by k cut.kind empty)) run.left
        ∙ ap (λ (m : ℕ). start + m) (first-place cut.kind empty c.column.bars start)
        ∙ omega (arith, run.start)

    begins-cut : (k : EntryKind) → k ≡ cut.kind → IsTextKind k → begins_by k c.column c.key cut ≡ s.at
    begins-cut (Text glyphs width) same may = first-begins
    begins-cut (Split x) same may = first-begins
    begins-cut (Block b) same may = absurd may
    begins-cut (Ruled sign) same may = absurd may
    begins-cut Short same may = absurd may
    begins-cut (Repeated b) same may = absurd may
    begins-cut Above same may = absurd may

    -- and shows that
    abbrev cut_left : CellLeft
    cut_left = record { key = own.key; entry = cut; lead = 0; place = AtEnd; rows = 0; is_used = false; stop = 0; is_cut = false }

    lines-cut : (k : EntryKind) → k ≡ cut.kind → IsTextKind k
        → get_or (lines_left_by k bytes 0 c.column 0 cut AtEnd) 0 [] ≡ run_within room own.key.key text
    lines-cut (Text glyphs width) same may =
        ap (λ (ls : List (List Run)). get_or ls 0 [])
        (lines-same bytes cut_left c.column 0 (cut-laid (measured n front).split) (Text glyphs width) same)
        ∙ ap (λ (t : List ℕ). get_or (lines_of_field own.key.key (TextField t)) 0 []) front-is
    lines-cut (Split x) same may =
        ap (λ (ls : List (List Run)). get_or ls 0 [])
        (lines-same bytes cut_left c.column 0 (cut-laid (measured n front).split) (Split x) same)
        ∙ ap (λ (t : List ℕ). get_or (lines_of_field own.key.key (TextField t)) 0 []) front-is
    lines-cut (Block b) same may = absurd may
    lines-cut (Ruled sign) same may = absurd may
    lines-cut Short same may = absurd may
    lines-cut (Repeated b) same may = absurd may
    lines-cut Above same may = absurd may

    cut-drawn : IsDrawn bytes (with_text n front c) (record s { runs = run_within room own.key.key text })
    cut-drawn =
        let may = cut-kind (measured n front).split in
        record {
          shows =
              ap (λ (runs : List Run). runs_at runs (begins_by cut.kind c.column c.key cut)) (lines-cut cut.kind refl may)
              ∙ ap (runs_at (run_within room own.key.key text)) (begins-cut cut.kind refl may);
          text = is.drawn.text;
          lies = record { order = cut-text.order; within = cut-text.within };
          within = tt;
          narrow = is.drawn.narrow;
          ends = cut-ends (measured n front).split;
        }

    abbrev shown_cut : Bool → Shown
    shown_cut b = if b then record s { runs = line_within room own.key.key own.field own.gone } else s

    by-case : (k : EntryKind) → k ≡ e.kind → IsTextKind k → (b : Bool) → nat_lt room (columns_of s.runs) ≡ b
        → MatchOption (if b then Some (with_text n front c) else None) (cut_to room own s ≡ s) (λ x. IsDrawn bytes x (cut_to room own s))
    by-case k same may true more =
        subst (IsDrawn bytes (with_text n front c))
        (ap (λ (f : Content). record s { runs = line_within room own.key.key f own.gone }) (text-field k same may) ∙ sym (ap shown_cut more)) cut-drawn
    by-case k same may false few = ap shown_cut few

    pub text-cut : (k : EntryKind) → k ≡ e.kind → IsTextKind k → (number : Bool) → number ≡ n → (width : ℕ) → width ≡ kept_width k → (result : Option LaidCell)
        → result ≡ (if nat_lt room width then Some (with_text number front c) else None)
        → MatchOption result (cut_to room own s ≡ s) (λ x. IsDrawn bytes x (cut_to room own s))
    text-cut k same may number is_n width is_width result is_result =
        let columns : columns_of s.runs ≡ width = text-columns k same may ∙ sym is_width in
        subst (λ (o : Option LaidCell). MatchOption o (cut_to room own s ≡ s) (λ x. IsDrawn bytes x (cut_to room own s)))
        (sym (is_result ∙ ap (λ (m : Bool). if nat_lt room width then Some (with_text m front c) else None) is_n))
        (by-case k same may (nat_lt room width) (ap (nat_lt room) columns))

-- what runs on is known
pub running-is : (bytes : List ℕ) (c : LaidCell) (s : Shown) (r : RunsOn) (own : Left) → IsShown bytes c s → c.runs_on ≡ Some r → s.runs_on ≡ Some own
    → IsRunning bytes c s.at r own
running-is bytes c s r own is kept shown =
    subst (λ (x : Option Left). RunsAs bytes c s (Some r) x) shown
    (subst (λ (x : Option RunsOn). RunsAs bytes c s x s.runs_on) kept is.running)

-- nothing else runs on
pub none-other : (k : EntryKind) → MayRun k → ((glyphs width : ℕ) → k ≡ Text glyphs width → ⊥) → ((x : SplitEntry) → k ≡ Split x → ⊥)
    → ((b : BlockEntry) → k ≡ Block b → ⊥) → ⊥
none-other (Text glyphs width) may text split block = text glyphs width refl
none-other (Split x) may text split block = split x refl
none-other (Block b) may text split block = block b refl
none-other (Ruled sign) may text split block = may
none-other Short may text split block = may
none-other (Repeated b) may text split block = may
none-other Above may text split block = may
