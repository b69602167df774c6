-- What a cell shows in which something runs on beyond its columns.
use Rattle.std.proofs.Common.{◌≡◌, ℕ, ◌+◌, ◌==◌, Bool, true, false, ◌&&◌, List, [], get_or, map, Some, refl, sym, ap, subst, ◌∙◌, arith, if◌then◌else◌, true≢false}
use Rattle.std.proofs.lemmas.Bool.{false≢true}
use Rattle.tbl_format.specs.declared.format.Key.{Key}
use Rattle.tbl_format.specs.declared.format.Key.TheVariants.{Left as LeftKey}
use Rattle.tbl_layout.specs.Columns.{place_in, unsplit}
use Rattle.tbl_layout.specs.Entries.{Content, Run, block_line, is_number, lines_of_field}
use Rattle.tbl_layout.specs.KeptEntries.{IsLaid, Lies, block_lines, content_by, stands_by}
use Rattle.tbl_layout.specs.declared.columns.Column.{Column}
use Rattle.tbl_layout.specs.declared.columns.Stands.TheVariants.{Nowhere}
use Rattle.tbl_layout.specs.declared.entry.Entry.{Entry}
use Rattle.tbl_layout.specs.declared.entry.EntryKind.{EntryKind}
use Rattle.tbl_layout.specs.declared.entry.EntryKind.TheVariants.{Above, Block, Repeated, Ruled, Short, Split, Text}
use Rattle.tbl_lines.specs.CellsLeft.{Left}
use Rattle.tbl_lines.specs.LinesLeft.{Shown, runs_on, shown, shown_cell}
use Rattle.tbl_lines.specs.RowsLeft.{begins_by, block_text, lines_left_by}
use Rattle.tbl_lines.specs.RowsWalked.{IsNarrow}
use Rattle.tbl_line_cells.specs.KeptCells.{GoesOnBy, IsLeft}
use Rattle.tbl_line_cells.specs.LaidCells.{EndsItself, MayRun, at_first, IsShown, on_line, runs_at}
use Rattle.tbl_line_cells.specs.declared.cells.CellLeft.{CellLeft}
use Rattle.tbl_line_cells.specs.declared.laid_cells.LaidCell.{LaidCell}
use Rattle.tbl_line_cells.specs.declared.laid_cells.RunsOn.{RunsOn}
use Rattle.tbl_line_cells.proofs.LaidShown.{first-behind, kept_as, left-is, lines-same, same-runs, written_as}
use Rattle.tbl_text.specs.BlockLines.{lines_of}
use Rattle.tbl_text.specs.BlockPlaces.{IsWithin}
use Rattle.tbl_text.specs.BlockWords.{parts_of}

alone-first : (b : Bool) (n bars start : ℕ) → place_in (at_first bars start) LeftKey (if b then unsplit LeftKey n else Nowhere) ≡ 0
alone-first true n bars start = refl
alone-first false n bars start = refl

text-first : (b : Bool) (n bars start : ℕ) → place_in (at_first bars start) LeftKey (if b then Nowhere else unsplit LeftKey n) ≡ 0
text-first true n bars start = refl
text-first false n bars start = refl

pub first-place : (k : EntryKind) (empty : Bool) (bars start : ℕ) → place_in (at_first bars start) LeftKey (stands_by LeftKey k empty) ≡ 0
first-place (Text glyphs width) empty bars start = text-first empty width bars start
first-place (Split s) empty bars start = omega arith
first-place (Block b) empty bars start = alone-first b.has_word b.width bars start
first-place (Ruled sign) empty bars start = refl
first-place Short empty bars start = refl
first-place (Repeated b) empty bars start = refl
first-place Above empty bars start = refl

and-nothing : (h : Bool) → (h && (true && false)) ≡ true → ⊥
and-nothing true = false≢true
and-nothing false = false≢true

module _ (bytes : List ℕ) (cell : CellLeft) (c : Column) (end : ℕ) (laid : IsLaid bytes cell.key.key cell.entry) where
  abbrev e : Entry
  e = cell.entry

  abbrev key : Key
  key = cell.key.key

  abbrev kept : EntryKind → ℕ → Left
  kept k gone = kept_as bytes cell k 0 gone

  abbrev field : EntryKind → Content
  field k = content_by k bytes e.from e.to

  may-run : (k : EntryKind) (gone : ℕ) → runs_on (kept k gone) c ≡ true → MayRun k
  may-run (Text glyphs width) gone runs = tt
  may-run (Split s) gone runs = tt
  may-run (Block b) gone runs = tt
  may-run (Ruled sign) gone runs = and-nothing cell.key.has_no_width runs
  may-run Short gone runs = and-nothing cell.key.has_no_width runs
  may-run (Repeated b) gone runs = and-nothing cell.key.has_no_width runs
  may-run Above gone runs = and-nothing cell.key.has_no_width runs

  abbrev run_shown : EntryKind → ℕ → Shown
  run_shown k gone = written_as (field k) (kept k gone) c true (field k)

  run-is : (k : EntryKind) (gone : ℕ) → runs_on (kept k gone) c ≡ true → MayRun k → shown (kept k gone) c end ≡ run_shown k gone
  run-is (Text glyphs width) gone runs may =
      ap (λ (b : Bool). written_as (field (Text glyphs width)) (kept (Text glyphs width) gone) c b (field (Text glyphs width))) runs
  run-is (Split s) gone runs may = ap (λ (b : Bool). written_as (field (Split s)) (kept (Split s) gone) c b (field (Split s))) runs
  run-is (Block b) gone runs may = ap (λ (r : Bool). written_as (field (Block b)) (kept (Block b) gone) c r (field (Block b))) runs
  run-is (Ruled sign) gone runs may = absurd may
  run-is Short gone runs may = absurd may
  run-is (Repeated b) gone runs may = absurd may
  run-is Above gone runs may = absurd may

  abbrev first : Column
  first = at_first c.bars c.start

  abbrev run_kept : RunsOn
  run_kept = record { end = cell.key.end; stop = cell.stop; is_number = is_number key; is_cut = cell.is_cut }

  abbrev pub run_cell : LaidCell
  run_cell = record {
    column = first;
    key = LeftKey;
    entry = e;
    place = cell.place;
    text = Some (record { at = c.start; rows = cell.rows });
    runs_on = Some run_kept;
  }

  lines-run : (k : EntryKind) (gone at : ℕ) → k ≡ e.kind → MayRun k → GoesOnBy k bytes e cell.place gone
      → runs_at (get_or (lines_left_by k bytes 0 first 0 e cell.place) 0 []) at ≡ runs_at (get_or (lines_of_field key (field k)) gone []) at
  lines-run (Text glyphs width) gone at is may none =
      same-runs (lines_left_by (Text glyphs width) bytes 0 first 0 e cell.place) (lines_of_field key (field (Text glyphs width))) at at gone
      (lines-same bytes cell c end laid (Text glyphs width) is) refl none
  lines-run (Split s) gone at is may none =
      same-runs (lines_left_by (Split s) bytes 0 first 0 e cell.place) (lines_of_field key (field (Split s))) at at gone
      (lines-same bytes cell c end laid (Split s) is) refl none
  lines-run (Block b) gone at is may goes =
      let all = lines_of b.measure (parts_of (block_lines bytes e.from e.to)) in
      ap (λ (ls : List (List _)). runs_at (get_or (map block_line ls) 0 []) at) goes.lines
      ∙ ap (λ (runs : List Run). runs_at runs at) (first-behind block_line gone all [])
  lines-run (Ruled sign) gone at is may none = absurd may
  lines-run Short gone at is may none = absurd may
  lines-run (Repeated b) gone at is may none = absurd may
  lines-run Above gone at is may none = absurd may

  begins-run : (k : EntryKind) → k ≡ e.kind → MayRun k → begins_by k first LeftKey e ≡ c.start + 0
  begins-run (Text glyphs width) is may =
      ap (λ (x : EntryKind). c.start + place_in first LeftKey (stands_by LeftKey x (e.from == e.to))) (sym is)
      ∙ ap (λ (n : ℕ). c.start + n) (first-place (Text glyphs width) (e.from == e.to) c.bars c.start)
  begins-run (Split s) is may =
      ap (λ (x : EntryKind). c.start + place_in first LeftKey (stands_by LeftKey x (e.from == e.to))) (sym is)
      ∙ ap (λ (n : ℕ). c.start + n) (first-place (Split s) (e.from == e.to) c.bars c.start)
  begins-run (Block b) is may =
      ap (λ (x : EntryKind). c.start + place_in first LeftKey (stands_by LeftKey x (e.from == e.to))) (sym is)
      ∙ ap (λ (n : ℕ). c.start + n) (first-place (Block b) (e.from == e.to) c.bars c.start)
  begins-run (Ruled sign) is may = absurd may
  begins-run Short is may = absurd may
  begins-run (Repeated b) is may = absurd may
  begins-run Above is may = absurd may

  drawn-run : (k : EntryKind) (gone : ℕ) → k ≡ e.kind → MayRun k → GoesOnBy k bytes e cell.place gone
      → runs_at (get_or (lines_left_by k bytes 0 first 0 e cell.place) 0 []) (begins_by k first LeftKey e) ≡ on_line (shown_cell (run_shown k gone))
  drawn-run k gone is may goes =
      ap (λ (n : ℕ). runs_at (get_or (lines_left_by k bytes 0 first 0 e cell.place) 0 []) n) (begins-run k is may)
      ∙ lines-run k gone (c.start + 0) is may goes

  ends-run : (k : EntryKind) → MayRun k → EndsItself k
  ends-run (Text glyphs width) may = tt
  ends-run (Split s) may = tt
  ends-run (Block b) may = tt
  ends-run (Ruled sign) may = absurd may
  ends-run Short may = absurd may
  ends-run (Repeated b) may = absurd may
  ends-run Above may = absurd may

  run-shown : (gone : ℕ) → MayRun e.kind → GoesOnBy e.kind bytes e cell.place gone → Lies bytes e → IsWithin (block_text bytes e) cell.place
      → IsNarrow c → IsShown bytes run_cell (run_shown e.kind gone)
  run-shown gone may goes lies within narrow =
      let start : c.start ≡ c.start + 0 = omega arith in
      record {
        byte = λ none. absurd (true≢false none);
        drawn = record {
          shows = drawn-run e.kind gone refl may goes;
          text = ap (λ (n : ℕ). Some (record { at = n; rows = cell.rows })) start;
          lies = lies;
          within = within;
          narrow = record { end = omega (arith, narrow.end) };
          ends = ends-run e.kind may;
        };
        running = record {
          kind = may;
          start = start;
          first = refl;
          left = refl;
          end = refl;
          stop = refl;
          number = refl;
          cut = refl;
          field = refl;
          place = goes;
          laid = laid;
        };
      }

  pub run-laid : (l : Left) → IsLeft bytes cell l → cell.lead ≡ 0 → IsNarrow c → runs_on l c ≡ true → IsShown bytes run_cell (shown l c end)
  run-laid l is here narrow runs =
      let same : kept e.kind l.gone ≡ l = left-is bytes cell l 0 is (sym here ∙ is.lead) in
      let runs_kept : runs_on (kept e.kind l.gone) c ≡ true = ap (λ (m : Left). runs_on m c) same ∙ runs in
      let may = may-run e.kind l.gone runs_kept in
      let shows : shown l c end ≡ run_shown e.kind l.gone = ap (λ (m : Left). shown m c end) (sym same) ∙ run-is e.kind l.gone runs_kept may in
      subst (IsShown bytes run_cell) (sym shows) (run-shown l.gone may is.place is.lies is.within narrow)

-- as it is laid, where the kind of its key was asked for
pub with-number : (bytes : List ℕ) (cell : CellLeft) (c : Column) (end : ℕ) (laid : IsLaid bytes cell.key.key cell.entry) (l : Left) (number : Bool)
    → number ≡ is_number cell.key.key → IsShown bytes (run_cell bytes cell c end laid) (shown l c end)
    → IsShown bytes (record (run_cell bytes cell c end laid) {
      runs_on = Some (record { end = cell.key.end; stop = cell.stop; is_number = number; is_cut = cell.is_cut });
    }) (shown l c end)
with-number bytes cell c end laid l number same is =
    subst (λ (n : Bool). IsShown bytes (record (run_cell bytes cell c end laid) {
      runs_on = Some (record { end = cell.key.end; stop = cell.stop; is_number = n; is_cut = cell.is_cut });
    }) (shown l c end)) (sym same) is
