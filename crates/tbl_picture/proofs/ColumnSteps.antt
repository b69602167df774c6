-- What a step does that gives a column of a row, or begins a word of it.
use Rattle.std.proofs.Common.{◌≡◌, ℕ, suc, ◌+◌, ◌-◌, ◌<◌, ◌≤◌, Bool, true, false, List, [], ◌∷◌, ◌++◌, length, take, drop, get_or, map, refl, None, sym, ap, subst, ◌∙◌, arith, append_assoc, length-append, length-drop}
use Rattle.std.proofs.Math.Seq.{drop-cons}
use Rattle.std.proofs.lemmas.List.{drop-map, map-append}
use Rattle.tbl_layout.specs.declared.columns.Column.{Column}
use Rattle.tbl_layout.specs.declared.entry.Entry.{Entry}
use Rattle.tbl_layout.specs.declared.entry.EntryKind.TheVariants.{Text}
use Rattle.tbl_lines.specs.PictureLines.{Cell, with_fronts}
use Rattle.tbl_pieces.specs.PieceQueue.{Adds, KeptPieces}
use Rattle.tbl_lines.specs.RowsLeft.{behind_first, block_text, cell_left, given, one_less, row_columns, then_fronts}
use Rattle.tbl_lines.specs.RowsWalked.{LastHasGlyph, PlacesLie, StandsInFirst, StandsNext, front_count, most_steps, steps_of_cells, steps_of_columns}
use Rattle.tbl_picture.specs.Walks.{AtColumn, InLine, IsNear, IsOn, IsUnderWay, KeptWalk, OnLine, RowSteps, WalkedRow, row_fronts_of, at_word, cells_in_front, cells_left, columns_left, columns_walked, fields_left, fields_now, fronts_of, further_lines, next_column, passed, row_left, row_steps, steps_of_rest}
use Rattle.tbl_lines.specs.declared.row_columns.RowColumn.{RowColumn}
use Rattle.tbl_picture.specs.Nexts.{AtCell, AtFront, AtWord, Next}
use Rattle.tbl_pieces.proofs.Adding.{adds-fitting}
use Rattle.tbl_lines.proofs.FrontCells.{count-fronts, no-fronts}
use Rattle.tbl_lines.proofs.RowColumns.{column-lies, length-places, places-push, row-column, row_columns-push, take-next}
use Rattle.tbl_lines.proofs.RunsGiven.{last-behind}
use Rattle.tbl_text.specs.BlockPlaces.{IsWithin}
use Rattle.tbl_text.specs.declared.block_parts.BlockPlace.{BlockPlace}
use Rattle.tbl_text.specs.declared.block_parts.BlockPlace.TheVariants.{AtLine as AtPlace}
use Rattle.tbl_text.specs.declared.block_words.BlockWord.{BlockWord}

length-push : {A : Type 0} (xs : List A) (x : A) → length (xs ++ x ∷ []) ≡ suc (length xs)
length-push xs x = omega (arith, length-append xs (x ∷ []))

-- the column at which a walk stands
pub at-column : (row : WalkedRow) (w : KeptWalk) (r : RowColumn) → InLine row w → length w.behind < length row.entries
    → columns_left row w ≡ r ∷ drop (suc (length w.behind)) (columns_walked row w) → AtColumn row w r
at-column row w r line few first =
    let before = line.on.before in
    let stands = column-lies row.bytes row.bars.boxing row.format 0 (length w.behind) row.columns row.entries w.places r
    (drop (suc (length w.behind)) (columns_walked row w)) first before.lie before.narrow before.places in
    record {
      line = line;
      first = first;
      entries = stands.entries;
      lies = stands.lies;
      within = stands.within;
      narrow = stands.narrow;
      free = omega (arith, few, before.room);
    }

-- the column that stands there, where fields are left
pub record ColumnThere (row : WalkedRow) (w : KeptWalk) : Type 0 where
  pub column : RowColumn
  pub at : AtColumn row w column
  pub few : length w.behind < length w.places
  pub place : column.place ≡ get_or w.places (length w.behind) (AtPlace 0 None)

pub column-there : (row : WalkedRow) (w : KeptWalk) → InLine row w → length w.behind < length row.entries → ColumnThere row w
column-there row w line few =
    let before = line.on.before in
    let no_column : Column = record { needs = record { alone = 0; strip = 0; left = 0; right = 0; split = 0 }; bars = 0; width = 0; start = 0 } in
    let no_entry : Entry = record { from = 0; to = 0; kind = Text 0 0 } in
    let less : length w.behind < length w.places = omega (arith, few, length-places row.bytes row.entries w.places before.places) in
    let first = row-column row.bars.boxing row.format 0 (length w.behind) row.columns row.entries w.places no_column no_entry (AtPlace 0 None)
    few before.short less in
    record { column = _; at = at-column row w _ line few first; few = less; place = refl }

-- its field
pub entry-there : (row : WalkedRow) (w : KeptWalk) (r : RowColumn) (e : Entry) → AtColumn row w r
    → get_or row.entries (length w.behind) e ≡ r.entry
entry-there row w r e at =
    let few : length w.behind < length row.entries = omega (arith, ap length at.entries, length-drop (length w.behind) row.entries) in
    ap (λ (es : List Entry). get_or es 0 e) (sym (drop-cons row.entries (length w.behind) e few) ∙ at.entries)

-- cells of which none has anything in front of it
pub then-none : (cells : List Cell) → then_fronts [] cells ≡ cells
then-none [] = refl
then-none (c ∷ cells) = refl

-- what comes next takes no more steps than what stands in front of it with it
pub steps-cells : (most fronts : ℕ) (entries : List Entry) → steps_of_cells most fronts entries ≤ fronts + steps_of_columns most entries
steps-cells most fronts [] = omega arith
steps-cells most fronts (e ∷ entries) = omega arith

module _ (row : WalkedRow) (w : KeptWalk) (r : RowColumn) (at : AtColumn row w r) where
  -- the columns behind it, and their cells
  abbrev pub columns_behind : List RowColumn
  columns_behind = drop (suc (length w.behind)) (columns_walked row w)

  abbrev pub fields_behind : List Cell
  fields_behind = map (cell_left row.bytes w.line) columns_behind

  abbrev pub fronts_behind : List Cell
  fronts_behind = drop (suc (length w.behind)) (fronts_of row w.line)

  abbrev pub cells_behind : List Cell
  cells_behind = with_fronts fronts_behind fields_behind

  -- the steps of them
  abbrev pub steps_behind : ℕ
  steps_behind =
      front_count row.columns - suc (length w.behind)
      + (steps_of_columns (most_steps row.bytes) (drop (suc (length w.behind)) row.entries) + steps_of_rest row (row.height - suc w.line))

  -- the columns that are left once it is passed
  left-passed : (p : BlockPlace) → drop (length (w.behind ++ p ∷ [])) (columns_walked row w) ≡ columns_behind
  left-passed p = ap (λ (n : ℕ). drop n (columns_walked row w)) (length-push w.behind p)

  entries-passed : (p : BlockPlace) → drop (length (w.behind ++ p ∷ [])) row.entries ≡ drop (suc (length w.behind)) row.entries
  entries-passed p = ap (λ (n : ℕ). drop n row.entries) (length-push w.behind p)

  -- this column's cell is the first that is left
  fields-first : fields_left row w ≡ cell_left row.bytes w.line r ∷ fields_behind
  fields-first = ap (map (cell_left row.bytes w.line)) at.first

  pub cells-first : cells_left row w ≡ cell_left row.bytes w.line r ∷ cells_behind
  cells-first = ap (then_fronts fronts_behind) fields-first

  few-behind : suc (length w.behind) ≤ length row.entries
  few-behind = omega (arith, ap length at.entries, length-drop (length w.behind) row.entries)

  -- the cells of the next line
  moved-behind : drop (length w.behind) (map behind_first (fields_now row w))
      ≡ behind_first (cell_left row.bytes w.line r) ∷ map behind_first fields_behind
  moved-behind =
      drop-map behind_first (length w.behind) (fields_now row w)
      ∙ ap (map behind_first) (drop-map (cell_left row.bytes w.line) (length w.behind) (columns_walked row w) ∙ fields-first)

  moved-passed : (p : BlockPlace) → cell_left row.bytes (suc w.line) (record r { place = p }) ≡ behind_first (cell_left row.bytes w.line r)
      → map (cell_left row.bytes (suc w.line)) (row_columns row.bars.boxing row.format 0 row.columns row.entries (w.behind ++ p ∷ []))
      ≡ take (length (w.behind ++ p ∷ [])) (map behind_first (fields_now row w))
  moved-passed p moved =
      let f = cell_left row.bytes (suc w.line) in
      let before = row_columns row.bars.boxing row.format 0 row.columns row.entries w.behind in
      let cells = map behind_first (fields_now row w) in
      ap (map f) (row_columns-push row.bars.boxing row.format 0 row.columns row.entries w.places w.behind p r columns_behind at.first)
      ∙ map-append f before (record r { place = p } ∷ [])
      ∙ ap (λ (front : List Cell). front ++ f (record r { place = p }) ∷ []) at.line.on.moved
      ∙ ap (λ (c : Cell). take (length w.behind) cells ++ c ∷ []) moved
      ∙ sym (take-next (length w.behind) cells (behind_first (cell_left row.bytes w.line r)) (map behind_first fields_behind) moved-behind)
      ∙ ap (λ (n : ℕ). take n cells) (sym (length-push w.behind p))

  -- the walk is on this line behind it
  on-passed : (p : BlockPlace) (reached : ℕ) → IsNear (one_less w.count) reached → IsWithin (block_text row.bytes r.entry) p
      → cell_left row.bytes (suc w.line) (record r { place = p }) ≡ behind_first (cell_left row.bytes w.line r)
      → OnLine row (passed row.bars.has_any p reached w)
  on-passed p reached near within moved =
      let b = at.line.on.before in
      record {
        before = record { line = b.line; short = b.short; room = b.room; narrow = b.narrow; lie = b.lie; fronts = b.fronts; places = b.places };
        near = near;
        column = omega (arith, few-behind, length-push w.behind p);
        places = subst (λ (n : ℕ). PlacesLie row.bytes (take n row.entries) (w.behind ++ p ∷ [])) (sym (length-push w.behind p))
            (places-push row.bytes row.entries w.behind p r.entry (drop (suc (length w.behind)) row.entries) at.entries within at.line.on.places);
        moved = moved-passed p moved;
      }

  -- what is left behind it: where nothing stands in front of columns, and where something does
  cells-plain : (p : BlockPlace) (reached : ℕ) → row.bars.has_any ≡ false → cells_left row (passed row.bars.has_any p reached w) ≡ cells_behind
  cells-plain p reached is =
      let none : fronts_of row w.line ≡ [] = no-fronts row w.line is in
      let fields = fields_left row (passed row.bars.has_any p reached w) in
      ap (λ (fronts : List Cell). then_fronts (drop (suc (length (w.behind ++ p ∷ []))) fronts) fields) none
      ∙ then-none fields
      ∙ ap (map (cell_left row.bytes w.line)) (left-passed p)
      ∙ ap (λ (fronts : List Cell). with_fronts (drop (suc (length w.behind)) fronts) fields_behind) (sym none)

  cells-boxed : (p : BlockPlace) (reached : ℕ)
      → cells_in_front (length (w.behind ++ p ∷ [])) row (passed row.bars.has_any p reached w) ≡ cells_behind
  cells-boxed p reached =
      ap (λ (n : ℕ). with_fronts (drop n (fronts_of row w.line)) (fields_left row (passed row.bars.has_any p reached w))) (length-push w.behind p)
      ∙ ap (λ (columns : List RowColumn). with_fronts fronts_behind (map (cell_left row.bytes w.line) columns)) (left-passed p)

  -- the last cell that is given has a glyph
  last-passed : LastHasGlyph (one_less w.count) cells_behind
  last-passed = last-behind w.count (cell_left row.bytes w.line r) cells_behind (subst (LastHasGlyph w.count) cells-first at.line.last)

  -- what is known behind it
  record Passed (p : BlockPlace) (reached : ℕ) (next : Next) : Type 0 where
    can : IsUnderWay next row (passed row.bars.has_any p reached w)
    on : IsOn next
    left : row_left next row (passed row.bars.has_any p reached w) ≡ given (one_less w.count) reached cells_behind ++ further_lines row w
    few : row_steps next row (passed row.bars.has_any p reached w) ≤ steps_behind

  boxed-passed : (p : BlockPlace) (reached : ℕ) → OnLine row (passed row.bars.has_any p reached w)
      → suc (length w.behind) < length (row_fronts_of row)
      → Passed p reached (AtFront (length (w.behind ++ p ∷ [])))
  boxed-passed p reached on many = record {
    can = record {
      on = on;
      within = omega (arith, many, length-push w.behind p);
      first = λ _. refl;
      last = subst (LastHasGlyph (one_less w.count)) (sym (cells-boxed p reached)) last-passed;
    };
    on = tt;
    left = ap (λ (cells : List Cell). given (one_less w.count) reached cells ++ further_lines row w) (cells-boxed p reached);
    few = omega (arith, length-push w.behind p, ap (steps_of_columns (most_steps row.bytes)) (entries-passed p));
  }

  next-passed : (t : Bool) (p : BlockPlace) (reached : ℕ) → row.bars.has_any ≡ t → OnLine row (passed row.bars.has_any p reached w)
      → Passed p reached (next_column t (length (w.behind ++ p ∷ [])))
  next-passed false p reached is on =
      let entries = drop (length (w.behind ++ p ∷ [])) row.entries in
      record {
        can = record { on = on; last = subst (LastHasGlyph (one_less w.count)) (sym (cells-plain p reached is)) last-passed };
        on = tt;
        left = ap (λ (cells : List Cell). given (one_less w.count) reached cells ++ further_lines row w) (cells-plain p reached is);
        few = omega (
          arith,
          length-push w.behind p,
          steps-cells (most_steps row.bytes) (front_count row.columns - suc (length (w.behind ++ p ∷ []))) entries,
          ap (steps_of_columns (most_steps row.bytes)) (entries-passed p),
        );
      }
  next-passed true p reached is on =
      boxed-passed p reached on
      (omega (arith, few-behind, at.line.on.before.short, count-fronts row at.line.on.before.fronts is))

  -- a step that passes it
  pub steps-passed : (frame : List ℕ) (before after : KeptPieces) (p : BlockPlace) (reached : ℕ) (added : List ℕ)
      → Adds row.bytes frame 4 before after added → IsNear (one_less w.count) reached → IsWithin (block_text row.bytes r.entry) p
      → cell_left row.bytes (suc w.line) (record r { place = p }) ≡ behind_first (cell_left row.bytes w.line r)
      → row_left w.next row w ≡ (added ++ given (one_less w.count) reached cells_behind) ++ further_lines row w
      → steps_behind < row_steps w.next row w
      → RowSteps frame row w (passed row.bars.has_any p reached w) before after
  steps-passed frame before after p reached added adds near within moved left less =
      let next = next-passed row.bars.has_any p reached refl (on-passed p reached near within moved) in
      record {
        added = added;
        adds = adds-fitting row.bytes frame before after added adds;
        joins = left ∙ append_assoc added (given (one_less w.count) reached cells_behind) (further_lines row w)
            ∙ ap (λ (rest : List ℕ). added ++ rest) (sym next.left);
        on = next.on;
        can = next.can;
        less = omega (arith, less, next.few);
        stays = record { element = refl; above = refl; bars = refl; width = refl; room = refl };
      }

  -- the steps of its cell
  pub steps-cell : w.next ≡ AtCell → row_steps w.next row w ≡ most_steps row.bytes + steps_behind
  steps-cell next =
      let most = most_steps row.bytes in
      let fronts = front_count row.columns - suc (length w.behind) in
      let rest = steps_of_rest row (row.height - suc w.line) in
      let more = steps_of_columns most (drop (suc (length w.behind)) row.entries) in
      let moved : most + (fronts + more) + rest ≡ most + steps_behind = omega arith in
      ap (λ (n : Next). row_steps n row w) next
      ∙ ap (λ (entries : List Entry). steps_of_cells most fronts entries + rest) at.entries
      ∙ moved

  -- a step that passes it from the cell's beginning
  pub cell-passed : (frame : List ℕ) (before after : KeptPieces) (p : BlockPlace) (reached : ℕ) (added : List ℕ) → w.next ≡ AtCell
      → Adds row.bytes frame 4 before after added → IsNear (one_less w.count) reached → IsWithin (block_text row.bytes r.entry) p
      → cell_left row.bytes (suc w.line) (record r { place = p }) ≡ behind_first (cell_left row.bytes w.line r)
      → given w.count w.place (cell_left row.bytes w.line r ∷ cells_behind) ≡ added ++ given (one_less w.count) reached cells_behind
      → RowSteps frame row w (passed row.bars.has_any p reached w) before after
  cell-passed frame before after p reached added next adds near within moved split =
      let left : row_left w.next row w ≡ (added ++ given (one_less w.count) reached cells_behind) ++ further_lines row w =
      ap (λ (n : Next). row_left n row w) next
      ∙ ap (λ (cells : List Cell). given w.count w.place cells ++ further_lines row w) cells-first
      ∙ ap (λ (bytes : List ℕ). bytes ++ further_lines row w) split in
      steps-passed frame before after p reached added adds near within moved left (omega (arith, steps-cell next))

  -- a step that comes to a word
  pub steps-word : (frame : List ℕ) (before after : KeptPieces) (word : BlockWord) (width : ℕ) (p : BlockPlace) (added : List ℕ)
      → Adds row.bytes frame 4 before after added → StandsNext row.bytes word width p r
      → row_left w.next row w ≡ added ++ row_left (AtWord word width p) row (at_word word width p w)
      → (row_steps (AtWord word width p) row w < row_steps w.next row w)
      → RowSteps frame row w (at_word word width p w) before after
  steps-word frame before after word width p added adds stands left less =
      let l = at.line.on in
      let b = l.before in
      record {
        added = added;
        adds = adds-fitting row.bytes frame before after added adds;
        joins = left;
        on = tt;
        can = record {
          line = record {
            on = record {
              before = record { line = b.line; short = b.short; room = b.room; narrow = b.narrow; lie = b.lie; fronts = b.fronts; places = b.places };
              near = l.near;
              column = l.column;
              places = l.places;
              moved = l.moved;
            };
            last = at.line.last;
          };
          next = subst (StandsInFirst row.bytes word width p) (sym at.first) stands;
        };
        less = less;
        stays = record { element = refl; above = refl; bars = refl; width = refl; room = refl };
      }
