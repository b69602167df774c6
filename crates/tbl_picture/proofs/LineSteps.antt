-- What a step does that begins or ends a line of a row.
use Rattle.std.proofs.Common.{◌≡◌, ◌≢◌, ℕ, suc, ◌+◌, ◌-◌, ◌<◌, ◌≤◌, Bool, true, false, List, [], ◌∷◌, ◌++◌, length, take, drop, map, refl, sym, ap, subst, ◌∙◌, arith, append_assoc, codes, nat_eq, eqb-true, take_all}
use Rattle.std.proofs.lemmas.Bool.{eqb-false}
use Rattle.std.proofs.lemmas.List.{drop_all, length-map}
use Rattle.input_source.specs.Bytes.{newline}
use Rattle.tbl_layout.specs.Entries.{up_to_last_glyph}
use Rattle.tbl_layout.specs.declared.entry.Entry.{Entry}
use Rattle.tbl_lines.specs.PictureLines.{Cell, lines_from, with_fronts, written}
use Rattle.tbl_pieces.specs.PieceQueue.{Adds, KeptPieces}
use Rattle.tbl_lines.specs.RowsLeft.{behind_first, cell_left, from_line, given, row_columns, then_fronts}
use Rattle.tbl_lines.specs.RowsWalked.{AreGlyphless, LastHasGlyph, PlacesLie, front_count, most_steps, steps_of_cells, steps_of_columns}
use Rattle.tbl_picture.specs.Walks.{BeforeLine, HasFronts, InLine, IsNear, IsOn, IsUnderWay, KeptWalk, OnLine, RowEndsOrGoesOn, RowSteps, WalkedRow, row_fronts_of, cells_left, cells_now, columns_left, columns_walked, fields_now, fronts_of, further_lines, line_cells, next_column, row_left, row_steps, steps_of_rest}
use Rattle.tbl_lines.specs.declared.row_columns.RowColumn.{RowColumn}
use Rattle.tbl_picture.specs.Nexts.{AtCell, AtFront, AtLine, Next}
use Rattle.tbl_pieces.proofs.Adding.{adds-fitting}
use Rattle.tbl_picture.proofs.ColumnSteps.{steps-cells, then-none}
use Rattle.tbl_picture.proofs.PlaceReached.{near-begun}
use Rattle.tbl_lines.proofs.FrontCells.{count-fronts, fronts-next, length-fronts, map-fronts, no-fronts}
use Rattle.tbl_lines.proofs.RowColumns.{length-row_columns, none-left}
use Rattle.tbl_lines.proofs.RunsGiven.{line-given, lines-behind}

-- how many cells there are at the most, with what stands in front of them
few-by : (t : Bool) (row : WalkedRow) (line : ℕ) → row.bars.has_any ≡ t → HasFronts row → length (fronts_of row line) ≤ front_count row.columns
few-by false row line none has = omega (arith, ap length (no-fronts row line none))
few-by true row line any has = omega (arith, length-map (row_fronts_of row) (from_line line), count-fronts row has any)

few-cells : (row : WalkedRow) (w : KeptWalk) → BeforeLine row w → length row.columns < 4294967296
    → length (cells_now row w) ≤ 4611686018427387904
few-cells row w b small =
    omega (
      arith,
      small,
      b.short,
      length-fronts (fronts_of row w.line) (fields_now row w),
      few-by row.bars.has_any row w.line refl b.fronts,
      length-map (columns_walked row w) (cell_left row.bytes w.line),
      length-row_columns row.bars.boxing row.format row.bytes 0 row.columns row.entries w.places b.short b.places,
    )

-- a line begins, of which so many cells are given
abbrev pub line_begun : Bool → ℕ → KeptWalk → KeptWalk
line_begun has_bars count w = record w { count = count; place = 0; next = next_column has_bars 0; behind = [] }

module _ (row : WalkedRow) (w : KeptWalk) (count : ℕ) (b : BeforeLine row w) (near : IsNear count 0) (last : LastHasGlyph count (cells_now row w)) where
  on-begun : OnLine row (line_begun row.bars.has_any count w)
  on-begun = record {
    before = record { line = b.line; short = b.short; room = b.room; narrow = b.narrow; lie = b.lie; fronts = b.fronts; places = b.places };
    near = near;
    column = omega arith;
    places = tt;
    moved = ap (map (cell_left row.bytes (suc w.line))) (none-left row.bars.boxing row.format 0 row.columns row.entries);
  }

  -- nothing stands in front of columns
  cells-plain : row.bars.has_any ≡ false → cells_left row (line_begun row.bars.has_any count w) ≡ cells_now row w
  cells-plain is =
      let none : fronts_of row w.line ≡ [] = no-fronts row w.line is in
      ap (λ (fronts : List Cell). then_fronts (drop 1 fronts) (fields_now row w)) none
      ∙ then-none (fields_now row w)
      ∙ ap (λ (fronts : List Cell). with_fronts fronts (fields_now row w)) (sym none)

  -- what is known of the line
  record Begun (next : Next) : Type 0 where
    can : IsUnderWay next row (line_begun row.bars.has_any count w)
    on : IsOn next
    left : row_left next row (line_begun row.bars.has_any count w) ≡ given count 0 (cells_now row w) ++ further_lines row w
    few : row_steps next row (line_begun row.bars.has_any count w)
        ≤ front_count row.columns + steps_of_columns (most_steps row.bytes) row.entries + steps_of_rest row (row.height - suc w.line)

  boxed-begun : row.bars.has_any ≡ true → Begun (AtFront 0)
  boxed-begun is = record {
    can = record {
      on = on-begun;
      within = omega (arith, count-fronts row b.fronts is);
      first = λ _. refl;
      last = last;
    };
    on = tt;
    left = refl;
    few = omega arith;
  }

  next-begun : (t : Bool) → row.bars.has_any ≡ t → Begun (next_column t 0)
  next-begun false is = record {
    can = record { on = on-begun; last = subst (LastHasGlyph count) (sym (cells-plain is)) last };
    on = tt;
    left = ap (λ (cells : List Cell). given count 0 cells ++ further_lines row w) (cells-plain is);
    few = omega (arith, steps-cells (most_steps row.bytes) (front_count row.columns - 1) row.entries);
  }
  next-begun true is = boxed-begun is

module _ (row : WalkedRow) (w : KeptWalk) (frame : List ℕ) (before after : KeptPieces) where
  pub begun-line : (count : ℕ) → w.next ≡ AtLine → BeforeLine row w → length row.columns < 4294967296 → count ≤ length (cells_now row w)
      → LastHasGlyph count (cells_now row w) → AreGlyphless (drop count (cells_now row w))
      → Adds row.bytes frame 4 before after (codes "\\&")
      → RowSteps frame row w (line_begun row.bars.has_any count w) before after
  begun-line count next b small many last none adds =
      let cells = cells_now row w in
      let n = row.height - suc w.line in
      let more : row.height - w.line ≡ suc n = omega (arith, b.line) in
      let line = up_to_last_glyph (written 0 0 cells) in
      let rest = lines_from 0 n (map behind_first cells) in
      let near = near-begun count (length cells) many (few-cells row w b small) in
      let begun = next-begun row w count b near last row.bars.has_any refl in
      let old_steps : row_steps w.next row w
      ≡ suc (front_count row.columns + steps_of_columns (most_steps row.bytes) row.entries) + steps_of_rest row n =
      ap (λ (x : Next). row_steps x row w) next ∙ ap (steps_of_rest row) more in
      record {
        added = codes "\\&";
        adds = adds-fitting row.bytes frame before after (codes "\\&") adds;
        joins =
            ap (λ (x : Next). row_left x row w) next
            ∙ ap (λ (k : ℕ). lines_from 0 k cells) more
            ∙ ap (λ (behind : List ℕ). (codes "\\&" ++ (line ++ newline ∷ [])) ++ behind) (lines-behind 0 n cells)
            ∙ ap (λ (bytes : List ℕ). codes "\\&" ++ bytes) (append_assoc line (newline ∷ []) rest)
            ∙ ap (λ (bytes : List ℕ). codes "\\&" ++ (bytes ++ newline ∷ rest)) (sym (line-given count 0 cells many last none))
            ∙ ap (λ (bytes : List ℕ). codes "\\&" ++ bytes) (sym begun.left);
        on = begun.on;
        can = begun.can;
        less = omega (arith, old_steps, begun.few);
        stays = record { element = refl; above = refl; bars = refl; width = refl; room = refl };
      }

  -- a line ends
  module _ (next : w.next ≡ AtCell) (l : InLine row w) (all : length w.behind ≡ length row.entries)
      (adds : Adds row.bytes frame 4 before after (newline ∷ [])) where
    many-columns : length (columns_walked row w) ≡ length row.entries
    many-columns = length-row_columns row.bars.boxing row.format row.bytes 0 row.columns row.entries w.places l.on.before.short l.on.before.places

    none-left-now : columns_left row w ≡ []
    none-left-now = drop_all (length w.behind) (columns_walked row w) (omega (arith, all, many-columns))

    left-now : row_left w.next row w ≡ further_lines row w
    left-now =
        let fronts = drop (suc (length w.behind)) (fronts_of row w.line) in
        ap (λ (x : Next). row_left x row w) next
        ∙ ap (λ (cs : List RowColumn). given w.count w.place (then_fronts fronts (map (cell_left row.bytes w.line) cs)) ++ further_lines row w) none-left-now

    entries-all : take (length w.behind) row.entries ≡ row.entries
    entries-all = take_all (length w.behind) row.entries (omega (arith, all))

    fields-all : map (cell_left row.bytes (suc w.line)) (row_columns row.bars.boxing row.format 0 row.columns row.entries w.behind)
        ≡ map behind_first (fields_now row w)
    fields-all = l.on.moved ∙ take_all (length w.behind) (map behind_first (fields_now row w))
        (omega (arith, all, many-columns, length-map (fields_now row w) behind_first, length-map (columns_walked row w) (cell_left row.bytes w.line)))

    -- the cells of the next line
    moved-all : map behind_first (cells_now row w) ≡ line_cells row (suc w.line) w.behind
    moved-all =
        map-fronts behind_first (fronts_of row w.line) (fields_now row w)
        ∙ ap (λ (fronts : List Cell). with_fronts fronts (map behind_first (fields_now row w)))
        (fronts-next w.line (row_fronts_of row))
        ∙ ap (with_fronts (fronts_of row (suc w.line))) (sym fields-all)

    next-is : w.line + 1 ≡ suc w.line
    next-is = omega arith

    pub ended-by : (t : Bool) → nat_eq (w.line + 1) row.height ≡ t
        → RowEndsOrGoesOn t frame row w (record w { line = w.line + 1; next = AtLine; places = w.behind; behind = w.places }) before after
    ended-by true is =
        let none : row.height - suc w.line ≡ 0 = omega (arith, eqb-true (w.line + 1) row.height is) in
        record {
          added = newline ∷ [];
          adds = adds-fitting row.bytes frame before after (newline ∷ []) adds;
          all = left-now ∙ ap (λ (n : ℕ). newline ∷ lines_from 0 n (map behind_first (cells_now row w))) none;
          stays = record { element = refl; above = refl; bars = refl; width = refl; room = refl };
        }
    ended-by false is =
        let b = l.on.before in
        let n = row.height - suc w.line in
        let other : w.line + 1 ≢ row.height = eqb-false (w.line + 1) row.height is in
        let most = most_steps row.bytes in
        let fronts = front_count row.columns - suc (length w.behind) in
        let old_steps : row_steps w.next row w ≡ 1 + steps_of_rest row n =
        ap (λ (x : Next). row_steps x row w) next
        ∙ ap (λ (entries : List Entry). steps_of_cells most fronts entries + steps_of_rest row n)
        (drop_all (length w.behind) row.entries (omega (arith, all))) in
        record {
          added = newline ∷ [];
          adds = adds-fitting row.bytes frame before after (newline ∷ []) adds;
          joins =
              left-now
              ∙ ap (λ (cells : List Cell). newline ∷ lines_from 0 n cells) moved-all
              ∙ ap (λ (k : ℕ). newline ∷ lines_from 0 (row.height - k) (line_cells row k w.behind)) (sym next-is);
          on = tt;
          can = record {
            line = omega (arith, b.line, other);
            short = b.short;
            room = b.room;
            narrow = b.narrow;
            lie = b.lie;
            fronts = b.fronts;
            places = subst (λ (entries : List Entry). PlacesLie row.bytes entries w.behind) entries-all l.on.places;
          };
          less = omega (arith, old_steps, ap (λ (k : ℕ). steps_of_rest row (row.height - k)) next-is);
          stays = record { element = refl; above = refl; bars = refl; width = refl; room = refl };
        }
