-- Cells with the keys of all cells of a row cover the table's columns.
use Rattle.std.proofs.Common.{◌≡◌, ℕ, zero, suc, ◌+◌, ◌-◌, ◌<◌, ◌≤◌, List, [], ◌∷◌, ◌++◌, length, map, get_or, refl, sym, ap, subst, ◌∙◌, arith}
use Rattle.tbl_format.proofs.CellColumns.{columns_behind, columns_of-behind}
use Rattle.tbl_format.specs.Cells.{AreCells}
use Rattle.tbl_format.specs.Format.{FormatRow, columns_of_keys}
use Rattle.tbl_format.specs.FormatRows.{AreWithin}
use Rattle.tbl_format.specs.declared.format.FormatKey.{FormatKey}
use Rattle.tbl_lines.specs.CellsLeft.{Left, all_keys, keys_behind}
use Rattle.tbl_lines.specs.PictureLines.{Sheet}
use Rattle.tbl_tall.specs.Bands.{BandHasRoom}
use Rattle.tbl_line_cells.specs.LinesDrawn.{keys_in, LineHasRoom}
use Rattle.tbl_line_cells.specs.KeptCells.{AllLeft}
use Rattle.tbl_tall.specs.RowsNext.{HasKeys}
use Rattle.tbl_tall.specs.TallRows.{HaveKeys, KeptTall, RowStands}
use Rattle.tbl_tall.specs.declared.band.Band.{Band}
use Rattle.tbl_line_cells.specs.declared.cells.CellLeft.{CellLeft}
use Rattle.tbl_line_cells.specs.declared.line_cells.LineCells.{LineCells}

-- keys behind others
cells-append : (from : ℕ) (keys more : List FormatKey) → AreCells from keys → AreCells (columns_behind from keys) more → AreCells from (keys ++ more)
cells-append from [] more cells behind = behind
cells-append from (k ∷ keys) more cells behind = (cells.0, cells-append k.end keys more cells.1 behind)

columns-append : (from : ℕ) (keys more : List FormatKey) → columns_behind from (keys ++ more) ≡ columns_behind (columns_behind from keys) more
columns-append from [] more = refl
columns-append from (k ∷ keys) more = columns-append k.end keys more

cells-behind : (count bars column : ℕ) → AreCells column (keys_behind count bars column)
cells-behind zero bars column = tt
cells-behind (suc count) bars column =
    let next : column + 1 ≡ suc column = omega arith in
    (omega arith, subst (λ (n : ℕ). AreCells n (keys_behind count 0 (suc column))) (sym next) (cells-behind count 0 (suc column)))

columns-behind : (count bars column : ℕ) → columns_behind column (keys_behind count bars column) ≡ column + count
columns-behind zero bars column = omega arith
columns-behind (suc count) bars column =
    let next : column + 1 ≡ suc column = omega arith in
    ap (λ (n : ℕ). columns_behind n (keys_behind count 0 (suc column))) next ∙ columns-behind count 0 (suc column) ∙ omega arith

-- those of all cells of a row cover the columns
pub all-cells : (columns : ℕ) (format : FormatRow) → AreWithin columns format.keys → AreCells 0 (all_keys columns format)
all-cells columns format within =
    let own = columns_of_keys format.keys in
    cells-append 0 format.keys (keys_behind (columns - own) format.bars own) within.cells
    (subst (λ (n : ℕ). AreCells n (keys_behind (columns - own) format.bars own)) (columns_of-behind format.keys) (cells-behind (columns - own) format.bars own))

pub all-columns : (columns : ℕ) (format : FormatRow) → AreWithin columns format.keys → columns_of_keys (all_keys columns format) ≡ columns
all-columns columns format within =
    let own = columns_of_keys format.keys in
    let more = keys_behind (columns - own) format.bars own in
    let last : own + (columns - own) ≡ columns = omega (arith, within.short) in
    columns_of-behind (all_keys columns format) ∙ columns-append 0 format.keys more
    ∙ ap (λ (n : ℕ). columns_behind n more) (sym (columns_of-behind format.keys)) ∙ columns-behind (columns - own) format.bars own ∙ last

-- and so do the cells that have them
has-cells : (from : ℕ) (cells : List CellLeft) (keys : List FormatKey) → HasKeys cells keys → AreCells from keys → AreCells from (keys_in cells)
has-cells from [] keys has cover = tt
has-cells from (c ∷ cells) [] has cover = absurd has
has-cells from (c ∷ cells) (k ∷ keys) has cover =
    (omega (arith, has.0.end, cover.0), subst (λ (n : ℕ). AreCells n (keys_in cells)) (sym has.0.end) (has-cells k.end cells keys has.1 cover.1))

has-columns : (from : ℕ) (cells : List CellLeft) (keys : List FormatKey) → HasKeys cells keys → columns_behind from (keys_in cells) ≡ columns_behind from keys
has-columns from [] [] has = refl
has-columns from [] (k ∷ keys) has = absurd has
has-columns from (c ∷ cells) [] has = absurd has
has-columns from (c ∷ cells) (k ∷ keys) has = ap (λ (n : ℕ). columns_behind n (keys_in cells)) has.0.end ∙ has-columns k.end cells keys has.1

-- cells that cover so many columns
pub record Cover (columns : ℕ) (cells : List CellLeft) : Type 0 where
  pub order : AreCells 0 (keys_in cells)
  pub all : columns_of_keys (keys_in cells) ≡ columns

pub cover-all : (columns : ℕ) (format : FormatRow) (cells : List CellLeft) → AreWithin columns format.keys → HasKeys cells (all_keys columns format)
    → Cover columns cells
cover-all columns format cells within has = record {
  order = has-cells 0 cells (all_keys columns format) has (all-cells columns format within);
  all = columns_of-behind (keys_in cells) ∙ has-columns 0 cells (all_keys columns format) has ∙ sym (columns_of-behind (all_keys columns format))
      ∙ all-columns columns format within;
}

pub cover-some : (columns : ℕ) (cells : List CellLeft) → Cover columns cells → 0 < columns → 0 < length cells
cover-some columns [] cover some = absurd (omega (arith, cover.all, some))
cover-some columns (c ∷ cells) cover some = omega arith

-- what is left of cells has their keys
first-of : {x y : ℕ} {xs ys : List ℕ} → x ∷ xs ≡ y ∷ ys → x ≡ y
first-of is = ap (λ (ns : List ℕ). get_or ns 0 0) is

abbrev others_of : List ℕ → List ℕ
others_of [] = []
others_of (n ∷ ns) = ns

rest-of : {x y : ℕ} {xs ys : List ℕ} → x ∷ xs ≡ y ∷ ys → xs ≡ ys
rest-of is = ap others_of is

pub left-has : (bytes : List ℕ) (cells : List CellLeft) (lefts : List Left) (keys : List FormatKey) → AllLeft bytes cells lefts
    → map (λ (c : Left). c.key.bars) lefts ≡ map (λ (k : FormatKey). k.bars) keys
    → map (λ (c : Left). c.key.end) lefts ≡ map (λ (k : FormatKey). k.end) keys → HasKeys cells keys
left-has bytes [] [] [] all bars ends = tt
left-has bytes [] [] (k ∷ keys) all bars ends = absurd cc
left-has bytes [] (l ∷ lefts) keys all bars ends = absurd all
left-has bytes (c ∷ cells) [] keys all bars ends = absurd all
left-has bytes (c ∷ cells) (l ∷ lefts) [] all bars ends = absurd cc
left-has bytes (c ∷ cells) (l ∷ lefts) (k ∷ keys) all bars ends = (
  record {
    bars = ap (λ (j : FormatKey). j.bars) all.0.key ∙ first-of bars;
    end = ap (λ (j : FormatKey). j.end) all.0.key ∙ first-of ends;
  },
  left-has bytes cells lefts keys all.1 (rest-of bars) (rest-of ends),
)

pub stands-cover : {bytes : List ℕ} {s : Sheet} {t : KeptTall} {format : FormatRow} {cells : List Left} {lines : ℕ}
    → RowStands bytes s t format cells lines → Cover (length s.columns) t.cells
stands-cover {bytes} {s} {t} {format} {cells} stands =
    let has = left-has bytes t.cells cells (all_keys (length s.columns) format) stands.left stands.keys.bars stands.keys.ends in
    cover-all (length s.columns) format t.cells stands.within has

-- and covers the columns
left-cells : (from : ℕ) (lefts : List Left) (keys : List FormatKey) → map (λ (c : Left). c.key.end) lefts ≡ map (λ (k : FormatKey). k.end) keys
    → AreCells from keys → AreCells from (map (λ (c : Left). c.key) lefts)
left-cells from [] keys ends cells = tt
left-cells from (l ∷ lefts) [] ends cells = absurd cc
left-cells from (l ∷ lefts) (k ∷ keys) ends cells =
    let same : l.key.end ≡ k.end = first-of ends in (
      omega (arith, same, cells.0),
      subst (λ (n : ℕ). AreCells n (map (λ (c : Left). c.key) lefts)) (sym same)
          (left-cells k.end lefts keys (rest-of ends) cells.1),
    )

left-columns : (from : ℕ) (lefts : List Left) (keys : List FormatKey) → map (λ (c : Left). c.key.end) lefts ≡ map (λ (k : FormatKey). k.end) keys
    → columns_behind from (map (λ (c : Left). c.key) lefts) ≡ columns_behind from keys
left-columns from [] [] ends = refl
left-columns from [] (k ∷ keys) ends = absurd cc
left-columns from (l ∷ lefts) [] ends = absurd cc
left-columns from (l ∷ lefts) (k ∷ keys) ends =
    ap (λ (n : ℕ). columns_behind n (map (λ (c : Left). c.key) lefts)) (first-of ends) ∙ left-columns k.end lefts keys (rest-of ends)

pub lefts-order : (columns : ℕ) (format : FormatRow) (lefts : List Left) → AreWithin columns format.keys → HaveKeys lefts (all_keys columns format)
    → AreCells 0 (map (λ (c : Left). c.key) lefts)
lefts-order columns format lefts within have = left-cells 0 lefts (all_keys columns format) have.ends (all-cells columns format within)

pub lefts-all : (columns : ℕ) (format : FormatRow) (lefts : List Left) → AreWithin columns format.keys → HaveKeys lefts (all_keys columns format)
    → columns_of_keys (map (λ (c : Left). c.key) lefts) ≡ columns
lefts-all columns format lefts within have =
    columns_of-behind (map (λ (c : Left). c.key) lefts) ∙ left-columns 0 lefts (all_keys columns format) have.ends
    ∙ sym (columns_of-behind (all_keys columns format)) ∙ all-columns columns format within

-- room for as many columns is room for fewer
pub fewer-room : {b : Band} {columns most : ℕ} → BandHasRoom b most → columns ≤ most → BandHasRoom b columns
fewer-room room few = record {
  through = omega (arith, few, room.through);
  above = omega (arith, few, room.above);
  below = omega (arith, few, room.below);
  counts = omega (arith, few, room.counts);
}

pub fewer-line : {c : LineCells} {columns most : ℕ} → LineHasRoom most c → columns ≤ most → LineHasRoom columns c
fewer-line room few = record {
  signs = omega (arith, few, room.signs);
  cells = omega (arith, few, room.cells);
  cut = omega (arith, few, room.cut);
  fronts = omega (arith, few, room.fronts);
  columns = omega (arith, few, room.columns);
  keys = omega (arith, few, room.keys);
  entries = omega (arith, few, room.entries);
  places = omega (arith, few, room.places);
}
