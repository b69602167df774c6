-- Cells that cover the columns of a table and fit them do so behind a line, too.
use Rattle.std.proofs.Common.{◌≡◌, ℕ, ◌-◌, ◌≤◌, Bool, true, false, ◌==◌, List, [], ◌∷◌, drop, map, refl, sym, ap, subst, ◌∙◌, arith, if◌then◌else◌}
use Rattle.tbl_format.specs.Cells.{AreCells}
use Rattle.tbl_format.specs.Format.{columns_of_keys}
use Rattle.tbl_format.specs.declared.format.FormatKey.{FormatKey}
use Rattle.tbl_layout.specs.Entries.{Above, Block, Content, Repeated, Ruled, Short, Text}
use Rattle.tbl_layout.specs.Spans.{cells_of}
use Rattle.tbl_layout.specs.declared.columns.Column.{Column}
use Rattle.tbl_lines.specs.CellsLeft.{Left, behind_line, goes_on, rest_by}
use Rattle.tbl_lines.specs.LinesLeft.{first_bars}
use Rattle.tbl_lines.specs.PictureLeft.{through_rule}
use Rattle.tbl_laws.specs.PiecesApart.{BarsFitRow, BarsPlaced, CellsCover, CellsFit, Fits, Stay}
use Rattle.tbl_lines.specs.PictureLines.{Sheet}
use Rattle.tbl_lines.specs.RulePlaces.{bars_behind}

abbrev keys_of : List Left → List FormatKey
keys_of cells = map (λ (c : Left). c.key) cells

-- what changes a cell, but keeps its key, and what fits its columns fits them still
module _ (f : Left → Left) (same : (c : Left) → (f c).key ≡ c.key) (fits : (own : Left) (c : Column) → Fits own c → Fits (f own) c) where
  keys-same : (cells : List Left) → keys_of (map f cells) ≡ keys_of cells
  keys-same [] = refl
  keys-same (own ∷ cells) =
      ap (λ (k : FormatKey). k ∷ keys_of (map f cells)) (same own) ∙ ap (λ (ks : List FormatKey). own.key ∷ ks) (keys-same cells)

  fit-same : (cells : List Left) (columns : List Column) → CellsFit cells columns → CellsFit (map f cells) columns
  fit-same [] columns fit = tt
  fit-same (own ∷ cells) [] fit = tt
  fit-same (own ∷ cells) (c ∷ columns) fit = (fits own c fit.0, fit-same cells columns fit.1)

  pub cover-same : (s : Sheet) (cells : List Left) → CellsCover s cells → CellsCover s (map f cells)
  cover-same s cells cover =
      let keys = keys-same cells in record {
        order = subst (AreCells 0) (sym keys) cover.order;
        all = ap columns_of_keys keys ∙ cover.all;
        fit = subst (λ (ks : List FormatKey). CellsFit (map f cells) (cells_of ks s.columns)) (sym keys)
            (fit-same cells (cells_of (keys_of cells) s.columns) cover.fit);
      }

  first-same : (cells : List Left) → first_bars (map f cells) ≡ first_bars cells
  first-same [] = refl
  first-same (own ∷ cells) = ap (λ (k : FormatKey). k.bars) (same own)

  placed-same : (from : ℕ) (cells : List Left) (columns : List Column) → BarsPlaced from cells columns → BarsPlaced from (map f cells) columns
  placed-same from [] columns placed = tt
  placed-same from (own ∷ cells) columns placed =
      subst (λ (k : FormatKey). (first_bars (map f cells) ≤ bars_behind columns (k.end - from - 1))
      × BarsPlaced k.end (map f cells) (drop (k.end - from) columns)) (sym (same own)) (
        omega (arith, placed.0, first-same cells),
        placed-same own.key.end cells (drop (own.key.end - from) columns) placed.1,
      )

  pub bars-same : (s : Sheet) (last : ℕ) (cells : List Left) → BarsFitRow s last cells → BarsFitRow s last (map f cells)
  bars-same s last cells bars = record {
    left = omega (arith, bars.left, first-same cells);
    between = placed-same 0 cells s.columns bars.between;
    right = bars.right;
  }

-- behind a line
rest-key : (field : Content) (c : Left) → (rest_by field c).key ≡ c.key
rest-key (Text bytes) c = refl
rest-key (Block measure lines) c = refl
rest-key (Ruled sign) c = refl
rest-key Short c = refl
rest-key (Repeated b) c = refl
rest-key Above c = refl

key-by : (t : Bool) (c : Left) → (if t then rest_by c.field c else record c { lead = c.lead - 1 }).key ≡ c.key
key-by true c = rest-key c.field c
key-by false c = refl

behind-key : (c : Left) → (behind_line c).key ≡ c.key
behind-key c = key-by (c.lead == 0) c

rest-fits : (field : Content) (own : Left) (c : Column) → Fits own c → Fits (rest_by field own) c
rest-fits (Text bytes) own c fits = record { entry = tt; widest = fits.widest }
rest-fits (Block measure lines) own c fits = record { entry = fits.entry; widest = fits.widest }
rest-fits (Ruled sign) own c fits = record { entry = tt; widest = fits.widest }
rest-fits Short own c fits = record { entry = tt; widest = fits.widest }
rest-fits (Repeated b) own c fits = record { entry = tt; widest = fits.widest }
rest-fits Above own c fits = record { entry = tt; widest = fits.widest }

fits-by : (t : Bool) (own : Left) (c : Column) → Fits own c → Fits (if t then rest_by own.field own else record own { lead = own.lead - 1 }) c
fits-by true own c fits = rest-fits own.field own c fits
fits-by false own c fits = record { entry = fits.entry; widest = fits.widest }

behind-fits : (own : Left) (c : Column) → Fits own c → Fits (behind_line own) c
behind-fits own c fits = fits-by (own.lead == 0) own c fits

-- and behind a line of rules
through-by : (t : Bool) (c : Left) → (if t then behind_line c else c).key ≡ c.key
through-by true c = behind-key c
through-by false c = refl

through-key : (c : Left) → (through_rule c).key ≡ c.key
through-key c = through-by (goes_on c) c

through-fits-by : (t : Bool) (own : Left) (c : Column) → Fits own c → Fits (if t then behind_line own else own) c
through-fits-by true own c fits = behind-fits own c fits
through-fits-by false own c fits = fits

through-fits : (own : Left) (c : Column) → Fits own c → Fits (through_rule own) c
through-fits own c fits = through-fits-by (goes_on own) own c fits

pub cells-stay : (s : Sheet) (last : ℕ) (cells : List Left) → CellsCover s cells → BarsFitRow s last cells → Stay s last cells
cells-stay s last cells cover bars = record {
  cover = cover-same behind_line behind-key behind-fits s cells cover;
  bars = bars-same behind_line behind-key behind-fits s last cells bars;
  cover_through = cover-same through_rule through-key through-fits s cells cover;
  bars_through = bars-same through_rule through-key through-fits s last cells bars;
}
