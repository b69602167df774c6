-- The cells with which a row begins fit their columns, where its fields do.
use Rattle.std.proofs.Common.{◌≡◌, ℕ, zero, suc, ◌+◌, ◌-◌, List, [], ◌∷◌, ◌++◌, length, drop, get_or, sym, ap, subst, ◌∙◌, arith, drop-drop, get_or-drop}
use Rattle.tbl_format.specs.Format.{FormatRow, columns_of_keys}
use Rattle.tbl_format.specs.FormatRows.{AreWithin}
use Rattle.tbl_format.specs.declared.format.FormatKey.{FormatKey}
use Rattle.tbl_format.specs.declared.format.Key.{Key}
use Rattle.tbl_format.specs.declared.format.Key.TheVariants.{Left as LeftKey}
use Rattle.tbl_layout.specs.Entries.{Above, Block, Content, Repeated, Ruled, Short, Text, field_at}
use Rattle.tbl_layout.specs.EntriesFit.{FieldFits, FieldsFit}
use Rattle.tbl_layout.specs.Spans.{cells_of}
use Rattle.tbl_layout.specs.declared.columns.Column.{Column}
use Rattle.tbl_lines.specs.CellsLeft.{all_keys, keys_behind, own_field}
use Rattle.tbl_laws.specs.PiecesApart.{CellsFit}
use Rattle.tbl_lines.specs.RowsAlone.{alone_from}
use Rattle.tbl_lines.proofs.PlainKeys.{cells-all}

-- a field that would go on with the cell above it is none of its own
own-fits : (f : Content) (c : Column) (key : Key) → FieldFits c key f → FieldFits c key (own_field f)
own-fits (Text bytes) c key fits = fits
own-fits (Block measure lines) c key fits = fits
own-fits (Ruled sign) c key fits = fits
own-fits Short c key fits = fits
own-fits (Repeated b) c key fits = fits
own-fits Above c key fits = record { entry = tt; widest = fits.widest }

module _ (fields : List Content) where
  first-field : (cell : ℕ) → field_at (drop cell fields) 0 ≡ field_at fields cell
  first-field cell =
      let same : cell + 0 ≡ cell = omega arith in
      get_or-drop cell fields 0 (Text []) ∙ ap (λ (n : ℕ). get_or fields n (Text [])) same

  next-fields : (cell : ℕ) → drop 1 (drop cell fields) ≡ drop (suc cell) fields
  next-fields cell =
      let same : cell + 1 ≡ suc cell = omega arith in drop-drop 1 cell fields ∙ ap (λ (n : ℕ). drop n fields) same

  first-fits : (cell : ℕ) (c : Column) (key : Key) → FieldFits c key (field_at (drop cell fields) 0)
      → FieldFits c key (own_field (field_at fields cell))
  first-fits cell c key fits = own-fits (field_at fields cell) c key (subst (FieldFits c key) (first-field cell) fits)

  behind-fit : (count bars column cell : ℕ) (columns : List Column) → FieldsFit [] (drop cell fields) columns
      → CellsFit (alone_from 0 cell (keys_behind count bars column) fields) columns
  behind-fit zero bars column cell columns fit = tt
  behind-fit (suc count) bars column cell [] fit = tt
  behind-fit (suc count) bars column cell (c ∷ columns) fit = (
    first-fits cell c LeftKey fit.0,
    behind-fit count 0 (suc column) (suc cell) columns (subst (λ (fs : List Content). FieldsFit [] fs columns) (next-fields cell) fit.1),
  )

  keys-fit : (keys : List FormatKey) (count bars column cell : ℕ) (columns : List Column) → FieldsFit keys (drop cell fields) columns
      → CellsFit (alone_from 0 cell (keys ++ keys_behind count bars column) fields) columns
  keys-fit [] count bars column cell columns fit = behind-fit count bars column cell columns fit
  keys-fit (k ∷ keys) count bars column cell [] fit = tt
  keys-fit (k ∷ keys) count bars column cell (c ∷ columns) fit = (
    first-fits cell c k.key fit.0,
    keys-fit keys count bars column (suc cell) columns (subst (λ (fs : List Content). FieldsFit keys fs columns) (next-fields cell) fit.1),
  )

pub cells-begin : (columns : List Column) (format : FormatRow) (fields : List Content) → AreWithin (length columns) format.keys
    → FieldsFit format.keys fields (cells_of format.keys columns)
    → CellsFit (alone_from 0 0 (all_keys (length columns) format) fields) (cells_of (all_keys (length columns) format) columns)
cells-begin columns format fields within fit =
    let own = columns_of_keys format.keys in
    subst (CellsFit (alone_from 0 0 (all_keys (length columns) format) fields)) (sym (cells-all columns format within))
    (keys-fit fields format.keys (length columns - own) format.bars own 0 (cells_of format.keys columns) fit)
