-- What has room in the columns of a picture, where they have their widths and their places (Lesk, "Tbl": Format).
use Rattle.std.specs.Prelude.{◌≡◌, ℕ, suc, ◌+◌, ◌<◌, ◌≤◌, Bool, List, [], ◌∷◌, length, take, drop, Contains, ⊤}
use Rattle.tbl_format.specs.Format.{spanning}
use Rattle.tbl_format.specs.declared.format.Asked.{Asked}
use Rattle.tbl_format.specs.declared.format.FormatKey.{FormatKey}
use Rattle.tbl_format.specs.declared.format.Key.{Key}
use Rattle.tbl_format.specs.declared.format.Key.TheVariants.{Left}
use Rattle.tbl_layout.specs.Columns.{Holds, entries_of, stands, widest_entry}
use Rattle.tbl_layout.specs.Entries.{Content, Element, field_at}
use Rattle.tbl_layout.specs.Spans.{Wide, all_wide, as_one, filled, laid}
use Rattle.tbl_layout.specs.declared.bars.Bars.{Bars}
use Rattle.tbl_layout.specs.declared.columns.Column.{Column}
use Rattle.tbl_layout.specs.declared.columns.Stands.{Stands}
use Rattle.tbl_layout.specs.declared.columns.Stands.TheVariants.{Alone, Apart, InStrip, Nowhere}

-- each column, from one on, is wide enough for what is asked of it and for its own entries
abbrev pub EachHolds : List Element → ℕ → List Asked → List Column → Type 0
EachHolds elements column [] columns = ⊤
EachHolds elements column (a ∷ asked) [] = ⊥
EachHolds elements column (a ∷ asked) (c ∷ columns) = Holds a (entries_of column elements) c.width × EachHolds elements (suc column) asked columns

-- each of some entries that lies in these columns fits its own as one
pub record FitAsOne (entries : List Wide) (columns : List Column) : Type 0 where
  pub each : (w : Wide) → Contains entries w → 0 < w.count → w.from + w.count ≤ length columns
      → w.width ≤ (as_one (take w.count (drop w.from columns))).width

-- all entries of a table have room in its columns: those of one column, and those of several
pub record EntriesFit (bars : Bars) (is_expanded : Bool) (line_length : ℕ) (asked : List Asked) (elements : List Element) : Type 0 where
  pub own : EachHolds (filled bars line_length asked elements) 0 asked (laid bars is_expanded line_length asked elements).columns
  pub wide : FitAsOne (all_wide (filled bars line_length asked elements)) (laid bars is_expanded line_length asked elements).columns

-- a column, or those of a cell as one, have room for an entry where its key puts it: for one that is split beside all others that are
abbrev pub HasRoomFor : Column → Stands → Type 0
HasRoomFor c (Alone columns) = columns ≤ c.width
HasRoomFor c (InStrip columns) = (columns + 1 ≤ c.needs.strip) × (c.needs.strip ≤ c.width)
HasRoomFor c (Apart left right) = (left ≤ c.needs.left) × (right ≤ c.needs.right) × (c.needs.left + c.needs.right ≤ c.width)
HasRoomFor c Nowhere = ⊤

-- a field fits its cell, whose columns are one, and so does a rule as wide as the widest entry of the first of them
pub record FieldFits (c : Column) (key : Key) (field : Content) : Type 0 where
  pub entry : HasRoomFor c (stands key field)
  pub widest : widest_entry c.needs ≤ c.width

-- the fields of a row fit its cells, of which the first ones are under these keys
abbrev pub FieldsFit : List FormatKey → List Content → List Column → Type 0
FieldsFit keys fields [] = ⊤
FieldsFit [] fields (c ∷ columns) = FieldFits c Left (field_at fields 0) × FieldsFit [] (drop 1 fields) columns
FieldsFit (k ∷ keys) fields (c ∷ columns) = FieldFits c k.key (field_at fields 0) × FieldsFit keys (drop 1 fields) columns

-- cells of several columns have no key of a single one, as `n` and `a` are: the first of these begins behind so many columns
abbrev pub HaveWideKeys : ℕ → List FormatKey → Type 0
HaveWideKeys from [] = ⊤
HaveWideKeys from (k ∷ keys) = (from + 1 < k.end → spanning k.key ≡ k.key) × HaveWideKeys k.end keys
