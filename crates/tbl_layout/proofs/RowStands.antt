-- How the fields of a row stand in the columns of a table, and which of them go over several columns.
use Rattle.std.proofs.Common.{◌≡◌, ◌==◌, ℕ, zero, suc, ◌-◌, Bool, true, false, ◌||◌, List, [], ◌∷◌, ◌++◌, length, drop, replicate, get_or, Option, Some, None, refl, ap, ◌∙◌, if◌then◌else◌}
use Rattle.std.specs.List.{AllByRecursion}
use Rattle.tbl_format.specs.Format.{FormatRow}
use Rattle.tbl_format.specs.declared.format.FormatKey.{FormatKey}
use Rattle.tbl_format.specs.declared.format.Key.{Key}
use Rattle.tbl_format.specs.declared.format.Key.TheVariants.{Left}
use Rattle.tbl_layout.specs.Columns.{alone, counted, in_columns, row_stands, stands}
use Rattle.tbl_layout.specs.Entries.{Content, Text, completed, content_of_kind}
use Rattle.tbl_layout.specs.RuleKeys.{in_front_of, kind_of_key, under_keys}
use Rattle.tbl_layout.specs.Spans.{Wide, if_wide, wide_entries}
use Rattle.tbl_layout.specs.declared.columns.Stands.{Stands}
use Rattle.tbl_layout.specs.declared.columns.Stands.TheVariants.{Nowhere}
use Rattle.tbl_layout.specs.declared.data_lines.FieldKind.{FieldKind}
use Rattle.tbl_layout.specs.declared.data_lines.FieldKind.TheVariants.{Above, Repeated, Ruled, Short, Text as OneText}

-- columns in which nothing stands
abbrev IsNowhere : List Stands → Type 0
IsNowhere entries = (column : ℕ) → get_or entries column Nowhere ≡ Nowhere

nowhere-many : (count : ℕ) → IsNowhere (replicate count Nowhere)
nowhere-many zero column = refl
nowhere-many (suc count) zero = refl
nowhere-many (suc count) (suc column) = nowhere-many count column

nowhere-one : IsNowhere (Nowhere ∷ [])
nowhere-one zero = refl
nowhere-one (suc column) = refl

-- a cell without an entry
nowhere-by : (is_one : Bool) (count : ℕ) → IsNowhere (if is_one then Nowhere ∷ [] else replicate count Nowhere)
nowhere-by true count = nowhere-one
nowhere-by false count = nowhere-many count

nowhere-cell : (count : ℕ) (entry : Stands) → entry ≡ Nowhere → IsNowhere (in_columns count entry)
nowhere-cell count entry is column =
    ap (λ (e : Stands). get_or (in_columns count e) column Nowhere) is ∙ nowhere-by (count == 1) count column

-- one that stands nowhere counts as nothing, whether others under its key do or not
counted-by : (is_left_out : Bool) → (if is_left_out then Nowhere else Nowhere) ≡ Nowhere
counted-by true = refl
counted-by false = refl

counted-nowhere : (k : FormatKey) (entry : Stands) → entry ≡ Nowhere → counted k entry ≡ Nowhere
counted-nowhere k entry is = ap (counted k) is ∙ counted-by k.has_no_width

-- what stands alike behind the same
same-behind : (front xs ys : List Stands) → ((column : ℕ) → get_or xs column Nowhere ≡ get_or ys column Nowhere)
    → (column : ℕ) → get_or (front ++ xs) column Nowhere ≡ get_or (front ++ ys) column Nowhere
same-behind [] xs ys same column = same column
same-behind (e ∷ front) xs ys same zero = refl
same-behind (e ∷ front) xs ys same (suc column) = same-behind front xs ys same column

nowhere-both : (xs ys : List Stands) → IsNowhere xs → IsNowhere ys → IsNowhere (xs ++ ys)
nowhere-both [] ys none none_behind column = none_behind column
nowhere-both (e ∷ xs) ys none none_behind zero = none 0
nowhere-both (e ∷ xs) ys none none_behind (suc column) = nowhere-both xs ys (λ (at : ℕ). none (suc at)) none_behind column

-- an entry without a width has no excess
none-by : (is_one : Bool) (entries : List Wide) → (if is_one || true then [] else entries) ≡ []
none-by true entries = refl
none-by false entries = refl

pub if_wide-none : (from count : ℕ) → if_wide from count 0 ≡ []
if_wide-none from count = none-by (count == 1) (record { from = from; count = count; width = 0 } ∷ [])

module _ {A : Type 0} (entry_of : Key → A → Stands) where
  -- a field that stands nowhere under any key
  abbrev pub StandsNowhere : A → Type 0
  StandsNowhere field = (key : Key) → entry_of key field ≡ Nowhere

  row-nowhere : (from : ℕ) (keys : List FormatKey) (fields : List A) → AllByRecursion StandsNowhere fields
      → IsNowhere (row_stands entry_of from keys fields)
  row-nowhere from keys [] none = λ (column : ℕ). refl
  row-nowhere from [] (field ∷ fields) none =
      nowhere-both (entry_of Left field ∷ []) (row_stands entry_of (suc from) [] fields)
      (nowhere-cell 1 (entry_of Left field) (none.0 Left)) (row-nowhere (suc from) [] fields none.1)
  row-nowhere from (k ∷ keys) (field ∷ fields) none =
      nowhere-both (in_columns (k.end - from) (counted k (entry_of k.key field))) (row_stands entry_of k.end keys fields)
      (nowhere-cell (k.end - from) (counted k (entry_of k.key field)) (counted-nowhere k (entry_of k.key field) (none.0 k.key)))
      (row-nowhere k.end keys fields none.1)

  -- fields that stand nowhere, behind those of a row, change nothing
  pub stands-behind : (from : ℕ) (keys : List FormatKey) (fields more : List A) → AllByRecursion StandsNowhere more → (column : ℕ)
      → get_or (row_stands entry_of from keys (fields ++ more)) column Nowhere ≡ get_or (row_stands entry_of from keys fields) column Nowhere
  stands-behind from keys [] more none column = row-nowhere from keys more none column
  stands-behind from [] (field ∷ fields) more none zero = refl
  stands-behind from [] (field ∷ fields) more none (suc column) = stands-behind (suc from) [] fields more none column
  stands-behind from (k ∷ keys) (field ∷ fields) more none column =
      same-behind (in_columns (k.end - from) (counted k (entry_of k.key field))) (row_stands entry_of k.end keys (fields ++ more))
      (row_stands entry_of k.end keys fields) (stands-behind k.end keys fields more none) column

  -- and none of them goes over several columns
  wide-nowhere : (from : ℕ) (keys : List FormatKey) (fields : List A) → AllByRecursion StandsNowhere fields → wide_entries entry_of from keys fields ≡ []
  wide-nowhere from keys [] none = refl
  wide-nowhere from [] (field ∷ fields) none = refl
  wide-nowhere from (k ∷ keys) (field ∷ fields) none =
      ap (λ (e : Stands). if_wide from (k.end - from) (alone e) ++ wide_entries entry_of k.end keys fields)
      (counted-nowhere k (entry_of k.key field) (none.0 k.key))
      ∙ ap (λ (front : List Wide). front ++ wide_entries entry_of k.end keys fields) (if_wide-none from (k.end - from))
      ∙ wide-nowhere k.end keys fields none.1

  pub wide-behind : (from : ℕ) (keys : List FormatKey) (fields more : List A) → AllByRecursion StandsNowhere more
      → wide_entries entry_of from keys (fields ++ more) ≡ wide_entries entry_of from keys fields
  wide-behind from keys [] more none = wide-nowhere from keys more none
  wide-behind from [] (field ∷ fields) more none = refl
  wide-behind from (k ∷ keys) (field ∷ fields) more none =
      ap (λ (rest : List Wide). if_wide from (k.end - from) (alone (counted k (entry_of k.key field))) ++ rest) (wide-behind k.end keys fields more none)

-- what stands under keys where a row has no fields for them, stands nowhere
all-in_front : {A : Type 0} (P : A → Type 0) (said : FieldKind → A) (empty : A) (kind : Option FieldKind) (fields : List A)
    → ((k : FieldKind) → P (said k)) → P empty → AllByRecursion P fields → AllByRecursion P (in_front_of said empty kind fields)
all-in_front P said empty (Some kind) fields kinds none all = (kinds kind, all)
all-in_front P said empty None [] kinds none all = tt
all-in_front P said empty None (field ∷ fields) kinds none all = (none, all)

pub all-under : {A : Type 0} (P : A → Type 0) (said : FieldKind → A) (empty : A) (keys : List FormatKey)
    → ((k : FieldKind) → P (said k)) → P empty → AllByRecursion P (under_keys said empty keys)
all-under P said empty [] kinds none = tt
all-under P said empty (k ∷ keys) kinds none =
    all-in_front P said empty (kind_of_key k.key) (under_keys said empty keys) kinds none (all-under P said empty keys kinds none)

nowhere-said : (kind : FieldKind) → StandsNowhere stands (content_of_kind kind)
nowhere-said (Ruled sign) key = refl
nowhere-said Short key = refl
nowhere-said (Repeated b) key = refl
nowhere-said Above key = refl
nowhere-said OneText key = refl

nowhere-under : (keys : List FormatKey) → AllByRecursion (StandsNowhere stands) (under_keys content_of_kind (Text []) keys)
nowhere-under keys = all-under (StandsNowhere stands) content_of_kind (Text []) keys nowhere-said (λ (key : Key). refl)

-- so the fields of a row stand as they did before it was completed, and as many of them go over several columns
pub stands-completed : (format : FormatRow) (fields : List Content) (column : ℕ)
    → get_or (row_stands stands 0 format.keys (completed format fields)) column Nowhere
    ≡ get_or (row_stands stands 0 format.keys fields) column Nowhere
stands-completed format fields column =
    stands-behind stands 0 format.keys fields (under_keys content_of_kind (Text []) (drop (length fields) format.keys))
    (nowhere-under (drop (length fields) format.keys)) column

pub wide-completed : (format : FormatRow) (fields : List Content)
    → wide_entries stands 0 format.keys (completed format fields) ≡ wide_entries stands 0 format.keys fields
wide-completed format fields =
    wide-behind stands 0 format.keys fields (under_keys content_of_kind (Text []) (drop (length fields) format.keys))
    (nowhere-under (drop (length fields) format.keys))
