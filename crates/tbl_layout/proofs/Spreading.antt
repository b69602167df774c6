-- Columns that get room for entries of several columns.
use Rattle.std.proofs.Common.{◌≡◌, ℕ, suc, ◌+◌, ◌-◌, ◌*◌, ◌/◌, List, [], ◌∷◌, ◌++◌, length, map, take, drop, refl, sym, ap, ◌∙◌, arith, length-append, length-drop, length-take, drop-drop, take-append-drop}
use Rattle.std.proofs.lemmas.List.{map-append}
use Rattle.tbl_format.specs.declared.format.Asked.{Asked}
use Rattle.tbl_layout.specs.Spans.{Wide, all_fitted, fitted, lacks, spread_over}
use Rattle.tbl_layout.specs.declared.bars.Bars.{Bars}
use Rattle.tbl_layout.specs.declared.columns.Column.{Column}

-- where nothing is spread, columns stay as they are
none-spread : (count at : ℕ) (c : Column) → record c { width = c.width + (suc at * 0 / count - at * 0 / count) } ≡ c
none-spread count at c =
    let none : c.width + (suc at * 0 / count - at * 0 / count) ≡ c.width = omega arith in
    ap (λ (n : ℕ). record c { width = n }) none

pub spread_over-none : (count at : ℕ) (columns : List Column) → spread_over 0 count at columns ≡ columns
spread_over-none count at [] = refl
spread_over-none count at (c ∷ columns) =
    ap (λ (first : Column). first ∷ spread_over 0 count (suc at) columns) (none-spread count at c)
    ∙ ap (λ (rest : List Column). c ∷ rest) (spread_over-none count (suc at) columns)

pub length-spread_over : (more count at : ℕ) (columns : List Column) → length (spread_over more count at columns) ≡ length columns
length-spread_over more count at [] = refl
length-spread_over more count at (c ∷ columns) = ap (λ (n : ℕ). suc n) (length-spread_over more count (suc at) columns)

-- what doesn't look at widths stays
module _ {B : Type 0} (f : Column → B) (same : (c : Column) (width : ℕ) → f (record c { width = width }) ≡ f c) where
  pub map-spread_over : (more count at : ℕ) (columns : List Column) → map f (spread_over more count at columns) ≡ map f columns
  map-spread_over more count at [] = refl
  map-spread_over more count at (c ∷ columns) =
      ap (λ (first : B). first ∷ map f (spread_over more count (suc at) columns)) (same c (c.width + (suc at * more / count - at * more / count)))
      ∙ ap (λ (rest : List B). f c ∷ rest) (map-spread_over more count (suc at) columns)

-- the three parts of columns
pub three-parts : {A : Type 0} (from count : ℕ) (xs : List A) → take from xs ++ (take count (drop from xs) ++ drop (from + count) xs) ≡ xs
three-parts {A} from count xs =
    ap (λ (rest : List A). take from xs ++ (take count (drop from xs) ++ rest)) (sym (drop-drop count from xs))
    ∙ ap (λ (rest : List A). take from xs ++ rest) (take-append-drop count (drop from xs))
    ∙ take-append-drop from xs

module _ (bars : Bars) (asked : List Asked) where
  -- how much an entry lacks
  abbrev pub lacking_of : Wide → List Column → ℕ
  lacking_of w columns = lacks bars (take w.count (drop w.from asked)) (take w.count (drop w.from columns)) w.width

  pub fitted-none : (w : Wide) (columns : List Column) → lacking_of w columns ≡ 0 → fitted bars asked w columns ≡ columns
  fitted-none w columns none =
      let own = take w.count (drop w.from columns) in
      ap (λ (more : ℕ). take w.from columns ++ (spread_over more w.count 0 own ++ drop (w.from + w.count) columns)) none
      ∙ ap (λ (spread : List Column). take w.from columns ++ (spread ++ drop (w.from + w.count) columns)) (spread_over-none w.count 0 own)
      ∙ three-parts w.from w.count columns

  pub length-fitted : (w : Wide) (columns : List Column) → length (fitted bars asked w columns) ≡ length columns
  length-fitted w columns =
      let own = take w.count (drop w.from columns) in
      let spread = spread_over (lacking_of w columns) w.count 0 own in
      let behind = drop (w.from + w.count) columns in
      omega (
        arith,
        length-append (take w.from columns) (spread ++ behind),
        length-append spread behind,
        length-spread_over (lacking_of w columns) w.count 0 own,
        length-take w.from columns,
        length-take w.count (drop w.from columns),
        length-drop w.from columns,
        length-drop (w.from + w.count) columns,
      )

  pub length-all_fitted : (entries : List Wide) (columns : List Column) → length (all_fitted bars asked entries columns) ≡ length columns
  length-all_fitted [] columns = refl
  length-all_fitted (w ∷ entries) columns = length-all_fitted entries (fitted bars asked w columns) ∙ length-fitted w columns

  -- what comes first is fitted first
  pub all_fitted-append : (front behind : List Wide) (columns : List Column)
      → all_fitted bars asked (front ++ behind) columns ≡ all_fitted bars asked behind (all_fitted bars asked front columns)
  all_fitted-append [] behind columns = refl
  all_fitted-append (w ∷ front) behind columns = all_fitted-append front behind (fitted bars asked w columns)

  module _ {B : Type 0} (f : Column → B) (same : (c : Column) (width : ℕ) → f (record c { width = width }) ≡ f c) where
    pub map-fitted : (w : Wide) (columns : List Column) → map f (fitted bars asked w columns) ≡ map f columns
    map-fitted w columns =
        let own = take w.count (drop w.from columns) in
        let more = lacking_of w columns in
        let behind = drop (w.from + w.count) columns in
        map-append f (take w.from columns) (spread_over more w.count 0 own ++ behind)
        ∙ ap (λ (rest : List B). map f (take w.from columns) ++ rest) (map-append f (spread_over more w.count 0 own) behind)
        ∙ ap (λ (spread : List B). map f (take w.from columns) ++ (spread ++ map f behind)) (map-spread_over f same more w.count 0 own)
        ∙ sym (ap (map f) (sym (three-parts w.from w.count columns))
        ∙ map-append f (take w.from columns) (own ++ behind)
        ∙ ap (λ (rest : List B). map f (take w.from columns) ++ rest) (map-append f own behind))

    pub map-all_fitted : (entries : List Wide) (columns : List Column) → map f (all_fitted bars asked entries columns) ≡ map f columns
    map-all_fitted [] columns = refl
    map-all_fitted (w ∷ entries) columns = map-all_fitted entries (fitted bars asked w columns) ∙ map-fitted w columns
