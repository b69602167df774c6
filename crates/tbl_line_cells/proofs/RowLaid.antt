-- The cells of a line of a row, one after the other.
use Rattle.std.proofs.Common.{◌≡◌, ℕ, zero, suc, ◌+◌, ◌-◌, ◌<◌, ◌≤◌, List, [], ◌∷◌, ◌++◌, length, map, take, drop, get_or, refl, sym, ap, subst, ◌∙◌, arith, append_assoc, take-append-drop, take_all}
use Rattle.tbl_format.specs.declared.format.FormatKey.{FormatKey}
use Rattle.tbl_layout.specs.Widths.{inner_bars}
use Rattle.tbl_layout.specs.declared.columns.Column.{Column}
use Rattle.tbl_lines.specs.CellsLeft.{Left}
use Rattle.tbl_lines.specs.LinesLeft.{Shown, between, crossed_or_not, end_by, joined_here, row_shown, shown}
use Rattle.tbl_lines.specs.PictureLines.{Cell}
use Rattle.tbl_lines.proofs.RowColumns.{drop-none, take-next}
use Rattle.tbl_options.specs.declared.options.Boxing.{Boxing}
use Rattle.tbl_line_cells.specs.KeptCells.{AllLeft, IsLeft}
use Rattle.tbl_line_cells.specs.LinesDrawn.{KeptLine, SoFar, keys_in}
use Rattle.tbl_line_cells.specs.declared.cells.CellLeft.{CellLeft}

-- the cells that are left have the same keys
pub keys-left : (bytes : List ℕ) (cells : List CellLeft) (lefts : List Left) → AllLeft bytes cells lefts
    → map (λ (l : Left). l.key) lefts ≡ keys_in cells
keys-left bytes [] [] all = refl
keys-left bytes [] (l ∷ lefts) all = absurd all
keys-left bytes (c ∷ cells) [] all = absurd all
keys-left bytes (c ∷ cells) (l ∷ lefts) all =
    ap (λ (k : FormatKey). k ∷ map (λ (l : Left). l.key) lefts) (sym all.0.key)
    ∙ ap (λ (ks : List FormatKey). c.key ∷ ks) (keys-left bytes cells lefts all.1)

-- two cells beside each other; and the last one
pub record TwoLeft (bytes : List ℕ) (c d : CellLeft) (n : ℕ) (lefts : List Left) : Type 0 where
  pub l : Left
  pub m : Left
  pub rest : List Left
  pub are : drop n lefts ≡ l ∷ m ∷ rest
  pub first : IsLeft bytes c l
  pub next : IsLeft bytes d m

two-left : (bytes : List ℕ) (n : ℕ) (cells : List CellLeft) (lefts : List Left) (x : CellLeft) → AllLeft bytes cells lefts → suc n < length cells
    → TwoLeft bytes (get_or cells n x) (get_or cells (suc n) x) n lefts
two-left bytes n [] lefts x all few = absurd (omega (arith, few))
two-left bytes n (c ∷ []) lefts x all few = absurd (omega (arith, few))
two-left bytes n (c ∷ d ∷ cells) [] x all few = absurd all
two-left bytes n (c ∷ d ∷ cells) (l ∷ []) x all few = absurd all.1
two-left bytes zero (c ∷ d ∷ cells) (l ∷ m ∷ lefts) x all few =
    record { l = l; m = m; rest = lefts; are = refl; first = all.0; next = all.1.0 }
two-left bytes (suc n) (c ∷ d ∷ cells) (l ∷ m ∷ lefts) x all few =
    let two = two-left bytes n (d ∷ cells) (m ∷ lefts) x all.1 (omega (arith, few)) in
    record { l = two.l; m = two.m; rest = two.rest; are = two.are; first = two.first; next = two.next }

pub two-at : (bytes : List ℕ) (n m : ℕ) (cells : List CellLeft) (lefts : List Left) (x : CellLeft) → AllLeft bytes cells lefts → m ≡ suc n
    → m < length cells
    → TwoLeft bytes (get_or cells n x) (get_or cells m x) n lefts
two-at bytes n m cells lefts x all is few =
    subst (λ (k : ℕ). TwoLeft bytes (get_or cells n x) (get_or cells k x) n lefts) (sym is)
    (two-left bytes n cells lefts x all (omega (arith, few, is)))

pub record LastLeft (bytes : List ℕ) (c : CellLeft) (n : ℕ) (lefts : List Left) : Type 0 where
  pub l : Left
  pub are : drop n lefts ≡ l ∷ []
  pub last : IsLeft bytes c l

pub last-left : (bytes : List ℕ) (n : ℕ) (cells : List CellLeft) (lefts : List Left) (x : CellLeft) → AllLeft bytes cells lefts → suc n ≡ length cells
    → LastLeft bytes (get_or cells n x) n lefts
last-left bytes n [] lefts x all last = absurd (omega (arith, last))
last-left bytes n (c ∷ cells) [] x all last = absurd all
last-left bytes zero (c ∷ []) (l ∷ []) x all last = record { l = l; are = refl; last = all.0 }
last-left bytes zero (c ∷ []) (l ∷ m ∷ lefts) x all last = absurd all.1
last-left bytes zero (c ∷ d ∷ cells) (l ∷ lefts) x all last = absurd (omega (arith, last))
last-left bytes (suc n) (c ∷ cells) (l ∷ lefts) x all last =
    let one = last-left bytes n cells lefts x all.1 (omega (arith, last)) in record { l = one.l; are = one.are; last = one.last }

pub many-left : (bytes : List ℕ) (cells : List CellLeft) (lefts : List Left) → AllLeft bytes cells lefts → length lefts ≡ length cells
many-left bytes [] [] all = refl
many-left bytes [] (l ∷ lefts) all = absurd all
many-left bytes (c ∷ cells) [] all = absurd all
many-left bytes (c ∷ cells) (l ∷ lefts) all = omega (arith, many-left bytes cells lefts all.1)

no-more : {A : Type 0} (n : ℕ) (x : A) (rest : List A) → drop n [] ≡ x ∷ rest → ⊥
no-more n x rest is = absurd (let no = sym (drop-none n) ∙ is in cc)

module _ (boxing : Boxing) where
  -- what one of them shows, and what stands behind it
  abbrev cell_shown : Left → Left → Column → Column → Shown
  cell_shown l m c d = shown l c (end_by (joined_here l m) (inner_bars boxing m.key.bars) c d)

  shown-at : (n : ℕ) (lefts : List Left) (columns : List Column) (l m : Left) (rest : List Left) (c d : Column) (others : List Column)
      → drop n lefts ≡ l ∷ m ∷ rest → drop n columns ≡ c ∷ d ∷ others
      → drop n (row_shown boxing lefts columns) ≡ cell_shown l m c d ∷ drop (suc n) (row_shown boxing lefts columns)
  shown-at zero [] columns l m rest c d others are cols = absurd (cc)
  shown-at zero (a ∷ lefts) [] l m rest c d others are cols = absurd (cc)
  shown-at zero (a ∷ []) (x ∷ columns) l m rest c d others are cols = absurd (cc)
  shown-at zero (a ∷ b ∷ lefts) (x ∷ []) l m rest c d others are cols = absurd (cc)
  shown-at zero (a ∷ b ∷ lefts) (x ∷ y ∷ columns) l m rest c d others are cols =
      let one : a ≡ l = cc in
      let two : b ≡ m = cc in
      let three : x ≡ c = cc in
      let four : y ≡ d = cc in
      let more = row_shown boxing (b ∷ lefts) (y ∷ columns) in
      ap (λ (k : Left). cell_shown k b x y ∷ more) one
      ∙ ap (λ (k : Left). cell_shown l k x y ∷ more) two
      ∙ ap (λ (k : Column). cell_shown l m k y ∷ more) three
      ∙ ap (λ (k : Column). cell_shown l m c k ∷ more) four
  shown-at (suc n) [] columns l m rest c d others are cols = absurd (cc)
  shown-at (suc n) (a ∷ lefts) [] l m rest c d others are cols = absurd (cc)
  shown-at (suc n) (a ∷ []) (x ∷ columns) l m rest c d others are cols = absurd (no-more n l (m ∷ rest) are)
  shown-at (suc n) (a ∷ b ∷ lefts) (x ∷ []) l m rest c d others are cols = absurd (no-more n c (d ∷ others) cols)
  shown-at (suc n) (a ∷ b ∷ lefts) (x ∷ y ∷ columns) l m rest c d others are cols =
      shown-at n (b ∷ lefts) (y ∷ columns) l m rest c d others are cols

  abbrev cell_behind : Left → Left → Column → Column → Cell
  cell_behind l m c d = crossed_or_not (joined_here l m) (inner_bars boxing m.key.bars) c d

  between-at : (n : ℕ) (lefts : List Left) (columns : List Column) (l m : Left) (rest : List Left) (c d : Column) (others : List Column)
      → drop n lefts ≡ l ∷ m ∷ rest → drop n columns ≡ c ∷ d ∷ others
      → drop n (between boxing lefts columns) ≡ cell_behind l m c d ∷ drop (suc n) (between boxing lefts columns)
  between-at zero [] columns l m rest c d others are cols = absurd (cc)
  between-at zero (a ∷ []) columns l m rest c d others are cols = absurd (cc)
  between-at zero (a ∷ b ∷ lefts) [] l m rest c d others are cols = absurd (cc)
  between-at zero (a ∷ b ∷ lefts) (x ∷ []) l m rest c d others are cols = absurd (cc)
  between-at zero (a ∷ b ∷ lefts) (x ∷ y ∷ columns) l m rest c d others are cols =
      let one : a ≡ l = cc in
      let two : b ≡ m = cc in
      let three : x ≡ c = cc in
      let four : y ≡ d = cc in
      let more = between boxing (b ∷ lefts) (y ∷ columns) in
      ap (λ (k : Left). cell_behind k b x y ∷ more) one
      ∙ ap (λ (k : Left). cell_behind l k x y ∷ more) two
      ∙ ap (λ (k : Column). cell_behind l m k y ∷ more) three
      ∙ ap (λ (k : Column). cell_behind l m c k ∷ more) four
  between-at (suc n) [] columns l m rest c d others are cols = absurd (cc)
  between-at (suc n) (a ∷ []) [] l m rest c d others are cols = absurd (cc)
  between-at (suc n) (a ∷ []) (x ∷ columns) l m rest c d others are cols = absurd (no-more n l (m ∷ rest) are)
  between-at (suc n) (a ∷ b ∷ lefts) [] l m rest c d others are cols = absurd (cc)
  between-at (suc n) (a ∷ b ∷ lefts) (x ∷ []) l m rest c d others are cols = absurd (no-more n c (d ∷ others) cols)
  between-at (suc n) (a ∷ b ∷ lefts) (x ∷ y ∷ columns) l m rest c d others are cols =
      between-at n (b ∷ lefts) (y ∷ columns) l m rest c d others are cols

  -- the last one
  last-at : (n : ℕ) (lefts : List Left) (columns : List Column) (l : Left) (c : Column) (others : List Column)
      → drop n lefts ≡ l ∷ [] → drop n columns ≡ c ∷ others
      → drop n (row_shown boxing lefts columns) ≡ shown l c (c.start + c.width) ∷ []
  last-at zero [] columns l c others are cols = absurd (cc)
  last-at zero (a ∷ lefts) [] l c others are cols = absurd (cc)
  last-at zero (a ∷ []) (x ∷ columns) l c others are cols =
      let one : a ≡ l = cc in
      let two : x ≡ c = cc in
      ap (λ (k : Left). shown k x (x.start + x.width) ∷ []) one ∙ ap (λ (k : Column). shown l k (k.start + k.width) ∷ []) two
  last-at zero (a ∷ b ∷ lefts) (x ∷ columns) l c others are cols = absurd (cc)
  last-at (suc n) [] columns l c others are cols = absurd (cc)
  last-at (suc n) (a ∷ lefts) [] l c others are cols = absurd (cc)
  last-at (suc n) (a ∷ []) (x ∷ columns) l c others are cols = absurd (no-more n l [] are)
  last-at (suc n) (a ∷ b ∷ lefts) (x ∷ []) l c others are cols = absurd (no-more n c others cols)
  last-at (suc n) (a ∷ b ∷ lefts) (x ∷ y ∷ columns) l c others are cols = last-at n (b ∷ lefts) (y ∷ columns) l c others are cols

  few-between : (lefts : List Left) (columns : List Column) → length (between boxing lefts columns) ≤ length lefts - 1
  few-between [] columns = omega arith
  few-between (a ∷ []) columns = omega arith
  few-between (a ∷ b ∷ lefts) [] = omega arith
  few-between (a ∷ b ∷ lefts) (x ∷ []) = omega arith
  few-between (a ∷ b ∷ lefts) (x ∷ y ∷ columns) = omega (arith, few-between (b ∷ lefts) (y ∷ columns))

  module _ (bytes : List ℕ) (line : KeptLine) (fronts : List Cell) (lefts : List Left) (columns : List Column) where
    abbrev row : List Shown
    row = row_shown boxing lefts columns

    abbrev behind : List Cell
    behind = between boxing lefts columns

    -- behind one cell more of a row
    pub row-next : (n k : ℕ) → k ≡ suc n → (l m : Left) (rest : List Left) (c d : Column) (others : List Column)
        → drop n lefts ≡ l ∷ m ∷ rest → drop n columns ≡ c ∷ d ∷ others
        → SoFar bytes line (take n row ++ cell_shown l m c d ∷ []) ((fronts ++ take n behind) ++ cell_behind l m c d ∷ [])
        → SoFar bytes line (take k row) (fronts ++ take k behind)
    row-next n k k_is l m rest c d others are cols so_far =
        let s = cell_shown l m c d in
        let f = cell_behind l m c d in
        let done : take n row ++ s ∷ [] ≡ take (suc n) row
        = sym (take-next n row s (drop (suc n) row) (shown-at n lefts columns l m rest c d others are cols)) in
        let there : (fronts ++ take n behind) ++ f ∷ [] ≡ fronts ++ take (suc n) behind
        = append_assoc fronts (take n behind) (f ∷ [])
        ∙ ap (λ (fs : List Cell). fronts ++ fs)
        (sym (take-next n behind f (drop (suc n) behind) (between-at n lefts columns l m rest c d others are cols))) in
        subst (λ (i : ℕ). SoFar bytes line (take i row) (fronts ++ take i behind)) (sym k_is)
        (subst (λ (fs : List Cell). SoFar bytes line (take (suc n) row) fs) there
        (subst (λ (ss : List Shown). SoFar bytes line ss ((fronts ++ take n behind) ++ f ∷ [])) done so_far))

    -- in front of the last
    pub row-all : (n : ℕ) → length lefts ≤ suc n → SoFar bytes line (take n row) (fronts ++ take n behind)
        → SoFar bytes line (take n row) (fronts ++ behind)
    row-all n few so_far =
        subst (λ (fs : List Cell). SoFar bytes line (take n row) (fronts ++ fs))
        (take_all n behind (omega (arith, few, few-between lefts columns))) so_far

    -- and behind it
    pub row-whole : (n : ℕ) (l : Left) (c : Column) (others : List Column) → drop n lefts ≡ l ∷ [] → drop n columns ≡ c ∷ others
        → take n row ++ shown l c (c.start + c.width) ∷ [] ≡ row
    row-whole n l c others are cols =
        ap (λ (ss : List Shown). take n row ++ ss) (sym (last-at n lefts columns l c others are cols)) ∙ take-append-drop n row
