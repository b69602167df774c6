-- The cells that go through lines of rules, column by column.
use Rattle.std.proofs.Common.{◌≡◌, ℕ, zero, suc, ◌+◌, ◌-◌, ◌<◌, ◌≤◌, nat_lt, Bool, true, false, not, List, [], ◌∷◌, ◌++◌, length, map, take, drop, get_or, replicate, Option, None, Some, refl, sym, ap, subst, ◌∙◌, arith, append_assoc, length-append, length-drop, if◌then◌else◌, is_some, eq-eqb, ne_eqb}
use Rattle.std.specs.List.{AllByRecursion}
use Rattle.std.proofs.lemmas.List.{length-replicate, map-append}
use Rattle.tbl_format.specs.Cells.{AreCells}
use Rattle.tbl_format.specs.Format.{columns_of_keys}
use Rattle.tbl_format.specs.declared.format.FormatKey.{FormatKey}
use Rattle.tbl_format.proofs.CellColumns.{columns_behind, columns_of-behind}
use Rattle.tbl_layout.specs.declared.columns.Column.{Column}
use Rattle.tbl_lines.specs.CellsLeft.{Left, goes_on}
use Rattle.tbl_lines.specs.LinesLeft.{is_free, is_within, overs, overs_of}
use Rattle.tbl_tall.specs.Bands.{GoThrough, is_cut, is_open, same_number}
use Rattle.tbl_line_cells.specs.LinesDrawn.{keys_in}
use Rattle.tbl_line_cells.specs.KeptCells.{AllLeft, IsLeft}
use Rattle.tbl_tall.specs.ShownBars.{owner_of, owners}
use Rattle.tbl_line_cells.specs.declared.cells.CellLeft.{CellLeft}
use Rattle.tbl_tall.proofs.BandsAlike.{free-read, frees-of, within-read, within_flags, withins-of}
use Rattle.tbl_tall.proofs.CellsSpread.{first-end}

-- whether columns are open, and whether boundaries stand within a cell behind one of a number or none, one by one
abbrev opens : List (Option ℕ) → List Bool
opens through = map (λ (o : Option ℕ). not (is_some o)) through

abbrev cuts : Option ℕ → List (Option ℕ) → List Bool
cuts before [] = []
cuts before (o ∷ through) = same_number before o ∷ cuts o through

open-read : (through : List (Option ℕ)) (column : ℕ) → is_open through column ≡ get_or (opens through) column true
open-read [] zero = refl
open-read [] (suc column) = refl
open-read (o ∷ through) zero = refl
open-read (o ∷ through) (suc column) = open-read through column

none-same : (o : Option ℕ) → same_number o None ≡ false
none-same None = refl
none-same (Some cell) = refl

cut-read : (o : Option ℕ) (through : List (Option ℕ)) (column : ℕ) → is_cut (o ∷ through) (suc column) ≡ get_or (cuts o through) column false
cut-read o [] zero = none-same o
cut-read o [] (suc column) = refl
cut-read o (p ∷ through) zero = refl
cut-read o (p ∷ through) (suc column) = cut-read p through column

cuts-read : (through : List (Option ℕ)) (boundary : ℕ) → is_cut through boundary ≡ get_or (cuts None through) boundary false
cuts-read [] zero = refl
cuts-read [] (suc boundary) = refl
cuts-read (o ∷ through) zero = refl
cuts-read (o ∷ through) (suc column) = cut-read o through column

-- of one cell
abbrev owner_by : Bool → ℕ → Option ℕ
owner_by up at = if up then Some at else None

opens-one : (up : Bool) (at n : ℕ) → opens (replicate n (owner_by up at)) ≡ replicate n (not up)
opens-one up at zero = refl
opens-one true at (suc n) = ap (λ (rest : List Bool). false ∷ rest) (opens-one true at n)
opens-one false at (suc n) = ap (λ (rest : List Bool). true ∷ rest) (opens-one false at n)

self-same : (up : Bool) (at : ℕ) → same_number (owner_by up at) (owner_by up at) ≡ up
self-same true at = eq-eqb at at refl
self-same false at = refl

-- the column in front belongs to a cell before this one
abbrev IsBefore : Option ℕ → ℕ → Type 0
IsBefore None at = Unit {0}
IsBefore (Some cell) at = cell < at

before-other : (before : Option ℕ) (up : Bool) (at : ℕ) → IsBefore before at → same_number before (owner_by up at) ≡ false
before-other None up at less = refl
before-other (Some cell) true at less = ne_eqb cell at (λ same. omega (arith, same, less))
before-other (Some cell) false at less = refl

before-next : (up : Bool) (at : ℕ) → IsBefore (owner_by up at) (suc at)
before-next true at = omega arith
before-next false at = tt

cuts-same : (up : Bool) (at n : ℕ) (rest : List (Option ℕ))
    → cuts (owner_by up at) (replicate n (owner_by up at) ++ rest) ≡ replicate n up ++ cuts (owner_by up at) rest
cuts-same up at zero rest = refl
cuts-same up at (suc n) rest =
    ap (λ (b : Bool). b ∷ cuts (owner_by up at) (replicate n (owner_by up at) ++ rest)) (self-same up at)
    ∙ ap (λ (bs : List Bool). up ∷ bs) (cuts-same up at n rest)

cuts-one : (before : Option ℕ) (up : Bool) (at n : ℕ) (rest : List (Option ℕ)) → IsBefore before at → 0 < n
    → cuts before (replicate n (owner_by up at) ++ rest) ≡ within_flags up n ++ cuts (owner_by up at) rest
cuts-one before up at zero rest less some = absurd (omega (arith, some))
cuts-one before up at (suc n) rest less some =
    ap (λ (b : Bool). b ∷ cuts (owner_by up at) (replicate n (owner_by up at) ++ rest)) (before-other before up at less)
    ∙ ap (λ (bs : List Bool). false ∷ bs) (cuts-same up at n rest)

-- as many columns as a cell has
module _ (bytes : List ℕ) where
  up-is : (c : CellLeft) (l : Left) → IsLeft bytes c l → nat_lt 0 c.rows ≡ goes_on l
  up-is c l is = ap (nat_lt 0) is.rows

  taken : (n : ℕ) (columns : List Column) → n ≤ length columns → length (take n columns) ≡ n
  taken zero columns few = refl
  taken (suc n) [] few = absurd (omega (arith, few))
  taken (suc n) (c ∷ columns) few = ap suc (taken n columns (omega (arith, few)))

  frees-kept : (cells : List CellLeft) (lefts : List Left) (at from : ℕ) (columns : List Column) → AllLeft bytes cells lefts
      → AreCells from (keys_in cells) → from + length columns ≡ columns_behind from (keys_in cells)
      → opens (owners at from cells) ≡ map is_free (overs from lefts columns)
  frees-kept [] [] at from columns all are many = refl
  frees-kept [] (l ∷ lefts) at from columns all are many = absurd all
  frees-kept (c ∷ cells) [] at from columns all are many = absurd all
  frees-kept (c ∷ cells) (l ∷ lefts) at from columns all are many =
      let n = c.key.end - from in
      let up = nat_lt 0 c.rows in
      let few : n ≤ length columns = omega (arith, many, first-end from c.key (keys_in cells) are) in
      let rest : c.key.end + length (drop n columns) ≡ columns_behind c.key.end (keys_in cells) = omega
      (arith, many, length-drop n columns, are.0, few) in
      let f : ℕ → List Bool = λ end. map is_free (overs_of l (take (end - from) columns) ++ overs end lefts (drop (end - from) columns)) in
      map-append (λ (o : Option ℕ). not (is_some o)) (replicate n (owner_of at c)) (owners (suc at) c.key.end cells)
      ∙ ap (λ (bs : List Bool). bs ++ opens (owners (suc at) c.key.end cells)) (opens-one up at n)
      ∙ ap (λ (bs : List Bool). replicate n (not up) ++ bs) (frees-kept cells lefts (suc at) c.key.end (drop n columns) all.1 are.1 rest)
      ∙ ap (λ (m : ℕ). replicate m (not up) ++ map is_free (overs c.key.end lefts (drop n columns))) (sym (taken n columns few))
      ∙ ap (λ (b : Bool). replicate (length (take n columns)) (not b) ++ map is_free (overs c.key.end lefts (drop n columns))) (up-is c l all.0)
      ∙ ap (λ (bs : List Bool). bs ++ map is_free (overs c.key.end lefts (drop n columns))) (sym (frees-of l (take n columns)))
      ∙ sym (map-append is_free (overs_of l (take n columns)) (overs c.key.end lefts (drop n columns)))
      ∙ ap f (ap (λ (k : FormatKey). k.end) all.0.key)

  withins-kept : (before : Option ℕ) (cells : List CellLeft) (lefts : List Left) (at from : ℕ) (columns : List Column) → AllLeft bytes cells lefts
      → AreCells from (keys_in cells) → from + length columns ≡ columns_behind from (keys_in cells) → IsBefore before at
      → cuts before (owners at from cells) ≡ map is_within (overs from lefts columns)
  withins-kept before [] [] at from columns all are many less = refl
  withins-kept before [] (l ∷ lefts) at from columns all are many less = absurd all
  withins-kept before (c ∷ cells) [] at from columns all are many less = absurd all
  withins-kept before (c ∷ cells) (l ∷ lefts) at from columns all are many less =
      let n = c.key.end - from in
      let up = nat_lt 0 c.rows in
      let some : 0 < n = omega (arith, are.0) in
      let few : n ≤ length columns = omega (arith, many, first-end from c.key (keys_in cells) are) in
      let rest : c.key.end + length (drop n columns) ≡ columns_behind c.key.end (keys_in cells) = omega
      (arith, many, length-drop n columns, are.0, few) in
      let f : ℕ → List Bool = λ end. map is_within (overs_of l (take (end - from) columns) ++ overs end lefts (drop (end - from) columns)) in
      cuts-one before up at n (owners (suc at) c.key.end cells) less some
      ∙ ap (λ (bs : List Bool). within_flags up n ++ bs)
      (withins-kept (owner_by up at) cells lefts (suc at) c.key.end (drop n columns) all.1 are.1 rest (before-next up at))
      ∙ ap (λ (m : ℕ). within_flags up m ++ map is_within (overs c.key.end lefts (drop n columns))) (sym (taken n columns few))
      ∙ ap (λ (b : Bool). within_flags b (length (take n columns)) ++ map is_within (overs c.key.end lefts (drop n columns))) (up-is c l all.0)
      ∙ ap (λ (bs : List Bool). bs ++ map is_within (overs c.key.end lefts (drop n columns))) (sym (withins-of l (take n columns)))
      ∙ sym (map-append is_within (overs_of l (take n columns)) (overs c.key.end lefts (drop n columns)))
      ∙ ap f (ap (λ (k : FormatKey). k.end) all.0.key)

  pub through-kept : (cells : List CellLeft) (lefts : List Left) (columns : List Column) → AllLeft bytes cells lefts
      → AreCells 0 (keys_in cells) → length columns ≡ columns_of_keys (keys_in cells) → GoThrough (owners 0 0 cells) (overs 0 lefts columns)
  through-kept cells lefts columns all are many =
      let same : 0 + length columns ≡ columns_behind 0 (keys_in cells) = omega (arith, many, columns_of-behind (keys_in cells)) in
      record {
        free = λ column.
            open-read (owners 0 0 cells) column
            ∙ ap (λ (bs : List Bool). get_or bs column true) (frees-kept cells lefts 0 0 columns all are same)
            ∙ sym (free-read (overs 0 lefts columns) column);
        within = λ boundary.
            cuts-read (owners 0 0 cells) boundary
            ∙ ap (λ (bs : List Bool). get_or bs boundary false) (withins-kept None cells lefts 0 0 columns all are same tt)
            ∙ sym (within-read (overs 0 lefts columns) boundary);
      }

-- so many columns in all
pub length-owners : (at from : ℕ) (cells : List CellLeft) → AreCells from (keys_in cells) → from + length
    (owners at from cells) ≡ columns_behind from (keys_in cells)
length-owners at from [] are = omega arith
length-owners at from (c ∷ cells) are =
    omega (
      arith,
      are.0,
      length-append (replicate (c.key.end - from) (owner_of at c)) (owners (suc at) c.key.end cells),
      length-replicate (c.key.end - from) (owner_of at c),
      length-owners (suc at) c.key.end cells are.1,
    )

-- one cell more
pub owners-next : (xs : List (Option ℕ)) (at from : ℕ) (c : CellLeft) (cells : List CellLeft) (all : List (Option ℕ))
    → xs ++ owners at from (c ∷ cells) ≡ all
    → (xs ++ replicate (c.key.end - from) (owner_of at c)) ++ owners (suc at) c.key.end cells ≡ all
owners-next xs at from c cells all so_far =
    append_assoc xs (replicate (c.key.end - from) (owner_of at c)) (owners (suc at) c.key.end cells) ∙ so_far

-- where no cell goes on, none goes through
opens-none : (n : ℕ) → opens (replicate n None) ≡ replicate n true
opens-none zero = refl
opens-none (suc n) = ap (λ (rest : List Bool). true ∷ rest) (opens-none n)

cuts-none : (o : Option ℕ) (n : ℕ) → cuts o (replicate n None) ≡ replicate n false
cuts-none o zero = refl
cuts-none o (suc n) =
    ap (λ (b : Bool). b ∷ cuts None (replicate n None)) (none-same o) ∙ ap (λ (rest : List Bool). false ∷ rest) (cuts-none None n)

read-all : (n i : ℕ) (b : Bool) → get_or (replicate n b) i b ≡ b
read-all zero zero b = refl
read-all zero (suc i) b = refl
read-all (suc n) zero b = refl
read-all (suc n) (suc i) b = read-all n i b

abbrev AllAre : Bool → List Bool → Type 0
AllAre b [] = Unit {0}
AllAre b (c ∷ bs) = (c ≡ b) × AllAre b bs

all-read : (b : Bool) (bs : List Bool) (i : ℕ) → AllAre b bs → get_or bs i b ≡ b
all-read b [] zero all = refl
all-read b [] (suc i) all = refl
all-read b (c ∷ bs) zero all = all.0
all-read b (c ∷ bs) (suc i) all = all-read b bs i all.1

all-more : (b : Bool) (xs ys : List Bool) → AllAre b xs → AllAre b ys → AllAre b (xs ++ ys)
all-more b [] ys front rest = rest
all-more b (x ∷ xs) ys front rest = (front.0, all-more b xs ys front.1 rest)

all-replicate : (b : Bool) (n : ℕ) → AllAre b (replicate n b)
all-replicate b zero = tt
all-replicate b (suc n) = (refl, all-replicate b n)

all-flags : (n : ℕ) → AllAre false (within_flags false n)
all-flags zero = tt
all-flags (suc n) = (refl, all-replicate false n)

frees-down : (cells : List Left) (from : ℕ) (columns : List Column) → AllByRecursion (λ (l : Left). goes_on l ≡ false) cells
    → AllAre true (map is_free (overs from cells columns))
frees-down [] from columns down = tt
frees-down (l ∷ cells) from columns down =
    let front = take (l.key.end - from) columns in
    let behind = drop (l.key.end - from) columns in
    subst (AllAre true) (sym (map-append is_free (overs_of l front) (overs l.key.end cells behind)))
    (all-more true (map is_free (overs_of l front)) (map is_free (overs l.key.end cells behind))
    (subst (AllAre true) (sym (frees-of l front ∙ ap (λ (b : Bool). replicate (length front) (not b)) down.0)) (all-replicate true (length front)))
    (frees-down cells l.key.end behind down.1))

withins-down : (cells : List Left) (from : ℕ) (columns : List Column) → AllByRecursion (λ (l : Left). goes_on l ≡ false) cells
    → AllAre false (map is_within (overs from cells columns))
withins-down [] from columns down = tt
withins-down (l ∷ cells) from columns down =
    let front = take (l.key.end - from) columns in
    let behind = drop (l.key.end - from) columns in
    subst (AllAre false) (sym (map-append is_within (overs_of l front) (overs l.key.end cells behind)))
    (all-more false (map is_within (overs_of l front)) (map is_within (overs l.key.end cells behind))
    (subst (AllAre false) (sym (withins-of l front ∙ ap (λ (b : Bool). within_flags b (length front)) down.0)) (all-flags (length front)))
    (withins-down cells l.key.end behind down.1))

pub none-through : (n : ℕ) (cells : List Left) (columns : List Column) → AllByRecursion (λ (l : Left). goes_on l ≡ false) cells
    → GoThrough (replicate n None) (overs 0 cells columns)
none-through n cells columns down = record {
  free = λ column.
      open-read (replicate n None) column
      ∙ ap (λ (bs : List Bool). get_or bs column true) (opens-none n)
      ∙ read-all n column true
      ∙ sym (free-read (overs 0 cells columns) column ∙ all-read true (map is_free (overs 0 cells columns)) column (frees-down cells 0 columns down));
  within = λ boundary.
      cuts-read (replicate n None) boundary
      ∙ ap (λ (bs : List Bool). get_or bs boundary false) (cuts-none None n)
      ∙ read-all n boundary false
      ∙ sym (within-read (overs 0 cells columns) boundary ∙ all-read false (map is_within (overs 0 cells columns)) boundary
      (withins-down cells 0 columns down));
}
