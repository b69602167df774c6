-- Cells of which something is cut on a line, one by one.
use Rattle.std.proofs.Common.{◌≡◌, ℕ, zero, suc, ◌-◌, ◌<◌, ◌≤◌, ◌==◌, ◌&&◌, ◌||◌, nat_lt, Bool, true, false, List, [], ◌∷◌, get_or, length, map, set, refl, sym, ap, subst, ◌∙◌, arith}
use Rattle.std.proofs.lemmas.Bool.Decides.{nat_tests}
use Rattle.std.specs.List.{AllByRecursion, list_any}
use Rattle.tbl_format.proofs.CellColumns.{columns_behind, columns_of-behind}
use Rattle.tbl_format.specs.Cells.{AreCells}
use Rattle.tbl_format.specs.Format.{columns_of_keys}
use Rattle.tbl_lines.specs.CellsLeft.{Left}
use Rattle.tbl_lines.specs.CutEntries.{all_with_cut}
use Rattle.tbl_line_cells.specs.KeptCells.{AllLeft, IsLeft}
use Rattle.tbl_line_cells.specs.LinesDrawn.{CutOn, KeptLine}
use Rattle.tbl_line_cells.specs.declared.cells.CellLeft.{CellLeft}
use Rattle.tbl_tall.specs.CutsMarked.{flag_at, marked, marked_at}

-- a flag that isn't set
or-false : (b flag : Bool) → flag ≡ false → b ≡ (b || flag)
or-false true flag is = refl
or-false false flag is = sym is

-- the cell that is kept
pub marked-is : (bytes : List ℕ) (flags : List Bool) (c new : CellLeft) (l : Left)
    → new ≡ record c { is_cut = c.is_cut || flag_at flags c.key.end } → IsLeft bytes c l → IsLeft bytes new (marked flags l)
marked-is bytes flags c new l made is =
    subst (λ (k : CellLeft). IsLeft bytes k (marked flags l)) (sym made)
    (record {
      key = is.key;
      field = is.field;
      lead = is.lead;
      rows = is.rows;
      used = is.used;
      stop = is.stop;
      cut = ap (λ (b : Bool). b || flag_at flags c.key.end) is.cut ∙ ap (λ (n : ℕ). l.is_cut || flag_at flags n) (ap (λ k. k.end) is.key);
      lies = is.lies;
      within = is.within;
      place = is.place;
      laid = is.laid;
    })

-- one more, and all of them
pub mark-next : (bytes : List ℕ) (flags : List Bool) (cells : List CellLeft) (lefts : List Left) (at : ℕ) (none new : CellLeft) → at < length cells
    → ((l : Left) → IsLeft bytes (get_or cells at none) l → IsLeft bytes new (marked flags l)) → AllLeft bytes cells (marked_at flags at lefts)
    → AllLeft bytes (set cells at new) (marked_at flags (suc at) lefts)
mark-next bytes flags [] lefts at none new some step all = absurd (omega (arith, some))
mark-next bytes flags (c ∷ cells) [] zero none new some step all = absurd all
mark-next bytes flags (c ∷ cells) [] (suc at) none new some step all = absurd all
mark-next bytes flags (c ∷ cells) (l ∷ lefts) zero none new some step all = (step l all.0, all.1)
mark-next bytes flags (c ∷ cells) (l ∷ lefts) (suc at) none new some step all =
    (all.0, mark-next bytes flags cells lefts at none new (omega (arith, some)) step all.1)

pub mark-end : (bytes : List ℕ) (flags : List Bool) (cells : List CellLeft) (lefts : List Left) (at : ℕ) → length cells ≤ at
    → AllLeft bytes cells (marked_at flags at lefts) → AllLeft bytes cells (map (marked flags) lefts)
mark-end bytes flags [] [] at past all = tt
mark-end bytes flags [] (l ∷ lefts) zero past all = absurd all
mark-end bytes flags [] (l ∷ lefts) (suc at) past all = absurd all
mark-end bytes flags (c ∷ cells) lefts zero past all = absurd (omega (arith, past))
mark-end bytes flags (c ∷ cells) [] (suc at) past all = absurd all
mark-end bytes flags (c ∷ cells) (l ∷ lefts) (suc at) past all =
    (all.0, mark-end bytes flags cells lefts at (omega (arith, past)) all.1)

-- without a flag nothing is
and-false : (b : Bool) → (b && false) ≡ false
and-false true = refl
and-false false = refl

pub mark-free : (bytes : List ℕ) (cells : List CellLeft) (lefts : List Left) → AllLeft bytes cells lefts → AllLeft bytes cells (map (marked []) lefts)
mark-free bytes [] [] all = tt
mark-free bytes [] (l ∷ lefts) all = absurd all
mark-free bytes (c ∷ cells) [] all = absurd all
mark-free bytes (c ∷ cells) (l ∷ lefts) all = (
  subst (λ (b : Bool). IsLeft bytes c (record l { is_cut = b })) (or-false l.is_cut (flag_at [] l.key.end) (and-false (nat_lt 0 l.key.end))) all.0,
  mark-free bytes cells lefts all.1,
)

pub no-flags : (flags : List Bool) → length flags ≡ 0 → [] ≡ flags
no-flags [] none = refl
no-flags (flag ∷ flags) none = absurd (omega (arith, none))

-- they are those of which something is cut on the line
flag-on : (columns : ℕ) (line : KeptLine) (cut : List Left) (end : ℕ) → CutOn columns line cut → 0 < end → end ≤ columns
    → flag_at line.cut end ≡ list_any (λ (own : Left). own.key.end == end) cut
flag-on columns line cut end on some few =
    let first : nat_lt 0 end ≡ true = grind (arith, nat_tests) in
    ap (λ (b : Bool). b && get_or line.cut (end - 1) false) first ∙ on.ends end some few

behind-most : (from : ℕ) (lefts : List Left) → AreCells from (map (λ (l : Left). l.key) lefts)
    → from ≤ columns_behind from (map (λ (l : Left). l.key) lefts)
behind-most from [] cells = omega arith
behind-most from (l ∷ lefts) cells = omega (arith, cells.0, behind-most l.key.end lefts cells.1)

ends-few : (columns from : ℕ) (lefts : List Left) → AreCells from (map (λ (l : Left). l.key) lefts)
    → columns_behind from (map (λ (l : Left). l.key) lefts) ≤ columns → AllByRecursion (λ (l : Left). l.key.end ≤ columns) lefts
ends-few columns from [] cells few = tt
ends-few columns from (l ∷ lefts) cells few =
    (omega (arith, behind-most l.key.end lefts cells.1, few), ends-few columns l.key.end lefts cells.1 few)

marked-from : (columns : ℕ) (line : KeptLine) (cut : List Left) (from : ℕ) (lefts : List Left) → CutOn columns line cut
    → AreCells from (map (λ (l : Left). l.key) lefts) → AllByRecursion (λ (l : Left). l.key.end ≤ columns) lefts → map (marked line.cut) lefts ≡ all_with_cut cut lefts
marked-from columns line cut from [] on cells few = refl
marked-from columns line cut from (l ∷ lefts) on cells few =
    let here = flag-on columns line cut l.key.end on (omega (arith, cells.0)) few.0 in
    ap (λ (b : Bool). record l { is_cut = l.is_cut || b } ∷ map (marked line.cut) lefts) here
    ∙ ap (λ (ls : List Left). record l { is_cut = l.is_cut || list_any (λ (own : Left). own.key.end == l.key.end) cut } ∷ ls)
    (marked-from columns line cut l.key.end lefts on cells.1 few.1)

pub marked-cut : (columns : ℕ) (line : KeptLine) (cut lefts : List Left) → CutOn columns line cut → AreCells 0 (map (λ (l : Left). l.key) lefts)
    → columns_of_keys (map (λ (l : Left). l.key) lefts) ≡ columns → map (marked line.cut) lefts ≡ all_with_cut cut lefts
marked-cut columns line cut lefts on cells all =
    let keys = map (λ (l : Left). l.key) lefts in
    marked-from columns line cut 0 lefts on cells
    (ends-few columns 0 lefts cells (omega (arith, columns_of-behind keys, all)))
