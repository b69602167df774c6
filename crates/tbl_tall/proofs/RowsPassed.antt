-- Cells of a row, one by one behind a line.
use Rattle.std.proofs.Common.{◌≡◌, ℕ, zero, suc, ◌<◌, ◌≤◌, ◌-◌, ◌==◌, nat_lt, Bool, true, false, List, [], ◌∷◌, get_or, length, map, set, refl, sym, ap, ◌∙◌, arith, if◌then◌else◌}
use Rattle.std.specs.List.{AllByRecursion}
use Rattle.tbl_layout.specs.Entries.{Above, Block, Content, Repeated, Ruled, Short, Text}
use Rattle.tbl_lines.specs.CellsLeft.{Left, behind_line, goes_on, rest_by}
use Rattle.tbl_line_cells.specs.KeptCells.{AllLeft, IsLeft}
use Rattle.tbl_tall.specs.RowsPassed.{IsKept, passed, passed_at}
use Rattle.tbl_line_cells.specs.declared.cells.CellLeft.{CellLeft}

-- one more
pub passed-next : (bytes : List ℕ) (is_rule : Bool) (cells : List CellLeft) (lefts : List Left) (at : ℕ) (none new : CellLeft) → at < length cells
    → ((l : Left) → IsLeft bytes (get_or cells at none) l → IsLeft bytes new (passed is_rule l)) → AllLeft bytes cells (passed_at is_rule at lefts)
    → AllLeft bytes (set cells at new) (passed_at is_rule (suc at) lefts)
passed-next bytes is_rule [] lefts at none new some step all = absurd (omega (arith, some))
passed-next bytes is_rule (c ∷ cells) [] zero none new some step all = absurd all
passed-next bytes is_rule (c ∷ cells) [] (suc at) none new some step all = absurd all
passed-next bytes is_rule (c ∷ cells) (l ∷ lefts) zero none new some step all = (step l all.0, all.1)
passed-next bytes is_rule (c ∷ cells) (l ∷ lefts) (suc at) none new some step all =
    (all.0, passed-next bytes is_rule cells lefts at none new (omega (arith, some)) step all.1)

-- all of them
pub passed-end : (bytes : List ℕ) (is_rule : Bool) (cells : List CellLeft) (lefts : List Left) (at : ℕ) → length cells ≤ at
    → AllLeft bytes cells (passed_at is_rule at lefts) → AllLeft bytes cells (map (passed is_rule) lefts)
passed-end bytes is_rule [] [] at past all = tt
passed-end bytes is_rule [] (l ∷ lefts) zero past all = absurd all
passed-end bytes is_rule [] (l ∷ lefts) (suc at) past all = absurd all
passed-end bytes is_rule (c ∷ cells) lefts zero past all = absurd (omega (arith, past))
passed-end bytes is_rule (c ∷ cells) [] (suc at) past all = absurd all
passed-end bytes is_rule (c ∷ cells) (l ∷ lefts) (suc at) past all =
    (all.0, passed-end bytes is_rule cells lefts at (omega (arith, past)) all.1)

-- each is kept
pub kept-at : (bytes : List ℕ) (cells : List CellLeft) (lefts : List Left) (at : ℕ) (none : CellLeft) → at < length cells → AllLeft bytes cells lefts
    → IsKept bytes (get_or cells at none)
kept-at bytes [] lefts at none some all = absurd (omega (arith, some))
kept-at bytes (c ∷ cells) [] at none some all = absurd all
kept-at bytes (c ∷ cells) (l ∷ lefts) zero none some all = record { left = l; is = all.0 }
kept-at bytes (c ∷ cells) (l ∷ lefts) (suc at) none some all = kept-at bytes cells lefts at none (omega (arith, some)) all.1

-- what holds of all still does
pub all-set : {A : Type 0} (P : A → Type 0) (xs : List A) (at : ℕ) (x : A) → P x → AllByRecursion P xs → AllByRecursion P (set xs at x)
all-set P [] at x is all = all
all-set P (y ∷ xs) zero x is all = (is, all.1)
all-set P (y ∷ xs) (suc at) x is all = (all.0, all-set P xs at x is all.1)

-- behind a line of rules those are that go on, and behind one of a row all
goes-by : (up : Bool) (bytes : List ℕ) (c : CellLeft) (l : Left) → up ≡ true → IsLeft bytes c (behind_line l)
    → IsLeft bytes c (if up then behind_line l else l)
goes-by true bytes c l up is = is
goes-by false bytes c l up is = absurd cc

pub passed-goes : (is_rule : Bool) (bytes : List ℕ) (c new : CellLeft) (l : Left) → (is_rule ≡ true → nat_lt 0 c.rows ≡ true) → IsLeft bytes c l
    → IsLeft bytes new (behind_line l) → IsLeft bytes new (passed is_rule l)
passed-goes true bytes c new l up is behind = goes-by (goes_on l) bytes new l (ap (nat_lt 0) (sym is.rows) ∙ up refl) behind
passed-goes false bytes c new l up is behind = behind

-- over as many rows as before
rows-by : (t : Bool) (field : Content) (l : Left) → (if t then rest_by field l else record l { lead = l.lead - 1 }).rows ≡ l.rows
rows-by false field l = refl
rows-by true (Block measure lines) l = refl
rows-by true (Text text) l = refl
rows-by true (Ruled sign) l = refl
rows-by true Short l = refl
rows-by true (Repeated b) l = refl
rows-by true Above l = refl

pub rows-stay : (bytes : List ℕ) (c new : CellLeft) (l : Left) → IsLeft bytes c l → IsLeft bytes new (behind_line l) → new.rows ≡ c.rows
rows-stay bytes c new l is behind = behind.rows ∙ rows-by (l.lead == 0) l.field l ∙ sym is.rows
