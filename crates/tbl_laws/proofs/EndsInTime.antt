-- What runs on ends in front of what is next, as it is cut.
use Rattle.std.proofs.Common.{◌≡◌, ℕ, ◌-◌, Bool, true, false, List, [], ◌∷◌, drop, map, min, Option, Some, None, refl, sym, ap, subst, ◌∙◌, arith, if◌then◌else◌, nat_lt, ltb-false}
use Rattle.tbl_laws.proofs.LinesNarrow.{field-narrow}
use Rattle.tbl_laws.specs.RunningOn.{EndInTime, EndsBefore}
use Rattle.tbl_layout.specs.Entries.{columns_of, line_within}
use Rattle.tbl_lines.specs.CellsLeft.{Left}
use Rattle.tbl_lines.specs.LinesLeft.{Shown, all_cut, cut_to, end_of_columns, if_runs_on, next_drawn, room_by}
use Rattle.tbl_lines.specs.PictureLines.{Cell, Sheet}

-- by whether it passes its room
module _ (end : ℕ) (own : Left) (c : Shown) where
  abbrev room : ℕ
  room = end - c.at

  ends-by : (t : Bool) → nat_lt room (columns_of c.runs) ≡ t
      → EndsBefore end (if t then record c { runs = line_within room own.key.key own.field own.gone } else c)
  ends-by true is = omega (arith, field-narrow room own.key.key own.field own.gone)
  ends-by false is = omega (arith, ltb-false room (columns_of c.runs) is)

  pub own-ends : EndsBefore end (cut_to room own c)
  own-ends = ends-by (nat_lt room (columns_of c.runs)) refl

pub cut-ends : (s : Sheet) (drawn : ℕ) (c : Shown) (own : Left) → c.runs_on ≡ Some own
    → EndsBefore (min drawn (end_of_columns s own.stop)) (if_runs_on c.runs_on s drawn c)
cut-ends s drawn c own is =
    let end = min drawn (end_of_columns s own.stop) in
    subst (λ (o : Option Left). EndsBefore end (if_runs_on o s drawn c)) (sym is) (own-ends end own c)

pub ends-in-time : (s : Sheet) (fronts : List Cell) (cells : List Shown) → EndInTime s fronts cells (all_cut s fronts cells)
ends-in-time s fronts [] = tt
ends-in-time s fronts (c ∷ cells) = (
  λ own is. cut-ends s (next_drawn s.width (drop 1 fronts) cells) c own is,
  ends-in-time s (drop 1 fronts) cells,
)

-- and nothing is moved
still-by : (t : Bool) (c other : Shown) → other.at ≡ c.at → (if t then other else c).at ≡ c.at
still-by true c other same = same
still-by false c other same = refl

pub still : (o : Option Left) (s : Sheet) (drawn : ℕ) (c : Shown) → (if_runs_on o s drawn c).at ≡ c.at
still None s drawn c = refl
still (Some own) s drawn c =
    let room = room_by s drawn c.at own in
    still-by (nat_lt room (columns_of c.runs)) c (record c { runs = line_within room own.key.key own.field own.gone }) refl

abbrev places : List Shown → List ℕ
places cells = map (λ (c : Shown). c.at) cells

pub none-moved : (s : Sheet) (fronts : List Cell) (cells : List Shown)
    → map (λ (c : Shown). c.at) (all_cut s fronts cells) ≡ map (λ (c : Shown). c.at) cells
none-moved s fronts [] = refl
none-moved s fronts (c ∷ cells) =
    let drawn = next_drawn s.width (drop 1 fronts) cells in
    ap (λ (at : ℕ). at ∷ places (all_cut s (drop 1 fronts) cells)) (still c.runs_on s drawn c)
    ∙ ap (λ (rest : List ℕ). c.at ∷ rest) (none-moved s (drop 1 fronts) cells)
