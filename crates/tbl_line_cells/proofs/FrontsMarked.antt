-- Fronts that mark the same places: what runs on is cut alike by them.
use Rattle.std.proofs.Common.{◌≡◌, ℕ, zero, suc, ◌+◌, ◌-◌, Bool, true, false, not, ◌&&◌, List, [], ◌∷◌, ◌++◌, drop, refl, sym, ap, ◌∙◌, arith, if◌then◌else◌, nat_lt}
use Rattle.tbl_layout.specs.Entries.{Run, columns_of}
use Rattle.tbl_lines.specs.CellsLeft.{Left}
use Rattle.tbl_lines.specs.LinesLeft.{Shown, all_cut, cut_cells, edge, if_cut, if_runs_on, is_there, next_drawn}
use Rattle.tbl_lines.specs.PictureLines.{Cell, Sheet, crossing, repeated}
use Rattle.tbl_lines.specs.RowsLeft.{first_of}
use Rattle.tbl_line_cells.specs.RulesDrawn.{edge_drawn}
use Rattle.tbl_line_cells.proofs.ShownAlike.{one-columns, three-columns, three_runs}

pub record AreMarkedAlike (c d : Cell) : Type 0 where
  pub there : is_there (first_of c) ≡ is_there (first_of d)
  pub at : c.at ≡ d.at

abbrev pub AllMarkedAlike : List Cell → List Cell → Type 0
AllMarkedAlike [] [] = Unit {0}
AllMarkedAlike [] (d ∷ others) = ⊥
AllMarkedAlike (c ∷ cells) [] = ⊥
AllMarkedAlike (c ∷ cells) (d ∷ others) = AreMarkedAlike c d × AllMarkedAlike cells others

pub same-marked : (c : Cell) → AreMarkedAlike c c
same-marked c = record { there = refl; at = refl }

pub marked-behind : (first last more : List Cell) → AllMarkedAlike last more → AllMarkedAlike (first ++ last) (first ++ more)
marked-behind [] last more alike = alike
marked-behind (c ∷ first) last more alike = (same-marked c, marked-behind first last more alike)

mark-alike : (c d : Cell) (n : ℕ) → AreMarkedAlike c d
    → (if is_there (first_of c) then c.at else n) ≡ (if is_there (first_of d) then d.at else n)
mark-alike c d n alike =
    ap (λ (t : Bool). if t then c.at else n) alike.there ∙ ap (λ (m : ℕ). if is_there (first_of d) then m else n) alike.at

next-alike : (end : ℕ) (fronts others : List Cell) (done : List Shown) → AllMarkedAlike fronts others
    → next_drawn end fronts done ≡ next_drawn end others done
next-alike end [] [] done alike = refl
next-alike end [] (d ∷ others) done alike = absurd alike
next-alike end (c ∷ fronts) [] done alike = absurd alike
next-alike end (c ∷ fronts) (d ∷ others) [] alike = mark-alike c d end alike.0
next-alike end (c ∷ fronts) (d ∷ others) (x ∷ done) alike =
    let marked = not x.is_text && is_there x.runs in
    mark-alike c d (if marked then x.at else next_drawn end fronts done) alike.0
    ∙ ap (λ (n : ℕ). if is_there (first_of d) then d.at else if marked then x.at else n) (next-alike end fronts others done alike.1)

rest-alike : (fronts others : List Cell) → AllMarkedAlike fronts others → AllMarkedAlike (drop 1 fronts) (drop 1 others)
rest-alike [] [] alike = tt
rest-alike [] (d ∷ others) alike = absurd alike
rest-alike (c ∷ fronts) [] alike = absurd alike
rest-alike (c ∷ fronts) (d ∷ others) alike = alike.1

pub all_cut-alike : (s : Sheet) (fronts others : List Cell) (done : List Shown) → AllMarkedAlike fronts others
    → all_cut s fronts done ≡ all_cut s others done
all_cut-alike s fronts others [] alike = refl
all_cut-alike s fronts others (x ∷ done) alike =
    let rest = rest-alike fronts others alike in
    ap (λ (n : ℕ). if_runs_on x.runs_on s n x ∷ all_cut s (drop 1 fronts) done) (next-alike s.width (drop 1 fronts) (drop 1 others) done rest)
    ∙ ap (λ (ss : List Shown). if_runs_on x.runs_on s (next_drawn s.width (drop 1 others) done) x ∷ ss)
    (all_cut-alike s (drop 1 fronts) (drop 1 others) done rest)

pub cut_cells-alike : (s : Sheet) (fronts others : List Cell) (done : List Shown) → AllMarkedAlike fronts others
    → cut_cells s fronts done ≡ cut_cells s others done
cut_cells-alike s fronts others [] alike = refl
cut_cells-alike s fronts others (x ∷ done) alike =
    let rest = rest-alike fronts others alike in
    ap (λ (n : ℕ). if_cut x.runs_on s n x ++ cut_cells s (drop 1 fronts) done) (next-alike s.width (drop 1 fronts) (drop 1 others) done rest)
    ∙ ap (λ (cs : List Left). if_cut x.runs_on s (next_drawn s.width (drop 1 others) done) x ++ cs)
    (cut_cells-alike s (drop 1 fronts) (drop 1 others) done rest)

-- an edge as it is laid marks the same
pub edge-marked : (is : Bool) (at count : ℕ) → AreMarkedAlike (edge_drawn is at count) (edge is at count)
edge-marked is at zero = same-marked _
edge-marked false at (suc n) = same-marked _
edge-marked true at (suc n) = record {
  there =
      ap (nat_lt 0)
      (three-columns (at - at) (suc n) (at + suc n - (at + suc n))
      ∙ (let all : at - at + suc n + (at + suc n - (at + suc n)) ≡ suc n = omega arith in all)
      ∙ sym (one-columns (suc n)));
  at = refl;
}
