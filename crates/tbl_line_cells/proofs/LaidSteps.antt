-- A line of rules column by column: what is laid over one and behind it is what is shown, and the rest is still to be laid.
use Rattle.std.proofs.Common.{◌≡◌, ℕ, suc, List, [], ◌∷◌, ◌++◌, drop, refl, sym, ap, ◌∙◌, append-nil, append_assoc}
use Rattle.tbl_layout.specs.declared.columns.Column.{Column}
use Rattle.tbl_lines.specs.CellsLeft.{Left}
use Rattle.tbl_lines.specs.LinesLeft.{Beside, Over, Shown, all_shown, fronts_between, over_at, over_shown, overs}
use Rattle.tbl_lines.specs.PictureLines.{Cell, RuleLine, Sheet}
use Rattle.tbl_line_cells.specs.LinesDrawn.{KeptLine, SoFar}
use Rattle.tbl_line_cells.specs.RulesDrawn.{LaidTo, begin_at, begin_behind, end_at, front_list}
use Rattle.tbl_line_cells.proofs.RuleSteps.{fronts-step, shown-step}

module _ (bytes : List ℕ) (s : Sheet) (lefts : List Left) (line : RuleLine) (above below : Beside) (edge : Cell) (from to : ℕ) where
  abbrev all : List Over
  all = overs 0 lefts s.columns

  abbrev shown-from : ℕ → List Column → List Shown
  shown-from at columns = all_shown line all at (begin_at from at s.columns) to columns

  abbrev fronts-from : ℕ → List Column → List Cell
  fronts-from at columns = fronts_between s line all above below at columns

  abbrev here : ℕ → List Column → List Shown
  here at columns = over_shown line at (over_at all at) (begin_at from at s.columns) (end_at to columns)

  abbrev front : ℕ → List Column → List Cell
  front at columns = front_list s line all above below at columns

  -- nothing is laid
  pub laid-none : (now : KeptLine) → SoFar bytes now [] (edge ∷ []) → LaidTo bytes now s lefts line above below edge from to 0
  laid-none now so_far = record { done = []; fronts = []; so_far = so_far; shown = refl; between = refl }

  -- one column more
  pub laid-next : (old new : KeptLine) (at : ℕ) (c : Column) (columns : List Column) → drop at s.columns ≡ c ∷ columns
      → drop (suc at) s.columns ≡ columns
      → LaidTo bytes old s lefts line above below edge from to at
      → ((done : List Shown) (fronts : List Cell) → SoFar bytes old done fronts
      → SoFar bytes new (done ++ here at (drop at s.columns)) (fronts ++ front at (drop at s.columns)))
      → LaidTo bytes new s lefts line above below edge from to (suc at)
  laid-next old new at c columns is rest laid step =
      let begins : begin_at from (suc at) s.columns ≡ begin_behind (c ∷ columns) = ap begin_behind is in
      record {
        done = laid.done ++ here at (drop at s.columns);
        fronts = laid.fronts ++ front at (drop at s.columns);
        so_far = step laid.done (edge ∷ laid.fronts) laid.so_far;
        shown = append_assoc laid.done (here at (drop at s.columns)) (shown-from (suc at) (drop (suc at) s.columns))
            ∙ ap (λ (xs : List Shown). laid.done ++ xs)
            (ap (λ (cs : List Column). here at (drop at s.columns) ++ shown-from (suc at) cs) rest
            ∙ ap (λ (cs : List Column). here at cs ++ shown-from (suc at) columns) is
            ∙ ap (λ (n : ℕ). here at (c ∷ columns) ++ all_shown line all (suc at) n to columns) begins
            ∙ sym (shown-step line all at (begin_at from at s.columns) to c columns)
            ∙ ap (λ (cs : List Column). shown-from at cs) (sym is))
            ∙ laid.shown;
        between = append_assoc laid.fronts (front at (drop at s.columns)) (fronts-from (suc at) (drop (suc at) s.columns))
            ∙ ap (λ (xs : List Cell). laid.fronts ++ xs)
            (ap (λ (cs : List Column). front at (drop at s.columns) ++ fronts-from (suc at) cs) rest
            ∙ ap (λ (cs : List Column). front at cs ++ fronts-from (suc at) columns) is
            ∙ sym (fronts-step s line all above below at c columns)
            ∙ ap (λ (cs : List Column). fronts-from at cs) (sym is))
            ∙ laid.between;
      }

  -- all of it
  pub laid-shown : (now : KeptLine) (at : ℕ) → drop at s.columns ≡ [] → (laid : LaidTo bytes now s lefts line above below edge from to at)
      → laid.done ≡ all_shown line all 0 from to s.columns
  laid-shown now at none laid =
      sym (append-nil laid.done) ∙ ap (λ (cs : List Column). laid.done ++ shown-from at cs) (sym none) ∙ laid.shown

  pub laid-fronts : (now : KeptLine) (at : ℕ) → drop at s.columns ≡ [] → (laid : LaidTo bytes now s lefts line above below edge from to at)
      → laid.fronts ≡ fronts-from 0 s.columns
  laid-fronts now at none laid =
      sym (append-nil laid.fronts) ∙ ap (λ (cs : List Column). laid.fronts ++ fronts-from at cs) (sym none) ∙ laid.between
