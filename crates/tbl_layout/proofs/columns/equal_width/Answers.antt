use Rattle.std.proofs.Common.{◌≡◌, ℕ, ◌≤◌, min, List, [], ◌∷◌, length, drop, refl, ap, ◌∙◌, arith, inl, inr}
use Rattle.std.proofs.lemmas.Bool.{cases_lt}
use Rattle.std.proofs.lemmas.List.{drop_all}
use Rattle.tbl_format.specs.declared.format.Asked.{Asked}
use Rattle.tbl_layout.specs.Columns.{equal_widths, greatest}
use Rattle.tbl_layout.specs.declared.columns.Column.{Column}
use Rattle.tbl_layout.proofs.columns.equal_width.Goals as goal

no_column : (asked : List Asked) → equal_widths asked [] ≡ []
no_column [] = refl
no_column (a ∷ asked) = refl

none_left : (columns : List Column) (asked : List Asked) (at : ℕ) → min (length columns) (length asked) ≤ at
    → equal_widths (drop at asked) (drop at columns) ≡ []
none_left columns asked at end = elim (cases_lt at (length asked)) [
  | inl more ↦
      ap (λ (rest : List Column). equal_widths (drop at asked) rest) (drop_all at columns (omega (arith, end, more))) ∙ no_column (drop at asked)
  | inr over ↦ ap (λ (rest : List Asked). equal_widths rest (drop at columns)) (drop_all at asked over)
]

pub returns : goal.returns
returns c =
    let none = none_left c.args.columns.now c.args.asked.now c.loop-at.at (omega (arith, c.min-at-end.ensures, c.loop-at-test.false)) in
    omega (arith, c.loop-at.invariant, ap greatest none)
