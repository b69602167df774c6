use Rattle.std.proofs.Common.{◌≡◌, ℕ, ◌+◌, ◌≤◌, suc, ◌∷◌, List, drop, length, sym, ap, subst, ◌∙◌, arith, refl}
use Rattle.tbl_format.specs.RowsServed.{all_rows}
use Rattle.tbl_format.specs.declared.format.FormatKey.{FormatKey}
use Rattle.tbl_kept.specs.Rows.{KeptElement, lent}
use Rattle.tbl_kept.specs.declared.rows.Lent.{Lent}
use Rattle.tbl_tall.proofs.CellsNext.{drop-past}
use Rattle.tbl_tall.proofs.NoneBelow.{row-none}
use Rattle.tbl_tall.proofs.lines_over.may_go_on.Goals as goal
use Rattle.tbl_tall.proofs.lines_over.may_go_on.Goals.{in-Rule, in-Command}
use Rattle.tbl_tall.specs.LinesOver.{NoneGoesOn, NoneOver}

pub loop-at-init : goal.loop-at-init
loop-at-init c = λ none.
    let formats = all_rows c.args.format.now.format in
    let elements = c.args.rows.now.elements in
    let one : c.args.element + 1 ≡ suc c.args.element = omega arith in
    subst (λ (n : ℕ). NoneOver formats (drop n elements)) one none

pub loop-at-preserved : goal.loop-at-preserved
loop-at-preserved c = λ none.
    let formats = all_rows c.args.format.now.format in
    let elements = c.args.rows.now.elements in
    let at = c.loop-at.at in
    let rest = drop (suc at) elements in
    let one : at + 1 ≡ suc at = omega arith in
    let next = subst (λ (n : ℕ). NoneOver formats (drop n elements)) one none in
    elim c.match-element.branch [
      | in-Rule w ↦
          let is = c.element.ensures ∙ ap (λ (e : Lent). lent e ∷ rest) w.in-Rule.is in
          c.loop-at.invariant (subst (λ (es : List KeptElement). NoneOver formats es) (sym is)
          (λ bytes is_inside row cell rules. next bytes is_inside row cell (suc rules)))
      | in-Command w ↦
          let is = c.element.ensures ∙ ap (λ (e : Lent). lent e ∷ rest) w.in-Command.is in
          c.loop-at.invariant (subst (λ (es : List KeptElement). NoneOver formats es) (sym is)
          (λ bytes is_inside row cell rules. next bytes is_inside row cell rules))
    ]

pub returns-in-Row : goal.returns-in-Row
returns-in-Row c = λ not.
    let formats = all_rows c.args.format.now.format in
    let elements = c.args.rows.now.elements in
    let rest = drop (suc c.loop-at.at) elements in
    let w = c.in-Row in
    let is = c.element.ensures ∙ ap (λ (e : Lent). lent e ∷ rest) w.is in
    let none = subst (λ (ks : List FormatKey). NoneGoesOn ks w.entries.now) c.row_of_all.ensures.keys (c.may_be_above.ensures not) in
    c.loop-at.invariant (subst (λ (es : List KeptElement). NoneOver formats es) (sym is) (row-none formats w.keys _ _ w.entries.now rest none))

pub returns : goal.returns
returns c = λ not.
    let formats = all_rows c.args.format.now.format in
    let elements = c.args.rows.now.elements in
    let past : length elements ≤ c.loop-at.at = omega (arith, c.loop-at-test.false, c.count-at-end.ensures) in
    c.loop-at.invariant
    (subst (λ (es : List KeptElement). NoneOver formats es) (sym (drop-past elements c.loop-at.at past)) (λ bytes is_inside row cell rules. refl))
