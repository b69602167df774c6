use Rattle.std.proofs.Common.{◌≡◌, ◌+◌, ◌≤◌, ℕ, List, [], ◌∷◌, suc, drop, length, sym, ap, subst, ◌∙◌, arith, is_some}
use Rattle.tbl_format.specs.RowsServed.{all_rows}
use Rattle.tbl_kept.specs.Rows.{KeptElement, lent}
use Rattle.tbl_kept.specs.declared.rows.Lent.{Lent}
use Rattle.tbl_layout.specs.declared.columns.Column.{Column}
use Rattle.tbl_lines.specs.PictureLines.{frame_rules}
use Rattle.tbl_tall.proofs.CellsNext.{drop-past}
use Rattle.tbl_tall.proofs.RowsComing.{frame-last, step-command, step-end, step-rule}
use Rattle.tbl_tall.proofs.tall_row.TallRow.come_to_row.Goals as goal
use Rattle.tbl_tall.proofs.tall_row.TallRow.come_to_row.Goals.{in-Rule, in-Command}
use Rattle.tbl_tall.specs.LinesOver.{heights_kept}
use Rattle.tbl_tall.specs.RowsNext.{ComesBelow, RulesThen, StandsBelow, boxed_behind, drawn_on}
use Rattle.tbl_tall.specs.TallRows.{KeptTall}

pub loop-at-preserved : goal.loop-at-preserved
loop-at-preserved c =
    let i = c.loop-at.invariant in
    let m = c.match-element in
    let at = c.loop-at.at in
    let elements = c.args.rows.now.elements in
    let formats = all_rows c.args.format.now.format in
    let boxing = c.args.boxing in
    let is_below = is_some c.args.above in
    let rest = drop (suc at) elements in
    let next : suc at ≡ at + 1 = omega arith in
    elim m.branch [
      | in-Rule w ↦
          let is = c.element.ensures ∙ ap (λ (e : Lent). lent e ∷ rest) w.in-Rule.is in
          rw (w.rules-is, ← next) (record {
            then_come = λ bytes all first.
                step-rule bytes formats boxing is_below c.loop-at.rules all _ rest (rw is at (i.then_come bytes all first));
            heights = i.heights ∙ ap heights_kept is;
            few = omega (arith, i.few);
            same = i.same;
          })
      | in-Command w ↦
          let is = c.element.ensures ∙ ap (λ (e : Lent). lent e ∷ rest) w.in-Command.is in
          rw (w.rules-is, ← next) (record {
            then_come = λ bytes all first.
                step-command bytes formats boxing is_below c.loop-at.rules all _ _ rest (rw is at (i.then_come bytes all first));
            heights = i.heights ∙ ap heights_kept is;
            few = omega (arith, i.few);
            same = i.same;
          })
    ]

pub come_to-requires-clause-none : goal.come_to-requires-clause-none
come_to-requires-clause-none c = λ is. subst (λ (t : KeptTall). t.above ≡ []) (sym c.loop-at.invariant.same) (c.requires.none is)

pub come_to-requires-clause-room : goal.come_to-requires-clause-room
come_to-requires-clause-room c = rw c.loop-at.invariant.same c.requires.room

pub come_to-requires-clause-empty : goal.come_to-requires-clause-empty
come_to-requires-clause-empty c = rw c.loop-at.invariant.same c.requires.empty

pub come_to-requires-clause-come : goal.come_to-requires-clause-come
come_to-requires-clause-come c = rw c.loop-at.invariant.same c.requires.come

pub come_to_nothing-requires-clause-room : goal.come_to_nothing-requires-clause-room
come_to_nothing-requires-clause-room c = rw (c.loop-at.invariant.same, c.columns.ensures) c.requires.room

pub come_to_nothing-requires-clause-empty : goal.come_to_nothing-requires-clause-empty
come_to_nothing-requires-clause-empty c = rw c.loop-at.invariant.same c.requires.empty

pub returns-in-Row-clause-come : goal.returns-in-Row-clause-come
returns-in-Row-clause-come c = c.come_to.ensures.come ∙ ap (λ (t : KeptTall). t.come) c.loop-at.invariant.same

pub returns-in-Row-clause-room : goal.returns-in-Row-clause-room
returns-in-Row-clause-room c = c.come_to.ensures.room ∙ ap (λ (t : KeptTall). t.room) c.loop-at.invariant.same

pub returns-clause-come : goal.returns-clause-come
returns-clause-come c = c.come_to_nothing.ensures.come ∙ ap (λ (t : KeptTall). t.come) c.loop-at.invariant.same

pub returns-clause-room : goal.returns-clause-room
returns-clause-room c = c.come_to_nothing.ensures.room ∙ ap (λ (t : KeptTall). t.room) c.loop-at.invariant.same

pub returns-in-Row-clause-comes : goal.returns-in-Row-clause-comes
returns-in-Row-clause-comes c = λ bytes s up all stand above first.
    let i = c.loop-at.invariant in
    let d = drawn_on s bytes (all_rows c.args.format.now.format) c.args.boxing c.args.rows.now in
    subst (λ (heights : List ℕ). ComesBelow d c.come_to.new.self up heights all) (sym i.heights)
    (c.come_to.ensures.comes bytes s up all (subst (λ (t : KeptTall). StandsBelow d t up) (sym i.same) stand) above (i.then_come bytes all first))

pub returns-clause-comes : goal.returns-clause-comes
returns-clause-comes c = λ bytes s up all stand above first.
    let i = c.loop-at.invariant in
    let elements = c.args.rows.now.elements in
    let formats = all_rows c.args.format.now.format in
    let boxing = c.args.boxing in
    let is_below = is_some c.args.above in
    let past : length elements ≤ c.loop-at.at = omega (arith, c.loop-at-test.false, c.count-at-end.ensures) in
    let none = drop-past elements c.loop-at.at past in
    let many : length c.args.rows.now.columns ≡ length c.columns.result.now = ap (λ (cs : List Column). length cs) (sym c.columns.ensures) in
    let behind = step-end bytes formats boxing is_below c.loop-at.rules all
    (subst (λ (xs : List KeptElement). RulesThen c.loop-at.rules all (boxed_behind bytes formats boxing is_below c.loop-at.rules xs)) none
    (i.then_come bytes all first)) in
    let frame : c.loop-at.rules + length (frame_rules boxing) ≡ c.loop-at.rules + c.frame_lines.result = omega (arith, c.frame_lines.ensures.value) in
    let d = drawn_on s bytes formats boxing c.args.rows.now in
    c.come_to_nothing.ensures.comes d up (heights_kept (drop c.args.first elements)) all
    (subst (λ (t : KeptTall). StandsBelow d t up) (sym i.same) stand) many
    (subst (λ (n : ℕ). RulesThen n all []) frame (frame-last boxing c.loop-at.rules all behind))
