use Rattle.std.proofs.Common.{◌≡◌, ◌<◌, ◌+◌, suc, ◌∷◌, drop, length, sym, ap, ◌∙◌, arith}
use Rattle.tbl_format.specs.RowsServed.{all_rows}
use Rattle.tbl_kept.specs.Rows.{lent}
use Rattle.tbl_kept.specs.RowsLaying.{element_at}
use Rattle.tbl_kept.specs.declared.rows.Lent.{Lent}
use Rattle.tbl_layout.specs.Heights.{rules_between}
use Rattle.tbl_tall.proofs.LinesBelow.{between-few, over-command, over-row, over-rule, rules-few}
use Rattle.tbl_tall.proofs.lines_over.lines_over.Goals as goal
use Rattle.tbl_tall.proofs.lines_over.lines_over.Goals.{in-Row+in-Some, in-Rule, in-Command}

pub loop-at-preserved : goal.loop-at-preserved
loop-at-preserved c =
    let i = c.loop-at.invariant in
    let m = c.match-element in
    let at = c.loop-at.at in
    let elements = c.args.rows.now.elements in
    let formats = all_rows c.args.format.now.format in
    let inside = c.args.is_inside in
    let rest = drop (suc at) elements in
    let some : at < length elements = omega (arith, c.loop-at-test.true, c.count-at-end.ensures) in
    elim m.branch [
      | in-Row+in-Some w ↦
          let is = c.element.ensures ∙ ap (λ (e : Lent). lent e ∷ rest) w.in-Row.is in
          let here = rules_between inside c.loop-at.rules w.in-Row.rule_rows + w.in-Row.height in
          let lines : m.lines ≡ c.loop-at.lines + here = omega (arith, w.lines-is, w.rules_between.ensures, w.from.ensures) in
          rw (w.row-is, w.own-is, lines, w.rules-is) (record {
            total = λ bytes.
                over-row bytes formats inside elements at (element_at elements c.loop-at.row) _ w.in-Row.rule_rows w.in-Row.height _
                c.loop-at.own c.loop-at.rules c.loop-at.lines w.in-Some.below _ is (sym (w.cell_under.ensures.value bytes) ∙ w.in-Some.is) (i.total bytes);
            row = some;
            small = w.in-Some.ensures.small;
            end = w.in-Some.ensures.end;
            rules = omega arith;
            most = omega (
              arith,
              i.most,
              i.rules,
              c.stay_few.ensures,
              some,
              w.stays_few.ensures,
              between-few inside c.loop-at.rules w.in-Row.rule_rows,
              rules-few elements at _ w.in-Row.rule_rows w.in-Row.height _ is w.rules_stay_few.ensures,
            );
          })
      | in-Rule w ↦
          let is = c.element.ensures ∙ ap (λ (e : Lent). lent e ∷ rest) w.in-Rule.is in
          rw (w.row-is, w.own-is, w.lines-is, w.rules-is) (record {
            total = λ bytes.
                over-rule bytes formats inside elements at (element_at elements c.loop-at.row) _ c.loop-at.own c.loop-at.rules c.loop-at.lines _ is
                (i.total bytes);
            row = i.row;
            small = i.small;
            end = i.end;
            rules = omega (arith, i.rules);
            most = omega (arith, i.most);
          })
      | in-Command w ↦
          let is = c.element.ensures ∙ ap (λ (e : Lent). lent e ∷ rest) w.in-Command.is in
          rw (w.row-is, w.own-is, w.lines-is, w.rules-is) (record {
            total = λ bytes.
                over-command bytes formats inside elements at (element_at elements c.loop-at.row) _ _ c.loop-at.own c.loop-at.rules c.loop-at.lines _ is
                (i.total bytes);
            row = i.row;
            small = i.small;
            end = i.end;
            rules = omega (arith, i.rules);
            most = omega (arith, i.most);
          })
    ]

pub returns-then-not-is_over-clause-value : goal.returns-then-not-is_over-clause-value
returns-then-not-is_over-clause-value c = λ bytes.
    sym (c.requires.over c.if-not-is_over.true bytes c.args.is_inside (element_at c.args.rows.now.elements c.args.element) c.args.cell 0)
