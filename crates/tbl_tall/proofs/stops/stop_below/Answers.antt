use Rattle.std.proofs.Common.{◌≡◌, ◌<◌, ◌≤◌, suc, ◌∷◌, drop, length, sym, ap, ◌∙◌, arith}
use Rattle.tbl_format.specs.RowsServed.{all_rows}
use Rattle.tbl_kept.specs.Rows.{Command, ElementLaid, lent}
use Rattle.tbl_kept.specs.RowsLaying.{element_at}
use Rattle.tbl_kept.specs.declared.rows.Lent.{Lent}
use Rattle.tbl_tall.proofs.CellsNext.{all-at}
use Rattle.tbl_tall.proofs.StopsBelow.{below-command, below-end, below-none, below-rule, below-some, lies-within, row-is}
use Rattle.tbl_tall.proofs.stops.stop_below.Goals as goal
use Rattle.tbl_tall.proofs.stops.stop_below.Goals.{in-Row+in-Some, in-Rule, in-Command}
use Rattle.tbl_tall.specs.RowsNext.{end_kept}

pub loop-at-preserved : goal.loop-at-preserved
loop-at-preserved c =
    let i = c.loop-at.invariant in
    let m = c.match-element in
    let at = c.loop-at.at in
    let elements = c.args.rows.now.elements in
    let formats = all_rows c.args.format.now.format in
    let columns = length c.args.rows.now.columns in
    let rest = drop (suc at) elements in
    let some : at < length elements = omega (arith, c.loop-at-test.true, c.count-at-end.ensures) in
    let within = lies-within formats c.args.rows.now at some c.requires.lie in
    let same_end : c.end_in-end.result ≡ end_kept formats (element_at elements c.args.element) c.args.cell = c.end_in-end.ensures.value in
    let end_few : c.end_in-end.result ≤ columns = omega (arith, same_end, c.requires.end) in
    elim m.branch [
      | in-Row+in-Some w ↦
          let is = c.element.ensures ∙ ap (λ (e : Lent). lent e ∷ rest) w.in-Row.is in
          rw (w.row-is, w.own-is, w.stop-is) (record {
            total = λ bytes laid.
                let own_laid = all-at (ElementLaid bytes formats columns) elements at (Command 0 0) some laid in
                below-some bytes formats columns elements at (element_at elements c.loop-at.row) _ _ _ _ c.loop-at.own w.in-Some.below c.loop-at.stop
                w.first_entry-stop.result c.end_in-end.result _ is i.is_row (sym (w.cell_under.ensures.value bytes) ∙ w.in-Some.is) within i.end
                w.in-Some.ensures.end end_few (w.first_entry-stop.ensures.value bytes own_laid) (i.total bytes laid);
            row = some;
            is_row = row-is elements at _ _ _ _ rest is;
            small = w.in-Some.ensures.small;
            end = w.in-Some.ensures.end;
            few = omega (arith, w.first_entry-stop.ensures.few, i.few);
          })
      | in-Rule w ↦
          let is = c.element.ensures ∙ ap (λ (e : Lent). lent e ∷ rest) w.in-Rule.is in
          rw (w.row-is, w.own-is, w.stop-is) (record {
            total = λ bytes laid.
                below-rule bytes formats columns elements at (element_at elements c.loop-at.row) _ c.loop-at.own c.loop-at.stop _ is (i.total bytes laid);
            row = i.row;
            is_row = i.is_row;
            small = i.small;
            end = i.end;
            few = i.few;
          })
      | in-Command w ↦
          let is = c.element.ensures ∙ ap (λ (e : Lent). lent e ∷ rest) w.in-Command.is in
          rw (w.row-is, w.own-is, w.stop-is) (record {
            total = λ bytes laid.
                below-command bytes formats columns elements at (element_at elements c.loop-at.row) _ _ c.loop-at.own c.loop-at.stop _ is
                (i.total bytes laid);
            row = i.row;
            is_row = i.is_row;
            small = i.small;
            end = i.end;
            few = i.few;
          })
    ]

pub returns-in-None : goal.returns-in-None
returns-in-None c = λ bytes laid.
    let i = c.loop-at.invariant in
    let at = c.loop-at.at in
    let elements = c.args.rows.now.elements in
    let formats = all_rows c.args.format.now.format in
    let columns = length c.args.rows.now.columns in
    let is = c.element.ensures ∙ ap (λ (e : Lent). lent e ∷ drop (suc at) elements) c.in-Row.is in
    below-none bytes formats columns elements at (element_at elements c.loop-at.row) _ _ _ _ c.loop-at.own c.loop-at.stop _ is i.is_row
    (sym (c.cell_under.ensures.value bytes) ∙ c.in-None.is) i.few (i.total bytes laid)

pub returns : goal.returns
returns c = λ bytes laid.
    let i = c.loop-at.invariant in
    let elements = c.args.rows.now.elements in
    let formats = all_rows c.args.format.now.format in
    let columns = length c.args.rows.now.columns in
    let past : length elements ≤ c.loop-at.at = omega (arith, c.loop-at-test.false, c.count-at-end.ensures) in
    below-end bytes formats columns elements c.loop-at.at (element_at elements c.loop-at.row) c.loop-at.own c.loop-at.stop _ past i.few (i.total bytes laid)
