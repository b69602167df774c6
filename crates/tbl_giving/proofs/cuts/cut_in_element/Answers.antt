use Rattle.std.proofs.Common.{◌∷◌, suc, refl, arith, false}
use Rattle.tbl_giving.proofs.CutsAtElements.{command-goes, front-comes, goes-behind, places-at, row-comes, row-goes, rule-first, whole-can}
use Rattle.tbl_giving.proofs.cuts.cut_in_element.Goals as goal
use Rattle.tbl_layout.specs.Entries.{Rule}
use Rattle.tbl_lines.specs.PictureLines.{Whole}
use Rattle.tbl_tall.specs.TallRows.{WholeComes}

pub returns-in-Command-clause-count : goal.returns-in-Command-clause-count
returns-in-Command-clause-count c = λ count here. command-goes _ _ _ c.args.rows.now _ c.args.at count _ _ c.in-Command.ensures here

pub cut_on_rule-requires : goal.cut_on_rule-requires
cut_on_rule-requires c =
    let rows = c.args.rows.now in
    let can = c.requires.can in
    record {
      next = whole-can _ _ _ rows _ can _ _ _ _ _ _ refl (rule-first _ _ _ rows _ c.args.at _ _ c.in-Rule.ensures c.requires.count.rest)
          (places-at _ _ _ rows _ can false (suc c.args.at));
    }

pub returns-in-Rule-clause-count : goal.returns-in-Rule-clause-count
returns-in-Rule-clause-count c = λ count here.
    let rows = c.args.rows.now in
    let can = c.requires.can in
    let sign = c.in-Rule.sign in
    goes-behind _ _ _ _ rows _ (suc c.args.at) count false
    (c.cut_on_rule.ensures.count _ (Rule sign ∷ _) _ (Whole sign) count can.places (places-at _ _ _ rows _ can false (suc c.args.at)) WholeComes refl
    (rule-first _ _ _ rows _ c.args.at count sign c.in-Rule.ensures here))

pub cut_in_front-in_front-requires-clause-next : goal.cut_in_front-in_front-requires-clause-next
cut_in_front-in_front-requires-clause-next c =
    front-comes _ _ _ c.args.rows.now _ c.requires.can c.args.at _ _ _ _ c.in-Row.ensures _ c.requires.count

pub cut_in_row-in_row-requires-clause-next : goal.cut_in_row-in_row-requires-clause-next
cut_in_row-in_row-requires-clause-next c =
    row-comes _ _ _ c.args.rows.now _ c.requires.can c.args.at _ _ _ _ c.in-Row.ensures _ _ c.args.tall.now _ 0 c.cut_in_front-in_front.ensures.count
    c.requires.count

pub overflow_add-result : goal.overflow_add-result
overflow_add-result c =
    let some = c.requires.count in
    let go = row-goes _ _ _ c.args.rows.now _ c.requires.can c.args.at _ _ _ _ c.in-Row.ensures _ _ _ _ _ c.cut_in_front-in_front.ensures.count
    c.cut_in_row-in_row.ensures.count some.count some.rest in
    omega (arith, go.all, some.small)

pub returns-in-Row-clause-count : goal.returns-in-Row-clause-count
returns-in-Row-clause-count c = λ count here.
    row-goes _ _ _ c.args.rows.now _ c.requires.can c.args.at _ _ _ _ c.in-Row.ensures _ _ _ _ _ c.cut_in_front-in_front.ensures.count
    c.cut_in_row-in_row.ensures.count count here
