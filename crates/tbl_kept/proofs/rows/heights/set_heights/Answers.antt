use Rattle.std.proofs.Common.{rules, ◌≤◌, List, ◌++◌, length, map, take, sym, subst, ap, ◌∙◌, append-nil, take_all}
use Rattle.std.specs.List.{AllByRecursion}
use Rattle.std.proofs.lemmas.Grind.{drop_more_same}
use Rattle.std.proofs.lemmas.List.{drop_all}
use Rattle.tbl_format.specs.RowsServed.{all_rows}
use Rattle.tbl_kept.specs.KeptHeights.{raised_behind}
use Rattle.tbl_kept.specs.Rows.{ElementLaid, KeptElement}
use Rattle.tbl_kept.specs.RowsInside.{kept_in}
use Rattle.tbl_kept.specs.declared.rows.Element.{Element}
use Rattle.tbl_kept.proofs.HeightSteps.{each-behind}
use Rattle.tbl_kept.proofs.rows.heights.set_heights.Goals as goal

pub pass_element-pass-requires-clause-room : goal.pass_element-pass-requires-clause-room
pass_element-pass-requires-clause-room c = c.loop-at.invariant.room (length c.args.fields.format.now.format.asked) c.requires.room

pub loop-at-preserved : goal.loop-at-preserved
loop-at-preserved c =
    let i = c.loop-at.invariant in
    let step = c.pass_element-pass.ensures in
    let at = c.loop-at.at in
    let fields = c.args.fields.entries.now in
    record {
      rest = step.rest ∙ drop_more_same c.loop-at.elements c.args.elements.now at i.rest;
      many = step.many ∙ i.many;
      cells = step.cells;
      rules = step.rules;
      raised = λ bytes laid.
          let P : KeptElement → Type 0 = ElementLaid bytes (all_rows c.args.fields.format.now.format) (length c.args.fields.format.now.format.asked) in
          (step.raised bytes
          (subst (λ (es : List Element). AllByRecursion P (map (kept_in fields) es)) (sym i.rest) (each-behind P (kept_in fields) at c.args.elements.now laid)))
          ∙ i.raised bytes laid;
      places = λ from to lie. step.places from to (i.places from to lie);
      room = λ n had. step.room n (i.room n had);
    }

pub returns-clause-raised : goal.returns-clause-raised
returns-clause-raised c = λ bytes laid.
    let i = c.loop-at.invariant in
    let elements = c.loop-at.elements in
    let at = c.loop-at.at in
    let K : Element → KeptElement = kept_in c.args.fields.entries.now in
    let end : length elements ≤ at = search rules in
    let behind : List KeptElement → List KeptElement =
    raised_behind bytes (all_rows c.args.fields.format.now.format) c.args.is_inside (length c.args.fields.format.now.format.asked) c.loop-at.pass.above.now c.loop-at.lefts.above.items c.loop-at.pass.rules in
    sym (ap (map K) (take_all at elements end))
    ∙ sym (append-nil (map K (take at elements)))
    ∙ ap (λ (es : List Element). map K (take at elements) ++ behind (map K es)) (sym (drop_all at elements end))
    ∙ i.raised bytes laid
