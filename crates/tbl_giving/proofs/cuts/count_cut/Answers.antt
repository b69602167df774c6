use Rattle.std.proofs.Common.{◌≡◌, refl, ◌∙◌, arith}
use Rattle.std.proofs.lemmas.List.{drop_all}
use Rattle.tbl_giving.proofs.CutsAtElements.{first-goes, frame-first, frame-last, last-counted, more-goes}
use Rattle.tbl_giving.proofs.cuts.count_cut.Goals as goal
use Rattle.tbl_giving.proofs.cuts.count_cut.Goals.{After-cut_on_frame-below}

below : (c : After-cut_on_frame-below) → c.loop-at.invariant.goes.more ≡ c.cut_on_frame-below.result
below c =
    last-counted _ _ _ c.args.rows.now _ _ c.loop-at.at _ _ c.cut_on_frame-below.ensures.count
    (drop_all c.loop-at.at c.args.rows.now.elements (omega (arith, c.loop-at-test.false, c.count-at-end.ensures))) c.loop-at.invariant.goes.rest

pub cut_on_frame-count-requires : goal.cut_on_frame-count-requires
cut_on_frame-count-requires c =
    let can = c.requires.can in
    record {
      can = rw c.start.ensures.room can;
      next = frame-first _ _ _ _ _ can _ (c.start.ensures.comes _ _ refl refl can.places can.laid);
    }

pub loop-at-init : goal.loop-at-init
loop-at-init c =
    let can = c.requires.can in
    let frame = c.cut_on_frame-count.ensures in
    record {
      goes = first-goes _ _ _ _ _ can _ _ _ (c.start.ensures.comes _ _ refl refl can.places can.laid) frame.count;
      come = omega (arith, frame.come, c.start.ensures.come);
      room = frame.room ∙ c.start.ensures.room;
      escapes = frame.escapes;
    }

pub cut_in_element-count-requires : goal.cut_in_element-count-requires
cut_in_element-count-requires c =
    let go = c.loop-at.invariant.goes in
    record {
      can = rw c.loop-at.invariant.room c.requires.can;
      at = omega (arith, c.loop-at-test.true, c.count-at-end.ensures);
      come = c.loop-at.invariant.come;
      count = record { count = go.more; rest = go.rest; small = omega (arith, go.all, c.requires.can.small) };
    }

pub overflow_add-count : goal.overflow_add-count
overflow_add-count c =
    let go = c.loop-at.invariant.goes in
    omega (arith, go.all, (c.cut_in_element-count.ensures.count go.more go.rest).all, c.requires.can.small)

pub loop-at-preserved : goal.loop-at-preserved
loop-at-preserved c =
    let i = c.loop-at.invariant in
    let element = c.cut_in_element-count.ensures in
    record {
      goes = more-goes i.goes (element.count i.goes.more i.goes.rest);
      come = element.come;
      room = element.room ∙ i.room;
      escapes = element.escapes ∙ i.escapes;
    }

pub cut_on_frame-below-requires : goal.cut_on_frame-below-requires
cut_on_frame-below-requires c =
    let i = c.loop-at.invariant in
    let none = drop_all c.loop-at.at c.args.rows.now.elements (omega (arith, c.loop-at-test.false, c.count-at-end.ensures)) in
    record { can = rw i.room c.requires.can; next = frame-last _ _ _ c.args.rows.now _ c.loop-at.at _ none i.goes.rest }

pub overflow_add-result : goal.overflow_add-result
overflow_add-result c = omega (arith, c.loop-at.invariant.goes.all, below (goal.at.overflow_add-result c).After-cut_on_frame-below, c.requires.can.small)

pub returns-clause-count : goal.returns-clause-count
returns-clause-count c = omega (arith, c.loop-at.invariant.goes.all, below (goal.at.returns-clause-count c).After-cut_on_frame-below)
