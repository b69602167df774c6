use Rattle.std.proofs.Common.{◌≡◌, ◌∙◌, refl, true, false, arith, nat_lt, le-ltb, lt-ltb}
use Rattle.tbl_text.specs.Items.{columns}
use Rattle.tbl_text.proofs.FittedSoFar.{fitted-all, fitted-more, fitted-over}
use Rattle.tbl_text.proofs.fitted.fitting_len.Goals as goal

pub loop-at-init : goal.loop-at-init
loop-at-init c = record { fits = record { is = omega arith; within = omega arith }; room = refl }

pub returns-then-left-own-clause-value : goal.returns-then-left-own-clause-value
returns-then-left-own-clause-value c =
    let left = c.loop-at.left in
    let what = c.next_item-item.result.what in
    let first = rw c.behind.ensures at c.next_item-item.ensures.first in
    let wide : nat_lt left (columns what) ≡ true = lt-ltb left (columns what) (omega (arith, c.if-left-own.true, c.columns-own.ensures)) in
    fitted-over c.args.columns c.args.text.now c.loop-at.at left c.next_item-item.result.len what c.loop-at.invariant.fits first wide

pub loop-at-preserved : goal.loop-at-preserved
loop-at-preserved c =
    let left = c.loop-at.left in
    let what = c.next_item-item.result.what in
    let first = rw c.behind.ensures at c.next_item-item.ensures.first in
    let narrow : nat_lt left (columns what) ≡ false = le-ltb left (columns what) (omega (arith, c.if-left-own.false, c.columns-own.ensures)) in
    record {
      fits = rw c.columns-own.ensures
          (fitted-more c.args.columns c.args.text.now c.loop-at.at left c.next_item-item.result.len what c.loop-at.invariant.fits first
          (rw c.behind.ensures at c.next_item-item.ensures.within) narrow);
      room = c.next_item-item.ensures.room ∙ c.loop-at.invariant.room;
    }

pub returns-clause-value : goal.returns-clause-value
returns-clause-value c = fitted-all c.args.columns c.args.text.now c.loop-at.at c.loop-at.left c.loop-at.invariant.fits c.loop-at-test.false
