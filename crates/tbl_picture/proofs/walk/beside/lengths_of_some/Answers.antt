use Rattle.std.proofs.Common.{◌≡◌, ℕ, ◌+◌, ◌<◌, List, length, refl, sym, ap, subst, ◌∙◌, arith}
use Rattle.tbl_format.specs.RowsServed.{all_rows}
use Rattle.tbl_picture.specs.RulesWalked.{with_keys}
use Rattle.tbl_picture.specs.declared.walk.beside.Lengths.{Lengths}
use Rattle.tbl_format.specs.declared.format.FormatKey.{FormatKey}
use Rattle.tbl_picture.proofs.RuleLengths.{LengthsTo, lengths-all, lengths-begun, lengths-more}
use Rattle.tbl_picture.proofs.walk.beside.lengths_of_some.Goals as goal

pub loop-at-init : goal.loop-at-init
loop-at-init c =
    let near = length c.row_of_all-nearest.result.now in
    let first : Lengths = record { nearest = near; longest = near; last = c.args.rules.first } in
    record {
      until = omega arith;
      so_far =
          lengths-begun (all_rows c.args.format.now.format) c.args.rules.first c.args.rules.count first c.requires.some
          (ap (λ (keys : List FormatKey). length keys) c.row_of_all-nearest.ensures.keys) refl refl;
    }

pub loop-at-preserved : goal.loop-at-preserved
loop-at-preserved c =
    let formats = all_rows c.args.format.now.format in
    let at = c.loop-at.at in
    let first = c.args.rules.first in
    let count = c.args.rules.count in
    let lengths = c.loop-at.lengths in
    let few : at < first + count = omega (arith, c.loop-at-test.true, c.rows_end-at-end.ensures) in
    let more_is = c.lengths_with-more.ensures ∙ ap (λ (keys : List FormatKey). with_keys lengths (length keys) at) c.row_of_all-keys.ensures.keys in
    record {
      until = omega (arith, few);
      so_far =
          subst (LengthsTo formats first count (at + 1)) (sym more_is)
          (lengths-more formats first count at lengths few (omega (arith, few, c.requires.within)) c.loop-at.invariant.so_far);
    }

pub returns-clause-lengths : goal.returns-clause-lengths
returns-clause-lengths c =
    let formats = all_rows c.args.format.now.format in
    let first = c.args.rules.first in
    let count = c.args.rules.count in
    let all : c.loop-at.at ≡ first + count = omega (arith, c.loop-at-test.false, c.rows_end-at-end.ensures, c.loop-at.invariant.until) in
    lengths-all formats first count c.loop-at.lengths c.requires.some c.requires.within
    (subst (λ (at : ℕ). LengthsTo formats first count at c.loop-at.lengths) all c.loop-at.invariant.so_far)

pub returns-clause-last : goal.returns-clause-last
returns-clause-last c =
    let to = c.loop-at.invariant.so_far in
    (to.behind, to.within, to.last)
