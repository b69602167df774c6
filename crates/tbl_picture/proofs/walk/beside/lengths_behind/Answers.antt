use Rattle.std.proofs.Common.{◌≡◌, ◌+◌, ◌-◌, List, Some, length, ap, subst, arith}
use Rattle.tbl_format.specs.RowsServed.{all_rows}
use Rattle.tbl_format.specs.declared.format.FormatKey.{FormatKey}
use Rattle.tbl_picture.specs.RulesWalked.{LastIs, LengthsAre, rows_at}
use Rattle.tbl_picture.specs.declared.walk.beside.Lengths.{Lengths}
use Rattle.tbl_picture.proofs.RuleLengths.{are-lengths, longest-behind}
use Rattle.tbl_picture.proofs.walk.beside.lengths_behind.Goals as goal

pub returns-then-lengths-rules-clause-lengths : goal.returns-then-lengths-rules-clause-lengths
returns-then-lengths-rules-clause-lengths c =
    let formats = all_rows c.args.format.now.format in
    let first = c.args.rules.first in
    let count = c.args.rules.count in
    let lengths = c.in_ok-lengths.lengths in
    let near = length c.row_of_all.result.now in
    let behind : Lengths = record { nearest = near; longest = lengths.longest; last = lengths.last } in
    let was : c.args.before ≡ Some lengths = c.in_ok-lengths.was in
    let are = subst (LengthsAre (rows_at formats (first - 1) (count + 1))) was c.requires.lengths in
    let last = subst (LastIs formats (first - 1) (count + 1)) was c.requires.last in
    are-lengths formats first count behind (omega (arith, c.if-rules-gt0.true)) c.requires.within
    (ap (λ (keys : List FormatKey). length keys) c.row_of_all.ensures.keys)
    (longest-behind formats first count lengths c.requires.some c.requires.within (omega (arith, c.if-lengths-rules.true)) are last)
