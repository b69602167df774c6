use Rattle.std.proofs.Common.{sym, arith}
use Rattle.tbl_lines.proofs.RowColumns.{among-keys, among-last, among-past}
use Rattle.tbl_lines.proofs.row_lent.bars_among.Goals as goal

pub returns-then-at-keys : goal.returns-then-at-keys
returns-then-at-keys c = sym (among-keys c.args.keys.now c.args.last_bars c.args.at _ c.if-at-keys.true)

pub returns-then-at-keys-2 : goal.returns-then-at-keys-2
returns-then-at-keys-2 c = sym (among-last c.args.keys.now c.args.last_bars c.args.at c.if-at-keys-2.true)

pub returns-else-at-keys-2 : goal.returns-else-at-keys-2
returns-else-at-keys-2 c =
    sym (among-past c.args.keys.now c.args.last_bars c.args.at (omega (arith, c.if-at-keys.false, c.if-at-keys-2.false)))
