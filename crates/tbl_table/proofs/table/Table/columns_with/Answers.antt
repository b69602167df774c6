use Rattle.tbl_table.proofs.TableFits.{few-bytes, few-keys}
use Rattle.tbl_table.proofs.table.Table.columns_with.Goals as goal

pub columns_with-requires-clause-keys : goal.columns_with-requires-clause-keys
columns_with-requires-clause-keys c = rw c.line.ensures (few-keys c.self.invariant.parts)

pub columns_with-requires-clause-few : goal.columns_with-requires-clause-few
columns_with-requires-clause-few c = rw c.line.ensures (few-bytes c.self.invariant.parts)

pub columns_with-requires-in-InFormat-clause-keys : goal.columns_with-requires-in-InFormat-clause-keys
columns_with-requires-in-InFormat-clause-keys c = rw c.line-in-InFormat.ensures (few-keys c.self.invariant.parts)

pub columns_with-requires-in-InFormat-clause-few : goal.columns_with-requires-in-InFormat-clause-few
columns_with-requires-in-InFormat-clause-few c = rw c.line-in-InFormat.ensures (few-bytes c.self.invariant.parts)
