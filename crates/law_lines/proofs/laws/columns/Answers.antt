use Rattle.roff_lines.proofs.Columns.{stands_in_columns}
use Rattle.law_lines.proofs.laws.columns.Goals as goal

pub returns : goal.returns
returns c = stands_in_columns
