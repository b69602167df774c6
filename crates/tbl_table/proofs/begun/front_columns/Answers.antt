use Rattle.std.proofs.Common.{rules, ◌≡◌, true, refl, sym, ◌∙◌, ◌==◌}
use Rattle.input_source.specs.Bytes.{newline}
use Rattle.tbl_table.proofs.BegunLines.{columns-none, columns-whole, newline-goes_on}
use Rattle.tbl_table.proofs.begun.front_columns.Goals as goal

pub returns-then-byte-eq10 : goal.returns-then-byte-eq10
returns-then-byte-eq10 c = λ inside begun.
    let line = c.args.line.now in
    let is : (newline == newline) ≡ true = refl in
    rw c.if-byte-eq10.true (sym c.whole_line.ensures.columns ∙ columns-whole line inside begun newline is (newline-goes_on inside))

pub returns : goal.returns
returns c = λ inside begun. columns-none c.args.line.now inside begun c.args.byte (search rules)
