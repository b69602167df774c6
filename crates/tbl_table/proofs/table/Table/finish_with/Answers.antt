use Rattle.std.proofs.Common.{◌≡◌, ℕ, List, ap, nat_lt, true, false, sym, ◌∙◌}
use Rattle.tbl_table.specs.Reading.{limit_at_end, output_or_read}
use Rattle.tbl_giving.proofs.GivingLeft.{newline-append}
use Rattle.tbl_table.specs.Steps.{behind_line, given_within}
use Rattle.tbl_table.specs.Table.{closed, ended_in, output_in, rows}
use Rattle.tbl_table.proofs.TableEnds.{closed-alone, closed-rests, given-by, told-by, told-cut, width-met}
use Rattle.tbl_table.proofs.table.Table.finish_with.Goals as goal

pub returns-then-has_many_rows-clause-told : goal.returns-then-has_many_rows-clause-told
returns-then-has_many_rows-clause-told c =
    let old = c.args.self.now in
    let many : nat_lt old.limits.rows (rows (closed old.reading.table)) ≡ true = sym (rw c.close.ensures at c.has_many_rows.ensures) ∙ c.if-has_many_rows.true in
    (rw c.close.ensures at c.cut.ensures.told) ∙ told-cut old.limits c.args.number c.args.line_length old.reading.table many

pub give-requires-clause-pending : goal.give-requires-clause-pending
give-requires-clause-pending c = rw c.close.ensures (closed-alone c.args.self.now.reading.table)

pub give-requires-clause-begun : goal.give-requires-clause-begun
give-requires-clause-begun c = rw c.close.ensures (closed-rests c.args.self.now.reading.table)

pub returns : goal.returns
returns c =
    let old = c.args.self.now in
    let few : nat_lt old.limits.rows (rows (closed old.reading.table)) ≡ false = sym (rw c.close.ensures at c.has_many_rows.ensures) ∙ c.if-has_many_rows.false in
    let met : c.give.result ≡ limit_at_end old.limits c.args.line_length old.reading.table =
    (rw c.close.ensures at c.give.ensures.answer) ∙ width-met old.limits c.args.number c.args.line_length old.reading.table few in
    let is = c.args.has_newline in
    let whole = closed old.reading.table in
    let t = ended_in whole.phase c.args.number c.args.line_length whole in
    let given = output_or_read (output_in t.phase c.args.line_length t) old.reading.read in
    record {
      answer = met;
      told = told-by old.limits c.args.number c.args.line_length c.give.result old.reading.table c.give.new.self.told met
          (rw c.close.ensures at c.give.ensures.told) (rw c.close.ensures at c.give.ensures.cut);
      to_come = (rw c.close.ensures at c.give.ensures.to_come)
          ∙ ap (λ (bytes : List ℕ). given_within c.give.result bytes) (sym (newline-append is given old.reading.line))
          ∙ given-by old.limits c.args.number c.args.line_length c.give.result (behind_line is old.reading) met;
      limits = rw c.close.ensures at c.give.ensures.limits;
    }
