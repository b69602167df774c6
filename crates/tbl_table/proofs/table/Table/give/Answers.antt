use Rattle.std.proofs.Common.{◌≡◌, ◌++◌, ℕ, List, Option, ap, sym, ◌∙◌}
use Rattle.tbl_data.specs.declared.phase.Phase.TheVariants.{InData}
use Rattle.tbl_giving.specs.Giving.{with_newline}
use Rattle.tbl_table.specs.Reading.{output_or_read}
use Rattle.tbl_table.specs.Steps.{given_within}
use Rattle.tbl_table.proofs.TableEnds.{picture-out, picture-told}
use Rattle.tbl_table.proofs.table.Table.give.Goals as goal

pub returns-in-InData-clause-to_come : goal.returns-in-InData-clause-to_come
returns-in-InData-clause-to_come c =
    let now = c.args.self.now in
    let is : now.reading.table.phase ≡ InData = rw (← c.self.view_is) c.in-InData.is in
    c.give_picture.ensures.to_come
    ∙ ap (λ (o : Option (List ℕ)). given_within c.give_picture.result (with_newline c.args.has_newline (output_or_read o now.reading.read ++ now.reading.line)))
    (sym (picture-out now.reading.table c.args.number c.args.line_length is))

pub returns-in-InData-clause-told : goal.returns-in-InData-clause-told
returns-in-InData-clause-told c =
    let now = c.args.self.now in
    let is : now.reading.table.phase ≡ InData = rw (← c.self.view_is) c.in-InData.is in
    λ none. c.give_picture.ensures.told none ∙ sym (picture-told now.reading.table c.args.number c.args.line_length is)
