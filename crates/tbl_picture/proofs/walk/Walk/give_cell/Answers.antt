use Rattle.std.proofs.Common.{◌≡◌, sym, ◌∙◌}
use Rattle.tbl_layout.specs.declared.entry.EntryKind.TheVariants.{Above}
use Rattle.tbl_lines.proofs.CellsGiven.{above-empty, above-moved}
use Rattle.tbl_picture.proofs.walk.Walk.give_cell.Goals as goal

pub give_split-requires-clause-kind : goal.give_split-requires-clause-kind
give_split-requires-clause-kind c = λ held at. sym (c.kind.ensures held at) ∙ c.in-Split.is

pub give_rule_over-requires-clause-kind : goal.give_rule_over-requires-clause-kind
give_rule_over-requires-clause-kind c = λ held at. sym (c.kind.ensures held at) ∙ c.in-Ruled.is

pub give_byte-requires-clause-kind : goal.give_byte-requires-clause-kind
give_byte-requires-clause-kind c = λ held at. sym (c.kind.ensures held at) ∙ c.in-Repeated.is

pub pass_empty-requires-clause-empty : goal.pass_empty-requires-clause-empty
pass_empty-requires-clause-empty c = λ held at.
    let bytes = c.args.row.now.bytes.now in
    let line = c.args.self.now.line in
    let kind : held.entry.kind ≡ Above = sym (c.kind.ensures held at) ∙ c.in-Above.is in
    record { none = above-empty bytes held line kind; moved = above-moved bytes held line kind }
