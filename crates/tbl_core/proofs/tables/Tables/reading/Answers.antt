use Rattle.std.proofs.Common.{rules, ◌≡◌, ap, ◌∙◌}
use Rattle.std.specs.List.{take_while}
use Rattle.tbl_core.specs.Passing.{is_of_line}
use Rattle.tbl_core.specs.declared.place.Front.TheVariants.{Other}
use Rattle.tbl_core.specs.declared.place.Position.TheVariants.{Inside}
use Rattle.tbl_core.proofs.ReadOn.{reads_line}
use Rattle.tbl_core.proofs.tables.Tables.reading.Goals as goal

pub returns-in-Inside-Other-clause-reads : goal.returns-in-Inside-Other-clause-reads
returns-in-Inside-Other-clause-reads c = λ some.
    let a = c.self.inside in
    let is : a.position ≡ Inside Other = search rules in
    let line = c.line_front.ensures ∙ ap (take_while is_of_line) c.at_most.ensures in
    rw (← c.self.view_is)
    (reads_line a.limits a.count a.position a.table.reading c.args.bytes.now c.line_front.result.now c.room-room.result is
    c.room-room.ensures line some)
