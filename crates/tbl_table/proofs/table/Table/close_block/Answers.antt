use Rattle.std.proofs.Common.{◌∙◌}
use Rattle.tbl_options.specs.Notes.{told_of_all}
use Rattle.tbl_table.proofs.BlockRests.{rest-can, rest-read, rests}
use Rattle.tbl_table.proofs.TableFits.{few-formats}
use Rattle.tbl_table.proofs.table.Table.close_block.Goals as goal

pub end_block-requires : goal.end_block-requires
end_block-requires c = record { small = few-formats c.self.invariant.parts; can = rest-can c.self.invariant.parts }

pub invariant_of-self : goal.invariant_of-self
invariant_of-self c =
    let a = c.self.inside in
    let none = rw (← c.self.view_is) at c.requires.pending in
    let rest = rests c.self.invariant.parts c.end_block.new.kept none c.end_block.ensures.done c.end_block.ensures.none in
    record {
      parts = rest.parts;
      giving = c.give_nothing.ensures.nothing.can a.text c.end_block.new.kept.rows c.end_block.new.kept.format;
      columns = c.give_nothing.ensures.room ∙ c.self.invariant.columns;
    }

pub returns : goal.returns
returns c =
    let a = c.self.inside in
    let none = rw (← c.self.view_is) at c.requires.pending in
    let new = c.end_block.new.kept in
    let rest = rests c.self.invariant.parts new none c.end_block.ensures.done c.end_block.ensures.none in
    rw (← c.self.view_is)
    (λ i. record {
      limits = a.limits;
      reading = rest-read c.self.invariant.parts a.options new none rest i;
      told = told_of_all a.text.settled (rest.notes i).to_tell;
      to_come = c.give_nothing.ensures.nothing.coming a.text new.rows new.format i;
    })
