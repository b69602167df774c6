use Rattle.std.proofs.Common.{◌+◌, sym, ◌∙◌}
use Rattle.tbl_table.proofs.BegunLines.{begun-keys, begun-nothing, counts-behind}
use Rattle.tbl_table.proofs.begun.Begun.behind.Goals as goal

pub returns-in-Front-clause-few : goal.returns-in-Front-clause-few
returns-in-Front-clause-few c = λ most few. c.front_behind.ensures.few (most + 1)

pub returns-in-Keys-clause-value : goal.returns-in-Keys-clause-value
returns-in-Keys-clause-value c = λ phase f made is.
    begun-keys c.args.line.now c.args.byte c.in-Keys.count c.behind.result c.in-Keys.start phase f made (counts-behind c.args.line.now c.in-Keys.count c.behind.result c.in-Keys.start c.args.byte c.behind.ensures.value) (sym c.in-Keys.is ∙ is)

pub returns-in-Nothing-clause-value : goal.returns-in-Nothing-clause-value
returns-in-Nothing-clause-value c = λ phase f made is. begun-nothing c.args.line.now c.args.byte phase f (sym c.in-Nothing.is ∙ is)
