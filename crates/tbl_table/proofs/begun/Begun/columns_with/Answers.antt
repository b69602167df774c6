use Rattle.std.proofs.Common.{refl, sym, ◌∙◌}
use Rattle.tbl_options.specs.Options.{options_end}
use Rattle.tbl_table.proofs.BegunLines.{columns-format, columns-keys, counts-behind, nothing-head}
use Rattle.tbl_table.proofs.begun.Begun.columns_with.Goals as goal

pub returns-in-Keys-clause-head : goal.returns-in-Keys-clause-head
returns-in-Keys-clause-head c = λ is.
    columns-keys c.args.line.now c.args.byte c.in-Keys.count c.behind.result c.in-Keys.start (options_end c.args.line.now) refl (counts-behind c.args.line.now c.in-Keys.count c.behind.result c.in-Keys.start c.args.byte c.behind.ensures.value) (sym c.in-Keys.is ∙ is)

pub returns-in-Nothing-clause-head : goal.returns-in-Nothing-clause-head
returns-in-Nothing-clause-head c = λ is.
    absurd (nothing-head c.args.line.now (options_end c.args.line.now) (sym c.in-Nothing.is ∙ is))

pub returns-in-Keys-clause-format : goal.returns-in-Keys-clause-format
returns-in-Keys-clause-format c = λ f made is.
    columns-format c.args.line.now c.args.byte c.in-Keys.count c.behind.result c.in-Keys.start f made (counts-behind c.args.line.now c.in-Keys.count c.behind.result c.in-Keys.start c.args.byte c.behind.ensures.value) (sym c.in-Keys.is ∙ is)
