use Rattle.std.proofs.Common.{sym, ◌∙◌}
use Rattle.input_source.specs.Bytes.{newline}
use Rattle.tbl_options.specs.Options.{options_end}
use Rattle.tbl_table.proofs.BegunLines.{counts-behind, nothing-head, place-format, place-front, place-keys}
use Rattle.tbl_table.proofs.begun.Begun.place_at_end.Goals as goal

pub returns-in-Keys-clause-head : goal.returns-in-Keys-clause-head
returns-in-Keys-clause-head c = λ is.
    place-keys c.args.line.now c.in-Keys.count c.behind.result c.in-Keys.start (options_end c.args.line.now) (counts-behind c.args.line.now c.in-Keys.count c.behind.result c.in-Keys.start newline c.behind.ensures.value) (sym c.in-Keys.is ∙ is)

pub returns-in-Keys-clause-format : goal.returns-in-Keys-clause-format
returns-in-Keys-clause-format c = λ f made is.
    place-format c.args.line.now c.in-Keys.count c.behind.result c.in-Keys.start f made (counts-behind c.args.line.now c.in-Keys.count c.behind.result c.in-Keys.start newline c.behind.ensures.value) (sym c.in-Keys.is ∙ is)

pub returns-in-Front-clause-head : goal.returns-in-Front-clause-head
returns-in-Front-clause-head c = λ is.
    place-front c.args.line.now c.in-Front.field-0 c.whole_line.result.place c.whole_line.ensures.place (sym c.in-Front.is ∙ is)

pub returns-in-Nothing-clause-head : goal.returns-in-Nothing-clause-head
returns-in-Nothing-clause-head c = λ is. absurd (nothing-head c.args.line.now (options_end c.args.line.now) (sym c.in-Nothing.is ∙ is))
