use Rattle.std.proofs.Common.{sym, ◌∙◌}
use Rattle.tbl_data.proofs.NotesTold.{untold-found}
use Rattle.tbl_data.proofs.data_line.may_tell.Goals as goal

pub returns : goal.returns
returns c none = untold-found c.args.text.now c.memchr2.result c.memchr2.ensures (sym c.is_some.ensures ∙ none)
