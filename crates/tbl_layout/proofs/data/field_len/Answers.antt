use Rattle.std.proofs.Common.{◌∙◌}
use Rattle.tbl_layout.proofs.Fields.{field_len-found}
use Rattle.tbl_layout.proofs.data.field_len.Goals as goal

pub returns-clause-value : goal.returns-clause-value
returns-clause-value c = c.unwrap_or.ensures ∙ field_len-found c.args.separator c.args.text.now c.memchr.result c.memchr.ensures
