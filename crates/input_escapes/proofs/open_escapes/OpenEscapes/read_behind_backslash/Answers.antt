use Rattle.input_escapes.proofs.EscapeFronts.{gives_nothing}
use Rattle.input_escapes.proofs.open_escapes.OpenEscapes.read_behind_backslash.Goals as goal

pub returns-then-name_escape : goal.returns-then-name_escape
returns-then-name_escape c =
    gives_nothing c.args.base c.args.byte c.args.self.now _ c.name_escape.result c.if-name_escape.true c.name_escape.ensures
