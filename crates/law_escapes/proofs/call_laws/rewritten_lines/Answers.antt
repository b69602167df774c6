use Rattle.law_escapes.proofs.TextsInCalls.{lines_are_read_as_rewritten}
use Rattle.law_escapes.proofs.call_laws.rewritten_lines.Goals as goal

pub returns : goal.returns
returns c = lines_are_read_as_rewritten
