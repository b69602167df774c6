use Rattle.std.proofs.Common.{◌∙◌, sym}
use Rattle.read_definitions.specs.CopiedLines.{NoneCopied}
use Rattle.read_definitions.proofs.CopiedLines.{copies-behind_backslash}
use Rattle.read_definitions.proofs.copied.escape_len.Goals as goal

pub returns-in-None-clause-copies : goal.returns-in-None-clause-copies
returns-in-None-clause-copies c = λ second. NoneCopied c.args.begins

pub returns-then-is_kept_escape-clause-copies : goal.returns-then-is_kept_escape-clause-copies
returns-then-is_kept_escape-clause-copies c =
    copies-behind_backslash c.args.begins c.args.rest.now c.in-Some.next.now _ c.in-Some.ensures.cases.0 (sym c.is_kept_escape.ensures ∙ c.if-is_kept_escape.true)

pub returns-else-is_kept_escape-clause-copies : goal.returns-else-is_kept_escape-clause-copies
returns-else-is_kept_escape-clause-copies c = λ second. NoneCopied c.args.begins
