use Rattle.std.proofs.Common.{true, ◌∙◌, sym}
use Rattle.read_definitions.specs.CopiedLines.{NoneCopied}
use Rattle.read_definitions.proofs.CopiedLines.{copies-behind_dot}
use Rattle.read_definitions.proofs.copied.dotted_len.Goals as goal

pub returns-in-None-clause-copies : goal.returns-in-None-clause-copies
returns-in-None-clause-copies c = NoneCopied true

pub returns-then-is_behind_dot-clause-copies : goal.returns-then-is_behind_dot-clause-copies
returns-then-is_behind_dot-clause-copies c =
    copies-behind_dot c.args.second c.args.rest.now c.in-Some.next.now _ c.in-Some.ensures.cases.0 (sym c.is_behind_dot.ensures ∙ c.if-is_behind_dot.true)

pub returns-else-is_behind_dot-clause-copies : goal.returns-else-is_behind_dot-clause-copies
returns-else-is_behind_dot-clause-copies c = NoneCopied true
