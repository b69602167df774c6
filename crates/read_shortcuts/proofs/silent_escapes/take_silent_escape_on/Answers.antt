use Rattle.std.proofs.Common.{arith, ◌∙◌}
use Rattle.read_shortcuts.proofs.SilentEscapesRead.{no_newline_in_silent, reads-silent, silent_of}
use Rattle.read_shortcuts.proofs.LinesBegun.{escapes-passed}
use Rattle.read_shortcuts.proofs.RunsRead.{reads-none}
use Rattle.read_shortcuts.proofs.silent_escapes.take_silent_escape_on.Goals as goal

pub returns-then-length-eq0-clause-past : goal.returns-then-length-eq0-clause-past
returns-then-length-eq0-clause-past g c = reads-none _ c.args.reader.now c.args.unread.now c.stays_within.ensures

pub pass-requires-clause-front : goal.pass-requires-clause-front
pass-requires-clause-front g c =
    let silent = silent_of c.silent_escape-length.result c.front.result.now c.silent_escape-length.ensures c.if-length-eq0.false in
    record { among = omega (arith, silent.few, c.front.ensures.front.among); within = omega (arith, silent.few, c.front.ensures.front.within) }

pub pass-requires-clause-plain : goal.pass-requires-clause-plain
pass-requires-clause-plain g c =
    no_newline_in_silent c.silent_escape-length.result c.front.result.now _ c.args.unread.now
    (silent_of c.silent_escape-length.result c.front.result.now c.silent_escape-length.ensures c.if-length-eq0.false) c.front.ensures.bytes

pub returns-clause-past : goal.returns-clause-past
returns-clause-past g c =
    reads-silent _ _ c.silent_escape-length.result c.front.result.now _ c.args.line c.args.reader.now _ c.args.unread.now _ c.requires.half c.requires.line
    (silent_of c.silent_escape-length.result c.front.result.now c.silent_escape-length.ensures c.if-length-eq0.false) c.front.ensures.bytes c.pass.ensures.passes c.go_on.ensures c.stays_within-2.ensures

pub returns-clause-half : goal.returns-clause-half
returns-clause-half g c = escapes-passed _ _ _ _ _ c.pass.ensures.passes ∙ c.requires.half
