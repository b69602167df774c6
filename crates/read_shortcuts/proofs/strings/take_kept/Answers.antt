use Rattle.std.proofs.Common.{arith, refl, rules}
use Rattle.read_shortcuts.proofs.RunsRead.{takes-ready}
use Rattle.read_shortcuts.proofs.StringFronts.{reads-no_text, reads-text}
use Rattle.read_shortcuts.proofs.strings.take_kept.Goals as goal

pub returns-then-count-gt0-clause-past : goal.returns-then-count-gt0-clause-past
returns-then-count-gt0-clause-past g c =
    let took = c.take_run-count.ensures.takes in
    reads-text _ _ _ _ _ _ took c.args.reader.now c.go_on.new.self c.args.name c.args.appends c.requires.reading c.requires.none_half c.requires.kept
    c.stays_within.ensures (search rules) c.if-count-gt0.true

pub returns-else-count-gt0-clause-past : goal.returns-else-count-gt0-clause-past
returns-else-count-gt0-clause-past g c =
    reads-no_text _ _ _ _ _ _ c.take_run-count.ensures.takes c.args.reader.now (omega (arith, c.if-count-gt0.false)) c.stays_within.ensures

pub returns-then-count-gt0-clause-whole : goal.returns-then-count-gt0-clause-whole
returns-then-count-gt0-clause-whole g c = takes-ready _ _ _ _ _ _ _ c.take_run-count.ensures.takes refl

pub returns-else-count-gt0-clause-whole : goal.returns-else-count-gt0-clause-whole
returns-else-count-gt0-clause-whole g c = takes-ready _ _ _ _ _ _ _ c.take_run-count.ensures.takes refl
