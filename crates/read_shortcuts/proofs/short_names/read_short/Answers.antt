use Rattle.std.proofs.Common.{refl}
use Rattle.read_shortcuts.specs.declared.control.ControlRead.TheVariants.{HeldToEnd}
use Rattle.read_shortcuts.proofs.ControlReads.{line-read}
use Rattle.read_shortcuts.proofs.ShortNames.{name-line}
use Rattle.read_shortcuts.proofs.short_names.read_short.Goals as goal

pub returns-then-front-eq10-clause-read : goal.returns-then-front-eq10-clause-read
returns-then-front-eq10-clause-read g c = λ es.
    let passed = c.pass_line in
    let asked = c.requires in
    line-read g.S.ByteSource c.args.source.now passed.new.source es c.args.reader.now c.go_on.new.self c.args.unread.now passed.new.self
    passed.ensures.notes passed.ensures.failures HeldToEnd refl
    (name-line _ _ c.args.reader.now c.go_on.new.self c.args.front (g.S.ByteSource.ready c.args.source.now) c.args.unread.now passed.new.self
    asked.none_due asked.begins asked.none_half asked.ready (c.belongs_to_name.ensures.belongs c.if-not-belongs_to_name.false) c.stays_within.ensures passed.ensures.passes c.go_on.ensures)
