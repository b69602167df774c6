use Rattle.std.proofs.Common.{List, None, ℕ, refl, subst}
use Rattle.roff_scan.specs.Unread.Calls.{PassesFront}
use Rattle.read_shortcuts.proofs.ArgumentsPut.{argument_room, is_name-digit, puts_argument}
use Rattle.read_shortcuts.proofs.RegistersPut.{no_newline}
use Rattle.read_shortcuts.specs.Registers.{OfArgument}
use Rattle.read_shortcuts.proofs.registers.pass_argument.Goals as goal

pub pass-requires-clause-plain : goal.pass-requires-clause-plain
pass-requires-clause-plain g c =
    let ahead = c.requires in
    rw ahead.is (no_newline OfArgument c.args.digit None (is_name-digit c.args.digit ahead.above ahead.below))

pub returns-clause-puts : goal.returns-clause-puts
returns-clause-puts g c = λ es.
    let gave = g.S.ByteSource.gives c.args.source.now in
    let gives = g.S.ByteSource.gives c.pass.new.source in
    puts_argument gave gives (g.S.ByteSource.ready c.args.source.now) c.args.reader.now.reading c.args.unread.now c.pass.new.self c.interrupt.new.unread c.args.digit c.argument_text-text.result.items
    c.requires (subst (λ (bytes : List ℕ). PassesFront gave gives bytes c.args.unread.now c.pass.new.self) c.requires.is c.pass.ensures.passes) c.interrupt.ensures c.argument_text-text.ensures
    c.args.reader.now es refl c.stays_within.ensures

pub returns-clause-bytes : goal.returns-clause-bytes
returns-clause-bytes g c =
    let gave = g.S.ByteSource.gives c.args.source.now in
    let gives = g.S.ByteSource.gives c.pass.new.source in
    argument_room gave gives (g.S.ByteSource.ready c.args.source.now) c.args.reader.now.reading c.args.unread.now c.pass.new.self c.interrupt.new.unread c.args.digit c.argument_text-text.result.items
    c.requires (subst (λ (bytes : List ℕ). PassesFront gave gives bytes c.args.unread.now c.pass.new.self) c.requires.is c.pass.ensures.passes) c.interrupt.ensures c.argument_text-text.ensures
