use Rattle.read_shortcuts.proofs.ArgumentsPut.{is_text_ahead}
use Rattle.read_shortcuts.proofs.registers.text_ahead.Goals as goal

pub returns-then-may_read : goal.returns-then-may_read
returns-then-may_read g c =
    is_text_ahead c.in-Some.ahead c.front.result.now _ c.args.reader.now.reading c.args.unread.now c.in-Some.ensures c.front.ensures.bytes c.front.ensures.front
    (c.may_read.ensures c.if-may_read.true)
