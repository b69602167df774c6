use Rattle.std.proofs.Common.{ℕ, List, ap, subst, sym, ◌+◌, ◌<◌, ◌∙◌, length}
use Rattle.input_model.specs.Arguments.{is_behind_quote}
use Rattle.input_model.specs.Unread.{IsWithin}
use Rattle.run_model.specs.Reading.Items.{PageUnread}
use Rattle.read_shortcuts.specs.Registers.{PutsText, asked_by, with_text}
use Rattle.read_shortcuts.proofs.ArgumentsPut.{reads-ahead}
use Rattle.read_shortcuts.proofs.RegistersHeld.{holds_text, reads_text, room-put, room-rest}
use Rattle.read_shortcuts.proofs.registers.hold_ahead.Goals as goal

-- the limits have room for the text
pub hold_bytes-count-requires : goal.hold_bytes-count-requires
hold_bytes-count-requires g c =
    let is = sym c.as_slice-bytes.ensures.value in
    let passed : PageUnread = c.pass_text-text.new.unread in
    let puts = subst (λ (t : List ℕ). IsWithin (with_text t passed)) is c.pass_text-text.ensures.puts.within in
    (room-put c.as_slice-bytes.result.now passed puts).0

pub push_read-requires-clause-stack : goal.push_read-requires-clause-stack
push_read-requires-clause-stack g c =
    let is = sym c.as_slice-bytes.ensures.value in
    let passed : PageUnread = c.pass_text-text.new.unread in
    let puts = subst (λ (t : List ℕ). IsWithin (with_text t passed)) is c.pass_text-text.ensures.puts.within in
    (room-rest c.as_slice-bytes.result.now c.hold_bytes-count.result passed c.hold_bytes-count.new.self c.hold_bytes-count.ensures.few puts c.hold_bytes-count.ensures.holds).0

pub push_read-requires-clause-shallow : goal.push_read-requires-clause-shallow
push_read-requires-clause-shallow g c =
    let is = sym c.as_slice-bytes.ensures.value in
    let passed : PageUnread = c.pass_text-text.new.unread in
    let puts = subst (λ (t : List ℕ). IsWithin (with_text t passed)) is c.pass_text-text.ensures.puts.within in
    (room-rest c.as_slice-bytes.result.now c.hold_bytes-count.result passed c.hold_bytes-count.new.self c.hold_bytes-count.ensures.few puts c.hold_bytes-count.ensures.holds).1

pub returns-clause-holds : goal.returns-clause-holds
returns-clause-holds g c =
    let passed : PageUnread = c.pass_text-text.new.unread in
    let text : List ℕ = c.as_slice-bytes.result.now in
    let is = sym c.as_slice-bytes.ensures.value in
    let gave = g.S.ByteSource.gives c.args.source.now in
    let gives = g.S.ByteSource.gives c.pass_text-text.new.source in
    let puts = subst (λ (t : List ℕ). PutsText (asked_by c.args.ahead) gave gives c.args.reader.now c.args.composer.now c.args.unread.now (with_text t passed)) is c.pass_text-text.ensures.puts in
    let room = subst (λ (t : List ℕ). passed.input.charge + length t < passed.limits.bytes) is c.pass_text-text.ensures.bytes in
    let few = c.hold_bytes-count.ensures.few in
    let wrote = c.push_read.ensures in
    let ahead = reads-ahead c.args.ahead c.args.reader.now.reading (g.S.ByteSource.ready c.args.source.now) c.args.unread.now c.requires.ahead in
    holds_text (asked_by c.args.ahead) c.args.most gave gives c.args.reader.now c.args.composer.now c.args.unread.now passed c.push_read.new.self text c.hold_bytes-count.result few room c.push_read.result
    c.requires.run ahead.0 ahead.1 puts c.hold_bytes-count.ensures.plain c.hold_bytes-count.ensures.fewer
    (λ so. ap (λ (u : PageUnread). is_behind_quote u.input.arguments.place) (sym c.hold_bytes-count.ensures.holds) ∙ wrote.quote so)
    (reads_text text c.hold_bytes-count.result few passed _ room c.hold_bytes-count.new.self c.push_read.new.self c.push_read.result c.hold_bytes-count.ensures.holds
    wrote.whole wrote.ended wrote.rest c.stays_within.ensures)
