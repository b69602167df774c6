use Rattle.std.proofs.Common.{ℕ, List, length, ap, refl, sym, subst, ◌∙◌, arith}
use Rattle.roff_scan.specs.Unread.Calls.{NoNewline, PassesFront, front_bytes}
use Rattle.read_shortcuts.specs.Registers.{OfRegister}
use Rattle.read_shortcuts.proofs.RegistersPut.{no_newline, puts_register, room_behind}
use Rattle.read_shortcuts.proofs.registers.pass_register.Goals as goal

pub pass-requires-clause-front : goal.pass-requires-clause-front
pass-requires-clause-front g c = rw c.escape_len.ensures c.requires.front

pub pass-requires-clause-plain : goal.pass-requires-clause-plain
pass-requires-clause-plain g c =
    let name = c.args.name in
    let ready = g.S.ByteSource.ready c.args.source.now in
    let is = ap (λ (n : ℕ). front_bytes n ready c.args.unread.now) c.escape_len.ensures ∙ c.requires.is in
    subst (λ (bytes : List ℕ). NoNewline bytes) (sym is) (no_newline OfRegister name.first name.second c.requires.named)

pub returns-clause-puts : goal.returns-clause-puts
returns-clause-puts g c =
    let ready = g.S.ByteSource.ready c.args.source.now in
    let gave = g.S.ByteSource.gives c.args.source.now in
    let gives = g.S.ByteSource.gives c.pass.new.source in
    let is = ap (λ (n : ℕ). front_bytes n ready c.args.unread.now) c.escape_len.ensures ∙ c.requires.is in
    puts_register gave gives ready c.args.reader.now.reading c.args.unread.now c.pass.new.self c.interrupt.new.unread c.args.name c.register_text-text.result.items
    c.requires (subst (λ (bytes : List ℕ). PassesFront gave gives bytes c.args.unread.now c.pass.new.self) is c.pass.ensures.passes)
    c.interrupt.ensures (omega (arith, ap (λ (bytes : List ℕ). length bytes) c.as_slice.ensures.value, c.as_slice.ensures.fits)) c.args.reader.now c.args.composer.now refl c.stays_within.ensures c.register_text-text.ensures

pub returns-clause-bytes : goal.returns-clause-bytes
returns-clause-bytes g c =
    let ready = g.S.ByteSource.ready c.args.source.now in
    let gave = g.S.ByteSource.gives c.args.source.now in
    let gives = g.S.ByteSource.gives c.pass.new.source in
    let is = ap (λ (n : ℕ). front_bytes n ready c.args.unread.now) c.escape_len.ensures ∙ c.requires.is in
    room_behind gave gives ready c.args.reader.now.reading c.args.unread.now c.pass.new.self c.interrupt.new.unread c.args.name c.register_text-text.result.items
    c.requires (subst (λ (bytes : List ℕ). PassesFront gave gives bytes c.args.unread.now c.pass.new.self) is c.pass.ensures.passes)
    c.interrupt.ensures (omega (arith, ap (λ (bytes : List ℕ). length bytes) c.as_slice.ensures.value, c.as_slice.ensures.fits))
