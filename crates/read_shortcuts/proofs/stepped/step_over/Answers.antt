use Rattle.std.proofs.Common.{ℕ, List, length, ap, subst, sym, ◌∙◌, arith}
use Rattle.roff_scan.specs.Unread.Calls.{NoNewline, PassesFront, front_bytes}
use Rattle.read_shortcuts.proofs.SteppedText.{no_newline, room_stepped, steps_text}
use Rattle.read_shortcuts.proofs.stepped.step_over.Goals as goal

pub pass-requires-clause-front : goal.pass-requires-clause-front
pass-requires-clause-front g c = rw c.step_len.ensures c.requires.front

pub pass-requires-clause-plain : goal.pass-requires-clause-plain
pass-requires-clause-plain g c =
    let stepped = c.args.stepped in
    let ready = g.S.ByteSource.ready c.args.source.now in
    let is = ap (λ (n : ℕ). front_bytes n ready c.args.unread.now) c.step_len.ensures ∙ c.requires.is in
    subst (λ (bytes : List ℕ). NoNewline bytes) (sym is) (no_newline stepped.direction stepped.name.first stepped.name.second c.requires.named)

pub returns-clause-steps : goal.returns-clause-steps
returns-clause-steps g c =
    let stepped = c.args.stepped in
    let ready = g.S.ByteSource.ready c.args.source.now in
    let gave = g.S.ByteSource.gives c.args.source.now in
    let gives = g.S.ByteSource.gives c.pass.new.source in
    let is = ap (λ (n : ℕ). front_bytes n ready c.args.unread.now) c.step_len.ensures ∙ c.requires.is in
    steps_text gave gives ready stepped.direction stepped.name c.args.reader.now c.step_quietly.new.self c.args.unread.now c.pass.new.self c.register_text-text.result.items
    c.requires (c.step_quietly.ensures.steps c.if-not-step_quietly.false)
    (subst (λ (bytes : List ℕ). PassesFront gave gives bytes c.args.unread.now c.pass.new.self) is c.pass.ensures.passes)
    (omega (arith, ap (λ (bytes : List ℕ). length bytes) c.as_slice.ensures.value, c.as_slice.ensures.fits)) c.args.composer.now c.stays_within.ensures c.register_text-text.ensures

pub returns-clause-bytes : goal.returns-clause-bytes
returns-clause-bytes g c =
    let stepped = c.args.stepped in
    let ready = g.S.ByteSource.ready c.args.source.now in
    let gave = g.S.ByteSource.gives c.args.source.now in
    let gives = g.S.ByteSource.gives c.pass.new.source in
    let is = ap (λ (n : ℕ). front_bytes n ready c.args.unread.now) c.step_len.ensures ∙ c.requires.is in
    room_stepped gave gives ready stepped.direction stepped.name c.args.reader.now c.step_quietly.new.self c.args.unread.now c.pass.new.self c.register_text-text.result.items
    c.requires (c.step_quietly.ensures.steps c.if-not-step_quietly.false)
    (subst (λ (bytes : List ℕ). PassesFront gave gives bytes c.args.unread.now c.pass.new.self) is c.pass.ensures.passes)
    (omega (arith, ap (λ (bytes : List ℕ). length bytes) c.as_slice.ensures.value, c.as_slice.ensures.fits))
