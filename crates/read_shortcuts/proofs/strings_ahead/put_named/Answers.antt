use Rattle.std.proofs.Common.{◌≡◌, ℕ, List, ap, sym, subst, ◌∙◌}
use Rattle.input_model.specs.Input.{pushing}
use Rattle.input_model.specs.Input.Names.{body_named}
use Rattle.input_model.specs.Unread.{changing}
use Rattle.roff_scan.specs.Unread.Calls.{IsFront, NoNewline, PassesFront, front_bytes}
use Rattle.read_shortcuts.specs.Registers.{OfString}
use Rattle.read_shortcuts.proofs.RegistersPut.{as_long, no_newline, puts_string}
use Rattle.read_shortcuts.proofs.strings_ahead.put_named.Goals as goal

pub pass-requires-clause-front : goal.pass-requires-clause-front
pass-requires-clause-front g c =
    let name = c.args.name in
    subst (λ (n : ℕ). IsFront n (g.S.ByteSource.ready c.args.source.now) c.args.unread.now) (as_long OfString name.first name.second ∙ sym c.escape_len.ensures) c.requires.front

pub pass-requires-clause-plain : goal.pass-requires-clause-plain
pass-requires-clause-plain g c =
    let name = c.args.name in
    let is = ap (λ (n : ℕ). front_bytes n (g.S.ByteSource.ready c.args.source.now) c.args.unread.now) (c.escape_len.ensures ∙ sym (as_long OfString name.first name.second)) ∙ c.requires.is in
    subst (λ (bytes : List ℕ). NoNewline bytes) (sym is) (no_newline OfString name.first name.second c.requires.named)

pub returns-clause-puts : goal.returns-clause-puts
returns-clause-puts g c = λ es.
    let name = c.args.name in
    let gave = g.S.ByteSource.gives c.args.source.now in
    let gives = g.S.ByteSource.gives c.pass.new.source in
    let is = ap (λ (n : ℕ). front_bytes n (g.S.ByteSource.ready c.args.source.now) c.args.unread.now) (c.escape_len.ensures ∙ sym (as_long OfString name.first name.second)) ∙ c.requires.is in
    puts_string gave gives c.args.reader.now es _ c.args.unread.now c.pass.new.self c.interrupt.new.unread c.push_body.new.self name c.push_body.result c.requires
    (subst (λ (bytes : List ℕ). PassesFront gave gives bytes c.args.unread.now c.pass.new.self) is c.pass.ensures.passes) c.interrupt.ensures c.stays_within.ensures
    (subst (λ (n : List ℕ). (c.push_body.result, c.push_body.new.self) ≡ changing (pushing (body_named n c.interrupt.new.unread.input) c.interrupt.new.unread.input) c.interrupt.new.unread) c.name.ensures c.push_body.ensures.change)
