use Rattle.std.proofs.Common.{◌≡◌, ◌+◌, ◌≤◌, [], true, ap, rules, sym, take, take_while, length, ◌∙◌, arith}
use Rattle.input_model.specs.Input.{is_none_ahead}
use Rattle.input_model.specs.Input.Names.{stored}
use Rattle.input_source.specs.Bytes.{is_text_byte}
use Rattle.input_model.specs.declared.looked.Looked.TheVariants.{Nothing}
use Rattle.roff_scan.specs.Unread.Kept.{kept_by}
use Rattle.roff_scan.specs.Unread.Runs.{room_for}
use Rattle.roff_scan.specs.declared.run_kind.RunKind.TheVariants.{Definition}
use Rattle.roff_scan.proofs.AddedFronts.{added-ok, added_no_newline, adds_run}
use Rattle.roff_scan.proofs.Fronts.{nothing_looked}
use Rattle.roff_scan.proofs.Runs.{adds_none-looked, takes_none}
use Rattle.roff_scan.proofs.unread.Unread.add_run.Goals as goal

pub returns-then-not-is_nothing-clause-takes : goal.returns-then-not-is_nothing-clause-takes
returns-then-not-is_nothing-clause-takes g c =
    rw (← c.self.view_is)
    (adds_none-looked (g.S.ByteSource.gives c.args.source.now) (g.S.ByteSource.ready c.args.source.now) (kept_by c.self.inside) c.self.invariant.within.charge
    (sym c.is_nothing.ensures ∙ c.if-not-is_nothing.true))

pub returns-then-count-eq0-clause-takes : goal.returns-then-count-eq0-clause-takes
returns-then-count-eq0-clause-takes g c =
    let kept = kept_by c.self.inside in
    let empty : c.text_ready-text.result.now ≡ [] = search rules in
    let room : c.min.result ≡ room_for Definition kept = omega (arith, c.min.ensures, c.stored.ensures) in
    rw (← c.self.view_is)
    (takes_none Definition (g.S.ByteSource.gives c.args.source.now) (g.S.ByteSource.ready c.args.source.now) kept c.self.invariant.within.charge
    (λ goes asks. sym empty ∙ c.text_ready-text.ensures.whole ∙ ap (λ n. take_while is_text_byte (take n (g.S.ByteSource.ready c.args.source.now))) room))

pub pass_source-requires-clause-plain : goal.pass_source-requires-clause-plain
pass_source-requires-clause-plain g c =
    let ahead : is_none_ahead c.args.self.now.input.ahead ≡ true = rw (← c.self.view_is) (sym c.is_empty.ensures ∙ c.if-not-is_empty.false) in
    let looked : c.args.self.now.looked ≡ Nothing = rw (← c.self.view_is) (nothing_looked c.self.inside.looked (sym c.is_nothing.ensures ∙ c.if-not-is_nothing.false)) in
    added_no_newline c.args.self.now c.add.new.self (g.S.ByteSource.ready c.args.source.now) c.text_ready-text.result.now c.add.result c.add.ensures.change c.in-Ok.is
    ahead looked c.text_ready-text.ensures.bytes c.text_ready-text.ensures.plain

pub returns-in-Ok-clause-takes : goal.returns-in-Ok-clause-takes
returns-in-Ok-clause-takes g c =
    let ready = g.S.ByteSource.ready c.args.source.now in
    let ahead : is_none_ahead c.args.self.now.input.ahead ≡ true = rw (← c.self.view_is) (sym c.is_empty.ensures ∙ c.if-not-is_empty.false) in
    let looked : c.args.self.now.looked ≡ Nothing = rw (← c.self.view_is) (nothing_looked c.self.inside.looked (sym c.is_nothing.ensures ∙ c.if-not-is_nothing.false)) in
    let room : c.min.result ≡ room_for Definition (kept_by c.self.inside) = omega (arith, c.min.ensures, c.stored.ensures) in
    let here : c.min.result ≡ room_for Definition c.args.self.now = rw (← c.self.view_is) room in
    adds_run c.args.self.now c.add.new.self ready c.text_ready-text.result.now c.add.result c.add.ensures.change c.in-Ok.is
    ahead looked c.text_ready-text.ensures.bytes (g.S.ByteSource.gives c.args.source.now) (g.S.ByteSource.gives c.pass_source.new.source)
    c.pass_source.new.self c.text_ready-text.ensures.plain
    (c.text_ready-text.ensures.whole ∙ ap (λ n. take_while is_text_byte (take n ready)) here) c.pass_source.ensures.passes

pub returns-in-Err-clause-takes : goal.returns-in-Err-clause-takes
returns-in-Err-clause-takes g c =
    let kept = kept_by c.self.inside in
    let fits : stored kept.input + length c.text_ready-text.result.now ≤ kept.limits.store =
    omega (arith, c.min.ensures, c.stored.ensures, c.text_ready-text.ensures.few, c.self.invariant.within.stored) in
    let ok = added-ok kept c.add.new.self c.text_ready-text.result.now c.add.result (rw (← c.self.view_is) at c.add.ensures.change) c.self.invariant.within fits in
    absurd (let isnt = c.in-Err.is in cc)
