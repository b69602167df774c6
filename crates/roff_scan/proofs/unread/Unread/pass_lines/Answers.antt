use Rattle.std.proofs.Common.{◌≡◌, true, length, ap, sym, subst, ◌∙◌, take}
use Rattle.input_model.specs.Input.{counting, is_none_ahead}
use Rattle.input_model.specs.declared.looked.Looked.TheVariants.{Nothing}
use Rattle.input_model.specs.Unread.{Unread}
use Rattle.roff_scan.specs.Unread.Calls.{IsFront, PassesSource, front_bytes}
use Rattle.roff_scan.specs.Unread.Kept.{kept_by}
use Rattle.roff_scan.proofs.Fronts.{among-ready, passes_lines}
use Rattle.roff_scan.proofs.Passing.{counted}
use Rattle.roff_scan.proofs.unread.Unread.pass_lines.Goals as goal

pub split_at-requires : goal.split_at-requires
split_at-requires g c =
    rw c.buffered.ensures (among-ready (g.S.ByteSource.ready c.args.source.now) c.args.self.now c.args.count c.requires.front c.requires.some c.requires.none_ahead)

pub pass-requires-clause-within : goal.pass-requires-clause-within
pass-requires-clause-within g c =
    let kept = kept_by c.self.inside in
    let ready = g.S.ByteSource.ready c.args.source.now in
    let front : IsFront c.args.count ready kept = rw (← c.self.view_is) at c.requires.front in
    among-ready ready kept c.args.count front c.requires.some (rw (← c.self.view_is) at c.requires.none_ahead)

pub returns-in-Some-clause-passes : goal.returns-in-Some-clause-passes
returns-in-Some-clause-passes g c =
    let kept = kept_by c.self.inside in
    let ready = g.S.ByteSource.ready c.args.source.now in
    let gave = g.S.ByteSource.gives c.args.source.now in
    let gives = g.S.ByteSource.gives c.pass.new.self in
    let count = c.args.count in
    let front = c.in-Some.front.now in
    let last = c.in-Some.last.now in
    let stands : IsFront count ready kept = rw (← c.self.view_is) at c.requires.front in
    let none : is_none_ahead kept.input.ahead ≡ true = rw (← c.self.view_is) at c.requires.none_ahead in
    let cut = c.split_at.ensures.front ∙ ap (take count) c.buffered.ensures in
    subst (λ (u : Unread _). PassesSource gave gives (front_bytes count ready c.args.self.now) c.args.self.now u)
    (sym (c.count.ensures.counts ∙ ap (λ n. record kept { input = counting last (counted (length front) n kept.input); looked = Nothing }) c.newlines_among.ensures))
    (rw (← c.self.view_is) (passes_lines ready kept count stands c.requires.some none gave gives front c.split_at.result.0.now last cut c.in-Some.ensures.cases.0 c.pass.ensures.gives))
