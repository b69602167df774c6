use Rattle.std.proofs.Common.{◌≡◌, ap, sym, subst, ◌∙◌, IsSome}
use Rattle.run_items.specs.Outcome.{Runs, seen}
use Rattle.roff_engine.specs.Engine.Setup.{Setup}
use Rattle.run_turns.specs.Running.Turning.{HasCome}
use Rattle.run_turns.specs.declared.running.Running.{Running as Coded}
use Rattle.run_model.specs.Reading.Items.{PageUnread}
use Rattle.run_model.specs.Run.{initial}
use Rattle.input_model.specs.declared.looked.Looked.TheVariants.{Nothing}
use Rattle.roff_engine.proofs.WholeRuns.{HasRoom-fresh, come_further, come_left, come_to_end, ends_unread, initial-fresh, not_refused, started, told-fewer}
use Rattle.page_bytes.specs.Told.{told_by}
use Rattle.roff_engine.proofs.engine.Engine.format_within.Goals as goal

pub returns-in-Err-clause-runs : goal.returns-in-Err-clause-runs
returns-in-Err-clause-runs g c =
    let fresh = c.self.invariant.1 in
    let failures = g.S.ByteSource.failures c.args.source.now in
    let out = g.O.ByteSink.sunk c.args.out.now in
    let run : Coded = c.self.inside.running in
    let unread : run.unread.looked ≡ Nothing = ap (λ (u : PageUnread). u.looked) fresh.unread in
    subst (λ (v : Setup). Runs v.limits v.start c.in-Err.status (g.S.ByteSource.gives c.args.source.now) (g.S.ByteSource.gives c.args.source.now)
    (seen failures out (told_by g.E.MessageSink c.args.err.now)) (seen failures out (told_by g.E.MessageSink c.begin.new.err)))
    c.self.view_is
    (ends_unread _ _ c.in-Err.status _ _ _ (g.met.S.ByteSource.some c.args.source.now)
    (λ tape. c.in-Err.ensures.ends (HasRoom-fresh run fresh) unread tape (initial-fresh run c.self.inside.start c.self.invariant.2 fresh tape) failures out))

pub loop-told-init : goal.loop-told-init
loop-told-init g c =
    let begins = c.in_default.ensures.begins in
    let come = started _ _ _ (g.S.ByteSource.failures c.args.source.now) (g.O.ByteSink.sunk c.args.out.now) (told_by g.E.MessageSink c.args.err.now) (g.S.ByteSource.gives c.args.source.now)
    c.self.invariant.2 c.self.invariant.0 c.self.invariant.1 begins (c.requires.room ∙ ap (λ (v : Setup). v.limits.messages) (sym c.self.view_is)) in
    record {
      come = rw c.in_default.ensures.err
          (subst (λ (v : Setup). HasCome v.start (g.S.ByteSource.gives c.args.source.now) (g.S.ByteSource.gives c.args.source.now)
          (seen (g.S.ByteSource.failures c.args.source.now) (g.O.ByteSink.sunk c.args.out.now) (told_by g.E.MessageSink c.args.err.now))
          (seen (g.S.ByteSource.failures c.args.source.now) (g.O.ByteSink.sunk c.args.out.now) (told_by g.E.MessageSink c.args.err.now)) c.begin.new.running) c.self.view_is come);
      limits = ap (λ (run : Coded). run.limits) begins.some.sets ∙ ap (λ (v : Setup). v.limits) c.self.view_is;
    }

pub returns-in-Err-step-clause-runs : goal.returns-in-Err-step-clause-runs
returns-in-Err-step-clause-runs g c =
    let before = c.loop-told.invariant in
    come_to_end _ _ _ _ _ _ _ before.come _ _ c.in-Err-step.status before.limits (g.met.S.ByteSource.some c.step.new.source) c.in-Err-step.ensures

pub returns-in-Err-step-clause-unread : goal.returns-in-Err-step-clause-unread
returns-in-Err-step-clause-unread g c = λ tape refused. absurd (not_refused _ c.begin.new.running c.self.inside.start c.self.invariant.2 c.self.invariant.1 c.in_default.ensures.begins tape
    (subst (λ (v : Setup). IsSome (initial v.limits v.start tape).ended) (sym c.self.view_is) refused))

pub loop-told-preserved : goal.loop-told-preserved
loop-told-preserved g c =
    let before = c.loop-told.invariant in record {
      come = come_further _ _ _ _ _ _ _ before.come _ c.in-Ok.ensures;
      limits = c.in-Ok.ensures.limits ∙ before.limits;
    }

pub loop-told-smaller : goal.loop-told-smaller
loop-told-smaller g c =
    told-fewer c.loop-told.is_told c.in-Ok.told _ _
    (come_left _ _ _ _ _ _ _ c.loop-told.invariant.come _ (g.met.S.ByteSource.some c.step.new.source) c.in-Ok.ensures)
