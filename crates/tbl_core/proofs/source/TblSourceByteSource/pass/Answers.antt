use Rattle.std.proofs.Common.{◌≡◌, ◌≤◌, ◌∙◌, ℕ, List, length, take, sym, ap, subst}
use Rattle.tbl_core.specs.Passing.{DoPass}
use Rattle.tbl_core.specs.Source.{WasAsked, source_ready}
use Rattle.tbl_core.proofs.Ready.{behind_passed, ready_idle, ready_passes, ready_taken, still_idle, still_quiet}
use Rattle.tbl_core.proofs.Staying.{passed_stays}
use Rattle.tbl_core.proofs.source.TblSourceByteSource.pass.Goals as goal

pub pass-requires : goal.pass-requires
pass-requires g c =
    let t = c.self.inside.tables in
    let ready = g.S.ByteSource.ready c.self.inside.inner in
    let within =
    subst (λ s. c.args.count ≤ length (source_ready g.S.ByteSource.ready s)) (sym c.self.view_is) c.requires.within in
    let known = ready_passes c.self.inside.idle t.limits t.at.standing ready c.args.count c.requires.some within in
    subst (DoPass t.limits t.at.standing) (sym (c.at_most.ensures ∙ ap (take c.args.count) c.buffered.ensures)) known.do_pass

pub pass-requires-2-clause-within : goal.pass-requires-2-clause-within
pass-requires-2-clause-within g c =
    let t = c.self.inside.tables in
    let ready = g.S.ByteSource.ready c.self.inside.inner in
    let within =
    subst (λ s. c.args.count ≤ length (source_ready g.S.ByteSource.ready s)) (sym c.self.view_is) c.requires.within in
    (ready_passes c.self.inside.idle t.limits t.at.standing ready c.args.count c.requires.some within).few

pub invariant_of-self : goal.invariant_of-self
invariant_of-self g c =
    let given = c.pass-2.ensures.gives in
    record {
      alive = WasAsked given.some given.some_given;
      idles = λ idle. still_idle c.self.inside.tables c.pass.new.self _ c.pass.ensures (c.self.invariant.idles idle);
      quiet = λ giving. still_quiet c.self.inside.tables c.pass.new.self _ c.pass.ensures (c.self.invariant.quiet giving);
    }

pub returns-clause-gives : goal.returns-clause-gives
returns-clause-gives g c =
    let t = c.self.inside.tables in
    let ready = g.S.ByteSource.ready c.self.inside.inner in
    let within =
    subst (λ s. c.args.count ≤ length (source_ready g.S.ByteSource.ready s)) (sym c.self.view_is) c.requires.within in
    let idle = ready_idle c.self.inside.idle _ c.args.count c.requires.some within in
    let known = ready_passes c.self.inside.idle t.limits t.at.standing ready c.args.count c.requires.some within in
    let bytes = c.at_most.ensures ∙ ap (take c.args.count) c.buffered.ensures in
    let behind = subst (λ (front : List ℕ). c.pass.new.self ≡ behind_passed front t) bytes c.pass.ensures in
    let none = c.self.invariant.idles idle in
    let front = take c.args.count ready in
    rw (← c.self.view_is)
    (ready_taken t c.pass.new.self _ front _ _ known.first none known.do_pass behind c.pass-2.ensures.gives)

pub returns-clause-ready : goal.returns-clause-ready
returns-clause-ready g c =
    let t = c.self.inside.tables in
    let ready = g.S.ByteSource.ready c.self.inside.inner in
    let within =
    subst (λ s. c.args.count ≤ length (source_ready g.S.ByteSource.ready s)) (sym c.self.view_is) c.requires.within in
    let bytes = c.at_most.ensures ∙ ap (take c.args.count) c.buffered.ensures in
    let behind = subst (λ (front : List ℕ). c.pass.new.self ≡ behind_passed front t) bytes c.pass.ensures in
    let after = g.S.ByteSource.ready c.pass-2.new.self in
    rw (← c.self.view_is)
    (passed_stays t c.pass.new.self c.self.inside.idle ready after c.args.count c.requires.some within behind c.pass-2.ensures.ready)
