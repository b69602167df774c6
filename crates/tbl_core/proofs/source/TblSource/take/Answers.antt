use Rattle.std.proofs.Common.{sym, ap, ◌∙◌, subst}
use Rattle.tbl_core.specs.Source.{IsSourced}
use Rattle.tbl_core.specs.Tables.{TablesState, stopped_by}
use Rattle.tbl_core.proofs.Answering.{pending_takes, stop_takes}
use Rattle.tbl_core.proofs.Turning.{alive_given, given_now, idle_given, stop_given}
use Rattle.tbl_core.proofs.source.TblSource.take.Goals as goal

pub invariant_of-self : goal.invariant_of-self
invariant_of-self g c = record {
  alive = alive_given _ c.self.inside.tables c.next.new.self c.in-Some.taken c.in-Some.ensures.next c.self.invariant.alive;
  idles = idle_given c.self.inside.tables c.next.new.self c.in-Some.taken c.self.inside.idle c.in-Some.ensures.next c.self.invariant.idles;
  quiet = λ is. c.in-Some.ensures.bytes (sym c.is_byte-self-inside.ensures ∙ is);
}

pub returns-in-Some-clause-gives : goal.returns-in-Some-clause-gives
returns-in-Some-clause-gives g c = rw (← c.self.view_is) (given_now _ c.self.inside.tables c.next.new.self c.in-Some.taken c.in-Some.ensures.next c.self.invariant.alive)

pub invariant_of-self-in-Some-stopped : goal.invariant_of-self-in-Some-stopped
invariant_of-self-in-Some-stopped g c =
    subst (λ (t : TablesState). IsSourced (g.S.ByteSource.gives c.self.inside.inner) t.at c.self.inside.idle c.self.inside.giving) (sym c.in_default.ensures.next.1) c.self.invariant

pub invariant_of-self-in-None : goal.invariant_of-self-in-None
invariant_of-self-in-None g c =
    subst (λ (t : TablesState). IsSourced (g.S.ByteSource.gives c.self.inside.inner) t.at c.self.inside.idle c.self.inside.giving) (sym c.in_default.ensures.next.1) c.self.invariant

pub returns-in-Some-stopped-clause-gives : goal.returns-in-Some-stopped-clause-gives
returns-in-Some-stopped-clause-gives g c =
    let kept = c.in_default.ensures.next in
    let t = c.self.inside.tables in
    let stopped = ap (λ (s : TablesState). stopped_by s.at.standing) (sym kept.1) ∙ sym c.stopped.ensures ∙ c.in-Some-stopped.is in
    rw (← c.self.view_is, kept.1) (stop_given t.limits t.line_length _ t.at.pending t.at.standing c.in-Some-stopped.limit kept.0 stopped c.self.invariant.alive)

pub returns-in-Some-clause-takes : goal.returns-in-Some-clause-takes
returns-in-Some-clause-takes g c = rw (← c.self.view_is) (pending_takes _ c.self.inside.tables c.next.new.self c.in-Some.taken c.in-Some.ensures.next c.self.invariant.alive)

pub returns-in-Some-stopped-clause-takes : goal.returns-in-Some-stopped-clause-takes
returns-in-Some-stopped-clause-takes g c =
    let kept = c.in_default.ensures.next in
    let t = c.self.inside.tables in
    let stopped = ap (λ (s : TablesState). stopped_by s.at.standing) (sym kept.1) ∙ sym c.stopped.ensures ∙ c.in-Some-stopped.is in
    rw (← c.self.view_is, kept.1) (stop_takes t.limits t.line_length _ t.at.pending t.at.standing c.in-Some-stopped.limit kept.0 stopped c.self.invariant.alive)
