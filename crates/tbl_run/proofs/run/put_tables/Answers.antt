use Rattle.std.proofs.Common.{rules, ◌≡◌, ◌∙◌, ◌-◌, ◌≤◌, ap, arith, length, refl}
use Rattle.std.proofs.lemmas.Bool.Decides.{nat_tests}
use Rattle.page_bytes.specs.Devices.{seen}
use Rattle.tbl_format.specs.declared.limits.TblLimits.{TblLimits}
use Rattle.tbl_core.specs.NotesLeft.{notes_left}
use Rattle.tbl_core.proofs.Given.{front-pending, front_some, given_fewer}
use Rattle.tbl_run.proofs.Fronts.{front_falls, front_goes_on, front_has_ended, front_room}
use Rattle.tbl_run.proofs.Turning.{falls, goes_on, has_ended, starts}
use Rattle.tbl_run.proofs.run.put_tables.Goals as goal
use Rattle.tbl_run.specs.declared.run.Counts.{Counts}

pub loop-front-init : goal.loop-front-init
loop-front-init g c = record {
  limits = c.limits-limits.ensures;
  same = refl;
  line_length = refl;
  come = starts _ _ _ _ _ c.requires;
}

pub loop-front-preserved-in-Ok : goal.loop-front-preserved-in-Ok
loop-front-preserved-in-Ok g c =
    let before = c.loop-front.invariant in
    let takes = rw (before.same, before.line_length) at c.in-Some.ensures.takes in
    let went = rw before.limits at c.in-Ok.ensures before.come.written before.come.goes_on before.come.counted in record {
      limits = before.limits;
      same = c.take_ready.ensures.limits ∙ before.same;
      line_length = c.take_ready.ensures.line_length ∙ before.line_length;
      come = goes_on _ _ _ _ _ _ c.line.result _ _
          (seen (g.S.ByteSource.failures c.take_ready.new.self.inner) (g.O.ByteSink.sunk c.put_byte.new.out) (g.E.MessageSink.sunk c.put_byte.new.err))
          before.come takes c.line.ensures c.take_ready.ensures.failures c.in-Ok.behind went;
    }

pub loop-front-smaller-in-Ok : goal.loop-front-smaller-in-Ok
loop-front-smaller-in-Ok g c =
    let before = c.loop-front.invariant in
    falls _ c.line.result _ before.come.written c.loop-front.counts.written c.in-Ok.behind _ _ _ _ _ _ before.come.goes_on
    (c.in-Ok.ensures before.come.written before.come.goes_on before.come.counted) before.come.counted.written c.take_ready.ensures.notes (λ m is. cc)

pub returns-in-Err : goal.returns-in-Err
returns-in-Err g c =
    let before = c.loop-front.invariant in
    let takes = rw (before.same, before.line_length) at c.in-Some.ensures.takes in
    let ends = rw before.limits at c.in-Err.ensures before.come.written before.come.goes_on before.come.counted in
    has_ended _ _ _ _ _ _ c.line.result _ _
    (seen (g.S.ByteSource.failures c.take_ready.new.self.inner) (g.O.ByteSink.sunk c.put_byte.new.out) (g.E.MessageSink.sunk c.put_byte.new.err))
    before.come takes c.line.ensures c.take_ready.ensures.failures c.in-Err.status (λ failed. cc) ends

pub loop-front-preserved-in-Ok-turn : goal.loop-front-preserved-in-Ok-turn
loop-front-preserved-in-Ok-turn g c =
    let before = c.loop-front.invariant in
    let kept = c.in-None.ensures.kept refl in
    let takes = rw (kept, before.same, before.line_length) at c.take-taken.ensures.takes in
    let failures = rw kept at c.take-taken.ensures.failures in
    let went = rw before.limits at c.in-Ok-turn.ensures before.come.written before.come.goes_on before.come.counted in record {
      limits = before.limits;
      same = c.take-taken.ensures.limits ∙ c.in-None.ensures.limits ∙ before.same;
      line_length = c.take-taken.ensures.line_length ∙ c.in-None.ensures.line_length ∙ before.line_length;
      come = goes_on _ _ _ _ _ _ c.line-in-None.result _ _
          (seen (g.S.ByteSource.failures c.take-taken.new.self.inner) (g.O.ByteSink.sunk c.turn.new.out) (g.E.MessageSink.sunk c.turn.new.err))
          before.come takes c.line-in-None.ensures failures c.in-Ok-turn.behind went;
    }

pub loop-front-smaller-in-Ok-turn : goal.loop-front-smaller-in-Ok-turn
loop-front-smaller-in-Ok-turn g c =
    let before = c.loop-front.invariant in
    let kept = c.in-None.ensures.kept refl in
    let notes = rw kept at c.take-taken.ensures.notes in
    let note = rw kept at c.take-taken.ensures.note in
    falls _ c.line-in-None.result _ before.come.written c.loop-front.counts.written c.in-Ok-turn.behind _ _ _ _ _ _ before.come.goes_on
    (c.in-Ok-turn.ensures before.come.written before.come.goes_on before.come.counted) before.come.counted.written notes note

pub returns-in-Err-turn : goal.returns-in-Err-turn
returns-in-Err-turn g c =
    let before = c.loop-front.invariant in
    let kept = c.in-None.ensures.kept refl in
    let takes = rw (kept, before.same, before.line_length) at c.take-taken.ensures.takes in
    let failures = rw kept at c.take-taken.ensures.failures in
    let ends = rw before.limits at c.in-Err-turn.ensures before.come.written before.come.goes_on before.come.counted in
    has_ended _ _ _ _ _ _ c.line-in-None.result _ _
    (seen (g.S.ByteSource.failures c.take-taken.new.self.inner) (g.O.ByteSink.sunk c.turn.new.out) (g.E.MessageSink.sunk c.turn.new.err))
    before.come takes c.line-in-None.ensures failures c.in-Err-turn.status
    (λ failed. let fault = rw kept at c.take-taken.ensures.fault failed in omega (arith, before.come.faults.source, fault)) ends

pub loop-front-preserved : goal.loop-front-preserved
loop-front-preserved g c =
    let before = c.loop-front.invariant in
    let source = c.loop-front.source in
    let l = c.args.source.now.tables.limits in
    let front = c.front_of-front.result.now in
    let known = c.pending.result.now in
    let most = c.limits-limits.result.output - c.loop-front.counts.written in
    let first = front-pending most known front source.tables.at.pending c.pending.ensures.front c.front_of-front.ensures in
    let room = front_room most c.loop-front.counts.written l.output known front c.front_of-front.ensures
    (ap (λ (x : TblLimits). x.output - c.loop-front.counts.written) before.limits) before.come.within.written in
    let start = seen (g.S.ByteSource.failures c.args.source.now.inner) (g.O.ByteSink.sunk c.args.out.now) (g.E.MessageSink.sunk c.args.err.now) in
    let now = seen (g.S.ByteSource.failures source.inner) (g.O.ByteSink.sunk c.loop-front.out) (g.E.MessageSink.sunk c.loop-front.err) in
    let behind = seen (g.S.ByteSource.failures source.inner) (g.O.ByteSink.sunk c.put_front.new.out) (g.E.MessageSink.sunk c.put_front.new.err) in
    let went = front_goes_on l c.args.source.now.tables.line_length source.tables.at front c.loop-front.counts c.line-line.result start now behind
    before.come first room c.line-line.ensures (omega arith) c.in-Ok-put_front.behind c.in-Ok-put_front.ensures in record {
      limits = before.limits;
      same = ap (λ s. s.tables.limits) c.give_bytes.ensures ∙ before.same;
      line_length = ap (λ s. s.tables.line_length) c.give_bytes.ensures ∙ before.line_length;
      come = rw c.give_bytes.ensures went;
    }

pub loop-front-smaller : goal.loop-front-smaller
loop-front-smaller g c =
    let before = c.loop-front.invariant in
    let source = c.loop-front.source in
    let l = c.args.source.now.tables.limits in
    let front = c.front_of-front.result.now in
    let known = c.pending.result.now in
    let most = c.limits-limits.result.output - c.loop-front.counts.written in
    let room = front_room most c.loop-front.counts.written l.output known front c.front_of-front.ensures
    (ap (λ (x : TblLimits). x.output - c.loop-front.counts.written) before.limits) before.come.within.written in
    let same : c.limits-limits.result.output ≡ l.output = ap (λ (x : TblLimits). x.output) before.limits in
    let some : 1 ≤ length front = first_of (search rules, grind (arith, nat_tests, c.if-is_empty.ensures)) in
    let quiet = c.pending.ensures.bytes (front_some most known front c.front_of-front.ensures some) in
    let fewer : notes_left c.give_bytes.new.self.tables ≤ notes_left source.tables = rw c.give_bytes.ensures (given_fewer (length front) source.tables quiet) in
    front_falls c.limits-limits.result.output c.loop-front.counts.written c.in-Ok-put_front.behind.written (notes_left source.tables)
    (notes_left c.give_bytes.new.self.tables) (length front) some (ap (λ (x : Counts). x.written) c.in-Ok-put_front.ensures.counted) (omega (arith, room, same)) fewer

pub returns-in-Err-put_front : goal.returns-in-Err-put_front
returns-in-Err-put_front g c =
    let before = c.loop-front.invariant in
    let source = c.loop-front.source in
    let l = c.args.source.now.tables.limits in
    let front = c.front_of-front.result.now in
    let known = c.pending.result.now in
    let most = c.limits-limits.result.output - c.loop-front.counts.written in
    let first = front-pending most known front source.tables.at.pending c.pending.ensures.front c.front_of-front.ensures in
    let room = front_room most c.loop-front.counts.written l.output known front c.front_of-front.ensures
    (ap (λ (x : TblLimits). x.output - c.loop-front.counts.written) before.limits) before.come.within.written in
    let some : 1 ≤ length front = first_of (search rules, grind (arith, nat_tests, c.if-is_empty.ensures)) in
    let alive = c.pending.ensures.alive (front_some most known front c.front_of-front.ensures some) in
    let start = seen (g.S.ByteSource.failures c.args.source.now.inner) (g.O.ByteSink.sunk c.args.out.now) (g.E.MessageSink.sunk c.args.err.now) in
    let now = seen (g.S.ByteSource.failures source.inner) (g.O.ByteSink.sunk c.loop-front.out) (g.E.MessageSink.sunk c.loop-front.err) in
    let behind = seen (g.S.ByteSource.failures source.inner) (g.O.ByteSink.sunk c.put_front.new.out) (g.E.MessageSink.sunk c.put_front.new.err) in
    front_has_ended l c.args.source.now.tables.line_length source.tables.at front c.loop-front.counts c.line-line.result start now behind
    before.come first room c.line-line.ensures (omega arith) c.in-Err-put_front.status c.in-Err-put_front.ensures some alive
