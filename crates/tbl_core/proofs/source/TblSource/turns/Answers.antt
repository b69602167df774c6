use Rattle.std.proofs.Common.{refl, ◌∙◌, arith}
use Rattle.tbl_core.proofs.Answering.{takes_behind, takes_on_behind}
use Rattle.tbl_core.proofs.Giving.{answers_behind}
use Rattle.tbl_core.proofs.source.TblSource.turns.Goals as goal

pub returns-in-Some-clause-gives : goal.returns-in-Some-clause-gives
returns-in-Some-clause-gives g c =
    let kept = c.read_on.ensures.kept c.if-not-read_on.true in
    let given = rw kept at c.in-Some.ensures.given in
    answers_behind _ _ _ _ c.loop-self.invariant.goes_on given

pub returns-in-Some-clause-takes : goal.returns-in-Some-clause-takes
returns-in-Some-clause-takes g c =
    let inv = c.loop-self.invariant in
    let kept = c.read_on.ensures.kept c.if-not-read_on.true in
    let takes = rw kept at c.in-Some.ensures.takes in
    takes_behind _ _ _ c.args.self.now.tables c.loop-self.self.tables c.turn.new.self.tables _ inv.limits inv.line_length inv.takes_on takes

pub loop-self-preserved-in_default : goal.loop-self-preserved-in_default
loop-self-preserved-in_default g c =
    let inv = c.loop-self.invariant in
    let out = c.in_default.ensures in
    let kept = c.read_on.ensures.kept c.if-not-read_on.true in
    let silent = rw kept at out.silent refl in
    let takes_on = rw kept at out.takes_on refl in
    let later = c.read_on.ensures.later in
    record {
      pending = out.pending refl;
      reads = out.reads refl;
      goes_on = λ t given. inv.goes_on t (silent t given);
      notes = omega (arith, inv.notes, later.notes, out.notes);
      takes_on = takes_on_behind _ _ _ c.args.self.now.tables c.loop-self.self.tables c.turn.new.self.tables inv.limits inv.line_length inv.takes_on takes_on;
      limits = out.limits ∙ later.limits ∙ inv.limits;
      line_length = out.line_length ∙ later.line_length ∙ inv.line_length;
      failures = omega (arith, inv.failures, later.failures, out.failures);
    }

pub loop-self-preserved : goal.loop-self-preserved
loop-self-preserved g c =
    let inv = c.loop-self.invariant in
    let later = c.read_on.ensures.later in
    let silent = c.read_on.ensures.silent c.if-not-read_on.false in
    record {
      pending = silent.pending;
      reads = silent.reads;
      goes_on = λ t given. inv.goes_on t (silent.goes_on t given);
      notes = omega (arith, inv.notes, later.notes);
      takes_on = takes_on_behind _ _ _ c.args.self.now.tables c.loop-self.self.tables c.read_on.new.self.tables inv.limits inv.line_length
          inv.takes_on silent.takes_on;
      limits = later.limits ∙ inv.limits;
      line_length = later.line_length ∙ inv.line_length;
      failures = omega (arith, inv.failures, later.failures);
    }
