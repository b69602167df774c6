use Rattle.std.proofs.Common.{◌+◌, ◌-◌, ◌≤◌, length, take, ap, ◌∙◌, arith}
use Rattle.roff_lines.proofs.CopiedSteps.{Stands-last, Stands-less, Stands-step}
use Rattle.roff_lines.proofs.copying.copy_front.Goals as goal

pub returns-then-copied-last-clause-written : goal.returns-then-copied-last-clause-written
returns-then-copied-last-clause-written c =
    let text = c.args.text.now in
    let l = c.loop-copied in
    let last = length text - 16 in
    let more = c.if-text-lt-STEP.false in
    ap (take (c.args.place + c.args.count)) c.copy_step.ensures
    ∙ Stands-last c.args.place l.copied last c.args.count 16 text c.args.out.now l.out (omega (arith, more)) (omega (arith, c.if-copied-last.true))
    (omega (arith, c.loop-copied-test.true)) c.requires.text (omega (arith, c.requires.room, l.invariant.same)) (omega (arith, c.requires.room)) l.invariant.written

pub loop-copied-preserved : goal.loop-copied-preserved
loop-copied-preserved c =
    let text = c.args.text.now in
    let l = c.loop-copied in
    let step = c.copy_step-in-loop-copied in
    let within : l.copied + 16 ≤ length text = omega (arith, c.if-text-lt-STEP.false, c.if-copied-last.false) in
    record {
      text = within;
      same = step.auto.out ∙ l.invariant.same;
      written =
          ap (take (c.args.place + (l.copied + 16))) step.ensures
          ∙ Stands-step c.args.place l.copied 16 16 text c.args.out.now l.out within
          (omega (arith, c.requires.room, l.invariant.same, c.loop-copied-test.true)) (omega arith) l.invariant.written;
    }

pub returns-clause-written : goal.returns-clause-written
returns-clause-written c =
    Stands-less c.args.place c.args.count c.loop-copied.copied c.args.text.now c.args.out.now c.loop-copied.out (omega (arith, c.loop-copied-test.false))
    (omega (arith, c.requires.room)) c.loop-copied.invariant.written
