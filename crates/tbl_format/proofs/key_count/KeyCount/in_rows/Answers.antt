use Rattle.std.proofs.Common.{sym, subst, arith}
use Rattle.tbl_format.specs.Format.{Format}
use Rattle.tbl_format.specs.KeyCounts.{Counts}
use Rattle.tbl_format.proofs.FormatReading.{byte-again, byte-once, count-columns, count-stands}
use Rattle.tbl_format.proofs.KeyCounting.{counted, counted-is}
use Rattle.tbl_format.proofs.key_count.KeyCount.in_rows.Goals as goal

pub stepped-requires-clause-few : goal.stepped-requires-clause-few
stepped-requires-clause-few c = omega (arith, c.requires.few, c.stepped-count.ensures.few)

pub returns-then-first-clause-is : goal.returns-then-first-clause-is
returns-then-first-clause-is c =
    let f = counted c.args.self in
    let is = byte-again c.args.front.now f c.args.byte c.args.part c.step-first.result c.requires.part c.step-first.ensures c.step.result c.if-first.true c.step.ensures in
    let behind = c.stepped.ensures.value _ (c.stepped-count.ensures.value f (counted-is c.args.self)) in
    let counts = subst (λ (g : Format). Counts g c.stepped.result) (sym is) behind in
    record {
      row = c.stepped.ensures.row;
      place = count-stands c.args.front.now c.args.byte c.args.self c.stepped.result c.requires.is.place counts;
    }

pub returns-then-first-clause-few : goal.returns-then-first-clause-few
returns-then-first-clause-few c =
    let f = counted c.args.self in
    let is = byte-again c.args.front.now f c.args.byte c.args.part c.step-first.result c.requires.part c.step-first.ensures c.step.result c.if-first.true c.step.ensures in
    let behind = c.stepped.ensures.value _ (c.stepped-count.ensures.value f (counted-is c.args.self)) in
    count-columns c.args.front.now c.args.byte c.args.self c.stepped.result (subst (λ (g : Format). Counts g c.stepped.result) (sym is) behind)

pub returns-else-first-clause-is : goal.returns-else-first-clause-is
returns-else-first-clause-is c =
    let f = counted c.args.self in
    let is = byte-once c.args.front.now f c.args.byte c.args.part c.step-first.result c.requires.part c.step-first.ensures c.if-first.false in
    let counts = subst (λ (g : Format). Counts g c.stepped-count.result) (sym is) (c.stepped-count.ensures.value f (counted-is c.args.self)) in
    record {
      row = c.stepped-count.ensures.row;
      place = count-stands c.args.front.now c.args.byte c.args.self c.stepped-count.result c.requires.is.place counts;
    }
