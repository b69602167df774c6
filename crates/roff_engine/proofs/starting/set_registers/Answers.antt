use Rattle.std.proofs.Common.{List, subst, ℕ}
use Rattle.roff_num.specs.declared.num.Num.{Num}
use Rattle.roff_engine.proofs.RegistersGiven.{Begins-all, SetSoFar, SetSoFar-none, refused_next, set_next}
use Rattle.roff_engine.proofs.starting.set_registers.Goals as goal

pub loop-first-init : goal.loop-first-init
loop-first-init c = λ first quiet. SetSoFar-none first c.args.running.now c.args.given.now quiet

pub loop-first-preserved : goal.loop-first-preserved
loop-first-preserved c = λ first quiet.
    let now = c.loop-first.running in
    let far =
    subst (λ (rest : List (ℕ × Num)). SetSoFar first c.args.running.now now c.args.given.now rest) c.in-Some.ensures.cases.0 (c.loop-first.invariant first quiet) in
    set_next first c.args.running.now now c.args.given.now c.in-Some.others.now c.in-Some.first.now far _ c.give.result c.give.ensures c.in-Ok.is

pub returns-in-Err : goal.returns-in-Err
returns-in-Err c = λ first quiet.
    let now = c.loop-first.running in
    let far =
    subst (λ (rest : List (ℕ × Num)). SetSoFar first c.args.running.now now c.args.given.now rest) c.in-Some.ensures.cases.0 (c.loop-first.invariant first quiet) in
    refused_next first c.args.running.now now c.args.given.now c.in-Some.others.now c.in-Some.first.now far _ c.give.result c.give.ensures c.in-Err.limit c.in-Err.is

pub returns : goal.returns
returns c = λ first quiet.
    Begins-all first c.args.running.now c.loop-first.running c.args.given.now c.loop-first.rest.now c.in_default.ensures.cases (c.loop-first.invariant first quiet)
