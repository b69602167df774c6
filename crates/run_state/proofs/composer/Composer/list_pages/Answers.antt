use Rattle.std.proofs.Common.{List, refl, subst}
use Rattle.roff_num.specs.declared.num.Num.{Num}
use Rattle.run_state.proofs.GivenPages.{ListedSoFar, ListedSoFar-all, ListedSoFar-next, ListedSoFar-none}
use Rattle.run_state.proofs.composer.Composer.list_pages.Goals as goal

pub loop-range-init : goal.loop-range-init
loop-range-init c = ListedSoFar-none c.args.self.now c.args.ranges.now

pub loop-range-preserved : goal.loop-range-preserved
loop-range-preserved c =
    let now = c.loop-range.self in
    let far = subst (λ (rest : List (Num × Num)). ListedSoFar c.args.self.now now c.args.ranges.now rest) c.in-Some.ensures.cases.0 c.loop-range.invariant in
    ListedSoFar-next c.args.self.now now (record now { pages = c.list_pages.new.self }) c.args.ranges.now c.in-Some.others.now c.in-Some.range.now far refl c.list_pages.ensures

pub returns : goal.returns
returns c = ListedSoFar-all c.args.self.now c.loop-range.self c.args.ranges.now c.loop-range.rest.now c.in_default.ensures.cases c.loop-range.invariant
