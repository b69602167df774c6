use Rattle.page_model.specs.Turning.{is_given}
use Rattle.std.proofs.Common.{w32, to_z, of_z, sym, ◌∙◌}
use Rattle.roff_pages.proofs.FirstTraps.{none_before-more}
use Rattle.roff_pages.proofs.traps.from_given.Goals as goal

pub loop-front-preserved : goal.loop-front-preserved
loop-front-preserved c =
    let split = c.in-Some.ensures.cases in
    none_before-more (is_given (to_z w32 (of_z w32 c.args.place))) c.args.traps.now c.loop-front.rest.now c.in-Some.front.now c.in-Some.others.now 64
    c.loop-front.invariant split.1 split.2 (sym c.is_any_given.ensures ∙ c.if-is_any_given.false)
