use Rattle.std.proofs.Common.{ℕ, List, [], ◌∷◌, None, Ok, arith, refl, subst, sym}
use Rattle.page_model.specs.declared.event.Event.TheVariants.{Count, LineEnd, WordEnd}
use Rattle.run_model.specs.declared.event.PageEvent.TheVariants.{Text}
use Rattle.run_events.specs.Formatter.Unfilled.{StandsNear}
use Rattle.run_events.proofs.Performed.{performs_both}
use Rattle.run_events.proofs.Telling.{tells_of_all}
use Rattle.run_events.proofs.formatter.Formatter.put_line.Goals as goal

pub put_and_count-requires : goal.put_and_count-requires
put_and_count-requires g c = subst (λ (bytes : List ℕ). StandsNear bytes c.args.count c.args.gaps c.args.self.now) (sym c.told_at_once-near.ensures) c.requires

pub returns : goal.returns
returns g c =
    let put = c.put_and_count.ensures in
    record {
      told = put.told;
      tells = tells_of_all c.args.front.now c.told_at_once-near.result.now c.args.count c.args.self.now put.told c.told_at_once-near.ensures put.tells;
      performs = performs_both (Text WordEnd) (Text LineEnd ∷ Text Count ∷ []) put.told put.ended _ _ _ _ (Ok None) c.put_and_count.result _ refl (put.word _) put.performs (omega arith) c.further.ensures.told (c.further.ensures.least (omega arith));
    }
