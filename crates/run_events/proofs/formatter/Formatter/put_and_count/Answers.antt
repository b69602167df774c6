use Rattle.std.proofs.Common.{[], ◌∷◌, arith, rules}
use Rattle.page_model.specs.declared.event.Event.TheVariants.{Count, LineEnd}
use Rattle.run_model.specs.declared.event.PageEvent.TheVariants.{Text}
use Rattle.run_events.proofs.Performed.{performs_both, performs_first_halted, performs_first_sprung}
use Rattle.run_events.proofs.formatter.Formatter.put_and_count.Goals as goal

pub returns-in-Ok-None : goal.returns-in-Ok-None
returns-in-Ok-None g c =
    let put = c.put_near.ensures in
    record {
      told = put.told;
      tells = put.tells;
      ended = put.ended;
      word = put.word;
      performs = performs_both (Text LineEnd) (Text Count ∷ []) put.ended c.put_near.new.self _ _ _ _ c.put_near.result c.count.result _ (search rules) put.performs (c.count.ensures _) (omega arith) c.further.ensures.told (c.further.ensures.least (omega arith));
    }

pub returns-in-Ok-Some : goal.returns-in-Ok-Some
returns-in-Ok-Some g c =
    let put = c.put_near.ensures in
    record {
      told = put.told;
      tells = put.tells;
      ended = put.ended;
      word = put.word;
      performs = performs_first_sprung (Text LineEnd) (Text Count ∷ []) put.ended _ _ _ c.in-Ok-Some.sprung c.put_near.result (search rules) put.performs;
    }

pub returns-in-Err : goal.returns-in-Err
returns-in-Err g c =
    let put = c.in-Err.ensures in
    record {
      told = put.told;
      tells = put.tells;
      ended = put.ended;
      word = put.word;
      performs = performs_first_halted (Text LineEnd) (Text Count ∷ []) put.ended _ _ _ c.in-Err.halt put.performs;
    }
