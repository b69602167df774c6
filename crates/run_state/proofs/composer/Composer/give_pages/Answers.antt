use Rattle.std.proofs.Common.{List, [], subst}
use Rattle.roff_num.specs.declared.num.Num.{Num}
use Rattle.run_state.specs.Composer.Standing.{StandFor}
use Rattle.run_model.specs.Starts.{pages_listed}
use Rattle.run_state.proofs.composer.Composer.give_pages.Goals as goal

pub returns : goal.returns
returns c = λ l stands.
    c.number_first.ensures l (pages_listed c.args.start.now.pages.items [])
    (subst (λ (ranges : List (Num × Num)). StandFor l (pages_listed ranges []) c.list_pages.new.self) c.as_slice.ensures.value (c.list_pages.ensures l [] stands))
