use Rattle.std.proofs.Common.{refl, subst, sym}
use Rattle.run_state.specs.Composer.Standing.{StandFor}
use Rattle.run_model.specs.Starts.{first_page_numbered}
use Rattle.run_state.proofs.GivenPages.{StandFor-next}
use Rattle.run_state.proofs.composer.Composer.number_first.Goals as goal

pub returns-in-Some : goal.returns-in-Some
returns-in-Some c = λ l h stands.
    let old = c.args.self.now in
    let new = record old { pages = c.set_next.new.self } in
    subst (λ n. StandFor l (first_page_numbered n h) new) (sym c.in-Some.is) (StandFor-next c.in-Some.number old new refl c.set_next.ensures l h stands)

pub returns-in-None : goal.returns-in-None
returns-in-None c = λ l h stands. subst (λ n. StandFor l (first_page_numbered n h) c.args.self.now) (sym c.in-None.is) stands
