use Rattle.std.proofs.Common.{◌≡◌, ◌==◌, ◌++◌, Bool, true, false, if◌then◌else◌, [], ◌∷◌, rules, subst, sym}
use Rattle.page_model.specs.declared.event.Event.TheVariants.{Print, Tab}
use Rattle.page_model.specs.declared.glyph.Glyph.TheVariants.{Blanks}
use Rattle.run_model.specs.declared.event.PageEvent.TheVariants.{Text}
use Rattle.run_events.specs.Formatter.Performing.{PerformsEvents}
use Rattle.run_events.proofs.formatter.Formatter.tab_behind.Goals as goal

pub returns-then-leading-gt0 : goal.returns-then-leading-gt0
returns-then-leading-gt0 g c =
    let is : (c.args.leading == 0) ≡ false = search rules in
    subst
    (λ (none : Bool). PerformsEvents ((if none then [] else Text (Print (Blanks c.args.leading)) ∷ []) ++ Text Tab ∷ []) c.args.self.now c.tab_behind_blanks.new.self (g.O.ByteSink.sunk c.args.out.now) (g.O.ByteSink.sunk c.tab_behind_blanks.new.out) c.tab_behind_blanks.result)
    (sym is) c.tab_behind_blanks.ensures

pub returns : goal.returns
returns g c =
    let is : (c.args.leading == 0) ≡ true = search rules in
    subst
    (λ (none : Bool). PerformsEvents ((if none then [] else Text (Print (Blanks c.args.leading)) ∷ []) ++ Text Tab ∷ []) c.args.self.now c.tab.new.self (g.O.ByteSink.sunk c.args.out.now) (g.O.ByteSink.sunk c.tab.new.out) c.tab.result)
    (sym is) c.tab.ensures
