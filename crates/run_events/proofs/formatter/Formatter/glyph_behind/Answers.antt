use Rattle.std.proofs.Common.{◌≡◌, ◌==◌, ◌++◌, Bool, true, false, if◌then◌else◌, [], ◌∷◌, Ok, Err, Some, arith, rules, subst, sym}
use Rattle.page_model.specs.declared.event.Event.TheVariants.{Print}
use Rattle.page_model.specs.declared.glyph.Glyph.TheVariants.{Blanks}
use Rattle.run_model.specs.declared.event.PageEvent.TheVariants.{Text}
use Rattle.run_events.specs.Formatter.Performing.{PerformsEvents}
use Rattle.run_events.proofs.Performed.{performs_both, performs_first_halted, performs_first_sprung}
use Rattle.run_events.proofs.formatter.Formatter.glyph_behind.Goals as goal

pub returns-then-leading-eq0 : goal.returns-then-leading-eq0
returns-then-leading-eq0 c = λ told.
    let is : (c.args.leading == 0) ≡ true = search rules in
    subst
    (λ (none : Bool). PerformsEvents ((if none then [] else Text (Print (Blanks c.args.leading)) ∷ []) ++ Text (Print c.args.glyph) ∷ []) c.args.self.now c.glyph.new.self told told c.glyph.result)
    (sym is) (c.glyph.ensures told)

pub returns-in-Ok-None : goal.returns-in-Ok-None
returns-in-Ok-None c = λ told.
    let is : (c.args.leading == 0) ≡ false = search rules in
    subst
    (λ (none : Bool). PerformsEvents ((if none then [] else Text (Print (Blanks c.args.leading)) ∷ []) ++ Text (Print c.args.glyph) ∷ []) c.args.self.now c.glyph-in-Ok-None.new.self told told c.further.result)
    (sym is)
    (performs_both (Text (Print (Blanks c.args.leading))) (Text (Print c.args.glyph) ∷ []) c.args.self.now c.glyph-2.new.self c.glyph-in-Ok-None.new.self told told told c.glyph-2.result c.glyph-in-Ok-None.result c.further.result (search rules) (c.glyph-2.ensures told) (c.glyph-in-Ok-None.ensures told) (omega arith) c.further.ensures.told (c.further.ensures.least (omega arith)))

pub returns-in-Ok-Some : goal.returns-in-Ok-Some
returns-in-Ok-Some c = λ told.
    let is : (c.args.leading == 0) ≡ false = search rules in
    subst
    (λ (none : Bool). PerformsEvents ((if none then [] else Text (Print (Blanks c.args.leading)) ∷ []) ++ Text (Print c.args.glyph) ∷ []) c.args.self.now c.glyph-2.new.self told told (Ok (Some c.in-Ok-Some.sprung)))
    (sym is)
    (performs_first_sprung (Text (Print (Blanks c.args.leading))) (Text (Print c.args.glyph) ∷ []) c.args.self.now c.glyph-2.new.self told told c.in-Ok-Some.sprung c.glyph-2.result (search rules) (c.glyph-2.ensures told))

pub returns-in-Err : goal.returns-in-Err
returns-in-Err c = λ told.
    let is : (c.args.leading == 0) ≡ false = search rules in
    subst
    (λ (none : Bool). PerformsEvents ((if none then [] else Text (Print (Blanks c.args.leading)) ∷ []) ++ Text (Print c.args.glyph) ∷ []) c.args.self.now c.glyph-2.new.self told told (Err c.in-Err.halt))
    (sym is)
    (performs_first_halted (Text (Print (Blanks c.args.leading))) (Text (Print c.args.glyph) ∷ []) c.args.self.now c.glyph-2.new.self told told c.in-Err.halt (c.in-Err.ensures told))
