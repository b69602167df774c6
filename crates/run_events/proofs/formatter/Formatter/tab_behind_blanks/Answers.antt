use Rattle.std.proofs.Common.{[], ◌∷◌, arith, rules}
use Rattle.page_model.specs.declared.event.Event.TheVariants.{Print, Tab}
use Rattle.page_model.specs.declared.glyph.Glyph.TheVariants.{Blanks}
use Rattle.run_model.specs.declared.event.PageEvent.TheVariants.{Text}
use Rattle.run_events.proofs.Performed.{performs_both, performs_first_halted, performs_first_sprung}
use Rattle.run_events.proofs.formatter.Formatter.tab_behind_blanks.Goals as goal

pub returns-in-Ok-None : goal.returns-in-Ok-None
returns-in-Ok-None g c = performs_both (Text (Print (Blanks c.args.leading))) (Text Tab ∷ []) _ c.glyph.new.self _ _ _ _ c.glyph.result c.tab.result _ (search rules) (c.glyph.ensures (g.O.ByteSink.sunk c.args.out.now)) c.tab.ensures (omega arith) c.further.ensures.told (c.further.ensures.least (omega arith))

pub returns-in-Ok-Some : goal.returns-in-Ok-Some
returns-in-Ok-Some g c = performs_first_sprung (Text (Print (Blanks c.args.leading))) (Text Tab ∷ []) _ _ _ _ c.in-Ok-Some.sprung c.glyph.result (search rules) (c.glyph.ensures (g.O.ByteSink.sunk c.args.out.now))

pub returns-in-Err : goal.returns-in-Err
returns-in-Err g c = performs_first_halted (Text (Print (Blanks c.args.leading))) (Text Tab ∷ []) _ _ _ _ c.in-Err.halt (c.in-Err.ensures (g.O.ByteSink.sunk c.args.out.now))
