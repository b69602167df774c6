-- Steps that have names of their own: what they mean doesn't depend on what is kept.
use Rattle.std.proofs.Common.{◌≡◌, ℕ, Bool, true, false, List, [], ◌∷◌, ◌++◌, Option, None, ap, refl, ◌==◌, if◌then◌else◌}
use Rattle.run_state.proofs.BlanksTold.{closed-word_end}
use Rattle.page_model.specs.declared.event.Event.TheVariants.{Break as Breaks, Print, Tab as PageTab, WordEnd}
use Rattle.page_model.specs.Behind.{has_open_word}
use Rattle.page_model.specs.declared.glyph.Glyph.TheVariants.{Blanks}
use Rattle.run_model.specs.Environments.{PageHistory, text_of}
use Rattle.run_model.specs.Events.Lines.{print_event}
use Rattle.run_model.specs.Reading.TextLines.{leading_glyph}
use Rattle.run_model.specs.declared.event.PageEvent.TheVariants.{Text}
use Rattle.run_events.specs.Formatter.Performing.{Flows, behind_event, behind_next}
use Rattle.run_model.specs.Springs.{own_word_end}
use Rattle.run_model.specs.Events.Steps.{events_of, messages_of}
use Rattle.run_model.specs.PageEvents.{PageEvent}
use Rattle.run_model.specs.Registers.{AllRegisters}
use Rattle.run_model.specs.declared.message.Message.{Message}
use Rattle.run_model.specs.declared.step.Step.{Step}
use Rattle.run_model.specs.declared.step.Step.TheVariants.{Nothing, Glyph, Tab, Gap, Break, LineEnd, BlankLine, Meaning}

-- they report nothing
pub named-quiet : (step : Step) (kept : Option Message) → (step ≡ Meaning → ⊥) → messages_of kept step ≡ []
named-quiet Nothing kept named = refl
named-quiet (Glyph b leading) kept named = refl
named-quiet (Tab leading) kept named = refl
named-quiet Gap kept named = refl
named-quiet Break kept named = refl
named-quiet LineEnd kept named = refl
named-quiet BlankLine kept named = refl
named-quiet Meaning kept named = absurd (named refl)

-- and have their own events
pub named-events : (step : Step) (kept : List PageEvent) → (step ≡ Meaning → ⊥) → events_of [] step ≡ events_of kept step
named-events Nothing kept named = refl
named-events (Glyph b leading) kept named = refl
named-events (Tab leading) kept named = refl
named-events Gap kept named = refl
named-events Break kept named = refl
named-events LineEnd kept named = refl
named-events BlankLine kept named = refl
named-events Meaning kept named = absurd (named refl)

-- before none of their events the end of a word comes
flows-leading : (rs : AllRegisters) (leading : ℕ) (e : PageEvent) (h : PageHistory) → ((g : PageHistory) → Flows rs (e ∷ []) g)
    → Flows rs (leading_glyph leading ++ e ∷ []) h
flows-leading rs leading e h flows = by_test (leading == 0)
  where
    by_test : (b : Bool) → Flows rs ((if b then [] else Text (Print (Blanks leading)) ∷ []) ++ e ∷ []) h
    by_test true = flows h
    by_test false = (refl, flows (behind_event rs (Text (Print (Blanks leading))) h))

-- nor does it behind a word end: no word is open there
closed : (rs : AllRegisters) (h : PageHistory) → own_word_end (has_open_word (text_of (behind_event rs (Text WordEnd) h))) ≡ None
closed rs h = ap own_word_end (closed-word_end (text_of (behind_next rs 3 (Text WordEnd) h)))

pub flows-break : (rs : AllRegisters) (h : PageHistory) → Flows rs (Text WordEnd ∷ Text Breaks ∷ []) h
flows-break rs h = (refl, (closed rs h, tt))

pub named-flows : (rs : AllRegisters) (step : Step) (h : PageHistory) → Flows rs (events_of [] step) h
named-flows rs Nothing h = tt
named-flows rs (Glyph b leading) h = flows-leading rs leading (print_event b) h (λ g. (refl, tt))
named-flows rs (Tab leading) h = flows-leading rs leading (Text PageTab) h (λ g. (refl, tt))
named-flows rs Gap h = (refl, (closed rs h, tt))
named-flows rs Break h = flows-break rs h
named-flows rs LineEnd h = (refl, (closed rs h, (refl, tt)))
named-flows rs BlankLine h = (refl, (closed rs h, (refl, tt)))
named-flows rs Meaning h = tt
