-- How many steps there are at the most before something is read.
use Rattle.std.proofs.Common.{◌≤◌, ◌+◌, ◌*◌, ℕ, List, [], ◌∷◌, length, Option, Some, None, arith}
use Rattle.page_model.specs.DueTexts.{TextDue}
use Rattle.roff_num.specs.declared.short_name.ShortName.{ShortName}
use Rattle.run_model.specs.Environments.{PageHistory}
use Rattle.run_model.specs.PageEvents.{PageEvent}
use Rattle.run_model.specs.Run.{State}
use Rattle.law_runs.proofs.ComesBefore.{steps_in_front, steps_in_front-few}

-- what sprang takes one step, and a text that changes one; so does an event, beside what comes before it and what follows it
abbrev pub sprung_steps : Option ShortName → ℕ
sprung_steps None = 0
sprung_steps (Some name) = 1

abbrev pub text_steps : Option TextDue → ℕ
text_steps None = 0
text_steps (Some due) = 1

-- how many steps there are at the most before something is read, where no text changes first
abbrev pub steps_before : List PageEvent → Option ShortName → PageHistory → ℕ
steps_before [] sprung h = sprung_steps sprung
steps_before (e ∷ es) sprung h = 6 * length es + steps_in_front h e + 3

abbrev pub steps_of : State → ℕ
steps_of s = text_steps s.follows.text + steps_before s.to_do s.follows.sprung s.history

pub sprung_steps-few : (sprung : Option ShortName) → sprung_steps sprung ≤ 1
sprung_steps-few None = omega arith
sprung_steps-few (Some name) = omega arith

pub text_steps-few : (text : Option TextDue) → text_steps text ≤ 1
text_steps-few None = omega arith
text_steps-few (Some due) = omega arith

pub steps_before-few : (es : List PageEvent) (sprung : Option ShortName) (h : PageHistory) → steps_before es sprung h ≤ 6 * length es + 1
steps_before-few [] sprung h = omega (arith, sprung_steps-few sprung)
steps_before-few (e ∷ es) sprung h = omega (arith, steps_in_front-few h e)

pub steps_of-few : (s : State) → steps_of s ≤ 6 * length s.to_do + 2
steps_of-few s = omega (arith, text_steps-few s.follows.text, steps_before-few s.to_do s.follows.sprung s.history)
