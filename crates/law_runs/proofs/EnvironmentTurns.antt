-- Switches between environments, and what happened in each.
use Rattle.std.proofs.Common.{◌≡◌, ◌∙◌, Bool, true, false, List, [], ◌∷◌, Option, refl, ap, if◌then◌else◌}
use Rattle.page_model.specs.declared.event.Event.{Event}
use Rattle.page_model.specs.declared.event.Event.TheVariants.{Interrupt as IsInterrupted}
use Rattle.run_model.specs.Environments.{PageHistory, InEnvironment, Environments, environments, gone_back, happened, is_same, number_behind, switched_to, ring_turned, turned_to, ring_turned_unless}
use Rattle.run_model.specs.declared.environment_number.EnvironmentNumber.{EnvironmentNumber}
use Rattle.run_model.specs.declared.event.InputTrap.{InputTrap}
use Rattle.run_model.specs.declared.line_state.TextLine.{TextLine}
use Rattle.run_model.specs.declared.environment_number.EnvironmentNumber.TheVariants.{Zero, One, Two}
use Rattle.law_runs.specs.EnvironmentLaws.{environment_of, text_in}
use Rattle.run_model.specs.declared.event.PageEvent.TheVariants.{Text, Page, Interrupt, Environment, Back, InputTrap as SetsTrap, Title}

-- a ring of these
abbrev ring : EnvironmentNumber → InEnvironment → InEnvironment → InEnvironment → List EnvironmentNumber → Environments
ring number a b c left = record { number = number; in_force = a; next = b; last = c; left = left }

-- turning the ring leaves each environment as it is
turned-ring :
    (number n : EnvironmentNumber) (a b c : InEnvironment) (left : List EnvironmentNumber)
    → environment_of n (ring_turned (ring number a b c left)) ≡ environment_of n (ring number a b c left)
turned-ring Zero Zero a b c left = refl
turned-ring Zero One a b c left = refl
turned-ring Zero Two a b c left = refl
turned-ring One Zero a b c left = refl
turned-ring One One a b c left = refl
turned-ring One Two a b c left = refl
turned-ring Two Zero a b c left = refl
turned-ring Two One a b c left = refl
turned-ring Two Two a b c left = refl

environment_of-turned : (n : EnvironmentNumber) (es : Environments) → environment_of n (ring_turned es) ≡ environment_of n es
environment_of-turned n es = turned-ring es.number n es.in_force es.next es.last es.left

environment_of-turned_unless : (is_there : Bool) (n : EnvironmentNumber) (es : Environments) → environment_of n (ring_turned_unless is_there es) ≡ environment_of n es
environment_of-turned_unless true n es = refl
environment_of-turned_unless false n es = environment_of-turned n es

pub environment_of-turned_to : (number n : EnvironmentNumber) (es : Environments) → environment_of n (turned_to number es) ≡ environment_of n es
environment_of-turned_to number n es =
    let once : Environments = ring_turned_unless (is_same es.number number) es in
    environment_of-turned_unless (is_same once.number number) n once ∙ environment_of-turned_unless (is_same es.number number) n es

-- nor does a switch, or going back
pub environment_of-switched_to : (number n : EnvironmentNumber) (es : Environments) → environment_of n (switched_to number es) ≡ environment_of n es
environment_of-switched_to number n es = environment_of-turned_to number n (record es { left = es.number ∷ es.left })

pub environment_of-gone_back : (left : List EnvironmentNumber) (n : EnvironmentNumber) (es : Environments) → environment_of n (gone_back left es) ≡ environment_of n es
environment_of-gone_back [] n es = refl
environment_of-gone_back (number ∷ left) n es = environment_of-turned_to number n (record es { left = left })

-- behind a switch the environment of that number is in force
switched-ring :
    (number from : EnvironmentNumber) (a b c : InEnvironment) (left : List EnvironmentNumber)
    → (turned_to number (ring from a b c left)).number ≡ number
switched-ring Zero Zero a b c left = refl
switched-ring Zero One a b c left = refl
switched-ring Zero Two a b c left = refl
switched-ring One Zero a b c left = refl
switched-ring One One a b c left = refl
switched-ring One Two a b c left = refl
switched-ring Two Zero a b c left = refl
switched-ring Two One a b c left = refl
switched-ring Two Two a b c left = refl

pub number-switched_to : (number : EnvironmentNumber) (es : Environments) → (switched_to number es).number ≡ number
number-switched_to number es = switched-ring number es.number es.in_force es.next es.last (es.number ∷ es.left)

-- a switch and going back leave all as it was
back-ring :
    (number from : EnvironmentNumber) (a b c : InEnvironment) (left : List EnvironmentNumber)
    → let there = switched_to number (ring from a b c left) in gone_back there.left there ≡ ring from a b c left
back-ring Zero Zero a b c left = refl
back-ring Zero One a b c left = refl
back-ring Zero Two a b c left = refl
back-ring One Zero a b c left = refl
back-ring One One a b c left = refl
back-ring One Two a b c left = refl
back-ring Two Zero a b c left = refl
back-ring Two One a b c left = refl
back-ring Two Two a b c left = refl

pub environments-back : (number : EnvironmentNumber) (h : PageHistory) → environments (Back ∷ Environment number ∷ h) ≡ environments h
environments-back number h =
    let es = environments h in back-ring number es.number es.in_force es.next es.last es.left

-- going back from nowhere changes nothing
pub environments-nowhere : (h : PageHistory) → (environments h).left ≡ [] → environments (Back ∷ h) ≡ environments h
environments-nowhere h none = ap (λ (left : List EnvironmentNumber). gone_back left (environments h)) none

-- an event of the text happens in the environment in force alone
event-chosen : (is_there : Bool) (e : Event) (a b : InEnvironment)
    → (if is_there then happened e a else b).text ≡ (if is_there then e ∷ (if is_there then a else b).text else (if is_there then a else b).text)
event-chosen true e a b = refl
event-chosen false e a b = refl

-- and so does an interruption
interruption-chosen : (is_there : Bool) (line : TextLine) (a b : InEnvironment)
    → (if is_there then (record a { text = IsInterrupted ∷ a.text; interrupted = line }) else b).text
    ≡ (if is_there then IsInterrupted ∷ (if is_there then a else b).text else (if is_there then a else b).text)
interruption-chosen true line a b = refl
interruption-chosen false line a b = refl

-- and its input-line trap leaves the text
trap-chosen : (is_there : Bool) (trap : Option InputTrap) (a b : InEnvironment)
    → (if is_there then (record a { input_trap = trap }) else b).text ≡ (if is_there then a else b).text
trap-chosen true trap a b = refl
trap-chosen false trap a b = refl

-- what happened in an environment is what happened while it was in force
pub text-environment_of : (n : EnvironmentNumber) (h : PageHistory) → (environment_of n (environments h)).text ≡ text_in n h
text-environment_of Zero [] = refl
text-environment_of One [] = refl
text-environment_of Two [] = refl
text-environment_of n (Text e ∷ h) =
    let es = environments h in
    event-chosen (is_same es.number n) e es.in_force (if is_same (number_behind es.number) n then es.next else es.last)
    ∙ ap (λ (text : List Event). if is_same es.number n then e ∷ text else text) (text-environment_of n h)
text-environment_of n (Page e ∷ h) = text-environment_of n h
text-environment_of n (Interrupt untold ∷ h) =
    let es = environments h in
    interruption-chosen (is_same es.number n) untold es.in_force (if is_same (number_behind es.number) n then es.next else es.last)
    ∙ ap (λ (text : List Event). if is_same es.number n then IsInterrupted ∷ text else text) (text-environment_of n h)
text-environment_of n (Environment number ∷ h) =
    ap (λ (e : InEnvironment). e.text) (environment_of-switched_to number n (environments h)) ∙ text-environment_of n h
text-environment_of n (Back ∷ h) =
    ap (λ (e : InEnvironment). e.text) (environment_of-gone_back (environments h).left n (environments h)) ∙ text-environment_of n h
text-environment_of n (Title t ∷ h) = text-environment_of n h
text-environment_of n (SetsTrap trap ∷ h) =
    let es = environments h in
    trap-chosen (is_same es.number n) trap es.in_force (if is_same (number_behind es.number) n then es.next else es.last) ∙ text-environment_of n h
