-- Words for the laws of environments (manual, section 17).
use Rattle.std.specs.Prelude.{[], ◌∷◌, if◌then◌else◌}
use Rattle.page_model.specs.Events.{History}
use Rattle.page_model.specs.declared.event.Event.TheVariants.{Interrupt as IsInterrupted}
use Rattle.run_model.specs.Environments.{PageHistory, InEnvironment, Environments, environments, is_same, number_behind}
use Rattle.run_model.specs.declared.environment_number.EnvironmentNumber.{EnvironmentNumber}
use Rattle.run_model.specs.declared.event.PageEvent.TheVariants.{Text, Interrupt, Environment, Back, InputTrap as SetsTrap, Page, Title}

-- what happened in the environment of a number
abbrev pub environment_of : EnvironmentNumber → Environments → InEnvironment
environment_of number es =
    if is_same es.number number then es.in_force
    else if is_same (number_behind es.number) number then es.next
    else es.last

-- what happened in the environment of a number, event by event: what happened while it was in force
abbrev pub text_in : EnvironmentNumber → PageHistory → History
text_in number [] = []
text_in number (Text e ∷ h) = if is_same (environments h).number number then e ∷ text_in number h else text_in number h
text_in number (Interrupt untold ∷ h) =
    if is_same (environments h).number number then IsInterrupted ∷ text_in number h else text_in number h
text_in number (Environment other ∷ h) = text_in number h
text_in number (Back ∷ h) = text_in number h
text_in number (SetsTrap trap ∷ h) = text_in number h
text_in number (Page e ∷ h) = text_in number h
text_in number (Title t ∷ h) = text_in number h
