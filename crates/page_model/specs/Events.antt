-- What happens to one environment, and its history.
use Rattle.std.specs.Prelude.{Bool, true, false, List, [], ◌∷◌, None}
pub use Rattle.page_model.specs.declared.event.Event.{Event}
pub use Rattle.page_model.specs.declared.event.Event.TheVariants.{Print, Tab, FieldEnd, WordEnd, Gap, LineEnd, Count, Break, Interrupt, Resume, Set}
use Rattle.page_model.specs.declared.settings.Settings.{Settings}
use Rattle.page_model.specs.Settings.{initial_settings, settings_with, counted}
use Rattle.page_model.specs.TabStops.{TabStops, stops_with}

-- all that happened, the newest first
abbrev pub History : Type 0
History = List Event

-- what is in force
abbrev pub settings_after : History → Settings
settings_after [] = initial_settings
settings_after (Set p ∷ h) = settings_with p (settings_after h)
settings_after (LineEnd ∷ h) = counted (settings_after h)
settings_after (_ ∷ h) = settings_after h

-- the tab stops in force
abbrev pub stops_after : History → TabStops
stops_after [] = None
stops_after (Set p ∷ h) = stops_with p (stops_after h)
stops_after (_ ∷ h) = stops_after h

-- Whether an interrupted line of the input is to go on: its text was left open, and no text line goes on with it yet. The end of
-- another line, put back behind the text of a macro, ends the word and not that line.
abbrev pub is_interrupted : History → Bool
is_interrupted [] = false
is_interrupted (Interrupt ∷ h) = true
is_interrupted (Resume ∷ h) = false
is_interrupted (_ ∷ h) = is_interrupted h
