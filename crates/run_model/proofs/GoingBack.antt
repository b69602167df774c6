-- What going back to something means.
use Rattle.std.proofs.Common.{◌≡◌, Bool, true, false, List, [], ◌∷◌, refl, ap, if◌then◌else◌}
use Rattle.page_model.specs.declared.event.Event.TheVariants.{Resume}
use Rattle.run_model.specs.PageEvents.{PageEvent, Text}
use Rattle.run_model.specs.Reading.Returns.{behind_return, going_back, is_text}
use Rattle.run_model.specs.declared.line_state.LineState.{LineState}
use Rattle.run_model.specs.declared.line_state.LineState.TheVariants.{LineStart, Branch, Braced, Text as InText, Control, Name, Deciding, Skipping, Dropped, Told, Exiting, TitleFront, Title as InTitle, Collecting}

-- what holds of no events, and of the one with which a line goes on, holds of what it means
pub going_back-by : (P : List PageEvent → Type 0) → P [] → P (Text Resume ∷ []) → (reading : LineState) → P (going_back reading)
going_back-by P none one reading = by (is_text reading)
  where
    by : (so : Bool) → P (if so then Text Resume ∷ [] else [])
    by true = one
    by false = none

-- the beginning of a line is no text line, and neither is what is read of a control line
is_text-start : (reading : LineState) → is_text (behind_return 0 reading) ≡ false
is_text-start LineStart = refl
is_text-start Branch = refl
is_text-start Braced = refl
is_text-start (InText line) = refl
is_text-start (Control breaks) = refl
is_text-start (Name breaks first) = refl
is_text-start (Collecting purpose) = refl
is_text-start (Deciding keeps) = refl
is_text-start (Skipping opened closed behind) = refl
is_text-start Dropped = refl
is_text-start (Told aborts) = refl
is_text-start Exiting = refl
is_text-start TitleFront = refl
is_text-start (InTitle delimiter) = refl

-- so going back to it means nothing
pub going_back-start : (reading : LineState) → going_back (behind_return 0 reading) ≡ []
going_back-start reading = ap (λ (so : Bool). if so then Text Resume ∷ [] else []) (is_text-start reading)
