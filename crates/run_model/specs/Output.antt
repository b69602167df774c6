-- What a history writes.
use Rattle.std.specs.Prelude.{ℕ, List, [], ◌∷◌, ◌++◌, Option, Some, None}
use Rattle.page_model.specs.Happenings.{Happening}
use Rattle.page_model.specs.DeviceText.{device_text}
use Rattle.page_model.specs.Layout.{Layout}
pub use Rattle.run_model.specs.Environments.{text_of}
pub use Rattle.run_model.specs.PageEvents.{PageHistory, PastEvent}
pub use Rattle.run_model.specs.Layouts.{happens, layout_of}

-- what is written of what happens to a layout, if something does
abbrev pub text_laid : Option Happening → Layout → List ℕ
text_laid None L = []
text_laid (Some x) L = device_text x L

-- what an event writes behind a history
abbrev pub written_by : PageHistory → PastEvent → List ℕ
written_by h e = text_laid (happens h e) (layout_of h)

-- what a history has written, event by event
abbrev pub written : PageHistory → List ℕ
written [] = []
written (e ∷ h) = written h ++ written_by h e
