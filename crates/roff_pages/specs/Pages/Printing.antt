-- What a call that writes makes of pages and of a sink.
use Rattle.std.specs.Prelude.{◌≡◌, ℕ, ◌+◌, ◌<◌, ◌≤◌, Bool, List, [], length, Option, Result, Ok, Err, if◌then◌else◌}
use Rattle.roff_num.specs.declared.short_name.ShortName.{ShortName}
use Rattle.page_bytes.specs.declared.page_fault.PageFault.{PageFault}
use Rattle.page_bytes.specs.declared.page_fault.PageFault.TheVariants.{Output, Sink}
use Rattle.page_bytes.specs.Sinks.{Sunk, Writes, Fails}
use Rattle.page_model.specs.Layout.{Box, Layout}
use Rattle.page_model.specs.Happenings.{Happening}
use Rattle.page_model.specs.Turning.{turned_if_full, with_event}
use Rattle.page_model.specs.Springs.{springs_on_page}
use Rattle.page_model.specs.DeviceText.{device_lines, device_text}
use Rattle.roff_pages.specs.Pages.Kept.{Kept}
use Rattle.roff_pages.specs.Pages.Stands.{StandsAs, SameLimits}
use Rattle.roff_pages.specs.Pages.Advancing.{sprung_by, with_lines}

-- a text was written within the limit, and counted
pub record Printed (old new : Kept) (out out_then : Sunk) (text : List ℕ) : Type 0 where
  pub within : old.written + length text ≤ old.output
  pub written : new.written ≡ old.written + length text
  pub writes : Writes out out_then text

-- it would pass the limit, so nothing was written, and nothing changed
pub record IsRefused (old new : Kept) (out out_then : Sunk) (text : List ℕ) : Type 0 where
  pub above : old.output < old.written + length text
  pub same : new ≡ old
  pub unwritten : out_then ≡ out

-- it is within the limit, and the sink failed: nothing changed but the sink
pub record IsCutOff (old new : Kept) (out out_then : Sunk) (text : List ℕ) : Type 0 where
  pub within : old.written + length text ≤ old.output
  pub same : new ≡ old
  pub fails : Fails out out_then text

-- why a text wasn't written
abbrev pub IsUnprinted : PageFault → Kept → Kept → Sunk → Sunk → List ℕ → Type 0
IsUnprinted Output old new out out_then text = IsRefused old new out out_then text
IsUnprinted Sink old new out out_then text = IsCutOff old new out out_then text

-- a happening was done to a layout, and springs something: the text that it writes was written
pub record DoneTo (L : Layout) (x : Happening) (name : Option ShortName) (old new : Kept) (out out_then : Sunk) : Type 0 where
  pub stands : StandsAs (with_event x L) new
  pub springs : name ≡ springs_on_page x L
  pub printed : Printed old new out out_then (device_text x L)

-- what became of it
abbrev pub DidTo : Layout → Happening → Result (Option ShortName) PageFault → Kept → Kept → Sunk → Sunk → Type 0
DidTo L x (Ok name) old new out out_then = DoneTo L x name old new out out_then
DidTo L x (Err fault) old new out out_then = IsUnprinted fault old new out out_then (device_text x L)

-- The same for whatever layout the pages stand for: what springs, and what is written, is the definition's; a limit is answered
-- exactly where it would be passed, with nothing written; a failing sink got a beginning of the text; and behind both the pages
-- are as before. The limits stay.
pub record HappensWriting (x : Happening) (old new : Kept) (out out_then : Sunk) (result : Result (Option ShortName) PageFault)
    : Type 0 where
  pub did : (L : Layout) → StandsAs L old → DidTo L x result old new out out_then
  pub limits : SameLimits old new

-- a text, if the page is written
abbrev pub if_listed : Bool → List ℕ → List ℕ
if_listed is_listed text = if is_listed then text else []

-- boxes were put on the page
pub record Boxed (L : Layout) (boxes : List Box) (name : Option ShortName) (old new : Kept) (out out_then : Sunk) : Type 0 where
  pub stands : StandsAs (turned_if_full (with_lines boxes L)) new
  pub springs : name ≡ sprung_by boxes L
  pub printed : Printed old new out out_then (if_listed L.is_listed (device_lines L.offset boxes))

-- what became of them
abbrev pub BoxedTo : Layout → List Box → Result (Option ShortName) PageFault → Kept → Kept → Sunk → Sunk → Type 0
BoxedTo L boxes (Ok name) old new out out_then = Boxed L boxes name old new out out_then
BoxedTo L boxes (Err fault) old new out out_then =
    IsUnprinted fault old new out out_then (if_listed L.is_listed (device_lines L.offset boxes))
