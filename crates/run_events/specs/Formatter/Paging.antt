-- What performing does to the pages: the first one begins, and something is put on them, which may spring a macro.
use Rattle.std.specs.Prelude.{◌≡◌, ◌⊎◌, ◌<◌, ◌≤◌, ℕ, ◌+◌, Bool, true, false, length, Option, Some, None, Result, Ok, Err, if◌then◌else◌, ◌&&◌, not}
use Rattle.roff_num.specs.declared.limit.Limit.TheVariants.{Output as OutputLimit}
use Rattle.roff_num.specs.declared.limits.Limits.{Limits}
use Rattle.roff_num.specs.declared.short_name.ShortName.{ShortName}
use Rattle.page_model.specs.DueTexts.{text_due}
use Rattle.page_model.specs.Lines.{Finished}
use Rattle.page_model.specs.Happenings.{Happening, Does, Places, is_eject, is_eject_event}
use Rattle.page_model.specs.Layout.{Layout}
use Rattle.roff_pages.specs.Pages.Kept.{Kept}
use Rattle.roff_pages.specs.Pages.Printing.{DidTo}
use Rattle.roff_pages.specs.Pages.Stands.{Happens, SameLimits, StandsAs}
use Rattle.page_model.specs.Puts.{appended, within_stop}
use Rattle.page_model.specs.Queries.{nl}
use Rattle.page_model.specs.Springs.{is_on_top, springs_on_page}
use Rattle.page_model.specs.Stops.{is_diverted, target}
use Rattle.page_model.specs.declared.layout_event.LayoutEvent.{LayoutEvent}
use Rattle.page_model.specs.declared.layout_event.LayoutEvent.TheVariants.{Begin}
use Rattle.run_state.specs.Composer.Standing.{StandFor}
use Rattle.run_state.specs.declared.due_text.Due.{Due}
use Rattle.run_state.specs.declared.due_text.DueText.{DueText}
use Rattle.run_state.specs.declared.due_text.DueText.TheVariants.{Line as LineDue, BlankLines as BlankDue}
use Rattle.run_events.specs.declared.formatter.Formatter.{Formatter}
use Rattle.run_events.specs.declared.halt.Halt.{Halt}
use Rattle.run_events.specs.declared.sprung.Sprung.{Sprung}
use Rattle.run_events.specs.Formatter.Sprung.{StopsSprung, diverting, noted, sprung_by}
use Rattle.run_events.specs.declared.halt.Halt.TheVariants.{Limit as Limited, Over, Output}
use Rattle.run_model.specs.Output.{PageHistory}
use Rattle.run_model.specs.Springs.{begins, needs_page}
use Rattle.run_model.specs.PageEvents.{PageEvent}
use Rattle.page_bytes.specs.Sinks.{Sunk}
use Rattle.page_bytes.specs.declared.page_fault.PageFault.{PageFault}
use Rattle.page_bytes.specs.declared.page_fault.PageFault.TheVariants.{Output as PastOutput, Sink as SinkFails}

-- what sprang, or halts, behind what pages answer
abbrev pub halted_by : Result (Option ShortName) PageFault → Bool → Result (Option Sprung) Halt
halted_by (Ok name) is_over = if is_over then Err Over else Ok (sprung_by name)
halted_by (Err PastOutput) is_over = Err (Limited OutputLimit)
halted_by (Err SinkFails) is_over = Err Output

-- whether an event is an eject, and the page that it ejects hasn't ended: where that ended, the next one begins at its top
abbrev pub ejects_still : LayoutEvent → Layout → Bool
ejects_still e L = is_eject_event e && not (is_on_top (nl L))

-- a formatter began the first page, and changed nothing else; this sprang, if anything
pub record BeginsPage (old new : Formatter) (name : Option ShortName) : Type 0 where
  pub begins : Happens (Does Begin) old.composer.pages new.composer.pages
  pub springs : (L : Layout) → StandsAs L old.composer.pages → name ≡ springs_on_page (Does Begin) L
  pub others : new ≡ record old { composer = record old.composer { pages = new.composer.pages } }

-- and did so if an event needs a page
pub record BeginsFor (e : PageEvent) (old new : Formatter) (name : Option ShortName) : Type 0 where
  pub page : (l : Limits) (h : PageHistory) → StandFor l h old.composer → needs_page h e ≡ true → BeginsPage old new name
  pub stays : (l : Limits) (h : PageHistory) → StandFor l h old.composer → needs_page h e ≡ false → (new ≡ old) × (name ≡ None)
  pub others : new ≡ record old { composer = record old.composer { pages = new.composer.pages } }

-- and did so if the first page begins in front of an event
pub record ReadyFor (e : PageEvent) (old new : Formatter) (name : Option ShortName) : Type 0 where
  pub page : (l : Limits) (h : PageHistory) → StandFor l h old.composer → begins h e ≡ true → BeginsPage old new name
  pub stays : (l : Limits) (h : PageHistory) → StandFor l h old.composer → begins h e ≡ false → (new ≡ old) × (name ≡ None)
  pub others : new ≡ record old { composer = record old.composer { pages = new.composer.pages } }

-- A happening was done to pages whose output is within its limit: whatever layout they stand for, what is written and what
-- springs is the definition's. What is put into a diversion writes nothing.
pub record PutsBy (x : Happening) (old new : Kept) (out_old out_new : Sunk) (answer : Result (Option ShortName) PageFault) : Type 0 where
  pub did : (L : Layout) → StandsAs L old → old.written ≤ old.output → DidTo L x answer old new out_old out_new
  pub limits : SameLimits old new

-- what pages answer notes the macro that is due, if one sprang
abbrev pub noted_by : Result (Option ShortName) PageFault → Due → Due
noted_by (Ok name) due = noted name due
noted_by (Err fault) due = due

-- the same, with which no text of a diversion changes; with the last page the run ends
pub record PutsHere (x : Happening) (old new : Kept) (due_old due_new : Due) (out_old out_new : Sunk) (result : Result (Option Sprung) Halt) : Type 0 where
  pub answer : Result (Option ShortName) PageFault
  pub puts : PutsBy x old new out_old out_new answer
  pub untold : (L : Layout) → StandsAs L old → text_due x L ≡ None
  pub halts : (L : Layout) → StandsAs L new → result ≡ halted_by answer L.is_over
  pub due : due_new ≡ noted_by answer due_old
  pub stops : StopsSprung result due_new

-- a happening was done to pages, and put something in a diversion, of whose text this is due, and what sprang
pub record PutsIn (x : Happening) (text : Layout → DueText) (old new : Kept) (due : Due) (out_old out_new : Sunk) (result : Result (Option Sprung) Halt) : Type 0 where
  pub happens : Happens x old new
  pub kind : is_eject x ≡ false
  pub diverted : (L : Layout) → StandsAs L old → is_diverted x L ≡ true
  pub some : (L : Layout) → StandsAs L old → 0 < length (appended x L)
  pub springs : (L : Layout) → StandsAs L old → due.sprung ≡ springs_on_page x L
  pub told : (L : Layout) → StandsAs L old → due.text ≡ text L
  pub quiet : out_new ≡ out_old
  pub is : result ≡ Ok (Some diverting)

-- the one or the other
abbrev pub PutsOnPage : Happening → (Layout → DueText) → Kept → Kept → Due → Due → Sunk → Sunk → Result (Option Sprung) Halt → Type 0
PutsOnPage x text old new due_old due_new out_old out_new result =
    PutsHere x old new due_old due_new out_old out_new result ⊎ PutsIn x text old new due_new out_old out_new result

-- how many blank lines a line puts behind itself in the innermost diversion
abbrev pub blank_behind : Finished → Layout → ℕ
blank_behind line L = within_stop ((target (Places line) L).place + 1) (target (Places line) L).stop line.after

-- what is due of a line that is placed in a diversion
abbrev pub line_due : Finished → Layout → DueText
line_due line L = LineDue line.lead line.spare line.gaps (blank_behind line L)

-- and of blank lines that an event puts there
abbrev pub blank_due : LayoutEvent → Layout → DueText
blank_due e L = BlankDue (length (appended (Does e) L))

-- what became of a line that an event finished, if it finished one: it was placed
abbrev pub PutsFinished : Option Finished → Kept → Kept → Due → Due → Sunk → Sunk → Result (Option Sprung) Halt → Type 0
PutsFinished None old new due_old due_new out_old out_new result =
    (new ≡ old) × (due_new ≡ due_old) × (out_new ≡ out_old) × (result ≡ Ok None)
PutsFinished (Some line) old new due_old due_new out_old out_new result =
    PutsOnPage (Places line) (line_due line) old new due_old due_new out_old out_new result
