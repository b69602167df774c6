-- Which bytes the lines of a run have, as they are printed (manual, section 4.1).
use Rattle.std.specs.Prelude.{◌≡◌, ℕ, true, false, List, [], ◌∷◌, IfSome, ◌==◌}
use Rattle.std.specs.List.{AllByRecursion}
use Rattle.roff_num.specs.declared.limits.Limits.{Limits}
use Rattle.page_model.specs.Behind.{finished}
use Rattle.page_model.specs.Columns.{printed}
use Rattle.page_model.specs.Events.{History}
use Rattle.page_model.specs.Layout.{Diversion}
use Rattle.page_model.specs.Lines.{Finished}
use Rattle.page_model.specs.Titles.{title_text}
use Rattle.page_model.specs.declared.event.Event.{Event}
use Rattle.page_model.specs.declared.event.Event.TheVariants.{Print}
use Rattle.page_model.specs.declared.glyph.Glyph.{Glyph}
use Rattle.page_model.specs.declared.glyph.Glyph.TheVariants.{Printed, Blanks}
use Rattle.run_model.specs.Environments.{text_of}
use Rattle.run_model.specs.Layouts.{layout_of, placed}
use Rattle.run_model.specs.PageEvents.{PageHistory, PastEvent}
use Rattle.run_model.specs.declared.event.PageEvent.TheVariants.{Text, Title}
use Rattle.law_reading_again.specs.Again.{AllPrint, again_text, is_printable}
use Rattle.law_reading_again.specs.Anywhere.{ComesBack, ComesBackFromTheSource}

-- a text of printable bytes alone
abbrev pub IsPrintable : List ℕ → Type 0
IsPrintable text = AllByRecursion (λ b. is_printable b ≡ true) text

-- a glyph that is printed as a byte, or as blanks: any but DEL, which reading drops
abbrev pub IsShown : Glyph → Type 0
IsShown (Printed b) = (b == 127) ≡ false
IsShown (Blanks n) = Unit {0}

-- an event of such a glyph, or of none
abbrev pub Shows : Event → Type 0
Shows (Print g) = IsShown g
Shows (_) = Unit {0}

-- so are those of an environment
abbrev pub AllShow : History → Type 0
AllShow h = AllByRecursion Shows h

-- and those of a page, whose titles are printed so
abbrev pub PageShows : PageHistory → PastEvent → Type 0
PageShows h (Text e) = Shows e
PageShows h (Title t) = IsPrintable (title_text (placed t (text_of h) (layout_of h)))
PageShows h (_) = Unit {0}

abbrev pub AllPagesShow : PageHistory → Type 0
AllPagesShow [] = Unit {0}
AllPagesShow (e ∷ h) = PageShows h e × AllPagesShow h

-- Lines are printed by printable bytes alone, whatever finishes them, fields on them or not.
abbrev pub LinesPrint : Type 0
LinesPrint = (h : History) (e : Event) → AllShow h → IfSome (finished h e) (λ (line : Finished). IsPrintable (printed line))

-- So are the boxes of all open diversions
abbrev pub DiversionsPrint : Type 0
DiversionsPrint = (h : PageHistory) → AllPagesShow h → AllByRecursion (λ (d : Diversion). AllPrint d.boxes) (layout_of h).diversions

-- whose texts give them again then, wherever they are read.
abbrev pub DiversionsComeBack : Type 0
DiversionsComeBack =
    (l : Limits) (h : PageHistory) → AllPagesShow h →
    AllByRecursion
    (λ (d : Diversion). (text : List ℕ) → text ≡ again_text d.boxes → ComesBack l d.boxes text × ComesBackFromTheSource l d.boxes text)
    (layout_of h).diversions
