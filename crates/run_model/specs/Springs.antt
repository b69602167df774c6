-- What comes before an event, and the macro that an event springs (manual, section 7.5).
--
-- A macro that springs is read before anything else is done: what was still to do of the same list is put back, and stands behind it.
-- So do an event before which the first page began, and an eject whose page hasn't ended.
use Rattle.std.specs.Prelude.{◌≡◌, ◌≤◌, Bool, true, false, not, ◌&&◌, ◌||◌, List, [], ◌∷◌, length, Option, Some, None, is_some, if◌then◌else◌}
use Rattle.page_model.specs.Behind.{finished, has_open_word}
use Rattle.page_model.specs.Fields.{is_in_field}
use Rattle.page_model.specs.declared.event.Event.TheVariants.{Break, Count, FieldEnd, Gap, Interrupt as Interrupted, LineEnd, Print, Resume, Set, Tab, WordEnd}
use Rattle.roff_num.specs.declared.short_name.ShortName.{ShortName}
use Rattle.run_model.specs.Environments.{environments, text_of, trap_reached}
use Rattle.page_model.specs.declared.layout_event.LayoutEvent.{LayoutEvent}
use Rattle.page_model.specs.declared.layout_event.LayoutEvent.TheVariants.{Begin, Space, Need, Eject, EjectOn, EjectTo}
use Rattle.page_model.specs.Happenings.{Happening, Does}
use Rattle.page_model.specs.Layout.{Layout}
use Rattle.page_model.specs.Queries.{takes_text}
use Rattle.page_model.specs.Springs.{goes_on, springs_on_page}
use Rattle.run_model.specs.Layouts.{happens, layout_of}
use Rattle.run_model.specs.PageEvents.{PageEvent, PageHistory, PastEvent, Text, Page, Title}

-- a word end, if a word is open
abbrev pub own_word_end : Bool → Option PageEvent
own_word_end false = None
own_word_end true = Some (Text WordEnd)

-- the word end that an event has of its own, if it has one: a gap, line end or break may stand behind a macro that sprang, whose
-- text left a word open
abbrev pub word_end_of : PageHistory → PageEvent → Option PageEvent
word_end_of h (Text (Gap columns)) = own_word_end (has_open_word (text_of h))
word_end_of h (Text LineEnd) = own_word_end (has_open_word (text_of h))
word_end_of h (Text Break) = own_word_end (has_open_word (text_of h))
word_end_of h (_) = None

-- whether an event of the pages needs one: space that is asked for or needed, and ejecting
abbrev pub is_paged : LayoutEvent → Bool
is_paged (Space k) = true
is_paged (Need k) = true
is_paged (Eject asked) = true
is_paged (EjectTo asked number) = true
is_paged (_) = false

-- Whether an event needs a page: a glyph, a title, or one of the pages; a break, which in the closing phase has to finish a line, as
-- word ends and line ends have to.
abbrev pub needs_page : PageHistory → PageEvent → Bool
needs_page h (Text (Print g)) = true
needs_page h (Text Tab) = true
needs_page h (Text Break) = not (layout_of h).is_closing || is_some (finished (text_of h) Break)
needs_page h (Text e) = is_some (finished (text_of h) e)
needs_page h (Page e) = is_paged e
needs_page h (Title which) = true
needs_page h (_) = false

-- whether the first page begins in front of an event: none was begun, no diversion is open, and it needs one
abbrev pub begins : PageHistory → PageEvent → Bool
begins h e = not (takes_text (layout_of h)) && needs_page h e

-- the first page's beginning, if it comes first, or something else
abbrev pub page_begin_or : Bool → Option PageEvent → Option PageEvent
page_begin_or true other = Some (Page Begin)
page_begin_or false other = other

-- whether a field's end comes before an event: before a line end or break that finds a field open
abbrev pub ends_field : PageHistory → PageEvent → Bool
ends_field h (Text LineEnd) = is_in_field (text_of h)
ends_field h (Text Break) = is_in_field (text_of h)
ends_field h (_) = false

-- a field's end, if it comes first, or something else
abbrev pub field_end_or : Bool → Option PageEvent → Option PageEvent
field_end_or true other = Some (Text FieldEnd)
field_end_or false other = other

-- what comes before an event that finds no field to end: the end of an open word, and then the first page's beginning; in front of
-- a word end that begins it that comes first
abbrev pub next_unfielded : PageHistory → PageEvent → Option PageEvent
next_unfielded h e =
    elim (word_end_of h e) [ None ↦ page_begin_or (begins h e) None | Some own ↦ page_begin_or (begins h own) (Some own) ]

-- What comes before an event, if anything does: first the end of an open field, which no page needs, and then the others.
abbrev pub next : PageHistory → PageEvent → Option PageEvent
next h e = field_end_or (ends_field h e) (next_unfielded h e)

-- the macro of the trap that a happening meets, if something happens
abbrev pub sprung_on : Option Happening → Layout → Option ShortName
sprung_on None L = None
sprung_on (Some x) L = springs_on_page x L

-- The macro that an event springs, if it springs one: a text line that counts may be the last that the input-line trap waits for,
-- and what happens to the layout of pages may meet a trap there.
abbrev pub springs : PageHistory → PastEvent → Option ShortName
springs h (Text Count) = trap_reached (environments h).in_force.input_trap
springs h e = sprung_on (happens h e) (layout_of h)

-- how an eject goes on behind a macro that it sprang; what isn't one stays
abbrev pub eject_going_on : LayoutEvent → LayoutEvent
eject_going_on (Eject asked) = EjectOn asked
eject_going_on (EjectTo asked number) = EjectOn asked
eject_going_on e = e

-- an eject that goes on, if it does
abbrev pub left_if : Bool → LayoutEvent → List PageEvent
left_if goes_on e = if goes_on then Page (eject_going_on e) ∷ [] else []

-- what is left of an event once it happened: of an eject whose page hasn't ended with it, that it goes on
abbrev pub left_of : PageHistory → PastEvent → List PageEvent
left_of h (Page e) = left_if (goes_on (Does e) (layout_of h)) e
left_of h (_) = []

-- Whether a macro may be sprung by an event, or by what comes before it: by one that puts something on a page, or begins one, and
-- by a text line that counts.
abbrev pub may_spring : PageEvent → Bool
may_spring (Text (Set param)) = false
may_spring (Text FieldEnd) = false
may_spring (Text Interrupted) = false
may_spring (Text Resume) = false
may_spring (Text e) = true
may_spring (Page e) = true
may_spring (Title which) = true
may_spring (_) = false

-- each of these that may spring a macro can be put back, and those behind it: they are so few
abbrev pub AreFewBehind : List PageEvent → Type 0
AreFewBehind [] = Unit {0}
AreFewBehind (e ∷ es) = (may_spring e ≡ true → length (e ∷ es) ≤ 5) × AreFewBehind es
