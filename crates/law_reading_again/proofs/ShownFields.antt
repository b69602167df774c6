-- The bytes of lines on which fields may be: what is told of glyphs that are shown, without fields, has such glyphs.
use Rattle.std.proofs.Common.{ℕ, List, [], ◌∷◌, ◌++◌, map, Option, Some, None, ◌==◌}
use Rattle.std.specs.List.{AllByRecursion}
use Rattle.page_model.specs.declared.event.Event.{Event}
use Rattle.page_model.specs.declared.event.Event.TheVariants.{Print, Tab, FieldEnd, WordEnd, Gap, LineEnd, Count, Break, Interrupt, Resume, Set}
use Rattle.page_model.specs.declared.glyph.Glyph.{Glyph}
use Rattle.page_model.specs.declared.glyph.Glyph.TheVariants.{Blanks}
use Rattle.page_model.specs.declared.stop.StopKind.{StopKind}
use Rattle.page_model.specs.declared.stop.StopKind.TheVariants.{Left as AtLeft, Right as AtRight, Centred as InMiddle}
use Rattle.page_model.specs.Behind.{finished_by_tab}
use Rattle.page_model.specs.Events.{History, stops_after}
use Rattle.page_model.specs.Fields.{Field, Told, field_ended, field_told, is_in_field, motion, plain, so_far, tab_reached, tab_told, told_plainly, told_behind, without_gap}
use Rattle.page_model.specs.Lines.{finished_in}
use Rattle.page_model.specs.Places.{input_place}
use Rattle.page_model.specs.TabStops.{Way, way_to_next}
use Rattle.law_reading_again.specs.Shown.{AllShow, IsShown, LinesPrint, Shows}
use Rattle.law_reading_again.proofs.ShownLines.{LinePrints, either, plain_lines_print}

-- glyphs that are shown, behind such events
glyphs-shown : (gs : List Glyph) (h : History) → AllByRecursion IsShown gs → AllShow h → AllShow (map Print gs ++ h)
glyphs-shown [] h are show = show
glyphs-shown (g ∷ gs) h are show = (are.0, glyphs-shown gs h are.1 show)

-- a field of such glyphs, if one is open
abbrev FieldShows : Option Field → Type 0
FieldShows None = Unit {0}
FieldShows (Some f) = AllByRecursion IsShown f.glyphs

abbrev ToldShows : Told → Type 0
ToldShows t = AllShow t.events × FieldShows t.field

field-shown : (columns : ℕ) (f : Field) (h : History) → AllByRecursion IsShown f.glyphs → AllShow h → AllShow (field_told columns f h)
field-shown columns f h are show = (tt, glyphs-shown f.glyphs (Print (Blanks columns) ∷ h) are (tt, show))

-- what is told up to now, with such a field, at its end and in front of a tab
abbrev told_as : History → Option Field → Told
told_as h field = record { events = h; field = field }

so_far-shown : (h : History) (field : Option Field) → AllShow h → FieldShows field → AllShow (so_far (told_as h field))
so_far-shown h None show are = show
so_far-shown h (Some f) show are = field-shown 0 f h are show

ended-shown : (h : History) (field : Option Field) → AllShow h → FieldShows field → AllShow (field_ended (told_as h field))
ended-shown h None show are = show
ended-shown h (Some f) show are = field-shown (motion f) f h are show

reached-shown : (h : History) (field : Option Field) → AllShow h → FieldShows field → AllShow (tab_reached (told_as h field))
reached-shown h None show are = show
reached-shown h (Some f) show are =
    let moved : History = field_told (motion f) (without_gap f) h in
    let shown : AllShow moved = field-shown (motion f) (without_gap f) h are show in
    either AllShow (f.gap == 0) moved (Gap f.gap ∷ WordEnd ∷ moved) shown (tt, (tt, shown))

-- behind a tab
tab-shown : (columns : ℕ) (kind : StopKind) (h : History) → AllShow h
    → ToldShows (tab_told (Some (record { columns = columns; kind = kind })) h)
tab-shown columns AtLeft h show = ((tt, show), tt)
tab-shown columns AtRight h show = (show, tt)
tab-shown columns InMiddle h show = (show, tt)

way-shown : (way : Option Way) (h : History) → AllShow h → ToldShows (tab_told way h)
way-shown None h show = ((tt, show), tt)
way-shown (Some way) h show = tab-shown way.columns way.kind h show

-- behind an event
behind-shown : (e : Event) (h : History) (field : Option Field) → Shows e → AllShow h → FieldShows field
    → ToldShows (told_behind e (told_as h field))
behind-shown (Print g) h None is show are = ((is, show), tt)
behind-shown (Print g) h (Some f) is show are =
    (show, (is, either (AllByRecursion IsShown) (f.gap == 0) f.glyphs (Blanks f.gap ∷ f.glyphs) are (tt, are)))
behind-shown (Gap n) h None is show are = ((tt, show), tt)
behind-shown (Gap n) h (Some f) is show are = (show, are)
behind-shown WordEnd h None is show are = ((tt, show), tt)
behind-shown WordEnd h (Some f) is show are = (show, are)
behind-shown Tab h field is show are =
    let reached : History = tab_reached (told_as h field) in
    way-shown (way_to_next (stops_after reached) (input_place reached)) reached (reached-shown h field show are)
behind-shown FieldEnd h field is show are = (ended-shown h field show are, tt)
behind-shown LineEnd h field is show are = ((tt, so_far-shown h field show are), tt)
behind-shown Break h field is show are = ((tt, so_far-shown h field show are), tt)
behind-shown Count h field is show are = ((tt, show), are)
behind-shown Interrupt h field is show are = ((tt, show), are)
behind-shown Resume h field is show are = ((tt, show), are)
behind-shown (Set p) h field is show are = ((tt, show), are)

-- so behind all
told-shown : (h : History) → AllShow h → ToldShows (told_plainly h)
told-shown [] show = (tt, tt)
told-shown (e ∷ h) show =
    let before : ToldShows (told_plainly h) = told-shown h show.1 in
    behind-shown e (told_plainly h).events (told_plainly h).field show.0 before.0 before.1

plain-shown : (h : History) → AllShow h → AllShow (plain h)
plain-shown h show =
    let are : ToldShows (told_plainly h) = told-shown h show in so_far-shown (told_plainly h).events (told_plainly h).field are.0 are.1

-- the line that a tab finishes
tab-prints : (h : History) (field : Option Field) → AllShow h → FieldShows field → LinePrints (finished_by_tab (told_as h field))
tab-prints h None show are = tt
tab-prints h (Some f) show are =
    let moved : History = field_told (motion f) (without_gap f) h in
    either LinePrints (f.gap == 0) None (finished_in moved WordEnd) tt
    (plain_lines_print moved WordEnd (field-shown (motion f) (without_gap f) h are show))

pub lines_print : LinesPrint
lines_print h Tab show =
    let are : ToldShows (told_plainly h) = told-shown h show in tab-prints (told_plainly h).events (told_plainly h).field are.0 are.1
lines_print h WordEnd show =
    either LinePrints (is_in_field h) None (finished_in (plain h) WordEnd) tt (plain_lines_print (plain h) WordEnd (plain-shown h show))
lines_print h LineEnd show = plain_lines_print (plain h) LineEnd (plain-shown h show)
lines_print h Break show = plain_lines_print (plain h) Break (plain-shown h show)
lines_print h (Print g) show = tt
lines_print h FieldEnd show = tt
lines_print h (Gap n) show = tt
lines_print h Count show = tt
lines_print h Interrupt show = tt
lines_print h Resume show = tt
lines_print h (Set p) show = tt
