-- The bytes of the boxes in open diversions.
use Rattle.std.proofs.Common.{◌≡◌, ℕ, ◌+◌, Bool, true, false, List, [], ◌∷◌, Option, Some, None, subst, sym, ◌==◌, ◌&&◌, IfSome, not, nat_le, option_map, replicate}
use Rattle.std.specs.List.{AllByRecursion}
use Rattle.roff_num.specs.declared.limits.Limits.{Limits}
use Rattle.page_model.specs.Behind.{finished}
use Rattle.page_model.specs.Columns.{printed}
use Rattle.page_model.specs.Happenings.{Happening, Does, Places, Titles}
use Rattle.page_model.specs.declared.layout_event.LayoutEvent.{LayoutEvent}
use Rattle.page_model.specs.declared.layout_event.LayoutEvent.TheVariants.{Close, Space, Need, Eject, EjectTo, EjectOn, EjectLast, NoSpace, DiversionTrap, NoDiversionTrap, Divert, EndDivert}
use Rattle.page_model.specs.Layout.{Box, Lined, Empty, Diversion, Layout, page_place}
use Rattle.page_model.specs.Lines.{Finished}
use Rattle.page_model.specs.Puts.{Put, appended, blank_lines, boxes_put, put_by, puts, way_to, within_stop}
use Rattle.page_model.specs.Stops.{Target, is_diverted, target}
use Rattle.page_model.specs.Titles.{title_text}
use Rattle.page_model.specs.Turning.{behind_put, in_innermost, next_behind, page_begun, turned, turned_if_full, turned_unless, unput, with_boxes, with_diversion_trap, with_event, with_mode, without_innermost, without_put}
use Rattle.page_model.specs.declared.trap.Trap.{Trap}
use Rattle.run_model.specs.Environments.{Environments, environments, gone_back, is_same, text_of, ring_turned, turned_to, ring_turned_unless}
use Rattle.run_model.specs.declared.environment_number.EnvironmentNumber.{EnvironmentNumber}
use Rattle.run_model.specs.Layouts.{laid_out, layout_of, placed}
use Rattle.run_model.specs.PageEvents.{PageHistory}
use Rattle.run_model.specs.declared.event.PageEvent.TheVariants.{Text, Interrupt, Environment, Back, InputTrap, Page, Title}
use Rattle.law_reading_again.specs.Again.{AllPrint, Prints, again_text}
use Rattle.law_reading_again.specs.Shown.{AllPagesShow, AllShow, DiversionsComeBack, DiversionsPrint, IsPrintable}
use Rattle.law_reading_again.specs.Anywhere.{ComesBack, ComesBackFromTheSource}
use Rattle.law_reading_again.proofs.Anywhere.{boxes_come_back, boxes_come_back_from_the_source}
use Rattle.law_reading_again.proofs.ShownFields.{lines_print}
use Rattle.law_reading_again.proofs.ShownLines.{all-append, all-replicate, either}

-- in each environment all glyphs are shown
record AllEnvironmentsShow (es : Environments) : Type 0 where
  in_force : AllShow es.in_force.text
  next : AllShow es.next.text
  last : AllShow es.last.text

ring-turned : (es : Environments) → AllEnvironmentsShow es → AllEnvironmentsShow (ring_turned es)
ring-turned es show = record { in_force = show.next; next = show.last; last = show.in_force }

ring-turned_unless : (is_there : Bool) (es : Environments) → AllEnvironmentsShow es → AllEnvironmentsShow (ring_turned_unless is_there es)
ring-turned_unless true es show = show
ring-turned_unless false es show = ring-turned es show

ring-turned_to : (number : EnvironmentNumber) (es : Environments) → AllEnvironmentsShow es → AllEnvironmentsShow (turned_to number es)
ring-turned_to number es show =
    let once : Environments = ring_turned_unless (is_same es.number number) es in
    ring-turned_unless (is_same once.number number) once (ring-turned_unless (is_same es.number number) es show)

ring-gone_back : (left : List EnvironmentNumber) (es : Environments) → AllEnvironmentsShow es → AllEnvironmentsShow (gone_back left es)
ring-gone_back [] es show = show
ring-gone_back (number ∷ left) es show =
    ring-turned_to number (record es { left = left }) (record { in_force = show.in_force; next = show.next; last = show.last })

environments-show : (h : PageHistory) → AllPagesShow h → AllEnvironmentsShow (environments h)
environments-show [] show = record { in_force = tt; next = tt; last = tt }
environments-show (Text e ∷ h) show =
    let others = environments-show h show.1 in record { in_force = (show.0, others.in_force); next = others.next; last = others.last }
environments-show (Interrupt line ∷ h) show =
    let others = environments-show h show.1 in record { in_force = (tt, others.in_force); next = others.next; last = others.last }
environments-show (Environment number ∷ h) show =
    let others = environments-show h show.1 in
    ring-turned_to number (record (environments h) { left = (environments h).number ∷ (environments h).left })
    (record { in_force = others.in_force; next = others.next; last = others.last })
environments-show (Back ∷ h) show = ring-gone_back (environments h).left (environments h) (environments-show h show.1)
environments-show (InputTrap trap ∷ h) show =
    let others = environments-show h show.1 in record { in_force = others.in_force; next = others.next; last = others.last }
environments-show (Page e ∷ h) show = environments-show h show.1
environments-show (Title t ∷ h) show = environments-show h show.1

-- what happens prints so: the line that is placed, or the title
abbrev HappeningPrints : Happening → Type 0
HappeningPrints (Does e) = Unit {0}
HappeningPrints (Places line) = IsPrintable (printed line)
HappeningPrints (Titles t) = IsPrintable (title_text t)

-- and so is what is put
abbrev FirstPrints : Option (List ℕ) → Type 0
FirstPrints None = Unit {0}
FirstPrints (Some text) = IsPrintable text

abbrev PutPrints : Option Put → Type 0
PutPrints None = Unit {0}
PutPrints (Some p) = FirstPrints p.first

put_by-prints : (e : LayoutEvent) (t : Target) (begun : ℕ) → PutPrints (put_by e t begun)
put_by-prints (Space k) t begun = either PutPrints t.no_space None (Some (blank_lines k)) tt tt
put_by-prints (Need k) t begun = tt
put_by-prints (Eject asked) t begun =
    either PutPrints (begun == asked && not t.no_space) (Some (blank_lines (way_to t.place t.stop))) None tt tt
put_by-prints (EjectTo asked number) t begun = either PutPrints (begun == asked) (Some (blank_lines (way_to t.place t.stop))) None tt tt
put_by-prints (EjectOn asked) t begun = either PutPrints (begun == asked) (Some (blank_lines (way_to t.place t.stop))) None tt tt
put_by-prints EjectLast t begun =
    either PutPrints (not (begun == 0) && not (t.place == 0)) (Some (blank_lines (way_to t.place t.stop))) None tt tt
put_by-prints (_) t begun = tt

puts-print : (x : Happening) (L : Layout) → HappeningPrints x → PutPrints (puts x L)
puts-print (Does e) L print = put_by-prints e (target (Does e) L) L.begun
puts-print (Places line) L print = print
puts-print (Titles t) L print = print

boxes-print : (t : Target) (p : Option Put) → PutPrints p → AllPrint (boxes_put t p)
boxes-print t None print = tt
boxes-print t (Some p) print = first-prints p.first print
  where
    first-prints : (first : Option (List ℕ)) → FirstPrints first → AllPrint (boxes_put t (Some (record { first = first; space = p.space })))
    first-prints None print = all-replicate Prints (within_stop t.place t.stop p.space) Empty tt
    first-prints (Some text) print =
        all-append Prints (replicate (within_stop (t.place + 1) t.stop p.space) Empty) (Lined text ∷ [])
        (all-replicate Prints (within_stop (t.place + 1) t.stop p.space) Empty tt) (print, tt)

-- the boxes of all diversions are
abbrev BoxesPrint : List Diversion → Type 0
BoxesPrint ds = AllByRecursion (λ (d : Diversion). AllPrint d.boxes) ds

innermost-prints : (boxes : List Box) (ds : List Diversion) → AllPrint boxes → BoxesPrint ds → BoxesPrint (in_innermost boxes ds)
innermost-prints boxes [] print others = tt
innermost-prints boxes (d ∷ ds) print others = (all-append Prints boxes d.boxes print others.0, others.1)

mode-prints : (on : Bool) (ds : List Diversion) → BoxesPrint ds → BoxesPrint (with_mode on ds)
mode-prints on [] print = tt
mode-prints on (d ∷ ds) print = print

trap-prints : (trap : Option Trap) (ds : List Diversion) → BoxesPrint ds → BoxesPrint (with_diversion_trap trap ds)
trap-prints trap [] print = tt
trap-prints trap (d ∷ ds) print = print

outer-print : (ds : List Diversion) → BoxesPrint ds → BoxesPrint (without_innermost ds)
outer-print [] print = tt
outer-print (d ∷ ds) print = print.1

abbrev LayoutPrints : Layout → Type 0
LayoutPrints L = BoxesPrint L.diversions

without_put-prints : (e : LayoutEvent) (L : Layout) → LayoutPrints L → LayoutPrints (without_put e L)
without_put-prints Close L print = tt
without_put-prints (NoSpace on) L print = mode-prints on L.diversions print
without_put-prints (DiversionTrap trap) L print = trap-prints (Some trap) L.diversions print
without_put-prints NoDiversionTrap L print = trap-prints None L.diversions print
without_put-prints (Divert name appends) L print = (tt, print)
without_put-prints EndDivert L print = outer-print L.diversions print
without_put-prints (_) L print = print

unput-prints : (x : Happening) (L : Layout) → LayoutPrints L → LayoutPrints (unput x L)
unput-prints (Does e) L print = without_put-prints e L print
unput-prints (Places line) L print = print
unput-prints (Titles t) L print = print

-- a page's end leaves them
turned-prints : (diverted : Bool) (L : Layout) → LayoutPrints L → LayoutPrints (turned_unless diverted L)
turned-prints diverted L print =
    either LayoutPrints diverted L (turned_if_full L) print
    (either LayoutPrints (nat_le L.length (page_place L)) (turned L) L
    (either LayoutPrints L.is_closing (record L { is_over = true }) (page_begun L) print print) print)

put-prints : (x : Happening) (p : Option Put) (boxes : List Box) (L : Layout) → AllPrint boxes → LayoutPrints L
    → LayoutPrints (behind_put x p boxes L)
put-prints x None boxes L print others = unput-prints x L others
put-prints x (Some p) boxes L print others =
    turned-prints (is_diverted x L) (with_boxes x boxes (record L { next = next_behind x L.next }))
    (either BoxesPrint (is_diverted x L) (in_innermost boxes L.diversions) L.diversions (innermost-prints boxes L.diversions print others) others)

event-prints : (x : Happening) (L : Layout) → HappeningPrints x → LayoutPrints L → LayoutPrints (with_event x L)
event-prints x L print others =
    put-prints x (puts x L) (appended x L) L (boxes-print (target x L) (puts x L) (puts-print x L print)) others

placed-prints : (o : Option Finished) (L : Layout) → IfSome o (λ (line : Finished). IsPrintable (printed line)) → LayoutPrints L
    → LayoutPrints (laid_out (option_map Places o) L)
placed-prints None L print others = others
placed-prints (Some line) L print others = event-prints (Places line) L print others

pub diversions_print : DiversionsPrint
diversions_print [] show = tt
diversions_print (Text e ∷ h) show =
    placed-prints (finished (text_of h) e) (layout_of h) (lines_print (text_of h) e (environments-show h show.1).in_force)
    (diversions_print h show.1)
diversions_print (Page e ∷ h) show = event-prints (Does e) (layout_of h) tt (diversions_print h show.1)
diversions_print (Title t ∷ h) show =
    event-prints (Titles (placed t (text_of h) (layout_of h))) (layout_of h) show.0 (diversions_print h show.1)
diversions_print (Interrupt line ∷ h) show = diversions_print h show.1
diversions_print (Environment number ∷ h) show = diversions_print h show.1
diversions_print (Back ∷ h) show = diversions_print h show.1
diversions_print (InputTrap trap ∷ h) show = diversions_print h show.1

-- so the texts of all of them give them again
comes-back : (l : Limits) (boxes : List Box) (text : List ℕ) → AllPrint boxes → text ≡ again_text boxes
    → ComesBack l boxes text × ComesBackFromTheSource l boxes text
comes-back l boxes text print is = (
  subst (λ (t : List ℕ). ComesBack l boxes t) (sym is) (boxes_come_back l boxes print),
  subst (λ (t : List ℕ). ComesBackFromTheSource l boxes t) (sym is) (boxes_come_back_from_the_source l boxes print),
)

all-back : (l : Limits) (ds : List Diversion) → BoxesPrint ds
    → AllByRecursion (λ (d : Diversion). (text : List ℕ) → text ≡ again_text d.boxes → ComesBack l d.boxes text × ComesBackFromTheSource l d.boxes text) ds
all-back l [] print = tt
all-back l (d ∷ ds) print = (λ text is. comes-back l d.boxes text print.0 is, all-back l ds print.1)

pub diversions_come_back : DiversionsComeBack
diversions_come_back l h show = all-back l (layout_of h).diversions (diversions_print h show)
