-- No page that was begun goes back.
use Rattle.std.proofs.Common.{◌≤◌, Bool, true, false, List, ◌∷◌, Option, Some, None, arith, nat_le, option_map, if◌then◌else◌}
use Rattle.page_model.specs.Behind.{finished}
use Rattle.page_model.specs.Lines.{Finished}
use Rattle.page_model.specs.Happenings.{Happening, Does, Places, Titles}
use Rattle.page_model.specs.Layout.{Box, Layout, page_place}
use Rattle.page_model.specs.Puts.{Put, appended, puts}
use Rattle.page_model.specs.Turning.{behind_put, next_behind, page_begun, unput, with_boxes}
use Rattle.page_model.specs.declared.layout_event.LayoutEvent.{LayoutEvent}
use Rattle.page_model.specs.declared.layout_event.LayoutEvent.TheVariants.{ListPages, Begin, Close, Space, Need, Eject, EjectTo, EjectOn, EjectLast, Length, Offset, Next, Number, NoSpace, Plant, Uproot, MoveTrap, RemoveTrap, DiversionTrap, NoDiversionTrap, Divert, EndDivert}
use Rattle.run_model.specs.Environments.{text_of}
use Rattle.run_model.specs.Layouts.{laid_out, layout_of, placed}
use Rattle.run_model.specs.PageEvents.{PageEvent, PageHistory}
use Rattle.run_model.specs.Registers.{AllRegisters}
use Rattle.run_model.specs.Titles.{title_told, told}
use Rattle.run_model.specs.declared.event.PageEvent.TheVariants.{Text, Page, Interrupt, Environment, Back, InputTrap as SetsTrap, Title}
use Rattle.law_runs.proofs.PutHolds.{put-holds}
use Rattle.page_model.specs.Stops.{is_diverted}

-- behind what is put
begun-turned : (full closing : Bool) (N : Layout)
    → N.begun ≤ (if full then (if closing then record N { is_over = true } else page_begun N) else N).begun
begun-turned true true N = omega arith
begun-turned true false N = omega arith
begun-turned false closing N = omega arith

begun-put : (x : Happening) (p : Option Put) (boxes : List Box) (L : Layout) → L.begun ≤ (unput x L).begun
    → L.begun ≤ (behind_put x p boxes L).begun
begun-put x None boxes L unput = unput
begun-put x (Some p) boxes L unput =
    let N : Layout = with_boxes x boxes (record L { next = next_behind x L.next }) in
    put-holds (λ (M : Layout). L.begun ≤ M.begun) (is_diverted x L) N (omega arith)
    (begun-turned (nat_le N.length (page_place N)) N.is_closing N)

begun-text : (x : Option Finished) (L : Layout) → L.begun ≤ (laid_out (option_map Places x) L).begun
begun-text None L = omega arith
begun-text (Some line) L = let x : Happening = Places line in begun-put x (puts x L) (appended x L) L (omega arith)

begun-unput : (e : LayoutEvent) (L : Layout) → L.begun ≤ (unput (Does e) L).begun
begun-unput (ListPages first last) L = omega arith
begun-unput Begin L = omega arith
begun-unput Close L = omega arith
begun-unput (Space k) L = omega arith
begun-unput (Need k) L = omega arith
begun-unput (Eject asked) L = omega arith
begun-unput (EjectTo asked number) L = omega arith
begun-unput (EjectOn asked) L = omega arith
begun-unput EjectLast L = omega arith
begun-unput (Length k) L = omega arith
begun-unput (Offset k) L = omega arith
begun-unput (Next n) L = omega arith
begun-unput (Number n) L = omega arith
begun-unput (NoSpace on) L = omega arith
begun-unput (Plant trap) L = omega arith
begun-unput (Uproot place) L = omega arith
begun-unput (MoveTrap name place) L = omega arith
begun-unput (RemoveTrap name) L = omega arith
begun-unput (DiversionTrap trap) L = omega arith
begun-unput NoDiversionTrap L = omega arith
begun-unput (Divert name appends) L = omega arith
begun-unput EndDivert L = omega arith

pub begun-event : (rs : AllRegisters) (h : PageHistory) (e : PageEvent)
    → (layout_of h).begun ≤ (layout_of (told rs e ∷ h)).begun
begun-event rs h (Text e) = begun-text (finished (text_of h) e) (layout_of h)
begun-event rs h (Interrupt untold) = omega arith
begun-event rs h (Environment number) = omega arith
begun-event rs h Back = omega arith
begun-event rs h (SetsTrap trap) = omega arith
begun-event rs h (Title which) =
    let L : Layout = layout_of h in
    let x : Happening = Titles (placed (title_told rs which) (text_of h) L) in
    begun-put x (puts x L) (appended x L) L (omega arith)
begun-event rs h (Page e) =
    let L : Layout = layout_of h in
    let x : Happening = Does e in
    begun-put x (puts x L) (appended x L) L (begun-unput e L)
