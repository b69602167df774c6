-- Once the closing phase has begun nothing ends it.
use Rattle.std.proofs.Common.{◌≡◌, Bool, true, false, List, ◌∷◌, Option, Some, None, refl, ◌∙◌, nat_le, option_map, if◌then◌else◌}
use Rattle.page_model.specs.Behind.{finished}
use Rattle.page_model.specs.Lines.{Finished}
use Rattle.page_model.specs.Happenings.{Happening, Does, Places, Titles}
use Rattle.page_model.specs.Layout.{Box, Layout, page_place}
use Rattle.page_model.specs.Puts.{Put, appended, puts}
use Rattle.page_model.specs.Turning.{behind_put, next_behind, page_begun, unput, with_boxes}
use Rattle.page_model.specs.declared.layout_event.LayoutEvent.{LayoutEvent}
use Rattle.page_model.specs.declared.layout_event.LayoutEvent.TheVariants.{ListPages, Begin, Close, Space, Need, Eject, EjectTo, EjectOn, EjectLast, Length, Offset, Next, Number, NoSpace, Plant, Uproot, MoveTrap, RemoveTrap, DiversionTrap, NoDiversionTrap, Divert, EndDivert}
use Rattle.run_model.specs.Environments.{PageHistory, text_of}
use Rattle.run_model.specs.Layouts.{laid_out, layout_of, placed}
use Rattle.run_model.specs.PageEvents.{PageEvent}
use Rattle.run_model.specs.Registers.{AllRegisters}
use Rattle.run_model.specs.Titles.{title_told, told}
use Rattle.run_model.specs.declared.event.PageEvent.TheVariants.{Text, Page, Interrupt, Environment, Back, InputTrap as SetsTrap, Title}
use Rattle.law_runs.proofs.PutHolds.{put-holds}
use Rattle.page_model.specs.Stops.{is_diverted}

-- nothing that is put
closing-turned : (full closing : Bool) (N : Layout)
    → (if full then (if closing then record N { is_over = true } else page_begun N) else N).is_closing ≡ N.is_closing
closing-turned true true N = refl
closing-turned true false N = refl
closing-turned false closing N = refl

closing-put : (x : Happening) (p : Option Put) (boxes : List Box) (L : Layout) → (unput x L).is_closing ≡ true
    → L.is_closing ≡ true
    → (behind_put x p boxes L).is_closing ≡ true
closing-put x None boxes L unput is = unput
closing-put x (Some p) boxes L unput is =
    let N : Layout = with_boxes x boxes (record L { next = next_behind x L.next }) in
    put-holds (λ (M : Layout). M.is_closing ≡ true) (is_diverted x L) N is
    (closing-turned (nat_le N.length (page_place N)) N.is_closing N ∙ is)

closing-text : (x : Option Finished) (L : Layout) → L.is_closing ≡ true → (laid_out (option_map Places x) L).is_closing ≡ true
closing-text None L is = is
closing-text (Some line) L is = let x : Happening = Places line in closing-put x (puts x L) (appended x L) L is is

-- and nothing that puts nothing
closing-unput : (e : LayoutEvent) (L : Layout) → L.is_closing ≡ true → (unput (Does e) L).is_closing ≡ true
closing-unput (ListPages first last) L is = is
closing-unput Begin L is = is
closing-unput Close L is = refl
closing-unput (Space k) L is = is
closing-unput (Need k) L is = is
closing-unput (Eject asked) L is = is
closing-unput (EjectTo asked number) L is = is
closing-unput (EjectOn asked) L is = is
closing-unput EjectLast L is = is
closing-unput (Length k) L is = is
closing-unput (Offset k) L is = is
closing-unput (Next n) L is = is
closing-unput (Number n) L is = is
closing-unput (NoSpace on) L is = is
closing-unput (Plant trap) L is = is
closing-unput (Uproot place) L is = is
closing-unput (MoveTrap name place) L is = is
closing-unput (RemoveTrap name) L is = is
closing-unput (DiversionTrap trap) L is = is
closing-unput NoDiversionTrap L is = is
closing-unput (Divert name appends) L is = is
closing-unput EndDivert L is = is

pub closing-event : (rs : AllRegisters) (h : PageHistory) (e : PageEvent) → (layout_of h).is_closing ≡ true
    → (layout_of (told rs e ∷ h)).is_closing ≡ true
closing-event rs h (Text e) is = closing-text (finished (text_of h) e) (layout_of h) is
closing-event rs h (Interrupt untold) is = is
closing-event rs h (Environment number) is = is
closing-event rs h Back is = is
closing-event rs h (SetsTrap trap) is = is
closing-event rs h (Title which) is =
    let L : Layout = layout_of h in
    let x : Happening = Titles (placed (title_told rs which) (text_of h) L) in
    closing-put x (puts x L) (appended x L) L is is
closing-event rs h (Page e) is =
    let L : Layout = layout_of h in
    let x : Happening = Does e in
    closing-put x (puts x L) (appended x L) L (closing-unput e L is) is
