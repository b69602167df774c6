-- What was written behind what requests mean: space that is asked for or needed, ejects, no-space mode, traps, and diversions.
use Rattle.std.proofs.Common.{◌≡◌, ◌<◌, ℕ, ℤ, Bool, true, false, not, ◌&&◌, ◌||◌, [], ◌∷◌, ◌++◌, Option, Some, None, refl, sym, subst, arith, is_some, if◌then◌else◌, ◌==◌, eqb-true}
use Rattle.roff_num.specs.declared.num.Num.{Num}
use Rattle.page_model.specs.DeviceText.{device_lines, device_text}
use Rattle.page_model.specs.Happenings.{Happening, Does}
use Rattle.page_model.specs.Layout.{Layout}
use Rattle.page_model.specs.Puts.{Put, boxes_put, ejected_if, puts}
use Rattle.page_model.specs.Queries.{takes_text}
use Rattle.page_model.specs.Stops.{Target, is_diverted, page_target, target}
use Rattle.page_model.specs.Turning.{behind_put, unput, with_event}
use Rattle.roff_pages.specs.WholePages.{keeps_length}
use Rattle.page_model.specs.declared.layout_event.LayoutEvent.TheVariants.{ListPages, Begin, Close, Space, Need, Eject, EjectTo, EjectOn, EjectLast, Length, Offset, Next, Number, NoSpace, Plant, Uproot, MoveTrap, RemoveTrap, DiversionTrap, NoDiversionTrap, Divert, EndDivert}
use Rattle.page_model.specs.declared.layout_event.LayoutEvent.{LayoutEvent}
use Rattle.page_model.specs.declared.trap.Trap.{Trap}
use Rattle.roff_num.specs.declared.short_name.ShortName.{ShortName}
use Rattle.run_model.specs.Environments.{PageHistory}
use Rattle.run_model.specs.Layouts.{layout_of}
use Rattle.run_model.specs.Output.{written}
use Rattle.run_model.specs.Springs.{begins}
use Rattle.run_model.specs.declared.event.PageEvent.TheVariants.{Text, Page, Interrupt, Environment, Back, InputTrap as SetsTrap, Title}
use Rattle.law_runs.specs.PageLaws.{WritesEachPage}
use Rattle.law_runs.proofs.RunsStayWithin.{nothing_by_test}
use Rattle.law_runs.proofs.PagesSoFar.{IsSoFar, SoFar, finds_page, listed, so_far-alike, so_far-happening, so_far-length, so_far-next, so_far-nothing, so_far-number, so_far-offset, so_far-quiet, so_far-taken, so_far-text, so_far-title}
use Rattle.run_model.specs.PageEvents.{PageEvent}
use Rattle.run_model.specs.Registers.{AllRegisters}
use Rattle.run_model.specs.Titles.{title_told, told}
use Rattle.run_model.proofs.MeantEvents.{MayBe}
use Rattle.law_runs.proofs.LastPage.{so_far-eject_last}

-- no-space mode
so_far-no_space : (h : PageHistory) (on : Bool) → IsSoFar h → IsSoFar (Page (NoSpace on) ∷ h)
so_far-no_space h on so_far keeps writes =
    so_far-quiet h (NoSpace on) (record { boxes = refl; length = refl; over = refl; begun = refl }) (so_far keeps.1 writes.1)

-- traps
so_far-plant : (h : PageHistory) (trap : Trap) → IsSoFar h → IsSoFar (Page (Plant trap) ∷ h)
so_far-plant h trap so_far keeps writes =
    so_far-quiet h (Plant trap) (record { boxes = refl; length = refl; over = refl; begun = refl }) (so_far keeps.1 writes.1)

so_far-uproot : (h : PageHistory) (place : ℤ) → IsSoFar h → IsSoFar (Page (Uproot place) ∷ h)
so_far-uproot h place so_far keeps writes =
    so_far-quiet h (Uproot place) (record { boxes = refl; length = refl; over = refl; begun = refl }) (so_far keeps.1 writes.1)

so_far-move : (h : PageHistory) (name : ShortName) (place : ℤ) → IsSoFar h → IsSoFar (Page (MoveTrap name place) ∷ h)
so_far-move h name place so_far keeps writes =
    so_far-quiet h (MoveTrap name place) (record { boxes = refl; length = refl; over = refl; begun = refl }) (so_far keeps.1 writes.1)

so_far-remove : (h : PageHistory) (name : ShortName) → IsSoFar h → IsSoFar (Page (RemoveTrap name) ∷ h)
so_far-remove h name so_far keeps writes =
    so_far-quiet h (RemoveTrap name) (record { boxes = refl; length = refl; over = refl; begun = refl }) (so_far keeps.1 writes.1)

-- diversions that begin and end, and their traps
so_far-divert : (h : PageHistory) (name : ShortName) (appends : Bool) → IsSoFar h → IsSoFar (Page (Divert name appends) ∷ h)
so_far-divert h name appends so_far keeps writes =
    so_far-quiet h (Divert name appends) (record { boxes = refl; length = refl; over = refl; begun = refl }) (so_far keeps.1 writes.1)

so_far-end_divert : (h : PageHistory) → IsSoFar h → IsSoFar (Page EndDivert ∷ h)
so_far-end_divert h so_far keeps writes =
    so_far-quiet h EndDivert (record { boxes = refl; length = refl; over = refl; begun = refl }) (so_far keeps.1 writes.1)

so_far-diversion_trap : (h : PageHistory) (trap : Trap) → IsSoFar h → IsSoFar (Page (DiversionTrap trap) ∷ h)
so_far-diversion_trap h trap so_far keeps writes =
    so_far-quiet h (DiversionTrap trap) (record { boxes = refl; length = refl; over = refl; begun = refl }) (so_far keeps.1 writes.1)

so_far-no_diversion_trap : (h : PageHistory) → IsSoFar h → IsSoFar (Page NoDiversionTrap ∷ h)
so_far-no_diversion_trap h so_far keeps writes =
    so_far-quiet h NoDiversionTrap (record { boxes = refl; length = refl; over = refl; begun = refl }) (so_far keeps.1 writes.1)

-- an event of pages that may put something, and else changes nothing
so_far-put_by : (h : PageHistory) (x : Happening) (p : Option Put) → puts x (layout_of h) ≡ p
    → unput x (layout_of h) ≡ layout_of h
    → SoFar (layout_of h) (written h)
    → (is_some p ≡ true → SoFar (with_event x (layout_of h)) (written h ++ device_text x (layout_of h)))
    → SoFar (behind_put x p (boxes_put (target x (layout_of h)) p) (layout_of h))
    (written h ++ (if is_diverted x (layout_of h) || not (layout_of h).is_listed then [] else device_lines (layout_of h).offset (boxes_put (target x (layout_of h)) p)))
so_far-put_by h x None is same so_far done =
    let L : Layout = layout_of h in
    subst (λ (M : Layout). SoFar M (written h ++ (if is_diverted x L || not L.is_listed then [] else device_lines L.offset []))) (sym same)
    (so_far-alike L L (written h) _ (nothing_by_test (is_diverted x L || not L.is_listed) L.offset)
    (record { boxes = refl; length = refl; over = refl; begun = refl }) so_far)
so_far-put_by h x (Some p) is same so_far done =
    let L : Layout = layout_of h in
    subst (λ (q : Option Put). SoFar (behind_put x q (boxes_put (target x L) q) L)
    (written h ++ (if is_diverted x L || not L.is_listed then [] else device_lines L.offset (boxes_put (target x L) q)))) is (done refl)

-- space that is asked for, or needed
so_far-space : (h : PageHistory) (k : ℕ) → begins h (Page (Space k)) ≡ false → (layout_of h).is_over ≡ false
    → IsSoFar h → IsSoFar (Page (Space k) ∷ h)
so_far-space h k none goes so_far keeps writes =
    let x : Happening = Does (Space k) in
    let before : SoFar (layout_of h) (written h) = so_far keeps.1 writes.1 in
    so_far-put_by h x (puts x (layout_of h)) refl refl before
    (λ some. so_far-taken x h refl refl some (finds_page (takes_text (layout_of h)) true none refl) before writes.1 goes)

so_far-need : (h : PageHistory) (k : ℕ) → begins h (Page (Need k)) ≡ false → (layout_of h).is_over ≡ false → IsSoFar h
    → IsSoFar (Page (Need k) ∷ h)
so_far-need h k none goes so_far keeps writes =
    let x : Happening = Does (Need k) in
    let before : SoFar (layout_of h) (written h) = so_far keeps.1 writes.1 in
    so_far-put_by h x (puts x (layout_of h)) refl refl before
    (λ some. so_far-taken x h refl refl some (finds_page (takes_text (layout_of h)) true none refl) before writes.1 goes)

-- a page that is ejected, which was begun
asked_begun : (begun asked : ℕ) (all : Bool) (t : Target) → 0 < asked
    → is_some (ejected_if ((begun == asked) && all) t) ≡ true → begun ≡ 0 → ⊥
asked_begun begun asked all t some is none = by_test (begun == asked) refl is
  where
    by_test : (c : Bool) → (begun == asked) ≡ c → is_some (ejected_if (c && all) t) ≡ true → ⊥
    by_test true same is = omega (arith, eqb-true begun asked same, none, some)
    by_test false same is = absurd (cc)

asked_alone : (begun asked : ℕ) (t : Target) → 0 < asked → is_some (ejected_if (begun == asked) t) ≡ true → begun ≡ 0 → ⊥
asked_alone begun asked t some is none = by_test (begun == asked) refl is
  where
    by_test : (c : Bool) → (begun == asked) ≡ c → is_some (ejected_if c t) ≡ true → ⊥
    by_test true same is = omega (arith, eqb-true begun asked same, none, some)
    by_test false same is = absurd (cc)

-- an eject, told that it puts something only where a page was begun
so_far-ejecting : (h : PageHistory) (e : LayoutEvent) → unput (Does e) (layout_of h) ≡ layout_of h
    → is_diverted (Does e) (layout_of h) ≡ false
    → keeps_length (Does e) ≡ true → (is_some (puts (Does e) (layout_of h)) ≡ true → (layout_of h).begun ≡ 0 → ⊥)
    → (layout_of h).is_over ≡ false → SoFar (layout_of h) (written h) → WritesEachPage h → SoFar (layout_of (Page e ∷ h)) (written (Page e ∷ h))
so_far-ejecting h e same there keeps begun goes so_far writes =
    let x : Happening = Does e in
    so_far-put_by h x (puts x (layout_of h)) refl same so_far
    (λ some. so_far-happening x (puts x (layout_of h)) (layout_of h) (written h) refl some so_far
    (record { goes = goes; begun = begun some; listed = listed h writes (begun some); on_page = there; keeps = keeps }))

so_far-eject : (h : PageHistory) (asked : ℕ) → 0 < asked → (layout_of h).is_over ≡ false → IsSoFar h
    → IsSoFar (Page (Eject asked) ∷ h)
so_far-eject h asked some goes so_far keeps writes =
    let L : Layout = layout_of h in
    so_far-ejecting h (Eject asked) refl refl refl (asked_begun L.begun asked (not (page_target L).no_space) (page_target L) some) goes (so_far keeps.1 writes.1) writes.1

so_far-eject_to : (h : PageHistory) (asked : ℕ) (n : Num) → 0 < asked → (layout_of h).is_over ≡ false → IsSoFar h
    → IsSoFar (Page (EjectTo asked n) ∷ h)
so_far-eject_to h asked n some goes so_far keeps writes =
    let L : Layout = layout_of h in
    so_far-ejecting h (EjectTo asked n) refl refl refl (asked_alone L.begun asked (page_target L) some) goes (so_far keeps.1 writes.1) writes.1

so_far-eject_on : (h : PageHistory) (asked : ℕ) → 0 < asked → (layout_of h).is_over ≡ false → IsSoFar h
    → IsSoFar (Page (EjectOn asked) ∷ h)
so_far-eject_on h asked some goes so_far keeps writes =
    let L : Layout = layout_of h in
    so_far-ejecting h (EjectOn asked) refl refl refl (asked_alone L.begun asked (page_target L) some) goes (so_far keeps.1 writes.1) writes.1

-- behind an event that requests mean, with nothing before it
pub so_far-event : (closing : Bool) (rs : AllRegisters) (h : PageHistory) (e : PageEvent) → MayBe closing e → begins h e ≡ false
    → (layout_of h).is_over ≡ false → IsSoFar h → IsSoFar (told rs e ∷ h)
so_far-event closing rs h (Text e) meant none goes so_far = so_far-text h e none goes so_far
so_far-event closing rs h (Interrupt untold) meant none goes so_far = λ keeps writes. so_far-nothing h (so_far keeps.1 writes.1)
so_far-event closing rs h (Environment number) meant none goes so_far = λ keeps writes. so_far-nothing h (so_far keeps.1 writes.1)
so_far-event closing rs h Back meant none goes so_far = λ keeps writes. so_far-nothing h (so_far keeps.1 writes.1)
so_far-event closing rs h (SetsTrap trap) meant none goes so_far = λ keeps writes. so_far-nothing h (so_far keeps.1 writes.1)
so_far-event closing rs h (Title which) meant none goes so_far = so_far-title h (title_told rs which) none goes so_far
so_far-event closing rs h (Page (Space k)) meant none goes so_far = so_far-space h k none goes so_far
so_far-event closing rs h (Page (Need k)) meant none goes so_far = so_far-need h k none goes so_far
so_far-event closing rs h (Page (Eject asked)) meant none goes so_far = so_far-eject h asked meant goes so_far
so_far-event closing rs h (Page (EjectTo asked number)) meant none goes so_far = so_far-eject_to h asked number meant goes so_far
so_far-event closing rs h (Page (EjectOn asked)) meant none goes so_far = so_far-eject_on h asked meant goes so_far
so_far-event closing rs h (Page EjectLast) meant none goes so_far = so_far-eject_last h goes so_far
so_far-event closing rs h (Page (Length k)) meant none goes so_far = so_far-length h k meant goes so_far
so_far-event closing rs h (Page (Number n)) meant none goes so_far = so_far-number h n so_far
so_far-event closing rs h (Page (Offset k)) meant none goes so_far = so_far-offset h k so_far
so_far-event closing rs h (Page (Next n)) meant none goes so_far = so_far-next h n so_far
so_far-event closing rs h (Page (NoSpace on)) meant none goes so_far = so_far-no_space h on so_far
so_far-event closing rs h (Page (Plant trap)) meant none goes so_far = so_far-plant h trap so_far
so_far-event closing rs h (Page (Uproot place)) meant none goes so_far = so_far-uproot h place so_far
so_far-event closing rs h (Page (MoveTrap name place)) meant none goes so_far = so_far-move h name place so_far
so_far-event closing rs h (Page (RemoveTrap name)) meant none goes so_far = so_far-remove h name so_far
so_far-event closing rs h (Page (ListPages first last)) meant none goes so_far = absurd meant
so_far-event closing rs h (Page Begin) meant none goes so_far = absurd meant
so_far-event closing rs h (Page Close) meant none goes so_far = absurd meant
so_far-event closing rs h (Page (DiversionTrap trap)) meant none goes so_far = so_far-diversion_trap h trap so_far
so_far-event closing rs h (Page NoDiversionTrap) meant none goes so_far = so_far-no_diversion_trap h so_far
so_far-event closing rs h (Page (Divert name appends)) meant none goes so_far = so_far-divert h name appends so_far
so_far-event closing rs h (Page EndDivert) meant none goes so_far = so_far-end_divert h so_far
