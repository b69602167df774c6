-- What is set of the pages springs nothing, but for a page's beginning.
use Rattle.std.proofs.Common.{◌≡◌, ◌<◌, ◌≤◌, ℕ, ◌+◌, Bool, true, false, not, List, [], ◌∷◌, length, Option, Some, None, Result, Ok, Err, ap, arith, refl, sym, ◌∙◌, if◌then◌else◌, ◌==◌, IfErr, IsSome, OnOk, nat_le, nat_lt, eq-eqb, leb-true, ltb-true}
use Rattle.std.proofs.lemmas.Bool.{and_parts}
use Rattle.roff_num.specs.declared.limit.Limit.{Limit}
use Rattle.roff_num.specs.declared.limit.Limit.TheVariants.{Traps}
use Rattle.roff_num.specs.declared.short_name.ShortName.{ShortName}
use Rattle.page_model.specs.DueTexts.{text_due}
use Rattle.page_model.specs.Happenings.{Does}
use Rattle.page_model.specs.Layout.{Diversion, Layout}
use Rattle.roff_pages.specs.Pages.Kept.{Kept}
use Rattle.roff_pages.specs.Pages.Stands.{Happens, StandsAs}
use Rattle.run_state.specs.Composer.Due.{text_told}
use Rattle.run_state.specs.declared.composer.Composer.{Composer as ComposerOf}
use Rattle.run_state.specs.declared.due_text.Due.{Due}
use Rattle.run_model.specs.Registers.{AllRegisters}
use Rattle.page_model.specs.Springs.{diversion_trap_passed, first_met, is_passed, passed_in, springs_on_page}
use Rattle.page_model.specs.Stops.{innermost, page_target, place_of, stop_at}
use Rattle.page_model.specs.Turning.{with_trap}
use Rattle.page_model.specs.declared.layout_event.LayoutEvent.{LayoutEvent}
use Rattle.page_model.specs.declared.layout_event.LayoutEvent.TheVariants.{ListPages, Begin, Close, Space, Need, Eject, EjectTo, EjectOn, EjectLast, Length, Offset, Next, Number, NoSpace, Plant, Uproot, MoveTrap, RemoveTrap, DiversionTrap, NoDiversionTrap, Divert, EndDivert}
use Rattle.page_model.specs.declared.trap.Trap.{Trap}
use Rattle.run_events.specs.Formatter.Setting.{HasRoomFor, SetSpringing, SetText, SetsOnPage, halted_within, is_of_texts, is_quiet}
use Rattle.run_events.specs.Formatter.Sprung.{diverting, noted, sprung_by}

-- on no way nothing is passed
unpassed : (place : ℕ) (trap : Option ℕ) → is_passed place (place + 0) trap ≡ false
unpassed place None = refl
unpassed place (Some there) = by (is_passed place (place + 0) (Some there)) refl
  where
    by : (b : Bool) → is_passed place (place + 0) (Some there) ≡ b → b ≡ false
    by false is = refl
    by true is =
        let parts = and_parts (nat_lt place there) (nat_le there (place + 0)) is in
        absurd (omega (arith, ltb-true place there parts.0, leb-true there (place + 0) parts.1))

none_met : (place length : ℕ) (traps : List Trap) → first_met (is_passed place (place + 0)) length traps ≡ None
none_met place length [] = refl
none_met place length (t ∷ traps) =
    let others : Option ShortName = first_met (is_passed place (place + 0)) length traps in
    ap (λ (b : Bool). if b then Some t.name else others) (unpassed place (place_of length t.place)) ∙ none_met place length traps

no_trap : (place : ℕ) (trap : Option Trap) → diversion_trap_passed place (place + 0) trap ≡ None
no_trap place None = refl
no_trap place (Some t) = ap (λ (b : Bool). if b then Some t.name else None) (unpassed place (stop_at place t.place))

none_passed : (ds : List Diversion) (place : ℕ) (L : Layout) → passed_in ds place (place + 0) L ≡ None
none_passed [] place L = none_met place L.length L.traps
none_passed (d ∷ ds) place L = no_trap place d.trap

none_there : (over same : Bool) (on_top here : Option ShortName) → same ≡ true → here ≡ None → (if over then None else if not same then on_top else here) ≡ None
none_there true same on_top here is none = refl
none_there false false on_top here is none = absurd (cc)
none_there false true on_top here is none = none

-- of each such event
unsprung : (L : Layout) (over : Bool) (on_top : Option ShortName) → let place : ℕ = (innermost L.diversions (page_target L)).place in
    (if over then None else if not (L.begun == L.begun) then on_top else passed_in L.diversions place (place + 0) L) ≡ None
unsprung L over on_top =
    none_there over (L.begun == L.begun) on_top _ (eq-eqb L.begun L.begun refl) (none_passed L.diversions (innermost L.diversions (page_target L)).place L)

pub springs-none : (e : LayoutEvent) (L : Layout) → is_quiet e ≡ true → springs_on_page (Does e) L ≡ None
springs-none (ListPages first last) L is = unsprung L L.is_over _
springs-none Begin L is = absurd (cc)
springs-none Close L is = unsprung L L.is_over _
springs-none (Space k) L is = absurd (cc)
springs-none (Need k) L is = absurd (cc)
springs-none (Eject asked) L is = absurd (cc)
springs-none (EjectTo asked number) L is = absurd (cc)
springs-none (EjectOn asked) L is = absurd (cc)
springs-none EjectLast L is = absurd (cc)
springs-none (Length k) L is = unsprung L L.is_over _
springs-none (Offset k) L is = unsprung L L.is_over _
springs-none (Next n) L is = unsprung L L.is_over _
springs-none (Number n) L is = unsprung L L.is_over _
springs-none (NoSpace on) L is = unsprung L L.is_over _
springs-none (Plant trap) L is = unsprung L L.is_over _
springs-none (Uproot place) L is = unsprung L L.is_over _
springs-none (MoveTrap name place) L is = unsprung L L.is_over _
springs-none (RemoveTrap name) L is = unsprung L L.is_over _
springs-none (DiversionTrap trap) L is = unsprung L L.is_over _
springs-none NoDiversionTrap L is = unsprung L L.is_over _
springs-none (Divert name appends) L is = unsprung L L.is_over _
springs-none EndDivert L is = unsprung L L.is_over _

-- and, but for those of diversions, changes no text
untold-quiet : (e : LayoutEvent) (L : Layout) → is_quiet e ≡ true → is_of_texts e ≡ false → text_due (Does e) L ≡ None
untold-quiet Close L is other = absurd (cc)
untold-quiet (Space k) L is other = absurd (cc)
untold-quiet (Need k) L is other = absurd (cc)
untold-quiet (Divert name appends) L is other = absurd (cc)
untold-quiet EndDivert L is other = absurd (cc)
untold-quiet (_) L is other = refl

-- so such an event was set, and nothing follows
pub sets_quietly : (e : LayoutEvent) (old new : Kept) (due : Due) → is_quiet e ≡ true → is_of_texts e ≡ false → Happens (Does e) old new → HasRoomFor e old
    → SetsOnPage e old new due (Ok None)
sets_quietly e old new due is other happens room =
    (happens, room, record { untold = λ L stands. untold-quiet e L is other; springs = λ L stands. springs-none e L is })

-- a page began, and sprang this, if anything
pub begins_by : (old new : Kept) (due_old due_new : Due) (name : Option ShortName) → Happens (Does Begin) old new
    → ((L : Layout) → StandsAs L old → name ≡ springs_on_page (Does Begin) L) → due_new ≡ noted name due_old → SetsOnPage Begin old new due_new (Ok (sprung_by name))
begins_by old new due_old due_new None happens sprang due = (happens, tt, record { untold = λ L stands. refl; springs = λ L stands. sym (sprang L stands) })
begins_by old new due_old due_new (Some name) happens sprang due =
    let is : due_new.sprung ≡ Some name = ap (λ (d : Due). d.sprung) due in
    (happens, tt, record { so = SetSpringing name is; text = λ L es rs stands. refl; springs = λ L stands. is ∙ sprang L stands })

-- the text of a diversion begins, ends, or is dropped
pub sets_text : (e : LayoutEvent) (old new : Kept) (due : Due) → is_quiet e ≡ true → Happens (Does e) old new → HasRoomFor e old → due.sprung ≡ None
    → ((L : Layout) → StandsAs L old → IsSome (text_due (Does e) L))
    → ((L : Layout) (es : ComposerOf) (rs : AllRegisters) → StandsAs L old → text_told due.text es rs ≡ text_due (Does e) L)
    → SetsOnPage e old new due (Ok (Some diverting))
sets_text e old new due is happens room unsprung some told =
    (happens, room, record { so = SetText some; text = told; springs = λ L stands. unsprung ∙ sym (springs-none e L is) })

-- or a limit refused it
pub plants_within : (trap : Trap) (old new : Kept) (due : Due) (r : Result (Unit {0}) Limit) → OnOk r (Happens (Does (Plant trap)) old new)
    → OnOk r (length (with_trap trap old.traps) ≤ old.most_traps) → IfErr r (λ l. l ≡ Traps) → IfErr r (λ l. new ≡ old)
    → IfErr r (λ l. old.most_traps < length (with_trap trap old.traps)) → SetsOnPage (Plant trap) old new due (halted_within r)
plants_within trap old new due (Ok done) happens room limit same full = sets_quietly (Plant trap) old new due refl refl happens room
plants_within trap old new due (Err l) happens room limit same full = ((limit, full), same)
