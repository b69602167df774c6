-- What environments and pages stand for behind an event, and whether a limit refuses it.
use Rattle.std.proofs.Common.{◌∙◌, ◌≡◌, ◌<◌, ◌≤◌, ◌+◌, ℕ, Bool, true, false, not, ◌||◌, List, [], ◌∷◌, length, Option, Some, None, ap, arith, refl, subst, sym, if◌then◌else◌, nat_lt, le-ltb, lt-ltb, length-append}
use Rattle.std.proofs.Math.Nat.{lt_of_not-le}
use Rattle.std.proofs.lemmas.List.{length-map}
use Rattle.roff_num.specs.declared.limit.Limit.{Limit}
use Rattle.roff_num.specs.declared.limit.Limit.TheVariants.{Line, Output as OutputLimit, Traps, Diversions, Environments as EnvironmentsLimit}
use Rattle.roff_num.specs.declared.limits.Limits.{Limits}
use Rattle.page_model.specs.Behind.{length_reached}
use Rattle.page_model.specs.declared.event.Event.{Event}
use Rattle.page_model.specs.DeviceText.{device_lines, device_text}
use Rattle.page_model.specs.Happenings.{Happening, Does, Places, Titles}
use Rattle.page_model.specs.declared.layout_event.LayoutEvent.{LayoutEvent}
use Rattle.page_model.specs.declared.layout_event.LayoutEvent.TheVariants.{ListPages, Begin, Close, Space, Need, Eject, EjectTo, EjectOn, EjectLast, Length, Offset, Next, Number, NoSpace, Plant, Uproot, MoveTrap, RemoveTrap, DiversionTrap, NoDiversionTrap, Divert, EndDivert}
use Rattle.page_model.specs.Layout.{Box, Layout}
use Rattle.roff_pages.specs.Pages.Kept.{Kept}
use Rattle.roff_pages.specs.Pages.Stands.{SameLimits, StandsAs, kept_diversion}
use Rattle.page_model.specs.Puts.{Put, appended, boxes_put, puts}
use Rattle.page_model.specs.Stops.{is_diverted, target}
use Rattle.page_model.specs.Turning.{behind_put, next_behind, turned_unless, unput, with_boxes, with_event, with_trap, without_put}
use Rattle.run_state.specs.Composer.Standing.{StandFor}
use Rattle.run_state.specs.Environments.Standing.{StandBy}
use Rattle.run_state.specs.declared.composer.Composer.{Composer as ComposerOf}
use Rattle.run_state.specs.declared.due_text.Due.{Due}
use Rattle.run_events.specs.Formatter.Setting.{HasRoomFor, IsPastItsLimit, may_put}
use Rattle.run_model.specs.Environments.{PageHistory, environments, text_of}
use Rattle.run_model.specs.Layouts.{laid_out}
use Rattle.run_model.specs.Output.{happens, layout_of, text_laid, written, written_by}
use Rattle.run_model.specs.PageEvents.{PastEvent}
use Rattle.run_model.specs.declared.environment_number.EnvironmentNumber.{EnvironmentNumber}
use Rattle.run_model.specs.declared.event.PageEvent.TheVariants.{Text, Environment, Page}
use Rattle.run_model.specs.Run.Counts.{first_passed, refusal, written_counted}

-- what puts nothing writes nothing
either_none : (b : Bool) → let none : List ℕ = [] in (if b then none else none) ≡ none
either_none true = refl
either_none false = refl

pub nothing_written : (x : Happening) (L : Layout) → puts x L ≡ None → device_text x L ≡ []
nothing_written x L none =
    ap (λ (boxes : List Box). if is_diverted x L || not L.is_listed then [] else device_lines L.offset boxes) (ap (boxes_put (target x L)) none)
    ∙ either_none (is_diverted x L || not L.is_listed)

-- such events put nothing
pub sets_nothing : (e : LayoutEvent) (L : Layout) → may_put e ≡ false → puts (Does e) L ≡ None
sets_nothing (ListPages first last) L is = refl
sets_nothing Begin L is = refl
sets_nothing Close L is = refl
sets_nothing (Space k) L is = cc
sets_nothing (Need k) L is = cc
sets_nothing (Eject asked) L is = cc
sets_nothing (EjectTo asked number) L is = cc
sets_nothing (EjectOn asked) L is = cc
sets_nothing EjectLast L is = cc
sets_nothing (Length k) L is = refl
sets_nothing (Offset k) L is = refl
sets_nothing (Next n) L is = refl
sets_nothing (Number n) L is = refl
sets_nothing (NoSpace on) L is = refl
sets_nothing (Plant trap) L is = refl
sets_nothing (Uproot place) L is = refl
sets_nothing (MoveTrap name place) L is = refl
sets_nothing (RemoveTrap name) L is = refl
sets_nothing (DiversionTrap trap) L is = refl
sets_nothing NoDiversionTrap L is = refl
sets_nothing (Divert name appends) L is = refl
sets_nothing EndDivert L is = refl

-- and with none of them the last page ends
pub sets_goes_on : (e : LayoutEvent) (L : Layout) → may_put e ≡ false → (with_event (Does e) L).is_over ≡ L.is_over
sets_goes_on (ListPages first last) L is = refl
sets_goes_on Begin L is = refl
sets_goes_on Close L is = refl
sets_goes_on (Space k) L is = cc
sets_goes_on (Need k) L is = cc
sets_goes_on (Eject asked) L is = cc
sets_goes_on (EjectTo asked number) L is = cc
sets_goes_on (EjectOn asked) L is = cc
sets_goes_on EjectLast L is = cc
sets_goes_on (Length k) L is = refl
sets_goes_on (Offset k) L is = refl
sets_goes_on (Next n) L is = refl
sets_goes_on (Number n) L is = refl
sets_goes_on (NoSpace on) L is = refl
sets_goes_on (Plant trap) L is = refl
sets_goes_on (Uproot place) L is = refl
sets_goes_on (MoveTrap name place) L is = refl
sets_goes_on (RemoveTrap name) L is = refl
sets_goes_on (DiversionTrap trap) L is = refl
sets_goes_on NoDiversionTrap L is = refl
sets_goes_on (Divert name appends) L is = refl
sets_goes_on EndDivert L is = refl

-- a limit that a count isn't above, in front of others
pub passes-first : (most n : ℕ) (limit : Limit) (others : Option Limit) → n ≤ most → (if nat_lt most n then Some limit else others) ≡ others
passes-first most n limit others few = ap (λ (b : Bool). if b then Some limit else others) (le-ltb most n few)

-- and one that it is above
pub stops-first : (most n : ℕ) (limit : Limit) (others : Option Limit) → most < n → (if nat_lt most n then Some limit else others) ≡ Some limit
stops-first most n limit others more = ap (λ (b : Bool). if b then Some limit else others) (lt-ltb most n more)

-- what is written behind a happening is within the limit on the output, or not
pub written_allowed : (l : Limits) (h : PageHistory) (x : Happening) → length (written h) + length (device_text x (layout_of h)) ≤ l.output
    → first_passed l (written_counted h (Some x)) ≡ None
written_allowed l h x few = passes-first l.output (length (written h) + length (device_text x (layout_of h))) OutputLimit None few

pub written_refused : (l : Limits) (h : PageHistory) (x : Happening) → l.output < length (written h) + length (device_text x (layout_of h))
    → first_passed l (written_counted h (Some x)) ≡ Some OutputLimit
written_refused l h x more = stops-first l.output (length (written h) + length (device_text x (layout_of h))) OutputLimit None more

-- where nothing is written it is
pub nothing_allowed : (l : Limits) (h : PageHistory) (x : Happening) (es : ComposerOf) → StandFor l h es → device_text x (layout_of h) ≡ []
    → first_passed l (written_counted h (Some x)) ≡ None
nothing_allowed l h x es stood nothing =
    written_allowed l h x (omega (arith, ap length nothing, stood.within, stood.written, stood.output))

-- an event of the text is refused by the limit on the line, or as what it writes is
pub text_counted : (l : Limits) (h : PageHistory) (e : Event) → length_reached e (text_of h) ≤ l.line
    → refusal l h (Text e) ≡ first_passed l (written_counted h (happens h (Text e)))
text_counted l h e few = passes-first l.line (length_reached e (text_of h)) Line (first_passed l (written_counted h (happens h (Text e)))) few

pub text_refused : (l : Limits) (h : PageHistory) (e : Event) → l.line < length_reached e (text_of h) → refusal l h (Text e) ≡ Some Line
text_refused l h e longer = stops-first l.line (length_reached e (text_of h)) Line (first_passed l (written_counted h (happens h (Text e)))) longer

-- one that finishes no line
pub text_allowed : (l : Limits) (h : PageHistory) (e : Event) → length_reached e (text_of h) ≤ l.line → happens h (Text e) ≡ None
    → refusal l h (Text e) ≡ None
text_allowed l h e few none = text_counted l h e few ∙ ap (λ (o : Option Happening). first_passed l (written_counted h o)) none

-- an event of the pages is refused by the limits on traps and diversions, or as what it writes is
pub page_counted : (l : Limits) (h : PageHistory) (e : LayoutEvent) (es : ComposerOf) → StandFor l h es → HasRoomFor e es.pages
    → refusal l h (Page e) ≡ first_passed l (written_counted h (Some (Does e)))
page_counted l h (Plant trap) es stood room =
    let few : length (with_trap trap (layout_of h).traps) ≤ l.traps =
    subst (λ traps. length (with_trap trap traps) ≤ l.traps) stood.pages.traps (omega (arith, room, stood.traps)) in
    passes-first l.traps _ Traps _ few
page_counted l h (Divert name appends) es stood room =
    let same : length es.pages.diversions ≡ length (layout_of h).diversions = ap length stood.pages.diversions ∙ length-map (layout_of h).diversions kept_diversion in
    let few : length (layout_of h).diversions + 1 ≤ l.diversions = omega (arith, room, stood.diversions, same) in
    passes-first l.diversions _ Diversions _ few
page_counted l h (ListPages first last) es stood room = refl
page_counted l h Begin es stood room = refl
page_counted l h Close es stood room = refl
page_counted l h (Space k) es stood room = refl
page_counted l h (Need k) es stood room = refl
page_counted l h (Eject asked) es stood room = refl
page_counted l h (EjectTo asked number) es stood room = refl
page_counted l h (EjectOn asked) es stood room = refl
page_counted l h EjectLast es stood room = refl
page_counted l h (Length k) es stood room = refl
page_counted l h (Offset k) es stood room = refl
page_counted l h (Next n) es stood room = refl
page_counted l h (Number n) es stood room = refl
page_counted l h (NoSpace on) es stood room = refl
page_counted l h (Uproot place) es stood room = refl
page_counted l h (MoveTrap name place) es stood room = refl
page_counted l h (RemoveTrap name) es stood room = refl
page_counted l h (DiversionTrap trap) es stood room = refl
page_counted l h NoDiversionTrap es stood room = refl
page_counted l h EndDivert es stood room = refl

-- what may put something has room
pub room-puts : (e : LayoutEvent) (k : Kept) → may_put e ≡ true → HasRoomFor e k
room-puts (ListPages first last) k is = tt
room-puts Begin k is = tt
room-puts Close k is = tt
room-puts (Space n) k is = tt
room-puts (Need n) k is = tt
room-puts (Eject asked) k is = tt
room-puts (EjectTo asked number) k is = tt
room-puts (EjectOn asked) k is = tt
room-puts EjectLast k is = tt
room-puts (Length n) k is = tt
room-puts (Offset n) k is = tt
room-puts (Next n) k is = tt
room-puts (Number n) k is = tt
room-puts (NoSpace on) k is = tt
room-puts (Plant trap) k is = absurd (cc)
room-puts (Uproot place) k is = tt
room-puts (MoveTrap name place) k is = tt
room-puts (RemoveTrap name) k is = tt
room-puts (DiversionTrap trap) k is = tt
room-puts NoDiversionTrap k is = tt
room-puts (Divert name appends) k is = absurd (cc)
room-puts EndDivert k is = tt

-- and what has none is refused
pub page_refused : (l : Limits) (h : PageHistory) (e : LayoutEvent) (limit : Limit) (es : ComposerOf) → StandFor l h es → IsPastItsLimit e limit es.pages
    → refusal l h (Page e) ≡ Some limit
page_refused l h (Plant trap) limit es stood past =
    let more : l.traps < length (with_trap trap (layout_of h).traps) =
    subst (λ traps. l.traps < length (with_trap trap traps)) stood.pages.traps (omega (arith, past.1, stood.traps)) in
    subst (λ (o : Limit). refusal l h (Page (Plant trap)) ≡ Some o) (sym past.0) (stops-first l.traps _ Traps _ more)
page_refused l h (Divert name appends) limit es stood past =
    let same : length es.pages.diversions ≡ length (layout_of h).diversions = ap length stood.pages.diversions ∙ length-map (layout_of h).diversions kept_diversion in
    let more : l.diversions < length (layout_of h).diversions + 1 = omega (arith, past.1, stood.diversions, same) in
    subst (λ (o : Limit). refusal l h (Page (Divert name appends)) ≡ Some o) (sym past.0) (stops-first l.diversions _ Diversions _ more)
page_refused l h (ListPages first last) limit es stood past = absurd past
page_refused l h Begin limit es stood past = absurd past
page_refused l h Close limit es stood past = absurd past
page_refused l h (Space k) limit es stood past = absurd past
page_refused l h (Need k) limit es stood past = absurd past
page_refused l h (Eject asked) limit es stood past = absurd past
page_refused l h (EjectTo asked number) limit es stood past = absurd past
page_refused l h (EjectOn asked) limit es stood past = absurd past
page_refused l h EjectLast limit es stood past = absurd past
page_refused l h (Length k) limit es stood past = absurd past
page_refused l h (Offset k) limit es stood past = absurd past
page_refused l h (Next n) limit es stood past = absurd past
page_refused l h (Number n) limit es stood past = absurd past
page_refused l h (NoSpace on) limit es stood past = absurd past
page_refused l h (Uproot place) limit es stood past = absurd past
page_refused l h (MoveTrap name place) limit es stood past = absurd past
page_refused l h (RemoveTrap name) limit es stood past = absurd past
page_refused l h (DiversionTrap trap) limit es stood past = absurd past
page_refused l h NoDiversionTrap limit es stood past = absurd past
page_refused l h EndDivert limit es stood past = absurd past

-- Behind an event with which something happens to the pages, whose text is counted, environments and pages stand for what they
-- stand for together.
pub stands_put : (l : Limits) (h : PageHistory) (x : PastEvent) (y : Happening) (old new : ComposerOf) → StandFor l h old → happens h x ≡ Some y
    → StandBy l (environments (x ∷ h)) new.environments → StandsAs (with_event y (layout_of h)) new.pages
    → new.pages.written ≡ old.pages.written + length (device_text y (layout_of h))
    → old.pages.written + length (device_text y (layout_of h)) ≤ old.pages.output → SameLimits old.pages new.pages
    → (with_event y (layout_of h)).is_over ≡ false → StandFor l (x ∷ h) new
stands_put l h x y old new stood is environments pages counted few limits goes_on =
    let bytes : length (written (x ∷ h)) ≡ length (written h) + length (device_text y (layout_of h)) =
    length-append (written h) (written_by h x) ∙ ap (λ (o : Option Happening). length (written h) + length (text_laid o (layout_of h))) is in
    let laid : layout_of (x ∷ h) ≡ with_event y (layout_of h) = ap (λ (o : Option Happening). laid_out o (layout_of h)) is in record {
      environments = environments;
      pages = subst (λ (L : Layout). StandsAs L new.pages) (sym laid) pages;
      written = omega (arith, bytes, counted, stood.written);
      within = omega (arith, counted, few, limits.output);
      output = limits.output ∙ stood.output;
      traps = limits.traps ∙ stood.traps;
      diversions = limits.diversions ∙ stood.diversions;
      goes_on = ap (λ (L : Layout). L.is_over) laid ∙ goes_on;
    }

-- nothing is written
pub stands_set : (l : Limits) (h : PageHistory) (x : PastEvent) (y : Happening) (old new : ComposerOf) → StandFor l h old → happens h x ≡ Some y
    → StandBy l (environments (x ∷ h)) new.environments → StandsAs (with_event y (layout_of h)) new.pages → device_text y (layout_of h) ≡ []
    → new.pages.written ≡ old.pages.written → SameLimits old.pages new.pages → (with_event y (layout_of h)).is_over ≡ false → StandFor l (x ∷ h) new
stands_set l h x y old new stood is environments pages nothing same limits goes_on =
    stands_put l h x y old new stood is environments pages (omega (arith, ap length nothing, same)) (omega (arith, ap length nothing, stood.within)) limits goes_on

-- with which nothing happens to them
pub stands_quietly : (l : Limits) (h : PageHistory) (x : PastEvent) (old new : ComposerOf) → StandFor l h old → happens h x ≡ None
    → StandBy l (environments (x ∷ h)) new.environments → new.pages ≡ old.pages → StandFor l (x ∷ h) new
stands_quietly l h x old new stood none environments same =
    let bytes : length (written (x ∷ h)) ≡ length (written h) =
    length-append (written h) (written_by h x) ∙ ap (λ (o : Option Happening). length (written h) + length (text_laid o (layout_of h))) none
    ∙ omega arith in
    let laid : layout_of (x ∷ h) ≡ layout_of h = ap (λ (o : Option Happening). laid_out o (layout_of h)) none in record {
      environments = environments;
      pages = subst (λ (L : Layout). StandsAs L new.pages) (sym laid) (subst (λ (k : Kept). StandsAs (layout_of h) k) (sym same) stood.pages);
      written = ap (λ (k : Kept). k.written) same ∙ stood.written ∙ sym bytes;
      within = subst (λ (k : Kept). k.written ≤ k.output) (sym same) stood.within;
      output = ap (λ (k : Kept). k.output) same ∙ stood.output;
      traps = ap (λ (k : Kept). k.most_traps) same ∙ stood.traps;
      diversions = ap (λ (k : Kept). k.most_diversions) same ∙ stood.diversions;
      goes_on = ap (λ (L : Layout). L.is_over) laid ∙ stood.goes_on;
    }

-- an environment is left for another where no more are left than may be
pub switch_allowed : (l : Limits) (h : PageHistory) (number : EnvironmentNumber) → (l.environments < length (environments h).left + 1 → ⊥)
    → refusal l h (Environment number) ≡ None
switch_allowed l h number few = passes-first l.environments (length (environments h).left + 1) EnvironmentsLimit None (omega (arith, lt_of_not-le few))

-- and is refused where more would be
pub switch_refused : (l : Limits) (h : PageHistory) (number : EnvironmentNumber) → l.environments < length (environments h).left + 1
    → refusal l h (Environment number) ≡ Some EnvironmentsLimit
switch_refused l h number more = stops-first l.environments (length (environments h).left + 1) EnvironmentsLimit None more

-- whatever is due, they stand for the same
pub stands-due : (l : Limits) (h : PageHistory) (es : ComposerOf) (due : Due) → StandFor l h es → StandFor l h (record es { due = due })
stands-due l h es due stood = record {
  environments = stood.environments;
  pages = stood.pages;
  written = stood.written;
  within = stood.within;
  output = stood.output;
  traps = stood.traps;
  diversions = stood.diversions;
  goes_on = stood.goes_on;
}

-- what is put in a diversion writes nothing
pub diverted_nothing : (x : Happening) (L : Layout) → is_diverted x L ≡ true → device_text x L ≡ []
diverted_nothing x L is = ap (λ (b : Bool). if b || not L.is_listed then [] else device_lines L.offset (appended x L)) is

-- and ends no page
diverted_put : (x : Happening) (p : Option Put) (boxes : List Box) (L : Layout) → is_diverted x L ≡ true → (unput x L).is_over ≡ L.is_over → (behind_put x p boxes L).is_over ≡ L.is_over
diverted_put x None boxes L is stays = stays
diverted_put x (Some p) boxes L is stays =
    ap (λ (b : Bool). (turned_unless b (with_boxes x boxes (record L { next = next_behind x L.next }))).is_over) is

diverted_unput : (e : LayoutEvent) (L : Layout) → is_diverted (Does e) L ≡ true → (without_put e L).is_over ≡ L.is_over
diverted_unput (ListPages first last) L is = refl
diverted_unput Begin L is = refl
diverted_unput Close L is = refl
diverted_unput (Space k) L is = refl
diverted_unput (Need k) L is = refl
diverted_unput (Eject asked) L is = refl
diverted_unput (EjectTo asked number) L is = refl
diverted_unput (EjectOn asked) L is = refl
diverted_unput EjectLast L is = cc
diverted_unput (Length k) L is = refl
diverted_unput (Offset k) L is = refl
diverted_unput (Next n) L is = refl
diverted_unput (Number n) L is = refl
diverted_unput (NoSpace on) L is = refl
diverted_unput (Plant trap) L is = refl
diverted_unput (Uproot place) L is = refl
diverted_unput (MoveTrap name place) L is = refl
diverted_unput (RemoveTrap name) L is = refl
diverted_unput (DiversionTrap trap) L is = refl
diverted_unput NoDiversionTrap L is = refl
diverted_unput (Divert name appends) L is = refl
diverted_unput EndDivert L is = refl

pub diverted_goes : (x : Happening) (L : Layout) → is_diverted x L ≡ true → (with_event x L).is_over ≡ L.is_over
diverted_goes (Does e) L is = diverted_put (Does e) (puts (Does e) L) (appended (Does e) L) L is (diverted_unput e L is)
diverted_goes (Places line) L is = diverted_put (Places line) (puts (Places line) L) (appended (Places line) L) L is refl
diverted_goes (Titles t) L is = diverted_put (Titles t) (puts (Titles t) L) (appended (Titles t) L) L is refl
