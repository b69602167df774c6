-- The laws over traps of pages: what is met, and what its macro finds.
use Rattle.std.proofs.Common.{◌≡◌, ◌≢◌, ◌+◌, ℕ, Bool, true, false, not, ◌&&◌, ◌||◌, List, [], ◌∷◌, ◌++◌, length, Option, Some, None, refl, sym, ◌∙◌, ap, subst, arith, length-append, nat_le, nat_lt, if◌then◌else◌, ◌==◌, eq-eqb, eqb-true, leb-true, ltb-true, ne_eqb}
use Rattle.std.specs.List.{AllByRecursion}
use Rattle.page_model.specs.Words.{is_empty}
use Rattle.page_model.specs.declared.event.Event.TheVariants.{Print, Tab, FieldEnd, WordEnd, Gap, LineEnd, Count, Break, Interrupt as Interrupted, Resume, Set}
use Rattle.roff_num.specs.declared.short_name.ShortName.{ShortName}
use Rattle.page_model.specs.Happenings.{Happening, Does, Places, Titles, is_eject}
use Rattle.page_model.specs.Layout.{Box, Diversion, Layout, page_place}
use Rattle.page_model.specs.Puts.{Put, appended, boxes_put, ejected_if, puts}
use Rattle.roff_pages.specs.Reach.{IsMetAtEnd}
use Rattle.page_model.specs.Springs.{first_met, is_on_top, is_passed, passed, passed_in, springs_on_page}
use Rattle.page_model.specs.Stops.{Target, is_diverted, page_target, place_of, target}
use Rattle.page_model.specs.Turning.{behind_put, next_behind, page_begun, turned_if_full, turned_unless, unput, with_boxes, with_event}
use Rattle.page_model.specs.declared.layout_event.LayoutEvent.{LayoutEvent}
use Rattle.page_model.specs.declared.layout_event.LayoutEvent.TheVariants.{ListPages, Begin, Close, Space, Need, Eject, EjectTo, EjectOn, EjectLast, Length, Offset, Next, Number, NoSpace, Plant, Uproot, MoveTrap, RemoveTrap, DiversionTrap, NoDiversionTrap, Divert, EndDivert}
use Rattle.page_model.specs.declared.trap.Trap.{Trap}
use Rattle.roff_pages.proofs.NextStop.{on_the_page, page_met}
use Rattle.run_model.specs.Layouts.{happens, laid_out, layout_of}
use Rattle.run_model.specs.PageEvents.{PageHistory, PastEvent}
use Rattle.run_model.specs.Springs.{springs, sprung_on}
use Rattle.run_model.specs.declared.event.PageEvent.TheVariants.{Text, Page, Interrupt, Environment, Back, InputTrap as SetsTrap, Title}
use Rattle.law_runs.specs.TrapLaws.{EjectsOfOtherPagesDoNothing, IsReached, MacrosFindTheRestOfThePage, OneEventSpringsOneMacro}
use Rattle.law_runs.proofs.PutHolds.{put-holds}

-- all traps that are met on a page lie where its boxes end
met : (x : Happening) (L : Layout) → is_diverted x L ≡ false
    → AllByRecursion (λ t. IsMetAtEnd (target x L).place ((target x L).place + length (appended x L)) (place_of L.length t.place)) L.traps
met x L on_page = page_met L (target x L) (puts x L) (on_the_page (is_eject x) L.diversions (page_target L) on_page)

pub one_event_springs_one_macro : OneEventSpringsOneMacro
one_event_springs_one_macro h e x is on_page = met x (layout_of h) on_page

-- the trap of this name that passes a test, where those that pass it lie at this place
record IsFound (is_met : Option ℕ → Bool) (length : ℕ) (traps : List Trap) (name : ShortName) (at : ℕ) : Type 0 where
  front : List Trap
  trap : Trap
  behind : List Trap
  planted : traps ≡ front ++ trap ∷ behind
  named : trap.name ≡ name
  lies : place_of length trap.place ≡ Some at
  passes : is_met (Some at) ≡ true

-- where one is met it lies there
abbrev LiesAt : (Option ℕ → Bool) → ℕ → Option ℕ → Type 0
LiesAt is_met at place = is_met place ≡ true → place ≡ Some at

same_name_of : (m n : ShortName) → Some m ≡ Some n → m ≡ n
same_name_of m n same = cc

found_by : (is_met : Option ℕ → Bool) (length : ℕ) (t : Trap) (traps : List Trap) (name : ShortName) (at : ℕ) (c : Bool)
    → is_met (place_of length t.place) ≡ c → LiesAt is_met at (place_of length t.place)
    → (first_met is_met length traps ≡ Some name → IsFound is_met length traps name at)
    → (if c then Some t.name else first_met is_met length traps) ≡ Some name → IsFound is_met length (t ∷ traps) name at
found_by is_met length t traps name at true is lies others found = record {
  front = [];
  trap = t;
  behind = traps;
  planted = refl;
  named = same_name_of t.name name found;
  lies = lies is;
  passes = sym (ap is_met (lies is)) ∙ is;
}
found_by is_met length t traps name at false is lies others found =
    let there : IsFound is_met length traps name at = others found in record {
      front = t ∷ there.front;
      trap = there.trap;
      behind = there.behind;
      planted = ap (λ (rest : List Trap). t ∷ rest) there.planted;
      named = there.named;
      lies = there.lies;
      passes = there.passes;
    }

is_found : (is_met : Option ℕ → Bool) (length : ℕ) (traps : List Trap) (name : ShortName) (at : ℕ)
    → AllByRecursion (λ t. LiesAt is_met at (place_of length t.place)) traps → first_met is_met length traps ≡ Some name
    → IsFound is_met length traps name at
is_found is_met length [] name at all found = absurd (cc)
is_found is_met length (t ∷ traps) name at all found =
    found_by is_met length t traps name at (is_met (place_of length t.place)) refl all.0 (is_found is_met length traps name at all.1) found

-- at a page's beginning
on_top : (place : Option ℕ) → LiesAt is_on_top 0 place
on_top None is = absurd (cc)
on_top (Some n) is = ap (λ (m : ℕ). Some m) (eqb-true n 0 is)

all_on_top : (length : ℕ) (traps : List Trap) → AllByRecursion (λ t. LiesAt is_on_top 0 (place_of length t.place)) traps
all_on_top length [] = tt
all_on_top length (t ∷ traps) = (on_top (place_of length t.place), all_on_top length traps)

-- and where boxes end
both : (b c : Bool) → (b && c) ≡ true → (b ≡ true) × (c ≡ true)
both true true is = (refl, refl)
both true false is = absurd (cc)
both false c is = absurd (cc)

passed_at : (from to : ℕ) (place : Option ℕ) → IsMetAtEnd from to place → LiesAt (is_passed from to) to place
passed_at from to None ends is = absurd (cc)
passed_at from to (Some n) ends is =
    let parts = both (nat_lt from n) (nat_le n to) is in
    ap (λ (m : ℕ). Some m) (ends (ltb-true from n parts.0) (leb-true n to parts.1))

all_passed : (from to length : ℕ) (traps : List Trap) → AllByRecursion (λ t. IsMetAtEnd from to (place_of length t.place)) traps
    → AllByRecursion (λ t. LiesAt (is_passed from to) to (place_of length t.place)) traps
all_passed from to length [] all = tt
all_passed from to length (t ∷ traps) all = (passed_at from to (place_of length t.place) all.0, all_passed from to length traps all.1)

-- what is passed on a page
passed-page : (eject : Bool) (ds : List Diversion) (from to : ℕ) (L : Layout) → not (eject || is_empty ds) ≡ false
    → (if eject then first_met (is_passed from to) L.length L.traps else passed_in ds from to L) ≡ first_met (is_passed from to) L.length L.traps
passed-page true ds from to L on_page = refl
passed-page false [] from to L on_page = refl
passed-page false (d ∷ ds) from to L on_page = absurd (cc)

-- behind what is put on a page, told whether that ended
page-turned : (full closing : Bool) (M N : Layout)
    → M ≡ (if full then (if closing then record N { is_over = true } else page_begun N) else N)
    → M.is_over ≡ false → (M.begun == N.begun) ≡ true → M ≡ N
page-turned true true M N is goes same = let wrong : true ≡ false = sym (ap (λ (L : Layout). L.is_over) is) ∙ goes in absurd (cc)
page-turned true false M N is goes same =
    let more : M.begun ≡ N.begun + 1 = ap (λ (L : Layout). L.begun) is in
    absurd (omega (arith, more, eqb-true M.begun N.begun same))
page-turned false closing M N is goes same = is

-- it has these lines, and the same traps
reached-put : (x : Happening) (p : Option Put) (L M : Layout) (name : ShortName) → puts x L ≡ p
    → M ≡ behind_put x p (appended x L) L
    → is_diverted x L ≡ false → M.is_over ≡ false → (M.begun == L.begun) ≡ true
    → let to : ℕ = (target x L).place + length (appended x L) in
    IsFound (is_passed (target x L).place to) L.length L.traps name to → IsReached M name
reached-put x None L M name none is on_page goes same found =
    let no_boxes : length (appended x L) ≡ 0 = ap (λ (p : Option Put). length (boxes_put (target x L) p)) none in
    let parts = both (nat_lt (target x L).place _) (nat_le _ _) found.passes in
    absurd (omega (arith, no_boxes, ltb-true (target x L).place _ parts.0))
reached-put x (Some p) L M name some is on_page goes same found =
    let boxes : List Box = appended x L in
    let N : Layout = with_boxes x boxes (record L { next = next_behind x L.next }) in
    let on : M ≡ turned_if_full N = is ∙ ap (λ (diverted : Bool). turned_unless diverted N) on_page in
    let there : M ≡ N = page-turned (nat_le N.length (page_place N)) N.is_closing M N on goes same in
    let place : (target x L).place ≡ page_place L = ap (λ (t : Target). t.place) (sym (on_the_page (is_eject x) L.diversions (page_target L) on_page)) in
    let all : N.boxes ≡ boxes ++ L.boxes = ap (λ (diverted : Bool). if diverted then L.boxes else boxes ++ L.boxes) on_page in
    let size : page_place N ≡ (target x L).place + length boxes =
    ap (λ (bs : List Box). length bs) all ∙ omega (arith, length-append boxes L.boxes, place) in
    subst (λ (K : Layout). IsReached K name) (sym there) (record {
      front = found.front;
      trap = found.trap;
      behind = found.behind;
      planted = found.planted;
      named = found.named;
      lies = found.lies ∙ ap (λ (n : ℕ). Some n) (sym size);
    })

-- a page that began has no lines yet
none_began : (n place : ℕ) → (n == n) ≡ false → place ≡ 0
none_began n place began = let wrong : true ≡ false = sym (eq-eqb n n refl) ∙ began in absurd (cc)

begun-unput : (e : LayoutEvent) (L : Layout) → ((unput (Does e) L).begun == L.begun) ≡ false → page_place (unput (Does e) L) ≡ 0
begun-unput Begin L began = refl
begun-unput (ListPages first last) L began = none_began L.begun _ began
begun-unput Close L began = none_began L.begun _ began
begun-unput (Space k) L began = none_began L.begun _ began
begun-unput (Need k) L began = none_began L.begun _ began
begun-unput (Eject asked) L began = none_began L.begun _ began
begun-unput (EjectTo asked number) L began = none_began L.begun _ began
begun-unput (EjectOn asked) L began = none_began L.begun _ began
begun-unput EjectLast L began = none_began L.begun _ began
begun-unput (Length k) L began = none_began L.begun _ began
begun-unput (Offset k) L began = none_began L.begun _ began
begun-unput (Next n) L began = none_began L.begun _ began
begun-unput (Number n) L began = none_began L.begun _ began
begun-unput (NoSpace on) L began = none_began L.begun _ began
begun-unput (Plant trap) L began = none_began L.begun _ began
begun-unput (Uproot place) L began = none_began L.begun _ began
begun-unput (MoveTrap name place) L began = none_began L.begun _ began
begun-unput (RemoveTrap name) L began = none_began L.begun _ began
begun-unput (DiversionTrap trap) L began = none_began L.begun _ began
begun-unput NoDiversionTrap L began = none_began L.begun _ began
begun-unput (Divert name appends) L began = none_began L.begun _ began
begun-unput EndDivert L began = none_began L.begun _ began

begun-happening : (x : Happening) (L : Layout) → ((unput x L).begun == L.begun) ≡ false → page_place (unput x L) ≡ 0
begun-happening (Does e) L began = begun-unput e L began
begun-happening (Places line) L began = none_began L.begun _ began
begun-happening (Titles t) L began = none_began L.begun _ began

begun-turned : (full closing : Bool) (N : Layout)
    → let M : Layout = if full then (if closing then record N { is_over = true } else page_begun N) else N in
    (M.begun == N.begun) ≡ false → page_place M ≡ 0
begun-turned true true N began = none_began N.begun _ began
begun-turned true false N began = refl
begun-turned false closing N began = none_began N.begun _ began

begun-put : (x : Happening) (p : Option Put) (boxes : List Box) (L : Layout)
    → ((behind_put x p boxes L).begun == L.begun) ≡ false
    → page_place (behind_put x p boxes L) ≡ 0
begun-put x None boxes L began = begun-happening x L began
begun-put x (Some p) boxes L began =
    let N : Layout = with_boxes x boxes (record L { next = next_behind x L.next }) in
    put-holds (λ (M : Layout). (M.begun == L.begun) ≡ false → page_place M ≡ 0) (is_diverted x L) N (none_began L.begun _)
    (begun-turned (nat_le N.length (page_place N)) N.is_closing N) began

-- what sprang, by whether the layout is over, and whether a page began
reached-by : (x : Happening) (L : Layout) (name : ShortName) (over same : Bool) → is_diverted x L ≡ false
    → (with_event x L).is_over ≡ over
    → ((with_event x L).begun == L.begun) ≡ same
    → let M : Layout = with_event x L in
    let from : ℕ = (target x L).place in
    (if over then None else if not same then first_met is_on_top M.length M.traps else passed x from (from + length (appended x L)) L) ≡ Some name
    → IsReached M name
reached-by x L name true same on_page is begun sprung = absurd (cc)
reached-by x L name false true on_page goes begun sprung =
    let from : ℕ = (target x L).place in
    let to : ℕ = from + length (appended x L) in
    let passes : first_met (is_passed from to) L.length L.traps ≡ Some name = sym (passed-page (is_eject x) L.diversions from to L on_page) ∙ sprung in
    reached-put x (puts x L) L (with_event x L) name refl refl on_page goes begun
    (is_found (is_passed from to) L.length L.traps name to (all_passed from to L.length L.traps (met x L on_page)) passes)
reached-by x L name false false on_page goes began sprung =
    let M : Layout = with_event x L in
    let found = is_found is_on_top M.length M.traps name 0 (all_on_top M.length M.traps) sprung in record {
      front = found.front;
      trap = found.trap;
      behind = found.behind;
      planted = found.planted;
      named = found.named;
      lies = found.lies ∙ ap (λ (n : ℕ). Some n) (sym (begun-put x (puts x L) (appended x L) L began));
    }

-- what an event springs is what happens with it
springs-happens : (h : PageHistory) (e : PastEvent) (x : Happening) → happens h e ≡ Some x
    → springs h e ≡ springs_on_page x (layout_of h)
springs-happens h (Text Count) x is = let wrong : None ≡ Some x = is in absurd (cc)
springs-happens h (Text (Print glyph)) x is = let wrong : None ≡ Some x = is in absurd (cc)
springs-happens h (Text Tab) x is = ap (λ (o : Option Happening). sprung_on o (layout_of h)) is
springs-happens h (Text FieldEnd) x is = let wrong : None ≡ Some x = is in absurd (cc)
springs-happens h (Text WordEnd) x is = ap (λ (o : Option Happening). sprung_on o (layout_of h)) is
springs-happens h (Text (Gap columns)) x is = let wrong : None ≡ Some x = is in absurd (cc)
springs-happens h (Text LineEnd) x is = ap (λ (o : Option Happening). sprung_on o (layout_of h)) is
springs-happens h (Text Break) x is = ap (λ (o : Option Happening). sprung_on o (layout_of h)) is
springs-happens h (Text Interrupted) x is = let wrong : None ≡ Some x = is in absurd (cc)
springs-happens h (Text Resume) x is = let wrong : None ≡ Some x = is in absurd (cc)
springs-happens h (Text (Set param)) x is = let wrong : None ≡ Some x = is in absurd (cc)
springs-happens h (Page e) x is = ap (λ (o : Option Happening). sprung_on o (layout_of h)) is
springs-happens h (Title t) x is = ap (λ (o : Option Happening). sprung_on o (layout_of h)) is
springs-happens h (Interrupt untold) x is = let wrong : None ≡ Some x = is in absurd (cc)
springs-happens h (Environment number) x is = let wrong : None ≡ Some x = is in absurd (cc)
springs-happens h Back x is = let wrong : None ≡ Some x = is in absurd (cc)
springs-happens h (SetsTrap trap) x is = let wrong : None ≡ Some x = is in absurd (cc)

pub macros_find_the_rest_of_the_page : MacrosFindTheRestOfThePage
macros_find_the_rest_of_the_page h e x name is on_page sprung =
    let L : Layout = layout_of h in
    subst (λ (o : Option Happening). IsReached (laid_out o L) name) (sym is)
    (reached-by x L name (with_event x L).is_over ((with_event x L).begun == L.begun) on_page refl refl (sym (springs-happens h e x is) ∙ sprung))

-- where nothing is put nothing is passed
none-passed : (from : ℕ) (place : Option ℕ) → is_passed from (from + 0) place ≡ false
none-passed from None = refl
none-passed from (Some n) = by_tests (nat_lt from n) (nat_le n (from + 0)) refl refl
  where
    by_tests : (b c : Bool) → nat_lt from n ≡ b → nat_le n (from + 0) ≡ c → (b && c) ≡ false
    by_tests true true above below = absurd (omega (arith, ltb-true from n above, leb-true n (from + 0) below))
    by_tests true false above below = refl
    by_tests false c above below = refl

none-met : (from length : ℕ) (traps : List Trap) → first_met (is_passed from (from + 0)) length traps ≡ None
none-met from length [] = refl
none-met from length (t ∷ traps) =
    ap (λ (c : Bool). if c then Some t.name else first_met (is_passed from (from + 0)) length traps) (none-passed from (place_of length t.place))
    ∙ none-met from length traps

-- an eject that puts nothing changes nothing, and springs nothing
quiet-eject : (e : LayoutEvent) (L : Layout) → is_eject (Does e) ≡ true → unput (Does e) L ≡ L → puts (Does e) L ≡ None
    → (with_event (Does e) L ≡ L) × (springs_on_page (Does e) L ≡ None)
quiet-eject e L eject unput none =
    let x : Happening = Does e in
    let from : ℕ = (target x L).place in
    let same : with_event x L ≡ L = ap (λ (p : Option Put). behind_put x p (boxes_put (target x L) p) L) none ∙ unput in
    let boxes : appended x L ≡ [] = ap (boxes_put (target x L)) none in
    let sprung : Layout → List Box → Option ShortName = λ M boxes.
    if M.is_over then None else if not (M.begun == L.begun) then first_met is_on_top M.length M.traps else passed x from (from + length boxes) L in
    let passes : passed x from (from + 0) L ≡ None =
    ap (λ (c : Bool). if c then first_met (is_passed from (from + 0)) L.length L.traps else passed_in L.diversions from (from + 0) L) eject
    ∙ none-met from L.length L.traps in (
      same,
      ap (λ (M : Layout). sprung M (appended x L)) same ∙ ap (λ (bs : List Box). sprung L bs) boxes
          ∙ unsprung L.is_over (L.begun == L.begun) (first_met is_on_top L.length L.traps) (passed x from (from + 0) L) (eq-eqb L.begun L.begun refl) passes,
    )
  where
    unsprung : (over same : Bool) (top here : Option ShortName) → same ≡ true → here ≡ None
        → (if over then None else if not same then top else here) ≡ None
    unsprung true same top here is none = refl
    unsprung false true top here is none = none
    unsprung false false top here is none = absurd (cc)

-- so one of another page
other-page : (begun asked other : ℕ) → Some other ≡ Some asked → begun ≢ asked → (begun == other) ≡ false
other-page begun asked other is differs = ne_eqb begun other (λ same. let asked_one : other ≡ asked = cc in differs (same ∙ asked_one))

pub ejects_of_other_pages_do_nothing : EjectsOfOtherPagesDoNothing
ejects_of_other_pages_do_nothing h (Eject other) asked is differs =
    let L : Layout = layout_of h in
    quiet-eject (Eject other) L refl refl
    (ap (λ (c : Bool). ejected_if (c && not (page_target L).no_space) (page_target L)) (other-page L.begun asked other is differs))
ejects_of_other_pages_do_nothing h (EjectTo other n) asked is differs =
    let L : Layout = layout_of h in
    quiet-eject (EjectTo other n) L refl refl (ap (λ (c : Bool). ejected_if c (page_target L)) (other-page L.begun asked other is differs))
ejects_of_other_pages_do_nothing h (EjectOn other) asked is differs =
    let L : Layout = layout_of h in
    quiet-eject (EjectOn other) L refl refl (ap (λ (c : Bool). ejected_if c (page_target L)) (other-page L.begun asked other is differs))
ejects_of_other_pages_do_nothing h EjectLast asked is differs = absurd (cc)
ejects_of_other_pages_do_nothing h (ListPages first last) asked is differs = absurd (cc)
ejects_of_other_pages_do_nothing h Begin asked is differs = absurd (cc)
ejects_of_other_pages_do_nothing h Close asked is differs = absurd (cc)
ejects_of_other_pages_do_nothing h (Space k) asked is differs = absurd (cc)
ejects_of_other_pages_do_nothing h (Need k) asked is differs = absurd (cc)
ejects_of_other_pages_do_nothing h (Length k) asked is differs = absurd (cc)
ejects_of_other_pages_do_nothing h (Offset k) asked is differs = absurd (cc)
ejects_of_other_pages_do_nothing h (Next n) asked is differs = absurd (cc)
ejects_of_other_pages_do_nothing h (Number n) asked is differs = absurd (cc)
ejects_of_other_pages_do_nothing h (NoSpace on) asked is differs = absurd (cc)
ejects_of_other_pages_do_nothing h (Plant trap) asked is differs = absurd (cc)
ejects_of_other_pages_do_nothing h (Uproot place) asked is differs = absurd (cc)
ejects_of_other_pages_do_nothing h (MoveTrap name place) asked is differs = absurd (cc)
ejects_of_other_pages_do_nothing h (RemoveTrap name) asked is differs = absurd (cc)
ejects_of_other_pages_do_nothing h (DiversionTrap trap) asked is differs = absurd (cc)
ejects_of_other_pages_do_nothing h NoDiversionTrap asked is differs = absurd (cc)
ejects_of_other_pages_do_nothing h (Divert name appends) asked is differs = absurd (cc)
ejects_of_other_pages_do_nothing h EndDivert asked is differs = absurd (cc)
