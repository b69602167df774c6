-- Ejects that go on behind a macro that they spring: those whose page hasn't ended.
use Rattle.std.proofs.Common.{◌≡◌, ℕ, ◌+◌, ◌<◌, Bool, true, false, not, ◌&&◌, List, [], ◌∷◌, ◌++◌, length, Option, Some, None, Result, Ok, Err, refl, sym, ◌∙◌, ap, arith, if◌then◌else◌, ◌==◌, is_some, nat_le, nat_lt, eq-eqb, leb-true, ltb-true, ne_eqb, length-append}
use Rattle.std.proofs.lemmas.Bool.{and_parts}
use Rattle.roff_num.specs.declared.short_name.ShortName.{ShortName}
use Rattle.page_model.specs.Happenings.{Happening, Does, is_eject_event}
use Rattle.page_model.specs.Layout.{Box, Layout, page_place}
use Rattle.page_model.specs.Puts.{boxes_put, ejected_if, puts}
use Rattle.page_model.specs.Queries.{nl}
use Rattle.page_model.specs.Springs.{first_met, goes_on, is_on_top, is_passed, springs_on_page}
use Rattle.page_model.specs.Stops.{page_target, place_of}
use Rattle.page_model.specs.Turning.{behind_put, next_behind, page_begun, with_boxes, with_event}
use Rattle.page_model.specs.declared.layout_event.LayoutEvent.{LayoutEvent}
use Rattle.page_model.specs.declared.layout_event.LayoutEvent.TheVariants.{Eject, EjectTo, EjectOn, EjectLast}
use Rattle.page_model.specs.declared.trap.Trap.{Trap}
use Rattle.roff_pages.proofs.WholePages.{waits}
use Rattle.run_model.specs.Springs.{left_if}
use Rattle.run_events.specs.declared.halt.Halt.{Halt}
use Rattle.run_events.specs.declared.sprung.Sprung.{Sprung}
use Rattle.run_events.specs.Formatter.Paging.{ejects_still}
use Rattle.run_events.specs.Formatter.Setting.{may_put}
use Rattle.run_events.specs.Formatter.Sprung.{left_going_on}

-- where nothing sprang nothing goes on
pub nothing_left : (e : LayoutEvent) (L : Layout) → springs_on_page (Does e) L ≡ None → left_if (goes_on (Does e) L) e ≡ []
nothing_left e L none = by (goes_on (Does e) L) refl
  where
    by : (b : Bool) → goes_on (Does e) L ≡ b → left_if b e ≡ []
    by false is = refl
    by true is = absurd (let some = waits (Does e) L is in let wrong = ap (λ (o : Option ShortName). is_some o) none in cc)

-- what is no eject doesn't go on
pub not_left : (e : LayoutEvent) (L : Layout) → is_eject_event e ≡ false → left_if (goes_on (Does e) L) e ≡ []
not_left e L alone =
    let behind : Layout = with_event (Does e) L in
    ap (λ (b : Bool). left_if (b && (is_some (puts (Does e) L) && ((behind.begun == L.begun) && not behind.is_over))) e) alone

-- a trap that was passed lies beyond the place
passed-beyond : (from to : ℕ) (place : Option ℕ) → is_passed from to place ≡ true → from < to
passed-beyond from to None is = absurd (cc)
passed-beyond from to (Some place) is =
    let parts = and_parts (nat_lt from place) (nat_le place to) is in omega (arith, ltb-true from place parts.0, leb-true place to parts.1)

met-beyond : (from to length : ℕ) (traps : List Trap) (name : ShortName) → first_met (is_passed from to) length traps ≡ Some name → from < to
met-beyond from to length [] name met = absurd (cc)
met-beyond from to length (t ∷ traps) name met = by (is_passed from to (place_of length t.place)) refl met (λ met. met-beyond from to length traps name met)
  where
    by : (b : Bool) → is_passed from to (place_of length t.place) ≡ b → (if b then Some t.name else first_met (is_passed from to) length traps) ≡ Some name
        → (first_met (is_passed from to) length traps ≡ Some name → from < to) → from < to
    by true is met others = passed-beyond from to (place_of length t.place) is
    by false is met others = others met

-- what springs where no page begins
here-still : (over same top : Bool) (on_top here : Option ShortName) (name : ShortName) → same ≡ true → (here ≡ Some name → top ≡ false)
    → (if over then None else if not same then on_top else here) ≡ Some name → (same && not over) ≡ not top
here-still true same top on_top here name is below sprang = absurd (cc)
here-still false false top on_top here name is below sprang = absurd (cc)
here-still false true top on_top here name is below sprang = ap not (sym (below sprang))

-- a place that isn't at a page's top
below-top : (none : Bool) (place : ℕ) → (place ≡ 0 → ⊥) → is_on_top (if none then None else Some place) ≡ false
below-top true place below = refl
below-top false place below = ne_eqb place 0 below

-- an eject that put its lines goes on where no page began: that begins at its top
still_full : (full closing : Bool) (L N : Layout) (on_top here : Option ShortName) (name : ShortName) → N.begun ≡ L.begun
    → (here ≡ Some name → length N.boxes ≡ 0 → ⊥)
    → let M : Layout = if full then (if closing then record N { is_over = true } else page_begun N) else N in
    (if M.is_over then None else if not (M.begun == L.begun) then on_top else here) ≡ Some name
    → (M.begun == L.begun && not M.is_over) ≡ not (is_on_top (nl M))
still_full true true L N on_top here name same below sprang = absurd (cc)
still_full true false L N on_top here name same below sprang =
    let other : (N.begun + 1 == L.begun) ≡ false = ne_eqb (N.begun + 1) L.begun (λ is. omega (arith, is, same)) in
    let some : (N.begun + 1 == 0) ≡ false = ne_eqb (N.begun + 1) 0 (λ is. omega (arith, is)) in
    ap (λ (b : Bool). b && not N.is_over) other ∙ ap (λ (b : Bool). not (is_on_top (if b then None else Some 0))) (sym some)
still_full false closing L N on_top here name same below sprang =
    here-still N.is_over (N.begun == L.begun) (is_on_top (nl N)) on_top here name (eq-eqb N.begun L.begun same)
    (λ met. below-top (N.begun == 0) (length N.boxes) (below met)) sprang

-- where a trap was passed lines were put
below_here : (L : Layout) (boxes : List Box) (name : ShortName)
    → first_met (is_passed (page_place L) (page_place L + length boxes)) L.length L.traps ≡ Some name → length (boxes ++ L.boxes) ≡ 0 → ⊥
below_here L boxes name met none =
    omega (arith, met-beyond (page_place L) (page_place L + length boxes) L.length L.traps name met, length-append {A = Box} boxes L.boxes, none)

-- where none were, none is passed
none_here : (over same : Bool) (place length : ℕ) (traps : List Trap) (on_top : Option ShortName) (name : ShortName) → same ≡ true
    → (if over then None else if not same then on_top else first_met (is_passed place (place + 0)) length traps) ≡ Some name → ⊥
none_here true same place length traps on_top name is sprang = (cc)
none_here false false place length traps on_top name is sprang = (cc)
none_here false true place length traps on_top name is sprang = omega (arith, met-beyond place (place + 0) length traps name sprang)

-- An eject goes on exactly where its page hasn't ended. Of what it makes, told whether it puts something: the layout, and what
-- springs.
abbrev StillIf : Happening → Bool → Layout → ShortName → Type 0
StillIf x asked L name =
    let p = ejected_if asked (page_target L) in
    let boxes = boxes_put (page_target L) p in
    let M = behind_put x p boxes L in
    (if M.is_over then None else if not (M.begun == L.begun) then first_met is_on_top M.length M.traps else first_met (is_passed (page_place L) (page_place L + length boxes)) L.length L.traps) ≡ Some name
    → (is_some p && (M.begun == L.begun && not M.is_over)) ≡ not (is_on_top (nl M))

still_if : (x : Happening) (asked : Bool) (L : Layout) (name : ShortName) → StillIf x true L name → StillIf x false L name → StillIf x asked L name
still_if x true L name puts none = puts
still_if x false L name puts none = none

-- an event that sprang something goes on exactly where it is an eject, and the page that it ejects hasn't ended
pub goes-still : (e : LayoutEvent) (L : Layout) (name : ShortName) → springs_on_page (Does e) L ≡ Some name → goes_on (Does e) L ≡ ejects_still e (with_event (Does e) L)
goes-still (Eject asked) L name is =
    let x = Does (Eject asked) in
    let boxes : List Box = boxes_put (page_target L) (ejected_if true (page_target L)) in
    let N : Layout = with_boxes x boxes (record L { next = next_behind x L.next }) in
    still_if x (L.begun == asked && not L.no_space) L name
    (still_full (nat_le L.length (length N.boxes)) L.is_closing L N _ _ name refl (below_here L boxes name))
    (λ is. absurd (none_here L.is_over (L.begun == L.begun) (page_place L) L.length L.traps _ name (eq-eqb L.begun L.begun refl) is)) is
goes-still (EjectTo asked number) L name is =
    let x = Does (EjectTo asked number) in
    let boxes : List Box = boxes_put (page_target L) (ejected_if true (page_target L)) in
    let N : Layout = with_boxes x boxes (record L { next = next_behind x L.next }) in
    still_if x (L.begun == asked) L name
    (still_full (nat_le L.length (length N.boxes)) L.is_closing L N _ _ name refl (below_here L boxes name))
    (λ is. absurd (none_here L.is_over (L.begun == L.begun) (page_place L) L.length L.traps _ name (eq-eqb L.begun L.begun refl) is)) is
goes-still (EjectOn asked) L name is =
    let x = Does (EjectOn asked) in
    let boxes : List Box = boxes_put (page_target L) (ejected_if true (page_target L)) in
    let N : Layout = with_boxes x boxes (record L { next = next_behind x L.next }) in
    still_if x (L.begun == asked) L name
    (still_full (nat_le L.length (length N.boxes)) L.is_closing L N _ _ name refl (below_here L boxes name))
    (λ is. absurd (none_here L.is_over (L.begun == L.begun) (page_place L) L.length L.traps _ name (eq-eqb L.begun L.begun refl) is)) is
goes-still EjectLast L name is =
    let x = Does EjectLast in
    let boxes : List Box = boxes_put (page_target L) (ejected_if true (page_target L)) in
    let N : Layout = with_boxes x boxes (record L { next = next_behind x L.next }) in
    still_if x (not (L.begun == 0) && not (page_place L == 0)) L name
    (still_full (nat_le L.length (length N.boxes)) L.is_closing L N _ _ name refl (below_here L boxes name))
    (λ is. absurd (cc)) is
goes-still (_) L name is = refl

-- what puts nothing doesn't go on
pub sets-end : (e : LayoutEvent) (L : Layout) → may_put e ≡ false → goes_on (Does e) L ≡ false
sets-end (Eject asked) L is = absurd (cc)
sets-end (EjectTo asked number) L is = absurd (cc)
sets-end (EjectOn asked) L is = absurd (cc)
sets-end EjectLast L is = absurd (cc)
sets-end (_) L is = refl

-- and what doesn't go on stays
pub going-not : (r : Result (Option Sprung) Halt) → left_going_on false r ≡ r
going-not (Ok None) = refl
going-not (Ok (Some sprung)) = refl
going-not (Err halt) = refl
