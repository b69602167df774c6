-- Pages that stand for a layout, behind a change.
use Rattle.std.proofs.Common.{◌≡◌, ℕ, ◌+◌, ◌<◌, ◌≤◌, min, Bool, true, false, List, ◌++◌, length, Option, None, refl, sym, ap, ◌∙◌, subst, arith, nat_le, ◌^◌, if◌then◌else◌, le-leb, eq-eqb, ne_eqb, length-append}
use Rattle.std.proofs.lemmas.Bool.{lt-leb}
use Rattle.roff_num.specs.declared.short_name.ShortName.{ShortName}
use Rattle.page_model.specs.Layout.{Box, Layout, page_place}
use Rattle.page_model.specs.Turning.{page_begun, turned, turned_if_full}
use Rattle.page_model.specs.Stops.{next_stop}
use Rattle.page_model.specs.Springs.{first_met, is_on_top, is_passed}
use Rattle.roff_pages.specs.Pages.Kept.{Kept}
use Rattle.roff_pages.specs.Pages.Stands.{StandsAs}
use Rattle.roff_pages.specs.Pages.Advancing.{sprung_by, sprung_on, with_lines}
use Rattle.roff_pages.proofs.NextStop.{first_met-none, next_stop_le}

-- with more lines on the page
pub with_more : (L : Layout) (boxes : List Box) (k new : Kept) (place : ℕ) → StandsAs L k → place ≡ min (page_place L + length boxes) (2 ^ 33)
    → length (boxes ++ L.boxes) ≡ page_place L + length boxes → record k { place = place } ≡ new → StandsAs (with_lines boxes L) new
with_more L boxes k new place s is whole made =
    subst (λ (k : Kept). StandsAs (with_lines boxes L) k) made (record {
      ranges = s.ranges;
      next = s.next;
      begun = s.begun;
      number = s.number;
      length = s.length;
      offset = s.offset;
      previous_offset = s.previous_offset;
      traps = s.traps;
      place = is ∙ ap (λ n. min n (2 ^ 33)) (sym whole);
      is_listed = s.is_listed;
      no_space = s.no_space;
      diversions = s.diversions;
      height = s.height;
      width = s.width;
      is_closing = s.is_closing;
      is_over = s.is_over;
    })

-- a page that isn't full goes on, and one that is ends
pub not_full : (L : Layout) → nat_le L.length (page_place L) ≡ false → turned_if_full L ≡ L
not_full L e = rw e refl

pub full : (L : Layout) → nat_le L.length (page_place L) ≡ true → turned_if_full L ≡ turned L
full L e = rw e refl

-- how many boxes stand on the page then
whole_of : (L : Layout) (boxes : List Box) → length (boxes ++ L.boxes) ≡ page_place L + length boxes
whole_of L boxes = omega (arith, length-append {A = Box} boxes L.boxes)

-- lines that don't reach the next stop: the page goes on, and nothing is sprung
pub goes_on_standing : (L : Layout) (boxes : List Box) (k new : Kept) (place : ℕ) → StandsAs L k → k.length < 2 ^ 32
    → place ≡ min (k.place + length boxes) (2 ^ 33) → place < k.length → record k { place = place } ≡ new
    → StandsAs (turned_if_full (with_lines boxes L)) new
goes_on_standing L boxes k new place s short is before made =
    let whole = whole_of L boxes in
    let N = with_lines boxes L in
    let there : k.place ≡ min (page_place L) (2 ^ 33) = s.place in
    let below : length (boxes ++ L.boxes) < L.length = omega (arith, s.length) in
    subst (λ (M : Layout). StandsAs M new) (sym (not_full N (lt-leb L.length (length (boxes ++ L.boxes)) below)))
    (with_more L boxes k new place s (omega arith) whole made)

none_either : (over : Bool) → let none : Option ShortName = None in none ≡ (if over then none else none)
none_either true = refl
none_either false = refl

sprung_here : (L M : Layout) (from to : ℕ) (over : Bool) → M.is_over ≡ over → M.begun ≡ L.begun
    → (if over then None else first_met (is_passed from to) L.length L.traps) ≡ sprung_on L M from to
sprung_here L M from to true o b = rw o refl
sprung_here L M from to false o b = rw (o, eq-eqb M.begun L.begun b) refl

pub none_sprung : (L : Layout) (boxes : List Box) (k : Kept) (place : ℕ) → StandsAs L k → k.length < 2 ^ 32
    → place ≡ min (k.place + length boxes) (2 ^ 33) → place < next_stop k.length k.place k.traps → None ≡ sprung_by boxes L
none_sprung L boxes k place s short is before =
    let whole = whole_of L boxes in
    let N = with_lines boxes L in
    let there : k.place ≡ min (page_place L) (2 ^ 33) = s.place in
    let last = next_stop_le k.length k.place k.traps in
    let exact : k.place ≡ page_place L = omega arith in
    let below : length (boxes ++ L.boxes) < L.length = omega (arith, s.length) in
    let stop : next_stop k.length k.place k.traps ≡ next_stop L.length (page_place L) L.traps = rw (s.length, exact, s.traps) refl in
    let none : first_met (is_passed (page_place L) (page_place L + length boxes)) L.length L.traps ≡ None =
    first_met-none L.length (page_place L) (page_place L + length boxes) L.traps (omega arith) in
    let over : None ≡ (if L.is_over then None else first_met (is_passed (page_place L) (page_place L + length boxes)) L.length L.traps) =
    rw none (none_either L.is_over) in
    over ∙ (sprung_here L N (page_place L) (page_place L + length boxes) L.is_over refl refl
    ∙ ap (λ (M : Layout). sprung_on L M (page_place L) (page_place L + length boxes)) (sym (not_full N (lt-leb L.length (length (boxes ++ L.boxes)) below))))

-- lines that reach the page's end
is_full : (L : Layout) (boxes : List Box) (k : Kept) (place : ℕ) → StandsAs L k → place ≡ min (k.place + length boxes) (2 ^ 33) → k.length ≤ place
    → nat_le L.length (length (boxes ++ L.boxes)) ≡ true
is_full L boxes k place s is beyond =
    let whole = whole_of L boxes in
    let there : k.place ≡ min (page_place L) (2 ^ 33) = s.place in
    le-leb L.length (length (boxes ++ L.boxes)) (omega (arith, s.length))

pub turns_standing : (L : Layout) (boxes : List Box) (k now new : Kept) (place : ℕ) → StandsAs L k → place ≡ min (k.place + length boxes) (2 ^ 33) → k.length ≤ place
    → record k { place = place } ≡ now → ((N : Layout) → StandsAs N now → StandsAs (turned N) new) → StandsAs (turned_if_full (with_lines boxes L)) new
turns_standing L boxes k now new place s is beyond made turns =
    let there : k.place ≡ min (page_place L) (2 ^ 33) = s.place in
    subst (λ (M : Layout). StandsAs M new) (sym (full (with_lines boxes L) (is_full L boxes k place s is beyond)))
    (turns (with_lines boxes L) (with_more L boxes k now place s (omega arith) (whole_of L boxes) made))

sprung_turned : (closing : Bool) (L N : Layout) (from to : ℕ) → N.begun ≡ L.begun
    → (if (if closing then record N { is_over = true } else page_begun N).is_over then None else first_met is_on_top N.length N.traps)
    ≡ sprung_on L (if closing then record N { is_over = true } else page_begun N) from to
sprung_turned true L N from to b = refl
sprung_turned false L N from to b = rw (ne_eqb (N.begun + 1) L.begun (λ e. absurd (omega (arith, e, b)))) refl

pub turn_sprung : (L : Layout) (boxes : List Box) (k now : Kept) (place : ℕ) (r : Option ShortName) → StandsAs L k → place ≡ min (k.place + length boxes) (2 ^ 33) → k.length ≤ place
    → record k { place = place } ≡ now
    → ((N : Layout) → StandsAs N now → r ≡ (if (turned N).is_over then None else first_met is_on_top N.length N.traps)) → r ≡ sprung_by boxes L
turn_sprung L boxes k now place r s is beyond made turns =
    let there : k.place ≡ min (page_place L) (2 ^ 33) = s.place in
    let N = with_lines boxes L in
    turns N (with_more L boxes k now place s (omega arith) (whole_of L boxes) made)
    ∙ (sprung_turned N.is_closing L N (page_place L) (page_place L + length boxes) refl
    ∙ ap (λ (M : Layout). sprung_on L M (page_place L) (page_place L + length boxes)) (sym (full N (is_full L boxes k place s is beyond))))

-- lines that reach a trap
pub trap_sprung : (L : Layout) (boxes : List Box) (k : Kept) (place : ℕ) (r : Option ShortName) → StandsAs L k → k.length < 2 ^ 32
    → place ≡ min (k.place + length boxes) (2 ^ 33) → place < k.length
    → r ≡ (if k.is_over then None else first_met (is_passed k.place place) k.length k.traps) → r ≡ sprung_by boxes L
trap_sprung L boxes k place r s short is before answer =
    let whole = whole_of L boxes in
    let N = with_lines boxes L in
    let there : k.place ≡ min (page_place L) (2 ^ 33) = s.place in
    let exact : k.place ≡ page_place L = omega arith in
    let reach : place ≡ page_place L + length boxes = omega arith in
    let below : length (boxes ++ L.boxes) < L.length = omega (arith, s.length) in
    let same : (if k.is_over then None else first_met (is_passed k.place place) k.length k.traps)
    ≡ (if L.is_over then None else first_met (is_passed (page_place L) (page_place L + length boxes)) L.length L.traps) =
    rw (s.is_over, s.length, exact, reach, s.traps) refl in
    answer ∙ (same ∙ (sprung_here L N (page_place L) (page_place L + length boxes) L.is_over refl refl
    ∙ ap (λ (M : Layout). sprung_on L M (page_place L) (page_place L + length boxes)) (sym (not_full N (lt-leb L.length (length (boxes ++ L.boxes)) below)))))
