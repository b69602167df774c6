-- Pages from their beginning to their end.
use Rattle.std.proofs.Common.{◌≡◌, ℕ, zero, suc, ◌+◌, ◌-◌, ◌<◌, ◌≤◌, min, Bool, true, false, not, ◌&&◌, ◌||◌, List, [], ◌∷◌, ◌++◌, length, replicate, Option, Some, None, refl, sym, ◌∙◌, ap, subst, arith, inl, inr, append_assoc, append-nil, if◌then◌else◌, nat_le, is_some, ◌==◌, leb-true, leb-false, eqb-true, length-append}
use Rattle.std.specs.List.{AllByRecursion}
use Rattle.std.proofs.lemmas.Bool.{and_parts, false≢true, cases_lt}
use Rattle.std.proofs.lemmas.List.{length-replicate}
use Rattle.roff_num.specs.declared.short_name.ShortName.{ShortName}
use Rattle.page_model.specs.Layout.{Box, Empty, Layout, page_place}
use Rattle.page_model.specs.declared.layout_event.LayoutEvent.{LayoutEvent}
use Rattle.page_model.specs.declared.layout_event.LayoutEvent.TheVariants.{Begin, Eject, EjectTo, EjectOn, EjectLast, Length, Offset}
use Rattle.page_model.specs.Happenings.{Happening, Does, Places, Titles, is_eject}
use Rattle.page_model.specs.Stops.{Target, next_stop, page_target, target, is_diverted}
use Rattle.page_model.specs.Puts.{Put, boxes_put, puts, appended, ejected_if}
use Rattle.page_model.specs.Turning.{page_begun, turned, turned_if_full, turned_unless, with_boxes, next_behind, unput, without_put, behind_put, with_event}
use Rattle.page_model.specs.Springs.{is_passed, is_on_top, first_met, springs_on_page, goes_on}
use Rattle.page_model.specs.DeviceText.{box_line, device_lines, device_text}
use Rattle.roff_pages.specs.Reach.{texts}
use Rattle.roff_pages.specs.WholePages.{page_boxes, ends_page, boxes_of_page, written_on_page, sizes_behind, page_sizes, keeps_length, keeps_page}
use Rattle.roff_pages.proofs.NextStop.{next_stop-end, next_stop_le, page_put-within, on_the_page, first_met-stop}

-- blank lines have no texts
pub texts-blank : (n : ℕ) (boxes : List Box) → texts (replicate n Empty ++ boxes) ≡ texts boxes
texts-blank zero boxes = refl
texts-blank (suc n) boxes = texts-blank n boxes

-- boxes behind others are written in order
device_lines-append : (offset : ℕ) (front back : List Box) → device_lines offset (front ++ back) ≡ device_lines offset back ++ device_lines offset front
device_lines-append offset [] back = sym (append-nil (device_lines offset back))
device_lines-append offset (b ∷ front) back =
    ap (λ text. text ++ box_line offset b) (device_lines-append offset front back)
    ∙ append_assoc (device_lines offset back) (device_lines offset front) (box_line offset b)

-- what a happening writes of a page that is written is what it puts there
text_by_tests : (diverted listed : Bool) (offset : ℕ) (more boxes : List Box) → listed ≡ true
    → device_lines offset boxes ++ (if diverted || not listed then [] else device_lines offset more)
    ≡ device_lines offset (if diverted then boxes else more ++ boxes)
text_by_tests true listed offset more boxes is_listed = append-nil (device_lines offset boxes)
text_by_tests false true offset more boxes is_listed = sym (device_lines-append offset more boxes)
text_by_tests false false offset more boxes is_listed = absurd (false≢true is_listed)

page_text-step : (x : Happening) (L : Layout) → L.is_listed ≡ true
    → device_lines L.offset L.boxes ++ device_text x L ≡ device_lines L.offset (page_boxes x L)
page_text-step x L listed = text_by_tests (is_diverted x L) L.is_listed L.offset (appended x L) L.boxes listed

-- the page goes on: it has these boxes, and is written as before
record Continues (L M : Layout) (all : List Box) : Type 0 where
  pub boxes : M.boxes ≡ all
  pub offset : M.offset ≡ L.offset
  pub is_listed : M.is_listed ≡ L.is_listed

-- a page that isn't full goes on, and so does one on which nothing is put
turned-not : (diverted full : Bool) (L N : Layout) (boxes : List Box) → (not diverted && full) ≡ false → Continues L N boxes
    → Continues L (if diverted then N else (if full then turned N else N)) boxes
turned-not true full L N boxes e kept = kept
turned-not false true L N boxes e kept = cc
turned-not false false L N boxes e kept = kept

-- a happening that puts nothing leaves the page as it is
unput-event : (e : LayoutEvent) (L : Layout) → keeps_page (Does e) ≡ true → Continues L (without_put e L) L.boxes
unput-event Begin L h = cc
unput-event (Offset k) L h = cc
unput-event (_) L h = record { boxes = refl; offset = refl; is_listed = refl }

unput-continues : (x : Happening) (L : Layout) → keeps_page x ≡ true → Continues L (unput x L) L.boxes
unput-continues (Does e) L h = unput-event e L h
unput-continues (Places line) L h = record { boxes = refl; offset = refl; is_listed = refl }
unput-continues (Titles t) L h = record { boxes = refl; offset = refl; is_listed = refl }

same_boxes : (diverted : Bool) (boxes : List Box) → boxes ≡ (if diverted then boxes else [] ++ boxes)
same_boxes true boxes = refl
same_boxes false boxes = refl

continues_by_put : (x : Happening) (L : Layout) (p : Option Put) (more : List Box) → keeps_page x ≡ true → (p ≡ None → more ≡ [])
    → (is_some p && (not (is_diverted x L) && nat_le L.length (length (if is_diverted x L then L.boxes else more ++ L.boxes)))) ≡ false
    → Continues L (behind_put x p more L) (if is_diverted x L then L.boxes else more ++ L.boxes)
continues_by_put x L None more h none unended =
    let kept = unput-continues x L h in
    record {
      boxes = kept.boxes ∙ (same_boxes (is_diverted x L) L.boxes ∙ ap (λ more. if is_diverted x L then L.boxes else more ++ L.boxes) (sym (none refl)));
      offset = kept.offset;
      is_listed = kept.is_listed;
    }
continues_by_put x L (Some p) more h none unended =
    let N = with_boxes x more (record L { next = next_behind x L.next }) in
    turned-not (is_diverted x L) (nat_le L.length (length N.boxes)) L N N.boxes unended
    (record { boxes = refl; offset = refl; is_listed = refl })

none_appended : (t : Target) (p : Option Put) → p ≡ None → boxes_put t p ≡ []
none_appended t None e = refl
none_appended t (Some p) e = cc

continues : (x : Happening) (L : Layout) → keeps_page x ≡ true → ends_page x L ≡ false → Continues L (with_event x L) (page_boxes x L)
continues x L h unended = continues_by_put x L (puts x L) (appended x L) h (none_appended (target x L) (puts x L)) unended

-- what a page writes is its boxes in order
page_text_by_test : (ended : Bool) (x : Happening) (xs : List Happening) (L : Layout) → L.is_listed ≡ true → keeps_page x ≡ true → ends_page x L ≡ ended
    → ((M : Layout) → M.is_listed ≡ true → device_lines M.offset M.boxes ++ written_on_page xs M ≡ device_lines M.offset (boxes_of_page xs M))
    → device_lines L.offset L.boxes ++ (device_text x L ++ (if ended then [] else written_on_page xs (with_event x L)))
    ≡ device_lines L.offset (if ended then page_boxes x L else boxes_of_page xs (with_event x L))
page_text_by_test true x xs L listed h e later =
    ap (λ text. device_lines L.offset L.boxes ++ text) (append-nil (device_text x L)) ∙ page_text-step x L listed
page_text_by_test false x xs L listed h e later =
    let M = with_event x L in
    let kept = continues x L h e in
    let there : device_lines L.offset M.boxes ++ written_on_page xs M ≡ device_lines L.offset (boxes_of_page xs M) =
    subst (λ (o : ℕ). device_lines o M.boxes ++ written_on_page xs M ≡ device_lines o (boxes_of_page xs M)) kept.offset (later M (kept.is_listed ∙ listed)) in
    sym (append_assoc (device_lines L.offset L.boxes) (device_text x L) (written_on_page xs M))
    ∙ (ap (λ text. text ++ written_on_page xs M) (page_text-step x L listed ∙ ap (device_lines L.offset) (sym kept.boxes)) ∙ there)

pub page_text : (xs : List Happening) (L : Layout) → L.is_listed ≡ true → AllByRecursion (λ x. keeps_page x ≡ true) xs
    → device_lines L.offset L.boxes ++ written_on_page xs L ≡ device_lines L.offset (boxes_of_page xs L)
page_text [] L listed all = append-nil (device_lines L.offset L.boxes)
page_text (x ∷ xs) L listed all = page_text_by_test (ends_page x L) x xs L listed all.0 refl (λ M listed. page_text xs M listed all.1)

-- a page whose end isn't reached is as long behind a happening, and its end isn't reached
record StaysOpen (L M : Layout) : Type 0 where
  pub length : M.length ≡ L.length
  pub unended : page_place M < M.length

-- an event that puts nothing leaves it so
unput-unended : (e : LayoutEvent) (L : Layout) → keeps_length (Does e) ≡ true → page_place L < L.length → StaysOpen L (without_put e L)
unput-unended (Length k) L h before = cc
unput-unended Begin L h before = record { length = refl; unended = omega (arith, before) }
unput-unended (_) L h before = record { length = refl; unended = before }

unput-stays : (x : Happening) (L : Layout) → keeps_length x ≡ true → page_place L < L.length → StaysOpen L (unput x L)
unput-stays (Does e) L h before = unput-unended e L h before
unput-stays (Places line) L h before = record { length = refl; unended = before }
unput-stays (Titles t) L h before = record { length = refl; unended = before }

-- the next page begins, but in the closing phase
turned_by_tests : (full closing : Bool) (L N : Layout) → N.length ≡ L.length → 0 < L.length → nat_le N.length (page_place N) ≡ full → N.is_closing ≡ closing
    → (if full then (if closing then record N { is_over = true } else page_begun N) else N).is_over ≡ false
    → StaysOpen L (if full then (if closing then record N { is_over = true } else page_begun N) else N)
turned_by_tests true true L N same some e c over = cc
turned_by_tests true false L N same some e c over = record { length = same; unended = omega (arith, same) }
turned_by_tests false closing L N same some e c over = record { length = same; unended = leb-false N.length (page_place N) e }

-- what is put in a diversion leaves the page as it is
stays_diverted : (diverted : Bool) (L : Layout) (more : List Box) → diverted ≡ true → page_place L < L.length
    → length (if diverted then L.boxes else more ++ L.boxes) < L.length
stays_diverted true L more e before = before
stays_diverted false L more e before = cc

stays_unless : (diverted : Bool) (L N : Layout) → (diverted ≡ true → StaysOpen L N)
    → ((turned_if_full N).is_over ≡ false → StaysOpen L (turned_if_full N))
    → (turned_unless diverted N).is_over ≡ false → StaysOpen L (turned_unless diverted N)
stays_unless true L N stays turns over = stays refl
stays_unless false L N stays turns over = turns over

stays_by_put : (x : Happening) (L : Layout) (p : Option Put) (more : List Box) → keeps_length x ≡ true → page_place L < L.length
    → (is_some p ≡ true → (behind_put x p more L).is_over ≡ false) → StaysOpen L (behind_put x p more L)
stays_by_put x L None more h before over = unput-stays x L h before
stays_by_put x L (Some p) more h before over =
    let N = with_boxes x more (record L { next = next_behind x L.next }) in
    stays_unless (is_diverted x L) L N (λ e. record { length = refl; unended = stays_diverted (is_diverted x L) L more e before })
    (turned_by_tests (nat_le N.length (page_place N)) N.is_closing L N refl (omega (arith, before)) refl refl) (over refl)

-- before the page's end the next stop lies beyond the place
beyond_by : (L : Layout) → page_place L < L.length → page_place L < next_stop L.length (page_place L) L.traps
beyond_by L before =
    elim (cases_lt (page_place L) (next_stop L.length (page_place L) L.traps)) [
      | inl beyond ↦ beyond
      | inr not_beyond ↦ absurd (omega (arith, next_stop-end L.length (page_place L) L.traps not_beyond))
    ]

-- what ends a page fills it
size_by_test : (x : Happening) (L : Layout) (diverted : Bool) → is_diverted x L ≡ diverted → page_place L < L.length
    → (not diverted && nat_le L.length (length (if diverted then L.boxes else appended x L ++ L.boxes))) ≡ true
    → length (if diverted then L.boxes else appended x L ++ L.boxes) ≡ L.length
size_by_test x L true d before full = cc
size_by_test x L false d before full =
    let stop = next_stop L.length (page_place L) L.traps in
    let beyond : page_place L < stop = beyond_by L before in
    let reach : page_place L + length (appended x L) ≤ stop =
    subst (λ (t : Target). page_place L + length (boxes_put t (puts x L)) ≤ stop) (on_the_page (is_eject x) L.diversions (page_target L) d) (page_put-within L (puts x L) beyond) in
    omega (arith, reach, next_stop_le L.length (page_place L) L.traps, length-append {A = Box} (appended x L) L.boxes, leb-true L.length (length (appended x L ++ L.boxes)) full)

-- the page that ends is full
ended_size : (x : Happening) (L : Layout) → page_place L < L.length → ends_page x L ≡ true → length (page_boxes x L) ≡ L.length
ended_size x L before ended =
    size_by_test x L (is_diverted x L) refl before
    (and_parts (is_some (puts x L)) (not (is_diverted x L) && nat_le L.length (length (page_boxes x L))) ended).1

sizes_on : (ended : Bool) (x : Happening) (L : Layout) → page_place L < L.length → ends_page x L ≡ ended → (rest : List ℕ)
    → AllByRecursion (λ n. n ≡ L.length) rest → AllByRecursion (λ n. n ≡ L.length) (sizes_behind ended false (length (page_boxes x L)) rest)
sizes_on true x L before e rest all = (ended_size x L before e, all)
sizes_on false x L before e rest all = all

sizes_over : (ended : Bool) (x : Happening) (L : Layout) → page_place L < L.length → ends_page x L ≡ ended → (rest : List ℕ)
    → AllByRecursion (λ n. n ≡ L.length) (sizes_behind ended true (length (page_boxes x L)) rest)
sizes_over true x L before e rest = (ended_size x L before e, tt)
sizes_over false x L before e rest = tt

-- all pages that end are full
sizes_by_tests : (ended over : Bool) (x : Happening) (xs : List Happening) (L : Layout) → page_place L < L.length → keeps_length x ≡ true
    → ends_page x L ≡ ended → (with_event x L).is_over ≡ over
    → ((M : Layout) → page_place M < M.length → AllByRecursion (λ n. n ≡ M.length) (page_sizes xs M))
    → AllByRecursion (λ n. n ≡ L.length) (sizes_behind ended over (length (page_boxes x L)) (page_sizes xs (with_event x L)))
sizes_by_tests ended true x xs L before h e o later = sizes_over ended x L before e (page_sizes xs (with_event x L))
sizes_by_tests ended false x xs L before h e o later =
    let M = with_event x L in
    let kept = stays_by_put x L (puts x L) (appended x L) h before (λ some. o) in
    let rest : AllByRecursion (λ n. n ≡ L.length) (page_sizes xs M) =
    subst (λ (k : ℕ). AllByRecursion (λ n. n ≡ k) (page_sizes xs M)) kept.length (later M kept.unended) in
    sizes_on ended x L before e (page_sizes xs M) rest

pub all_full : (xs : List Happening) (L : Layout) → page_place L < L.length → AllByRecursion (λ x. keeps_length x ≡ true) xs
    → AllByRecursion (λ n. n ≡ L.length) (page_sizes xs L)
all_full [] L before all = tt
all_full (x ∷ xs) L before all =
    sizes_by_tests (ends_page x L) (with_event x L).is_over x xs L before all.0 refl refl (λ M before. all_full xs M before all.1)

-- A page that is ejected and hasn't ended has come to a trap. Of what its eject makes: the layout, and what springs.
abbrev WaitsIf : Happening → Bool → Layout → Type 0
WaitsIf x asked L =
    let p = ejected_if asked (page_target L) in
    let boxes = boxes_put (page_target L) p in
    let M = behind_put x p boxes L in
    (is_some p && (M.begun == L.begun && not M.is_over)) ≡ true
    → is_some (if M.is_over then None else if not (M.begun == L.begun) then first_met is_on_top M.length M.traps else first_met (is_passed (page_place L) (page_place L + length boxes)) L.length L.traps) ≡ true

-- what springs where the page hasn't ended, nor the layout
chosen : (over same : Bool) (on_top here : Option ShortName) → same ≡ true → not over ≡ true → is_some here ≡ true
    → is_some (if over then None else if not same then on_top else here) ≡ true
chosen true same on_top here s o met = cc
chosen false false on_top here s o met = cc
chosen false true on_top here s o met = met

waits_full : (full closing : Bool) (L N : Layout) (on_top here : Option ShortName) → N.begun ≡ L.begun → (full ≡ false → is_some here ≡ true)
    → ((if full then (if closing then record N { is_over = true } else page_begun N) else N).begun == L.begun
    && not (if full then (if closing then record N { is_over = true } else page_begun N) else N).is_over) ≡ true
    → is_some (if (if full then (if closing then record N { is_over = true } else page_begun N) else N).is_over then None
    else if not ((if full then (if closing then record N { is_over = true } else page_begun N) else N).begun == L.begun) then on_top else here) ≡ true
waits_full true true L N on_top here b met h = absurd (false≢true (and_parts (N.begun == L.begun) false h).1)
waits_full true false L N on_top here b met h =
    absurd (omega (arith, b, eqb-true (N.begun + 1) L.begun (and_parts (N.begun + 1 == L.begun) (not N.is_over) h).0))
waits_full false closing L N on_top here b met h =
    let parts = and_parts (N.begun == L.begun) (not N.is_over) h in
    chosen N.is_over (N.begun == L.begun) on_top here parts.0 parts.1 (met refl)

-- the trap that a page comes to that isn't full then
waits_here : (L : Layout)
    → let way = next_stop L.length (page_place L) L.traps - page_place L in
    let boxes : List Box = replicate (min way way) Empty in
    nat_le L.length (length (boxes ++ L.boxes)) ≡ false
    → is_some (first_met (is_passed (page_place L) (page_place L + length boxes)) L.length L.traps) ≡ true
waits_here L unended =
    let stop = next_stop L.length (page_place L) L.traps in
    let way = stop - page_place L in
    let boxes : List Box = replicate (min way way) Empty in
    let size : length boxes ≡ min way way = length-replicate {A = Box} (min way way) Empty in
    let below : length (boxes ++ L.boxes) < L.length = leb-false L.length (length (boxes ++ L.boxes)) unended in
    let whole : length (boxes ++ L.boxes) ≡ length boxes + length L.boxes = length-append {A = Box} boxes L.boxes in
    let beyond : page_place L < stop = beyond_by L (omega arith) in
    first_met-stop L.length (page_place L) (page_place L + length boxes) L.traps (omega arith) (omega arith)

-- an eject that puts nothing doesn't go on
waits_if : (x : Happening) (asked : Bool) (L : Layout) → WaitsIf x true L → WaitsIf x asked L
waits_if x true L waits = waits
waits_if x false L waits = λ h. cc

-- each eject waits
event_waits : (e : LayoutEvent) (L : Layout) → goes_on (Does e) L ≡ true → is_some (springs_on_page (Does e) L) ≡ true
event_waits (Eject asked) L h =
    let x = Does (Eject asked) in
    let N : Layout = with_boxes x (boxes_put (page_target L) (ejected_if true (page_target L))) (record L { next = next_behind x L.next }) in
    waits_if x (L.begun == asked && not L.no_space) L
    (waits_full (nat_le L.length (length N.boxes)) L.is_closing L N _ _ refl (waits_here L)) h
event_waits (EjectTo asked number) L h =
    let x = Does (EjectTo asked number) in
    let N : Layout = with_boxes x (boxes_put (page_target L) (ejected_if true (page_target L))) (record L { next = next_behind x L.next }) in
    waits_if x (L.begun == asked) L
    (waits_full (nat_le L.length (length N.boxes)) L.is_closing L N _ _ refl (waits_here L)) h
event_waits (EjectOn asked) L h =
    let x = Does (EjectOn asked) in
    let N : Layout = with_boxes x (boxes_put (page_target L) (ejected_if true (page_target L))) (record L { next = next_behind x L.next }) in
    waits_if x (L.begun == asked) L
    (waits_full (nat_le L.length (length N.boxes)) L.is_closing L N _ _ refl (waits_here L)) h
event_waits EjectLast L h =
    let x = Does EjectLast in
    let N : Layout = with_boxes x (boxes_put (page_target L) (ejected_if true (page_target L))) (record L { next = next_behind x L.next }) in
    waits_if x (not (L.begun == 0) && not (page_place L == 0)) L
    (waits_full (nat_le L.length (length N.boxes)) L.is_closing L N _ _ refl (waits_here L)) h
event_waits (_) L h = cc

pub waits : (x : Happening) (L : Layout) → goes_on x L ≡ true → is_some (springs_on_page x L) ≡ true
waits (Does e) L h = event_waits e L h
waits (Places line) L h = cc
waits (Titles t) L h = cc
