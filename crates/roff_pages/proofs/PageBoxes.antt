-- Boxes that are put on a page, or nothing.
use Rattle.std.proofs.Common.{◌≡◌, ℕ, zero, suc, ◌+◌, ◌≤◌, Bool, true, false, not, ◌||◌, List, [], ◌∷◌, ◌++◌, length, replicate, Option, Some, None, Result, Ok, Err, refl, sym, ap, ◌∙◌, subst, arith, append_assoc, append-nil, inl, inr, if◌then◌else◌, ◌==◌, nat_le, nat_lt, eq-eqb, le-ltb}
use Rattle.std.proofs.lemmas.Bool.{cases_lt, lt-leb, and_left, and_right}
use Rattle.roff_num.specs.declared.num.Num.{Num}
use Rattle.roff_num.specs.declared.short_name.ShortName.{ShortName}
use Rattle.page_model.specs.Words.{is_empty}
use Rattle.page_model.specs.declared.trap.Trap.{Trap}
use Rattle.page_bytes.specs.declared.page_fault.PageFault.{PageFault}
use Rattle.page_bytes.specs.Sinks.{Sunk}
use Rattle.page_model.specs.Layout.{Box, Empty, Layout, Diversion, page_place}
use Rattle.page_model.specs.Happenings.{Happening, is_eject}
use Rattle.page_model.specs.Stops.{Target, is_diverted, page_target, place_of, target}
use Rattle.page_model.specs.Puts.{Put, appended, boxes_put, puts}
use Rattle.page_model.specs.Turning.{behind_put, in_innermost, next_behind, no_space_behind, turned_if_full, turned_unless, unput, with_boxes, with_event, with_put}
use Rattle.page_model.specs.Springs.{first_met, is_on_top, is_passed, passed, passed_in, springs_on_page}
use Rattle.page_model.specs.DeviceText.{box_line, device_lines, device_text}
use Rattle.page_model.proofs.DeviceText.{either_none}
use Rattle.roff_pages.specs.Pages.Kept.{Kept}
use Rattle.roff_pages.specs.Pages.Stands.{StandsAs, SameLimits}
use Rattle.roff_pages.specs.Pages.Advancing.{sprung_by, with_lines}
use Rattle.roff_pages.specs.Pages.Printing.{Boxed, BoxedTo, DidTo, IsUnprinted, Printed, if_listed}
use Rattle.page_bytes.proofs.Appending.{Writes-nothing}

-- blank lines are written as newlines
newline_behind : (n : ℕ) → replicate n 10 ++ 10 ∷ [] ≡ replicate {A = ℕ} (suc n) 10
newline_behind zero = refl
newline_behind (suc n) = ap (λ text. 10 ∷ text) (newline_behind n)

pub device_lines-blank : (offset n : ℕ) → device_lines offset (replicate n Empty) ≡ replicate n 10
device_lines-blank offset zero = refl
device_lines-blank offset (suc n) = ap (λ text. text ++ 10 ∷ []) (device_lines-blank offset n) ∙ newline_behind n

-- a box with blank lines behind it
pub device_lines-behind : (offset n : ℕ) (box : Box) → device_lines offset (replicate n Empty ++ box ∷ []) ≡ box_line offset box ++ replicate n 10
device_lines-behind offset zero box = sym (append-nil (box_line offset box))
device_lines-behind offset (suc n) box =
    ap (λ text. text ++ 10 ∷ []) (device_lines-behind offset n box)
    ∙ (append_assoc (box_line offset box) (replicate n 10) (10 ∷ []) ∙ ap (λ text. box_line offset box ++ text) (newline_behind n))

-- a happening puts these boxes on the page: behind it the next page gets this number, and no-space mode is so
pub record PutsBoxes (x : Happening) (L : Layout) (boxes : List Box) (next : Option Num) (mode : Bool) : Type 0 where
  pub put : Put
  pub puts_is : puts x L ≡ Some put
  pub target_is : target x L ≡ page_target L
  pub on_page : is_diverted x L ≡ false
  pub boxes_are : boxes_put (page_target L) (Some put) ≡ boxes
  pub next_is : next_behind x L.next ≡ next
  pub mode_is : no_space_behind (is_eject x) boxes L.no_space ≡ mode

appended_boxes : (x : Happening) (L : Layout) (boxes : List Box) (next : Option Num) (mode : Bool) → PutsBoxes x L boxes next mode → appended x L ≡ boxes
appended_boxes x L boxes next mode p =
    ap (λ (t : Target). boxes_put t (puts x L)) p.target_is
    ∙ (ap (λ (q : Option Put). boxes_put (page_target L) q) p.puts_is ∙ p.boxes_are)

onto_page : (d e : Bool) (next_then next : Option Num) (mode : Bool) (boxes : List Box) (L : Layout) → d ≡ false → next_then ≡ next
    → no_space_behind e boxes L.no_space ≡ mode
    → record L {
      next = next_then;
      boxes = if d then L.boxes else boxes ++ L.boxes;
      no_space = if d then L.no_space else no_space_behind e boxes L.no_space;
      diversions = if d then in_innermost boxes L.diversions else L.diversions;
    } ≡ with_lines boxes (record L { next = next; no_space = mode })
onto_page true e next_then next mode boxes L d n m = cc
onto_page false e next_then next mode boxes L d n m =
    ap (λ (next : Option Num). record L { next = next; boxes = boxes ++ L.boxes; no_space = no_space_behind e boxes L.no_space }) n
    ∙ ap (λ (on : Bool). record L { next = next; boxes = boxes ++ L.boxes; no_space = on }) m

with_boxes_put : (x : Happening) (L : Layout) (boxes : List Box) (next : Option Num) (mode : Bool) → PutsBoxes x L boxes next mode
    → with_event x L ≡ turned_if_full (with_lines boxes (record L { next = next; no_space = mode }))
with_boxes_put x L boxes next mode p =
    ap (λ (q : Option Put). behind_put x q (appended x L) L) p.puts_is
    ∙ (ap (λ (boxes : List Box). with_put x boxes L) (appended_boxes x L boxes next mode p)
    ∙ (ap (λ (diverted : Bool). turned_unless diverted (with_boxes x boxes (record L { next = next_behind x L.next }))) p.on_page
    ∙ ap turned_if_full (onto_page (is_diverted x L) (is_eject x) (next_behind x L.next) next mode boxes L p.on_page p.next_is p.mode_is)))

passed_on_page : (e : Bool) (ds : List Diversion) (from to : ℕ) (L : Layout) → not (e || is_empty ds) ≡ false
    → (if e then first_met (is_passed from to) L.length L.traps else passed_in ds from to L) ≡ first_met (is_passed from to) L.length L.traps
passed_on_page true ds from to L h = refl
passed_on_page false [] from to L h = refl
passed_on_page false (d ∷ ds) from to L h = cc

-- what springs, told the layout behind, the place and the boxes
abbrev pub sprung_with : Happening → Layout → Layout → ℕ → List Box → Option ShortName
sprung_with x L M from boxes =
    if M.is_over then None
    else if not (M.begun == L.begun) then first_met is_on_top M.length M.traps
    else passed x from (from + length boxes) L

springs_boxes : (x : Happening) (L : Layout) (boxes : List Box) (next : Option Num) (mode : Bool) → PutsBoxes x L boxes next mode
    → springs_on_page x L ≡ sprung_by boxes (record L { next = next; no_space = mode })
springs_boxes x L boxes next mode p =
    let M : Layout = turned_if_full (with_lines boxes (record L { next = next; no_space = mode })) in
    let P = page_place L in
    ap (λ (M : Layout). sprung_with x L M (target x L).place (appended x L)) (with_boxes_put x L boxes next mode p)
    ∙ (ap (λ (t : Target). sprung_with x L M t.place (appended x L)) p.target_is
    ∙ (ap (λ (boxes : List Box). sprung_with x L M P boxes) (appended_boxes x L boxes next mode p)
    ∙ ap (λ (last : Option ShortName). if M.is_over then None else if not (M.begun == L.begun) then first_met is_on_top M.length M.traps else last)
    (passed_on_page (is_eject x) L.diversions P (P + length boxes) L p.on_page)))

device_by_tests : (d listed : Bool) (offset : ℕ) (boxes boxes_then : List Box) → d ≡ false → boxes ≡ boxes_then
    → (if d || not listed then [] else device_lines offset boxes) ≡ if_listed listed (device_lines offset boxes_then)
device_by_tests true listed offset boxes boxes_then h e = cc
device_by_tests false true offset boxes boxes_then h e = ap (device_lines offset) e
device_by_tests false false offset boxes boxes_then h e = refl

device_boxes : (x : Happening) (L : Layout) (boxes : List Box) (next : Option Num) (mode : Bool) → PutsBoxes x L boxes next mode
    → device_text x L ≡ if_listed L.is_listed (device_lines L.offset boxes)
device_boxes x L boxes next mode p =
    device_by_tests (is_diverted x L) L.is_listed L.offset (appended x L) boxes p.on_page (appended_boxes x L boxes next mode p)

-- what a call that puts boxes did
pub did_boxes : (x : Happening) (L : Layout) (boxes : List Box) (next : Option Num) (mode : Bool) (k new : Kept) (out out_then : Sunk) (r : Result (Option ShortName) PageFault)
    → PutsBoxes x L boxes next mode → BoxedTo (record L { next = next; no_space = mode }) boxes r k new out out_then → DidTo L x r k new out out_then
did_boxes x L boxes next mode k new out out_then (Ok name) p b = record {
  stands = subst (λ (M : Layout). StandsAs M new) (sym (with_boxes_put x L boxes next mode p)) b.stands;
  springs = b.springs ∙ sym (springs_boxes x L boxes next mode p);
  printed = subst (λ (text : List ℕ). Printed k new out out_then text) (sym (device_boxes x L boxes next mode p)) b.printed;
}
did_boxes x L boxes next mode k new out out_then (Err fault) p b =
    subst (λ (text : List ℕ). IsUnprinted fault k new out out_then text) (sym (device_boxes x L boxes next mode p)) b

-- nothing is passed where nothing is put
none_passed_by_place : (from to : ℕ) (o : Option ℕ) → to ≤ from → is_passed from to o ≡ false
none_passed_by_place from to None h = refl
none_passed_by_place from to (Some n) h =
    elim (cases_lt from n) [
      | inl beyond ↦ and_right (nat_lt from n) (nat_le n to) (lt-leb n to (omega arith))
      | inr near ↦ and_left (nat_lt from n) (nat_le n to) (le-ltb from n near)
    ]

none_passed : (length from to : ℕ) (traps : List Trap) → to ≤ from → first_met (is_passed from to) length traps ≡ None
none_passed length from to [] h = refl
none_passed length from to (t ∷ traps) h = rw (none_passed_by_place from to (place_of length t.place) h) (none_passed length from to traps h)

none_at_all : (over same : Bool) (on_top : Option ShortName) → same ≡ true → (if over then None else if not same then on_top else None) ≡ None
none_at_all true same on_top e = refl
none_at_all false true on_top e = refl
none_at_all false false on_top e = cc

-- a happening puts nothing, and leaves the layout as it is
pub record PutsNothing (x : Happening) (L : Layout) : Type 0 where
  pub puts_is : puts x L ≡ None
  pub stays : unput x L ≡ L
  pub on_page : is_diverted x L ≡ false

with_nothing : (x : Happening) (L : Layout) → PutsNothing x L → with_event x L ≡ L
with_nothing x L p = ap (λ (q : Option Put). behind_put x q (appended x L) L) p.puts_is ∙ p.stays

nothing_springs : (x : Happening) (L : Layout) → PutsNothing x L → None ≡ springs_on_page x L
nothing_springs x L p =
    let P = (target x L).place in
    sym (ap (λ (M : Layout). sprung_with x L M P (appended x L)) (with_nothing x L p)
    ∙ (ap (λ (boxes : List Box). sprung_with x L L P boxes) (ap (boxes_put (target x L)) p.puts_is)
    ∙ (ap (λ (last : Option ShortName). if L.is_over then None else if not (L.begun == L.begun) then first_met is_on_top L.length L.traps else last)
    (passed_on_page (is_eject x) L.diversions P (P + 0) L p.on_page ∙ none_passed L.length P (P + 0) L.traps (omega arith))
    ∙ none_at_all L.is_over (L.begun == L.begun) _ (eq-eqb L.begun L.begun refl))))

nothing_text : (x : Happening) (L : Layout) → PutsNothing x L → device_text x L ≡ []
nothing_text x L p =
    ap (λ (boxes : List Box). if is_diverted x L || not L.is_listed then [] else device_lines L.offset boxes) (ap (boxes_put (target x L)) p.puts_is)
    ∙ either_none (is_diverted x L || not L.is_listed)

-- what a call that puts nothing did
pub did_nothing : (x : Happening) (L : Layout) (k : Kept) (out : Sunk) → PutsNothing x L → StandsAs L k → k.written ≤ k.output
    → DidTo L x (Ok None) k k out out
did_nothing x L k out p s within = record {
  stands = subst (λ (M : Layout). StandsAs M k) (sym (with_nothing x L p)) s;
  springs = nothing_springs x L p;
  printed = subst (λ (text : List ℕ). Printed k k out out text) (sym (nothing_text x L p))
      (record { within = omega arith; written = omega arith; writes = Writes-nothing out });
}

-- the layout is over
pub over_standing : (L : Layout) (k : Kept) → StandsAs L k → StandsAs (record L { is_over = true }) (record k { is_over = true })
over_standing L k s = record {
  ranges = s.ranges;
  next = s.next;
  begun = s.begun;
  number = s.number;
  length = s.length;
  offset = s.offset;
  previous_offset = s.previous_offset;
  traps = s.traps;
  place = s.place;
  is_listed = s.is_listed;
  no_space = s.no_space;
  diversions = s.diversions;
  height = s.height;
  width = s.width;
  is_closing = s.is_closing;
  is_over = refl;
}

-- limits that stay
pub SameLimits-same : (k : Kept) → SameLimits k k
SameLimits-same k = record { traps = refl; diversions = refl; output = refl }

pub SameLimits-written : (k new : Kept) (n : ℕ) → new ≡ record k { written = n } → SameLimits k new
SameLimits-written k new n e = subst (λ (new : Kept). SameLimits k new) (sym e) (record { traps = refl; diversions = refl; output = refl })

pub SameLimits-behind : (k mid new : Kept) (n : ℕ) → mid ≡ record k { written = n } → SameLimits mid new → SameLimits k new
SameLimits-behind k mid new n e same = record {
  traps = same.traps ∙ ap (λ (k : Kept). k.most_traps) e;
  diversions = same.diversions ∙ ap (λ (k : Kept). k.most_diversions) e;
  output = same.output ∙ ap (λ (k : Kept). k.output) e;
}

-- what is set stands
pub set_standing : (L : Layout) (k : Kept) (next : Option Num) (mode : Bool) → StandsAs L k
    → StandsAs (record L { next = next; no_space = mode }) (record k { next = next; no_space = mode })
set_standing L k next mode s = record {
  ranges = s.ranges;
  next = refl;
  begun = s.begun;
  number = s.number;
  length = s.length;
  offset = s.offset;
  previous_offset = s.previous_offset;
  traps = s.traps;
  place = s.place;
  is_listed = s.is_listed;
  no_space = refl;
  diversions = s.diversions;
  height = s.height;
  width = s.width;
  is_closing = s.is_closing;
  is_over = s.is_over;
}

-- so do the same pages where more was written
written_standing : (L : Layout) (k : Kept) (n : ℕ) → StandsAs L k → StandsAs L (record k { written = n })
written_standing L k n s = record {
  ranges = s.ranges;
  next = s.next;
  begun = s.begun;
  number = s.number;
  length = s.length;
  offset = s.offset;
  previous_offset = s.previous_offset;
  traps = s.traps;
  place = s.place;
  is_listed = s.is_listed;
  no_space = s.no_space;
  diversions = s.diversions;
  height = s.height;
  width = s.width;
  is_closing = s.is_closing;
  is_over = s.is_over;
}

-- a text was written, and then the page had boxes more
pub boxed : (L : Layout) (k mid new : Kept) (boxes : List Box) (lines : ℕ) (next : Option Num) (mode : Bool) (name : Option ShortName) (text : List ℕ) (out out_then : Sunk)
    → StandsAs L k → mid ≡ record k { written = mid.written } → length boxes ≡ lines → text ≡ device_lines k.offset boxes
    → ((N : Layout) (boxes : List Box) → StandsAs N mid → length boxes ≡ lines → StandsAs (turned_if_full (with_lines boxes (record N { next = next; no_space = mode }))) new)
    → ((N : Layout) (boxes : List Box) → StandsAs N mid → length boxes ≡ lines → name ≡ sprung_by boxes (record N { next = next; no_space = mode }))
    → new.written ≡ mid.written → Printed k mid out out_then (if_listed k.is_listed text)
    → Boxed (record L { next = next; no_space = mode }) boxes name k new out out_then
boxed L k mid new boxes lines next mode name text out out_then s written long same stands springs_on_page kept p =
    let now : StandsAs L mid = subst (λ (k : Kept). StandsAs L k) (sym written) (written_standing L k mid.written s) in
    record {
      stands = stands L boxes now long;
      springs = springs_on_page L boxes now long;
      printed = subst (λ (bytes : List ℕ). Printed k new out out_then bytes)
          (rw (same, s.is_listed, s.offset) refl)
          (record { within = p.within; written = kept ∙ p.written; writes = p.writes });
    }

-- it wasn't
pub unboxed : (L : Layout) (k new : Kept) (fault : PageFault) (boxes : List Box) (text : List ℕ) (out out_then : Sunk)
    → StandsAs L k → text ≡ device_lines k.offset boxes → IsUnprinted fault k new out out_then (if_listed k.is_listed text)
    → IsUnprinted fault k new out out_then (if_listed L.is_listed (device_lines L.offset boxes))
unboxed L k new fault boxes text out out_then s same why =
    subst (λ (bytes : List ℕ). IsUnprinted fault k new out out_then bytes) (rw (same, s.is_listed, s.offset) refl) why
