-- Blank lines that are put on a page.
use Rattle.std.proofs.Common.{◌≡◌, ℕ, zero, suc, ◌-◌, ◌<◌, min, Bool, true, false, not, ◌&&◌, ◌||◌, List, [], ◌∷◌, map, replicate, Option, Some, None, Result, Ok, refl, sym, ap, ◌∙◌, subst, arith, inl, inr, ◌≤◌, if◌then◌else◌, ◌==◌, ◌^◌, nat_lt, eq-eqb, ne_eqb}
use Rattle.std.proofs.lemmas.Bool.{cases_lt}
use Rattle.roff_num.specs.declared.num.Num.{Num}
use Rattle.roff_num.specs.declared.short_name.ShortName.{ShortName}
use Rattle.page_model.specs.Words.{is_empty}
use Rattle.page_bytes.specs.declared.page_fault.PageFault.{PageFault}
use Rattle.page_bytes.specs.Sinks.{Sunk}
use Rattle.page_model.specs.Layout.{Box, Empty, Layout, Diversion, page_place}
use Rattle.page_model.specs.declared.layout_event.LayoutEvent.TheVariants.{Eject, EjectTo, EjectLast, EjectOn, Need, Space}
use Rattle.page_model.specs.Happenings.{Happening, Does, ejecting, is_eject}
use Rattle.page_model.specs.Stops.{Target, innermost, is_diverted, next_stop, page_target, target}
use Rattle.page_model.specs.Puts.{appended, blank_lines, boxes_put, ejected_if, needed, puts}
use Rattle.page_model.specs.Turning.{behind_put, next_behind, no_space_behind, with_event}
use Rattle.page_model.specs.DeviceText.{device_lines, device_text}
use Rattle.roff_pages.specs.Pages.Kept.{Kept}
use Rattle.roff_pages.specs.Pages.Stands.{StandsAs, kept_diversion}
use Rattle.roff_pages.specs.Pages.Advancing.{way_on}
use Rattle.roff_pages.specs.Pages.Printing.{BoxedTo, DidTo, Printed}
use Rattle.page_bytes.proofs.Appending.{Writes-nothing}
use Rattle.roff_pages.proofs.NextStop.{next_stop_le}
use Rattle.page_model.proofs.DeviceText.{either_none}
use Rattle.roff_pages.proofs.PageBoxes.{PutsBoxes, PutsNothing, did_boxes, over_standing, sprung_with}

-- a happening puts so many blank lines on the page: behind it the next page gets this number, and no-space mode is so
pub record PutsBlank (x : Happening) (L : Layout) (asked count : ℕ) (next : Option Num) (mode : Bool) : Type 0 where
  pub puts_is : puts x L ≡ Some (blank_lines asked)
  pub target_is : target x L ≡ page_target L
  pub on_page : is_diverted x L ≡ false
  pub count_is : count ≡ min asked (next_stop L.length (page_place L) L.traps - page_place L)
  pub next_is : next_behind x L.next ≡ next
  pub mode_is : no_space_behind (is_eject x) (replicate count Empty) L.no_space ≡ mode

-- these are boxes
blank_boxes : (x : Happening) (L : Layout) (asked count : ℕ) (next : Option Num) (mode : Bool) → PutsBlank x L asked count next mode
    → PutsBoxes x L (replicate count Empty) next mode
blank_boxes x L asked count next mode p = record {
  put = blank_lines asked;
  puts_is = p.puts_is;
  target_is = p.target_is;
  on_page = p.on_page;
  boxes_are = ap (λ (n : ℕ). replicate {A = Box} n Empty) (sym p.count_is);
  next_is = p.next_is;
  mode_is = p.mode_is;
}

-- the way that pages have is the layout's
pub way_is : (L : Layout) (k : Kept) → StandsAs L k → k.length < 2 ^ 32 → way_on k ≡ next_stop L.length (page_place L) L.traps - page_place L
way_is L k s short =
    let there : k.place ≡ min (page_place L) (2 ^ 33) = s.place in
    elim (cases_lt (page_place L) (2 ^ 33)) [
      | inl near ↦
          let exact : k.place ≡ page_place L = omega arith in
          rw (s.length, exact, s.traps) refl
      | inr far ↦
          omega (arith, s.length, next_stop_le k.length k.place k.traps, next_stop_le L.length (page_place L) L.traps)
    ]

-- where no diversion is open the layout has none
none_mapped : (ds : List Diversion) → map kept_diversion ds ≡ [] → ds ≡ []
none_mapped [] e = refl
none_mapped (d ∷ ds) e = cc

pub none_open : (L : Layout) (k : Kept) → StandsAs L k → k.diversions ≡ [] → L.diversions ≡ []
none_open L k s none = none_mapped L.diversions (sym s.diversions ∙ none)

-- where no diversion is open the target is the page
pub closed_target : (L : Layout) → L.diversions ≡ [] → innermost L.diversions (page_target L) ≡ page_target L
closed_target L closed = ap (λ (ds : List Diversion). innermost ds (page_target L)) closed

pub closed_page : (L : Layout) → L.diversions ≡ [] → not (is_empty L.diversions) ≡ false
closed_page L closed = ap (λ (ds : List Diversion). not (is_empty ds)) closed

kept_off : (e : Bool) (boxes : List Box) (on : Bool) → on ≡ false → no_space_behind e boxes on ≡ false
kept_off e boxes true off = cc
kept_off e boxes false off = refl

-- spacing puts so many blank lines
pub space_puts : (lines : ℕ) (L : Layout) (k : Kept) (count : ℕ) → StandsAs L k → k.length < 2 ^ 32 → k.diversions ≡ [] → k.no_space ≡ false
    → count ≡ min (way_on k) lines → PutsBlank (Does (Space lines)) L lines count k.next false
space_puts lines L k count s short none mode is =
    let closed : L.diversions ≡ [] = none_open L k s none in
    let at = closed_target L closed in
    let off : L.no_space ≡ false = sym s.no_space ∙ mode in
    let way = way_is L k s short in
    record {
      puts_is = ap (λ (t : Target). if t.no_space then None else Some (blank_lines lines)) at ∙ rw off refl;
      target_is = at;
      on_page = closed_page L closed;
      count_is = omega arith;
      next_is = sym s.next;
      mode_is = kept_off false (replicate count Empty) L.no_space off;
    }

-- no-space mode stays where no line was needed, and ends where some were
mode_needed : (on : Bool) (n : ℕ) → no_space_behind false (replicate n Empty) on ≡ (on && n == 0)
mode_needed true zero = refl
mode_needed true (suc n) = sym (ne_eqb (suc n) 0 (λ e. absurd (omega arith)))
mode_needed false n = refl

-- what is needed is no more than the way
needed_by_test : (b : Bool) (way count : ℕ) → (if b then way else 0) ≡ count → count ≡ min count way
needed_by_test true way count e = omega arith
needed_by_test false way count e = omega arith

needed_count : (lines way count : ℕ) → (if nat_lt way lines then way else 0) ≡ count → count ≡ min count way
needed_count lines way count e = needed_by_test (nat_lt way lines) way count e

-- a need puts the way, if it is less
pub need_puts : (lines : ℕ) (L : Layout) (k : Kept) (count : ℕ) → StandsAs L k → k.length < 2 ^ 32 → k.diversions ≡ []
    → count ≡ (if nat_lt (way_on k) lines then way_on k else 0) → PutsBlank (Does (Need lines)) L count count k.next (k.no_space && count == 0)
need_puts lines L k count s short none is =
    let closed : L.diversions ≡ [] = none_open L k s none in
    let at = closed_target L closed in
    let way = way_is L k s short in
    let stop = next_stop L.length (page_place L) L.traps in
    let asked : (if nat_lt (stop - page_place L) lines then stop - page_place L else 0) ≡ count =
    sym (is ∙ ap (λ (n : ℕ). if nat_lt n lines then n else 0) way) in
    record {
      puts_is = ap (λ (t : Target). Some (blank_lines (needed lines t.place t.stop))) at ∙ ap (λ (n : ℕ). Some (blank_lines n)) asked;
      target_is = at;
      on_page = closed_page L closed;
      count_is = needed_count lines (stop - page_place L) count asked;
      next_is = sym s.next;
      mode_is = mode_needed L.no_space count ∙ ap (λ (on : Bool). on && count == 0) (sym s.no_space);
    }

-- a count of pages that is asked for is told apart
begun_is : (L : Layout) (k : Kept) (asked : ℕ) → StandsAs L k → asked < 2 ^ 32 → k.begun ≡ asked → (L.begun == asked) ≡ true
begun_is L k asked s short is = eq-eqb L.begun asked (omega (arith, s.begun))

begun_not : (L : Layout) (k : Kept) (asked : ℕ) → StandsAs L k → asked < 2 ^ 32 → (k.begun ≡ asked → ⊥) → (L.begun == asked) ≡ false
begun_not L k asked s short not_it = ne_eqb L.begun asked (λ e. not_it (omega (arith, s.begun)))

kept_by_eject : (boxes : List Box) (on : Bool) → no_space_behind true boxes on ≡ on
kept_by_eject boxes true = refl
kept_by_eject boxes false = refl

-- going on with an eject puts the way
pub eject_on_puts : (asked : ℕ) (L : Layout) (k : Kept) → StandsAs L k → k.length < 2 ^ 32 → asked < 2 ^ 32 → k.begun ≡ asked
    → PutsBlank (Does (EjectOn asked)) L (way_on k) (way_on k) k.next k.no_space
eject_on_puts asked L k s short few is =
    let way = way_is L k s short in
    record {
      puts_is = ap (λ (b : Bool). ejected_if b (page_target L)) (begun_is L k asked s few is) ∙ ap (λ (n : ℕ). Some (blank_lines n)) (sym way);
      target_is = refl;
      on_page = refl;
      count_is = omega arith;
      next_is = sym s.next;
      mode_is = kept_by_eject (replicate (way_on k) Empty) L.no_space ∙ sym s.no_space;
    }

-- so does the last one, where something stands on a page
pub eject_last_puts : (L : Layout) (k : Kept) → StandsAs L k → k.length < 2 ^ 32 → (k.begun ≡ 0 → ⊥) → (k.place ≡ 0 → ⊥)
    → PutsBlank (Does EjectLast) L (way_on k) (way_on k) k.next k.no_space
eject_last_puts L k s short some_page some_line =
    let way = way_is L k s short in
    let page : (L.begun == 0) ≡ false = ne_eqb L.begun 0 (λ e. some_page (omega (arith, s.begun, e))) in
    let line : (page_place L == 0) ≡ false = ne_eqb (page_place L) 0 (λ e. some_line (omega (arith, s.place, e))) in
    record {
      puts_is = ap (λ (b : Bool). ejected_if (not b && not (page_place L == 0)) (page_target L)) page
          ∙ (ap (λ (b : Bool). ejected_if (not b) (page_target L)) line ∙ ap (λ (n : ℕ). Some (blank_lines n)) (sym way));
      target_is = refl;
      on_page = refl;
      count_is = omega arith;
      next_is = sym s.next;
      mode_is = kept_by_eject (replicate (way_on k) Empty) L.no_space ∙ sym s.no_space;
    }

-- an eject puts the way, with a number in any case
pub eject_puts : (asked : ℕ) (n : Num) (L : Layout) (k : Kept) → StandsAs L k → k.length < 2 ^ 32 → asked < 2 ^ 32 → k.begun ≡ asked
    → PutsBlank (Does (EjectTo asked n)) L (way_on k) (way_on k) (Some n) k.no_space
eject_puts asked n L k s short few is =
    let way = way_is L k s short in
    record {
      puts_is = ap (λ (b : Bool). ejected_if b (page_target L)) (begun_is L k asked s few is) ∙ ap (λ (n : ℕ). Some (blank_lines n)) (sym way);
      target_is = refl;
      on_page = refl;
      count_is = omega arith;
      next_is = refl;
      mode_is = kept_by_eject (replicate (way_on k) Empty) L.no_space ∙ sym s.no_space;
    }

pub numbered_eject_puts : (asked : ℕ) (number : Option Num) (n : Num) (L : Layout) (k : Kept) → number ≡ Some n → StandsAs L k → k.length < 2 ^ 32 → asked < 2 ^ 32
    → k.begun ≡ asked → PutsBlank (Does (ejecting asked number)) L (way_on k) (way_on k) number k.no_space
numbered_eject_puts asked number n L k e s short few is =
    subst (λ (m : Option Num). PutsBlank (Does (ejecting asked m)) L (way_on k) (way_on k) m k.no_space) (sym e) (eject_puts asked n L k s short few is)

-- and without one where no-space mode is off
pub plain_eject_puts : (asked : ℕ) (L : Layout) (k : Kept) → StandsAs L k → k.length < 2 ^ 32 → asked < 2 ^ 32 → k.begun ≡ asked → k.no_space ≡ false
    → PutsBlank (Does (Eject asked)) L (way_on k) (way_on k) k.next false
plain_eject_puts asked L k s short few is mode =
    let way = way_is L k s short in
    let off : L.no_space ≡ false = sym s.no_space ∙ mode in
    record {
      puts_is = ap (λ (on : Bool). ejected_if (L.begun == asked && not on) (page_target L)) off
          ∙ (ap (λ (b : Bool). ejected_if (b && true) (page_target L)) (begun_is L k asked s few is) ∙ ap (λ (n : ℕ). Some (blank_lines n)) (sym way));
      target_is = refl;
      on_page = refl;
      count_is = omega arith;
      next_is = sym s.next;
      mode_is = kept_off true (replicate (way_on k) Empty) L.no_space off;
    }

-- spacing puts nothing in no-space mode
pub space_nothing : (lines : ℕ) (L : Layout) (k : Kept) → StandsAs L k → k.diversions ≡ [] → k.no_space ≡ true → PutsNothing (Does (Space lines)) L
space_nothing lines L k s none mode =
    let closed : L.diversions ≡ [] = none_open L k s none in
    let on : L.no_space ≡ true = sym s.no_space ∙ mode in
    record {
      puts_is = ap (λ (t : Target). if t.no_space then None else Some (blank_lines lines)) (closed_target L closed) ∙ rw on refl;
      stays = refl;
      on_page = closed_page L closed;
    }

-- an eject puts nothing that was asked on another page
pub eject_on_nothing : (asked : ℕ) (L : Layout) (k : Kept) → StandsAs L k → asked < 2 ^ 32 → (k.begun ≡ asked → ⊥) → PutsNothing (Does (EjectOn asked)) L
eject_on_nothing asked L k s few not_it = record {
  puts_is = ap (λ (b : Bool). ejected_if b (page_target L)) (begun_not L k asked s few not_it);
  stays = refl;
  on_page = refl;
}

pub eject_nothing : (asked : ℕ) (number : Option Num) (L : Layout) (k : Kept) → StandsAs L k → asked < 2 ^ 32 → (k.begun ≡ asked → ⊥)
    → PutsNothing (Does (ejecting asked number)) L
eject_nothing asked None L k s few not_it = record {
  puts_is = ap (λ (b : Bool). ejected_if (b && not L.no_space) (page_target L)) (begun_not L k asked s few not_it);
  stays = refl;
  on_page = refl;
}
eject_nothing asked (Some number) L k s few not_it = record {
  puts_is = ap (λ (b : Bool). ejected_if b (page_target L)) (begun_not L k asked s few not_it);
  stays = refl;
  on_page = refl;
}

-- nor one without a number in no-space mode
unasked : (b : Bool) (t : Target) → ejected_if (b && false) t ≡ None
unasked true t = refl
unasked false t = refl

pub eject_inhibited : (asked : ℕ) (L : Layout) (k : Kept) → StandsAs L k → k.no_space ≡ true → PutsNothing (Does (Eject asked)) L
eject_inhibited asked L k s mode = record {
  puts_is = ap (λ (on : Bool). ejected_if (L.begun == asked && not on) (page_target L)) (sym s.no_space ∙ mode) ∙ unasked (L.begun == asked) (page_target L);
  stays = refl;
  on_page = refl;
}

-- the last eject puts nothing where no page was begun, or nothing stands on it
not_last : (b : Bool) (t : Target) → b ≡ false → ejected_if b t ≡ None
not_last true t e = cc
not_last false t e = refl

-- and the layout is over
pub did_over : (L : Layout) (k new : Kept) (out : Sunk) → (not (L.begun == 0) && not (page_place L == 0)) ≡ false → StandsAs L k → k.written ≤ k.output
    → record k { is_over = true } ≡ new → DidTo L (Does EjectLast) (Ok None) k new out out
did_over L k new out none s within made =
    let x : Happening = Does EjectLast in
    let nothing : puts x L ≡ None = not_last _ (page_target L) none in
    let boxes : appended x L ≡ [] = ap (boxes_put (target x L)) nothing in
    let over : with_event x L ≡ record L { is_over = true } = ap (λ q. behind_put x q (appended x L) L) nothing in
    let text : device_text x L ≡ [] =
    ap (λ (boxes : List Box). if is_diverted x L || not L.is_listed then [] else device_lines L.offset boxes) boxes ∙ either_none (not L.is_listed) in
    let printed : Printed k (record k { is_over = true }) out out [] = record { within = omega arith; written = omega arith; writes = Writes-nothing out } in
    subst (λ (new : Kept). DidTo L x (Ok None) k new out out) made (record {
      stands = subst (λ (M : Layout). StandsAs M (record k { is_over = true })) (sym over) (over_standing L k s);
      springs = sym (ap (λ (M : Layout). sprung_with x L M (target x L).place (appended x L)) over);
      printed = subst (λ (text : List ℕ). Printed k (record k { is_over = true }) out out text) (sym text) printed;
    })

pub over_no_page : (L : Layout) (k : Kept) → StandsAs L k → k.begun ≡ 0 → (not (L.begun == 0) && not (page_place L == 0)) ≡ false
over_no_page L k s none = ap (λ (b : Bool). not b && not (page_place L == 0)) (eq-eqb L.begun 0 (omega (arith, s.begun)))

and_none : (a b : Bool) → b ≡ true → (a && not b) ≡ false
and_none true b e = rw e refl
and_none false b e = refl

pub over_no_line : (L : Layout) (k : Kept) → StandsAs L k → k.place ≡ 0 → (not (L.begun == 0) && not (page_place L == 0)) ≡ false
over_no_line L k s none = and_none (not (L.begun == 0)) (page_place L == 0) (eq-eqb (page_place L) 0 (omega (arith, s.place)))

-- what a call that puts blank lines did, told what was passed on
pub did_blank_as : (x : Happening) (L : Layout) (asked count count_then : ℕ) (next next_then : Option Num) (mode mode_then : Bool) (k new : Kept) (out out_then : Sunk)
    (r : Result (Option ShortName) PageFault) → count_then ≡ count → next_then ≡ next → mode_then ≡ mode → PutsBlank x L asked count next mode
    → BoxedTo (record L { next = next_then; no_space = mode_then }) (replicate count_then Empty) r k new out out_then → DidTo L x r k new out out_then
did_blank_as x L asked count count_then next next_then mode mode_then k new out out_then r same_count same_next same_mode p b =
    did_boxes x L (replicate count Empty) next mode k new out out_then r (blank_boxes x L asked count next mode p)
    (subst (λ (n : ℕ). BoxedTo (record L { next = next; no_space = mode }) (replicate n Empty) r k new out out_then) same_count
    (subst (λ (on : Bool). BoxedTo (record L { next = next; no_space = on }) (replicate count_then Empty) r k new out out_then) same_mode
    (subst (λ (next : Option Num). BoxedTo (record L { next = next; no_space = mode_then }) (replicate count_then Empty) r k new out out_then) same_next b)))
