-- What is put in the innermost open diversion.
use Rattle.std.proofs.Common.{◌≡◌, ℕ, zero, suc, ◌+◌, ◌-◌, ◌<◌, min, max, Bool, true, false, not, ◌&&◌, List, [], ◌∷◌, ◌++◌, length, map, replicate, Option, Some, None, refl, sym, ap, ◌∙◌, subst, arith, if◌then◌else◌, ◌==◌, nat_lt, eq-eqb, ne_eqb, length-append, take_all}
use Rattle.roff_num.specs.declared.num.Num.{Num}
use Rattle.roff_num.specs.declared.short_name.ShortName.{ShortName}
use Rattle.page_model.specs.Glyphs.{gaps_in, text_width}
use Rattle.page_model.specs.Lines.{Finished}
use Rattle.page_model.specs.Columns.{added_columns, printed, spaces, spread}
use Rattle.roff_lines.proofs.Columns.{stands_in_columns}
use Rattle.page_model.specs.Words.{is_empty}
use Rattle.roff_pages.specs.declared.open_diversion.OpenDiversion.{OpenDiversion}
use Rattle.page_model.specs.declared.trap.Trap.{Trap}
use Rattle.page_model.specs.Layout.{Box, Empty, Diversion, Layout}
use Rattle.page_model.specs.declared.layout_event.LayoutEvent.TheVariants.{Space, Need}
use Rattle.page_model.specs.Happenings.{Happening, Does, Places, Titles, is_eject}
use Rattle.page_model.specs.Titles.{Title, title_text}
use Rattle.page_model.specs.Stops.{Target, innermost, is_diverted, page_target, target}
use Rattle.page_model.specs.Puts.{Put, appended, blank_lines, boxes_put, needed, puts, within_stop}
use Rattle.page_model.specs.Turning.{behind_put, greatest_width, in_diversion, in_innermost, next_behind, no_space_behind, turned_unless, with_boxes, with_event, with_put}
use Rattle.page_model.specs.Springs.{diversion_trap_passed, first_met, is_on_top, is_passed, passed_in, springs_on_page}
use Rattle.page_model.specs.Queries.{place_now, text_target}
use Rattle.roff_pages.specs.Pages.Kept.{Kept}
use Rattle.roff_pages.specs.Pages.Counted.{counted}
use Rattle.roff_pages.specs.Pages.Stands.{StandsAs, kept_diversion}
use Rattle.roff_pages.specs.Pages.Advancing.{sprung_diverted, with_diverted}
use Rattle.roff_pages.proofs.PageBoxes.{sprung_with}
use Rattle.roff_pages.proofs.Placing.{text_boxes}

-- a happening puts these boxes in the innermost open diversion
pub record PutsDiverted (x : Happening) (L : Layout) (boxes : List Box) : Type 0 where
  pub put : Put
  pub puts_is : puts x L ≡ Some put
  pub boxes_are : appended x L ≡ boxes
  pub into : is_diverted x L ≡ true
  pub next_is : next_behind x L.next ≡ L.next
  pub no_eject : is_eject x ≡ false

into_diversion : (d e : Bool) (next : Option Num) (boxes : List Box) (L : Layout) → d ≡ true → next ≡ L.next
    → record L {
      next = next;
      boxes = if d then L.boxes else boxes ++ L.boxes;
      no_space = if d then L.no_space else no_space_behind e boxes L.no_space;
      diversions = if d then in_innermost boxes L.diversions else L.diversions;
    } ≡ with_diverted boxes L
into_diversion true e next boxes L d n = ap (λ next. record L { next = next; diversions = in_innermost boxes L.diversions }) n
into_diversion false e next boxes L d n = cc

pub with_diverted_put : (x : Happening) (L : Layout) (boxes : List Box) → PutsDiverted x L boxes → with_event x L ≡ with_diverted boxes L
with_diverted_put x L boxes p =
    ap (λ (q : Option Put). behind_put x q (appended x L) L) p.puts_is
    ∙ (ap (λ (boxes : List Box). with_put x boxes L) p.boxes_are
    ∙ (ap (λ (diverted : Bool). turned_unless diverted (with_boxes x boxes (record L { next = next_behind x L.next }))) p.into
    ∙ into_diversion (is_diverted x L) (is_eject x) (next_behind x L.next) boxes L p.into p.next_is))

target_by_test : (e : Bool) (L : Layout) → e ≡ false → (if e then page_target L else innermost L.diversions (page_target L)) ≡ text_target L
target_by_test true L e = cc
target_by_test false L e = refl

passed_by_test : (e : Bool) (on_page within : Option ShortName) → e ≡ false → (if e then on_page else within) ≡ within
passed_by_test true on_page within e = cc
passed_by_test false on_page within e = refl

pub springs_diverted : (x : Happening) (L : Layout) (boxes : List Box) → PutsDiverted x L boxes → springs_on_page x L ≡ sprung_diverted boxes L
springs_diverted x L boxes p =
    let M : Layout = with_diverted boxes L in
    let from = place_now L in
    let on_top : Option ShortName = first_met is_on_top L.length L.traps in
    let within : Option ShortName = passed_in L.diversions from (from + length boxes) L in
    ap (λ (M : Layout). sprung_with x L M (target x L).place (appended x L)) (with_diverted_put x L boxes p)
    ∙ (ap (λ (t : Target). sprung_with x L M t.place (appended x L)) (target_by_test (is_eject x) L p.no_eject)
    ∙ (ap (λ (boxes : List Box). sprung_with x L M from boxes) p.boxes_are
    ∙ (ap (λ (last : Option ShortName). if L.is_over then None else if not (L.begun == L.begun) then on_top else last)
    (passed_by_test (is_eject x) (first_met (is_passed from (from + length boxes)) L.length L.traps) within p.no_eject)
    ∙ ap (λ (same : Bool). if L.is_over then None else if not same then on_top else within) (eq-eqb L.begun L.begun refl))))

-- open diversions that are kept are some
kept_some : (ds : List Diversion) (os : List OpenDiversion) → os ≡ map kept_diversion ds → 0 < length os → is_empty ds ≡ false
kept_some [] os e some = absurd (omega (arith, ap length e))
kept_some (d ∷ ds) os e some = refl

pub is_open : (L : Layout) (k : Kept) → StandsAs L k → 0 < length k.diversions → is_empty L.diversions ≡ false
is_open L k s some = kept_some L.diversions k.diversions s.diversions some

-- a line puts its text, and its blank lines up to the trap
pub line_diverted : (line : Finished) (L : Layout) (after : ℕ) → is_empty L.diversions ≡ false
    → after ≡ within_stop ((text_target L).place + 1) (text_target L).stop line.after → PutsDiverted (Places line) L (text_boxes after (printed line))
line_diverted line L after some is = record {
  put = record { first = Some (printed line); space = line.after };
  puts_is = refl;
  boxes_are = ap (λ n. text_boxes n (printed line)) (sym is);
  into = ap not some;
  next_is = refl;
  no_eject = refl;
}

-- a title puts its text alone
none_within : (place : ℕ) (stop : Option ℕ) → within_stop place stop 0 ≡ 0
none_within place None = refl
none_within place (Some stop) = omega arith

pub title_diverted : (t : Title) (L : Layout) → is_empty L.diversions ≡ false → PutsDiverted (Titles t) L (text_boxes 0 (title_text t))
title_diverted t L some = record {
  put = record { first = Some (title_text t); space = 0 };
  puts_is = refl;
  boxes_are = ap (λ n. text_boxes n (title_text t)) (none_within ((text_target L).place + 1) (text_target L).stop);
  into = ap not some;
  next_is = refl;
  no_eject = refl;
}

-- spacing puts blank lines up to the trap
pub space_diverted : (lines : ℕ) (L : Layout) (count : ℕ) → is_empty L.diversions ≡ false → (text_target L).no_space ≡ false
    → count ≡ within_stop (text_target L).place (text_target L).stop lines → PutsDiverted (Does (Space lines)) L (replicate count Empty)
space_diverted lines L count some mode is =
    let put : puts (Does (Space lines)) L ≡ Some (blank_lines lines) = ap (λ (on : Bool). if on then None else Some (blank_lines lines)) mode in
    record {
      put = blank_lines lines;
      puts_is = put;
      boxes_are = ap (boxes_put (text_target L)) put ∙ ap (λ n. replicate {A = Box} n Empty) (sym is);
      into = ap not some;
      next_is = refl;
      no_eject = refl;
    }

-- a need puts what is left up to the trap, if it is less
needed_by_test : (b : Bool) (way : ℕ) → min (if b then way else 0) way ≡ (if b then way else 0)
needed_by_test true way = omega arith
needed_by_test false way = omega arith

needed_within : (lines place : ℕ) (stop : Option ℕ) → within_stop place stop (needed lines place stop) ≡ needed lines place stop
needed_within lines place None = refl
needed_within lines place (Some stop) = needed_by_test (nat_lt (stop - place) lines) (stop - place)

pub need_diverted : (lines : ℕ) (L : Layout) (count : ℕ) → is_empty L.diversions ≡ false
    → count ≡ needed lines (text_target L).place (text_target L).stop → PutsDiverted (Does (Need lines)) L (replicate count Empty)
need_diverted lines L count some is = record {
  put = blank_lines (needed lines (text_target L).place (text_target L).stop);
  puts_is = refl;
  boxes_are = ap (λ n. replicate {A = Box} n Empty) (needed_within lines (text_target L).place (text_target L).stop ∙ sym is);
  into = ap not some;
  next_is = refl;
  no_eject = refl;
}

-- how wide a line is as it is printed
pub text_width-printed : (l : Finished) → text_width (printed l) ≡ l.lead + text_width l.text + added_columns l.spare l.gaps (gaps_in l.text)
text_width-printed l =
    subst (λ (text : List ℕ). text_width (spaces l.lead ++ spread l.spare l.gaps 0 text) ≡ l.lead + text_width text + added_columns l.spare l.gaps (gaps_in text))
    (take_all (length l.text) l.text (omega arith)) (stands_in_columns l (length l.text))

-- the greatest width among a text and blank lines
pub greatest_width-blank : (n : ℕ) → greatest_width (replicate n Empty) ≡ 0
greatest_width-blank zero = refl
greatest_width-blank (suc n) = omega (arith, greatest_width-blank n)

pub greatest_width-text : (n : ℕ) (text : List ℕ) → greatest_width (text_boxes n text) ≡ text_width text
greatest_width-text zero text = omega arith
greatest_width-text (suc n) text = omega (arith, greatest_width-text n text)

greatest_width-append : (boxes others : List Box) → greatest_width (boxes ++ others) ≡ max (greatest_width boxes) (greatest_width others)
greatest_width-append [] others = omega arith
greatest_width-append (b ∷ boxes) others = omega (arith, greatest_width-append boxes others)

-- no-space mode of a diversion behind boxes
mode_behind_boxes : (boxes : List Box) (lines : ℕ) (on : Bool) → counted lines ≡ counted (length boxes) → (on && lines == 0) ≡ no_space_behind false boxes on
mode_behind_boxes [] lines on same = ap (λ (b : Bool). on && b) (eq-eqb lines 0 (omega arith))
mode_behind_boxes (b ∷ boxes) lines on same = ap (λ (b : Bool). on && b) (ne_eqb lines 0 (λ e. absurd (omega arith)))

-- a diversion that is kept, with boxes more
pub kept_with : (o : OpenDiversion) (d : Diversion) (boxes : List Box) (lines width height wide : ℕ) (mode : Bool) → o ≡ kept_diversion d
    → counted lines ≡ counted (length boxes) → counted width ≡ counted (greatest_width boxes) → height ≡ counted (o.height + lines)
    → wide ≡ max o.width (counted width) → mode ≡ (o.no_space && lines == 0)
    → record { name = o.name; appends = o.appends; height = height; width = wide; trap = o.trap; no_space = mode } ≡ kept_diversion (in_diversion boxes d)
kept_with o d boxes lines width height wide mode is same_lines same_width high widest on =
    let tall : height ≡ counted (length (boxes ++ d.boxes)) =
    omega (arith, high, same_lines, ap (λ (o : OpenDiversion). o.height) is, length-append {A = Box} boxes d.boxes) in
    let broad : wide ≡ counted (greatest_width (boxes ++ d.boxes)) =
    omega (arith, widest, same_width, ap (λ (o : OpenDiversion). o.width) is, greatest_width-append boxes d.boxes) in
    let so : mode ≡ no_space_behind false boxes d.no_space =
    on ∙ (ap (λ (o : OpenDiversion). o.no_space && lines == 0) is ∙ mode_behind_boxes boxes lines d.no_space same_lines) in
    ap (λ (o : OpenDiversion). record o { height = height; width = wide; no_space = mode }) is
    ∙ (ap (λ n. record (kept_diversion d) { height = n; width = wide; no_space = mode }) tall
    ∙ (ap (λ n. record (kept_diversion d) { height = counted (length (boxes ++ d.boxes)); width = n; no_space = mode }) broad
    ∙ ap (λ (on : Bool). record (kept_diversion (in_diversion boxes d)) { no_space = on }) so))

-- open diversions with boxes more in the innermost one
mapped_with : (ds : List Diversion) (o o_then : OpenDiversion) (rest : List OpenDiversion) (boxes : List Box) → o ∷ rest ≡ map kept_diversion ds
    → ((d : Diversion) → o ≡ kept_diversion d → o_then ≡ kept_diversion (in_diversion boxes d)) → o_then ∷ rest ≡ map kept_diversion (in_innermost boxes ds)
mapped_with [] o o_then rest boxes e put = cc
mapped_with (d ∷ ds) o o_then rest boxes e put =
    let first : o ≡ kept_diversion d = cc in
    let others : rest ≡ map kept_diversion ds = cc in
    ap (λ (o : OpenDiversion). o ∷ rest) (put d first) ∙ ap (λ rest. kept_diversion (in_diversion boxes d) ∷ rest) others

pub diverted_standing : (L : Layout) (k new : Kept) (boxes : List Box) (o o_then : OpenDiversion) (rest : List OpenDiversion) → StandsAs L k → k.diversions ≡ o ∷ rest
    → ((d : Diversion) → o ≡ kept_diversion d → o_then ≡ kept_diversion (in_diversion boxes d)) → record k { diversions = o_then ∷ rest } ≡ new
    → StandsAs (with_diverted boxes L) new
diverted_standing L k new boxes o o_then rest s is put made =
    subst (λ (k : Kept). StandsAs (with_diverted boxes L) k) made (record {
      ranges = s.ranges;
      next = s.next;
      begun = s.begun;
      number = s.number;
      length = s.length;
      offset = s.offset;
      previous_offset = s.previous_offset;
      traps = s.traps;
      place = s.place;
      is_listed = s.is_listed;
      no_space = s.no_space;
      diversions = mapped_with L.diversions o o_then rest boxes (sym is ∙ s.diversions) put;
      height = s.height;
      width = s.width;
      is_closing = s.is_closing;
      is_over = s.is_over;
    })

-- what is passed in the innermost one
pub passed_kept : (ds : List Diversion) (o : OpenDiversion) (rest : List OpenDiversion) (L : Layout) (boxes : List Box) (lines : ℕ) (r : Option ShortName)
    → o ∷ rest ≡ map kept_diversion ds → counted lines ≡ counted (length boxes)
    → ((from more : ℕ) → o.height ≡ counted from → counted lines ≡ counted more → r ≡ diversion_trap_passed from (from + more) o.trap)
    → let from = (innermost ds (page_target L)).place in r ≡ passed_in ds from (from + length boxes) L
passed_kept [] o rest L boxes lines r e same answer = cc
passed_kept (d ∷ ds) o rest L boxes lines r e same answer =
    let first : o ≡ kept_diversion d = cc in
    let from : ℕ = length d.boxes in
    answer from (length boxes) (ap (λ (o : OpenDiversion). o.height) first) same
    ∙ ap (λ (trap : Option Trap). diversion_trap_passed from (from + length boxes) trap) (ap (λ (o : OpenDiversion). o.trap) first)
