-- What was written behind a history: whole pages, and the lines of the page in force.
use Rattle.std.proofs.Common.{◌≡◌, ◌⊎◌, inl, inr, ◌<◌, ◌+◌, ℕ, Bool, true, false, not, ◌&&◌, ◌||◌, List, [], ◌∷◌, ◌++◌, length, map, Option, Some, None, refl, sym, ◌∙◌, ap, subst, arith, append_assoc, append-nil, length-append, nat_le, is_some, option_map, if◌then◌else◌, ◌==◌, leb-false}
use Rattle.std.specs.List.{AllByRecursion}
use Rattle.page_model.specs.Behind.{finished}
use Rattle.page_model.specs.Lines.{Finished}
use Rattle.page_model.specs.Words.{is_empty}
use Rattle.page_model.specs.declared.event.Event.{Event}
use Rattle.page_model.specs.declared.event.Event.TheVariants.{Print, Tab, FieldEnd, WordEnd, Gap, LineEnd, Count, Break, Interrupt as Interrupted, Resume, Set}
use Rattle.roff_num.specs.declared.num.Num.{Num}
use Rattle.page_model.specs.DeviceText.{box_line, device_lines, device_text}
use Rattle.page_model.specs.Happenings.{Happening, Does, Places, Titles, is_eject}
use Rattle.page_model.specs.Layout.{Box, Layout, page_place}
use Rattle.page_model.specs.Puts.{Put, appended, puts}
use Rattle.page_model.specs.Queries.{takes_text}
use Rattle.page_model.specs.Stops.{is_diverted}
use Rattle.page_model.specs.Turning.{behind_put, next_behind, page_begun, turned_if_full, turned_unless, with_boxes, with_event, without_put}
use Rattle.roff_pages.specs.WholePages.{ends_page, keeps_length, page_boxes, sizes_behind}
use Rattle.page_model.specs.declared.layout_event.LayoutEvent.TheVariants.{Begin, Close, Length, ListPages, Next, Number, Offset}
use Rattle.roff_pages.proofs.WholePages.{all_full}
use Rattle.run_model.specs.Environments.{PageHistory, text_of}
use Rattle.run_model.specs.Layouts.{laid_out, layout_of, placed}
use Rattle.run_model.specs.TitleTexts.{TitleTold}
use Rattle.run_model.specs.Output.{text_laid, written}
use Rattle.run_model.specs.Springs.{begins, needs_page}
use Rattle.run_model.specs.declared.event.PageEvent.TheVariants.{Page, Text, Title}
use Rattle.run_model.specs.declared.title.WhichTitle.TheVariants.{Read}
use Rattle.law_runs.specs.PageLaws.{KeepsLength, PageLine, WritesEachPage, lines_text, pages_text}
use Rattle.law_runs.proofs.RunsStayWithin.{nothing_by_test}
use Rattle.page_model.specs.declared.layout_event.LayoutEvent.{LayoutEvent}

-- whole pages, and the page in force: its lines, and that it is full where it was the last
pub record SoFar (L : Layout) (text : List ℕ) : Type 0 where
  pub pages : List (List PageLine)
  pub page : List PageLine
  pub full : AllByRecursion (λ page. length page ≡ L.length) pages
  pub written : text ≡ pages_text pages ++ lines_text page
  pub size : length page ≡ page_place L
  pub some : 0 < L.length
  pub unended : L.is_over ≡ false → page_place L < L.length
  pub ended : L.is_over ≡ true → (length page ≡ 0) ⊎ (length page ≡ L.length)
  pub unbegun : L.begun ≡ 0 → (pages ≡ []) × (L.boxes ≡ [])

-- lines of these boxes, behind this offset
abbrev lines_at : ℕ → List Box → List PageLine
lines_at offset boxes = map (λ box. record { offset = offset; box = box }) boxes

length-lines_at : (offset : ℕ) (boxes : List Box) (lines : List PageLine) → length (lines_at offset boxes ++ lines) ≡ length boxes + length lines
length-lines_at offset [] lines = omega arith
length-lines_at offset (box ∷ boxes) lines = omega (arith, length-lines_at offset boxes lines)

text-lines_at : (offset : ℕ) (boxes : List Box) (lines : List PageLine) → lines_text (lines_at offset boxes ++ lines) ≡ lines_text lines ++ device_lines offset boxes
text-lines_at offset [] lines = sym (append-nil (lines_text lines))
text-lines_at offset (box ∷ boxes) lines =
    ap (λ text. text ++ box_line offset box) (text-lines_at offset boxes lines)
    ∙ append_assoc (lines_text lines) (device_lines offset boxes) (box_line offset box)

-- a layout with boxes on its page
record HasPut (L N : Layout) (more : List Box) : Type 0 where
  boxes : N.boxes ≡ more ++ L.boxes
  length : N.length ≡ L.length
  begun : N.begun ≡ L.begun
  over : N.is_over ≡ false
  full : nat_le N.length (page_place N) ≡ true → page_place N ≡ N.length

-- the page has these lines then: it is in force still, or it was a whole one
so_far-turned : (full closing : Bool) (L N : Layout) (text : List ℕ) (boxes : List Box) (pages : List (List PageLine)) (page : List PageLine)
    → HasPut L N boxes → 0 < N.length → (N.begun ≡ 0 → ⊥) → AllByRecursion (λ page. length page ≡ N.length) pages → text ≡ pages_text pages ++ lines_text page
    → length page ≡ page_place N → nat_le N.length (page_place N) ≡ full
    → SoFar (if full then (if closing then record N { is_over = true } else page_begun N) else N) text
so_far-turned true true L N text boxes pages page put some begun full written size is = record {
  pages = pages;
  page = page;
  full = full;
  written = written;
  size = size;
  some = some;
  unended = λ goes. absurd (cc);
  ended = λ over. inr (size ∙ put.full is);
  unbegun = λ at_first. absurd (begun at_first);
}
so_far-turned true false L N text boxes pages page put some begun full written size is = record {
  pages = page ∷ pages;
  page = [];
  full = (size ∙ put.full is, full);
  written = written ∙ sym (append-nil (pages_text pages ++ lines_text page));
  size = refl;
  some = some;
  unended = λ goes. some;
  ended = λ over. let wrong : true ≡ false = sym over ∙ put.over in absurd (cc);
  unbegun = λ at_first. absurd (omega (arith, at_first));
}
so_far-turned false closing L N text boxes pages page put some begun full written size is = record {
  pages = pages;
  page = page;
  full = full;
  written = written;
  size = size;
  some = some;
  unended = λ goes. leb-false N.length (page_place N) is;
  ended = λ over. let wrong : true ≡ false = sym over ∙ put.over in absurd (cc);
  unbegun = λ at_first. absurd (begun at_first);
}

-- behind what is put
so_far-put : (L N : Layout) (text : List ℕ) (boxes : List Box) → SoFar L text → (L.begun ≡ 0 → ⊥) → HasPut L N boxes
    → SoFar (turned_if_full N) (text ++ device_lines L.offset boxes)
so_far-put L N text boxes so_far begun put =
    let page : List PageLine = lines_at L.offset boxes ++ so_far.page in
    let size : length page ≡ page_place N =
    length-lines_at L.offset boxes so_far.page
    ∙ ap (λ n. length boxes + n) so_far.size
    ∙ sym (ap (λ (all : List Box). length all) put.boxes ∙ length-append boxes L.boxes) in
    let written : text ++ device_lines L.offset boxes ≡ pages_text so_far.pages ++ lines_text page =
    ap (λ front. front ++ device_lines L.offset boxes) so_far.written
    ∙ append_assoc (pages_text so_far.pages) (lines_text so_far.page) (device_lines L.offset boxes)
    ∙ ap (λ rest. pages_text so_far.pages ++ rest) (sym (text-lines_at L.offset boxes so_far.page)) in
    so_far-turned (nat_le N.length (page_place N)) N.is_closing L N (text ++ device_lines L.offset boxes) boxes so_far.pages page put
    (omega (arith, so_far.some, put.length)) (λ at_first. begun (sym put.begun ∙ at_first))
    (subst (λ (n : ℕ). AllByRecursion (λ page. length page ≡ n) so_far.pages) (sym put.length) so_far.full) written size refl

-- a layout that changed nothing of its page
pub record IsAlike (L M : Layout) : Type 0 where
  pub boxes : M.boxes ≡ L.boxes
  pub length : M.length ≡ L.length
  pub over : M.is_over ≡ L.is_over
  pub begun : M.begun ≡ L.begun

pub so_far-alike : (L M : Layout) (text more : List ℕ) → more ≡ [] → IsAlike L M → SoFar L text → SoFar M (text ++ more)
so_far-alike L M text more silent alike so_far = record {
  pages = so_far.pages;
  page = so_far.page;
  full = subst (λ (n : ℕ). AllByRecursion (λ page. length page ≡ n) so_far.pages) (sym alike.length) so_far.full;
  written = ap (λ rest. text ++ rest) silent ∙ append-nil text ∙ so_far.written;
  size = so_far.size ∙ sym (ap (λ (all : List Box). length all) alike.boxes);
  some = omega (arith, so_far.some, alike.length);
  unended =
      λ goes.
      let before = so_far.unended (sym alike.over ∙ goes) in
      let place : page_place M ≡ page_place L = ap (λ (all : List Box). length all) alike.boxes in
      omega (arith, before, place, alike.length);
  ended =
      λ over. subst (λ (n : ℕ). (length so_far.page ≡ 0) ⊎ (length so_far.page ≡ n)) (sym alike.length)
      (so_far.ended (sym alike.over ∙ over));
  unbegun = λ at_first. let none = so_far.unbegun (sym alike.begun ∙ at_first) in (none.0, alike.boxes ∙ none.1);
}

-- an event that puts nothing, and changes nothing of the page
pub so_far-quiet : (h : PageHistory) (e : LayoutEvent) → IsAlike (layout_of h) (without_put e (layout_of h))
    → SoFar (layout_of h) (written h)
    → let L : Layout = layout_of h in
    SoFar (without_put e L) (written h ++ (if is_diverted (Does e) L || not L.is_listed then [] else device_lines L.offset []))
so_far-quiet h e alike so_far =
    let L : Layout = layout_of h in
    so_far-alike L (without_put e L) (written h) _ (nothing_by_test (is_diverted (Does e) L || not L.is_listed) L.offset) alike so_far

-- what fills a page fills it just so
size_of : (ended over : Bool) (size length : ℕ) → ended ≡ true → AllByRecursion (λ n. n ≡ length) (sizes_behind ended over size []) → size ≡ length
size_of true true size length is all = all.0
size_of true false size length is all = all.0
size_of false over size length is all = absurd (cc)

both_true : (b c : Bool) → b ≡ true → c ≡ true → (b && c) ≡ true
both_true true true first second = refl
both_true true false first second = absurd (cc)
both_true false c first second = absurd (cc)

fills : (x : Happening) (L : Layout) → keeps_length x ≡ true → is_diverted x L ≡ false → is_some (puts x L) ≡ true → page_place L < L.length
    → nat_le L.length (length (appended x L ++ L.boxes)) ≡ true → length (appended x L ++ L.boxes) ≡ L.length
fills x L keeps on_page some before full =
    let boxes : page_boxes x L ≡ appended x L ++ L.boxes = ap (λ (diverted : Bool). if diverted then L.boxes else appended x L ++ L.boxes) on_page in
    let ends : ends_page x L ≡ true =
    both_true (is_some (puts x L)) (not (is_diverted x L) && nat_le L.length (length (page_boxes x L))) some
    (both_true (not (is_diverted x L)) (nat_le L.length (length (page_boxes x L))) (ap not on_page)
    (ap (λ (all : List Box). nat_le L.length (length all)) boxes ∙ full)) in
    ap (λ (all : List Box). length all) (sym boxes)
    ∙ size_of (ends_page x L) (with_event x L).is_over (length (page_boxes x L)) L.length ends (all_full (x ∷ []) L before (keeps, tt))

-- a happening that puts something on a page that is written
put-writes : (diverted listed : Bool) (offset : ℕ) (boxes : List Box) → diverted ≡ false → listed ≡ true
    → (if diverted || not listed then [] else device_lines offset boxes) ≡ device_lines offset boxes
put-writes true listed offset boxes on_page is_listed = absurd (cc)
put-writes false true offset boxes on_page is_listed = refl
put-writes false false offset boxes on_page is_listed = absurd (cc)

-- a run writes on a page that was begun
pub record OnPage (x : Happening) (L : Layout) : Type 0 where
  pub goes : L.is_over ≡ false
  pub begun : L.begun ≡ 0 → ⊥
  pub listed : L.is_listed ≡ true
  pub on_page : is_diverted x L ≡ false
  pub keeps : keeps_length x ≡ true

pub so_far-happening : (x : Happening) (p : Option Put) (L : Layout) (text : List ℕ) → puts x L ≡ p → is_some p ≡ true → SoFar L text → OnPage x L
    → SoFar (behind_put x p (appended x L) L) (text ++ device_text x L)
so_far-happening x None L text is some so_far on = absurd (cc)
so_far-happening x (Some p) L text is some so_far on =
    let boxes : List Box = appended x L in
    let from : Layout = record L { next = next_behind x L.next } in
    let N : Layout = with_boxes x boxes from in
    let there : N.boxes ≡ boxes ++ L.boxes = ap (λ (diverted : Bool). if diverted then L.boxes else boxes ++ L.boxes) on.on_page in
    let puts_some : is_some (puts x L) ≡ true = ap is_some is ∙ some in
    let fills_page : nat_le N.length (page_place N) ≡ true → page_place N ≡ N.length =
    λ full. ap (λ (all : List Box). length all) there
    ∙ fills x L on.keeps on.on_page puts_some (so_far.unended on.goes) (sym (ap (λ (all : List Box). nat_le L.length (length all)) there) ∙ full) in
    let put : HasPut L N boxes = record {
      boxes = there;
      length = refl;
      begun = refl;
      over = on.goes;
      full = fills_page;
    } in
    subst (λ (diverted : Bool). SoFar (turned_unless diverted N) (text ++ device_text x L)) (sym on.on_page)
    (subst (λ (more : List ℕ). SoFar (turned_if_full N) (text ++ more))
    (sym (put-writes (is_diverted x L) L.is_listed L.offset boxes on.on_page on.listed))
    (so_far-put L N text boxes so_far on.begun put))

-- what is put in a diversion leaves the page, and nothing is written of it
so_far-diverted : (x : Happening) (p : Option Put) (L : Layout) (text : List ℕ) → is_some p ≡ true → is_diverted x L ≡ true → SoFar L text
    → SoFar (behind_put x p (appended x L) L) (text ++ device_text x L)
so_far-diverted x None L text some diverted so_far = absurd (cc)
so_far-diverted x (Some p) L text some diverted so_far =
    let boxes : List Box = appended x L in
    let N : Layout = with_boxes x boxes (record L { next = next_behind x L.next }) in
    let silent : device_text x L ≡ [] = ap (λ (c : Bool). if c || not L.is_listed then [] else device_lines L.offset boxes) diverted in
    let same : N.boxes ≡ L.boxes = ap (λ (c : Bool). if c then L.boxes else boxes ++ L.boxes) diverted in
    subst (λ (c : Bool). SoFar (turned_unless c N) (text ++ device_text x L)) (sym diverted)
    (so_far-alike L N text (device_text x L) silent (record { boxes = same; length = refl; over = refl; begun = refl }) so_far)

-- what holds of a history that kept its page length and wrote each page
abbrev pub IsSoFar : PageHistory → Type 0
IsSoFar h = KeepsLength h → WritesEachPage h → SoFar (layout_of h) (written h)

-- where a page was begun it is written
pub listed : (h : PageHistory) → WritesEachPage h → ((layout_of h).begun ≡ 0 → ⊥) → (layout_of h).is_listed ≡ true
listed [] writes begun = absurd (begun refl)
listed (e ∷ h) writes begun = elim writes.0 [ inl none ↦ absurd (begun none) | inr is ↦ is ]

-- and text goes on it, where no diversion is open
some_begun : (L : Layout) → is_empty L.diversions ≡ true → takes_text L ≡ true → L.begun ≡ 0 → ⊥
some_begun L none takes at_first =
    let first : (not (L.begun == 0) || not (is_empty L.diversions)) ≡ (not (L.begun == 0) || false) =
    ap (λ (c : Bool). not (L.begun == 0) || not c) none in
    let second : (not (L.begun == 0) || false) ≡ false = ap (λ (n : ℕ). not (n == 0) || false) at_first in
    let wrong : true ≡ false = sym takes ∙ first ∙ second in absurd (cc)

-- an event that needs a page finds one
pub finds_page : (takes needs : Bool) → (not takes && needs) ≡ false → needs ≡ true → takes ≡ true
finds_page true needs none is = refl
finds_page false needs none is = let wrong : true ≡ false = sym is ∙ none in absurd (cc)

-- a line that is finished needs one
finished_or : (b c : Bool) → c ≡ true → (b || c) ≡ true
finished_or true c is = refl
finished_or false c is = is

needs-finished : (h : PageHistory) (e : Event) → is_some (finished (text_of h) e) ≡ true → needs_page h (Text e) ≡ true
needs-finished h (Print glyph) is = refl
needs-finished h Tab is = refl
needs-finished h Break is = finished_or (not (layout_of h).is_closing) (is_some (finished (text_of h) Break)) is
needs-finished h FieldEnd is = is
needs-finished h WordEnd is = is
needs-finished h (Gap columns) is = is
needs-finished h LineEnd is = is
needs-finished h Count is = is
needs-finished h Interrupted is = is
needs-finished h Resume is = is
needs-finished h (Set param) is = is

-- where something is put on the page that isn't an eject no diversion is open
none_open : (eject empty : Bool) → eject ≡ false → not (eject || empty) ≡ false → empty ≡ true
none_open true empty placed on_page = absurd (cc)
none_open false true placed on_page = refl
none_open false false placed on_page = absurd (cc)

-- where text is taken something is put that isn't an eject: in a diversion, or on the page in force
so_far-taken_by : (diverted : Bool) (x : Happening) (h : PageHistory) → is_diverted x (layout_of h) ≡ diverted → is_eject x ≡ false
    → keeps_length x ≡ true
    → is_some (puts x (layout_of h)) ≡ true → takes_text (layout_of h) ≡ true → SoFar (layout_of h) (written h) → WritesEachPage h
    → (layout_of h).is_over ≡ false → SoFar (with_event x (layout_of h)) (written h ++ device_text x (layout_of h))
so_far-taken_by true x h there placed keeps some takes so_far writes goes =
    so_far-diverted x (puts x (layout_of h)) (layout_of h) (written h) some there so_far
so_far-taken_by false x h there placed keeps some takes so_far writes goes =
    let L : Layout = layout_of h in
    let begun : L.begun ≡ 0 → ⊥ = some_begun L (none_open (is_eject x) (is_empty L.diversions) placed there) takes in
    so_far-happening x (puts x L) L (written h) refl some so_far
    (record { goes = goes; begun = begun; listed = listed h writes begun; on_page = there; keeps = keeps })

pub so_far-taken : (x : Happening) (h : PageHistory) → is_eject x ≡ false → keeps_length x ≡ true → is_some (puts x (layout_of h)) ≡ true
    → takes_text (layout_of h) ≡ true → SoFar (layout_of h) (written h) → WritesEachPage h
    → (layout_of h).is_over ≡ false → SoFar (with_event x (layout_of h)) (written h ++ device_text x (layout_of h))
so_far-taken x h placed keeps some takes so_far writes goes =
    so_far-taken_by (is_diverted x (layout_of h)) x h refl placed keeps some takes so_far writes goes

-- a line that an event finishes, if it finishes one
so_far-line : (x : Option Finished) (h : PageHistory) → SoFar (layout_of h) (written h) → WritesEachPage h → (layout_of h).is_over ≡ false
    → (is_some x ≡ true → takes_text (layout_of h) ≡ true)
    → SoFar (laid_out (option_map Places x) (layout_of h)) (written h ++ text_laid (option_map Places x) (layout_of h))
so_far-line None h so_far writes goes takes = subst (λ (text : List ℕ). SoFar (layout_of h) text) (sym (append-nil (written h))) so_far
so_far-line (Some line) h so_far writes goes takes = so_far-taken (Places line) h refl refl refl (takes refl) so_far writes goes

pub so_far-text : (h : PageHistory) (e : Event) → begins h (Text e) ≡ false → (layout_of h).is_over ≡ false → IsSoFar h → IsSoFar (Text e ∷ h)
so_far-text h e none goes so_far keeps writes =
    so_far-line (finished (text_of h) e) h (so_far keeps.1 writes.1) writes.1 goes
    (λ some. finds_page (takes_text (layout_of h)) (needs_page h (Text e)) none (needs-finished h e some))

-- a title that is placed
pub so_far-title : (h : PageHistory) (t : TitleTold) → begins h (Title Read) ≡ false → (layout_of h).is_over ≡ false → IsSoFar h → IsSoFar (Title t ∷ h)
so_far-title h t none goes so_far keeps writes =
    let x : Happening = Titles (placed t (text_of h) (layout_of h)) in
    let before : SoFar (layout_of h) (written h) = so_far keeps.1 writes.1 in
    so_far-taken x h refl refl refl (finds_page (takes_text (layout_of h)) true none refl) before writes.1 goes

-- what isn't of pages, or puts nothing
pub so_far-nothing : (h : PageHistory) → SoFar (layout_of h) (written h) → SoFar (layout_of h) (written h ++ [])
so_far-nothing h so_far = subst (λ (text : List ℕ). SoFar (layout_of h) text) (sym (append-nil (written h))) so_far

-- the page's number
pub so_far-number : (h : PageHistory) (n : Num) → IsSoFar h → IsSoFar (Page (Number n) ∷ h)
so_far-number h n so_far keeps writes =
    so_far-quiet h (Number n) (record { boxes = refl; length = refl; over = refl; begun = refl }) (so_far keeps.1 writes.1)

-- the next page's, the page offset, and the pages that are written
pub so_far-next : (h : PageHistory) (n : Num) → IsSoFar h → IsSoFar (Page (Next n) ∷ h)
so_far-next h n so_far keeps writes =
    so_far-quiet h (Next n) (record { boxes = refl; length = refl; over = refl; begun = refl }) (so_far keeps.1 writes.1)

pub so_far-offset : (h : PageHistory) (columns : ℕ) → IsSoFar h → IsSoFar (Page (Offset columns) ∷ h)
so_far-offset h columns so_far keeps writes =
    so_far-quiet h (Offset columns) (record { boxes = refl; length = refl; over = refl; begun = refl }) (so_far keeps.1 writes.1)

pub so_far-listed : (first last : Num) (h : PageHistory) → IsSoFar h → IsSoFar (Page (ListPages first last) ∷ h)
so_far-listed first last h so_far keeps writes =
    so_far-quiet h (ListPages first last) (record { boxes = refl; length = refl; over = refl; begun = refl }) (so_far keeps.1 writes.1)

-- the beginning of the closing phase
pub so_far-close : (h : PageHistory) → IsSoFar h → IsSoFar (Page Close ∷ h)
so_far-close h so_far keeps writes =
    so_far-quiet h Close (record { boxes = refl; length = refl; over = refl; begun = refl }) (so_far keeps.1 writes.1)

-- the page length, which is set before the first page
pub so_far-length : (h : PageHistory) (k : ℕ) → 0 < k → (layout_of h).is_over ≡ false → IsSoFar h → IsSoFar (Page (Length k) ∷ h)
so_far-length h k some goes so_far keeps writes =
    let L : Layout = layout_of h in
    let before : SoFar L (written h) = so_far keeps.1 writes.1 in
    let none = before.unbegun (keeps.0 refl) in
    let silent = nothing_by_test (is_diverted (Does (Length k)) L || not L.is_listed) L.offset in
    let place : page_place L ≡ 0 = ap (λ (all : List Box). length all) none.1 in record {
      pages = [];
      page = before.page;
      full = tt;
      written =
          ap (λ rest. written h ++ rest) silent ∙ append-nil (written h) ∙ before.written ∙ ap (λ pages. pages_text pages ++ lines_text before.page) none.0;
      size = before.size;
      some = some;
      unended = λ goes. omega (arith, place, some);
      ended = λ over. inl (before.size ∙ place);
      unbegun = λ at_first. (refl, none.1);
    }

-- the first page begins
pub so_far-begin : (h : PageHistory) → (layout_of h).begun ≡ 0 → (layout_of h).is_over ≡ false → IsSoFar h → IsSoFar (Page Begin ∷ h)
so_far-begin h at_first goes so_far keeps writes =
    let L : Layout = layout_of h in
    let before : SoFar L (written h) = so_far keeps.1 writes.1 in
    let none = before.unbegun at_first in
    let silent = nothing_by_test (is_diverted (Does Begin) L || not L.is_listed) L.offset in
    let place : page_place L ≡ 0 = ap (λ (all : List Box). length all) none.1 in record {
      pages = before.pages;
      page = before.page;
      full = before.full;
      written = ap (λ rest. written h ++ rest) silent ∙ append-nil (written h) ∙ before.written;
      size = before.size ∙ place;
      some = before.some;
      unended = λ goes. before.some;
      ended = λ over. inl (before.size ∙ place);
      unbegun = λ none. absurd (omega (arith, none));
    }

-- before anything happened nothing was written
pub so_far-blank : IsSoFar []
so_far-blank keeps writes = record {
  pages = [];
  page = [];
  full = tt;
  written = refl;
  size = refl;
  some = omega arith;
  unended = λ goes. omega arith;
  ended = λ over. inl refl;
  unbegun = λ none. (refl, refl);
}
