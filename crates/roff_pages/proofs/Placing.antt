-- Lines and titles that are placed on a page.
use Rattle.std.proofs.Common.{◌≡◌, ℕ, zero, suc, ◌+◌, ◌-◌, ◌<◌, min, Bool, true, false, List, [], ◌∷◌, ◌++◌, length, replicate, Option, Some, None, Ok, Err, ◌≤◌, refl, sym, ap, ◌∙◌, arith, ◌^◌, length-append}
use Rattle.std.proofs.lemmas.List.{length-replicate}
use Rattle.roff_num.specs.declared.num.Num.{Num}
use Rattle.page_model.specs.Lines.{Finished}
use Rattle.page_model.specs.Columns.{device_line, printed}
use Rattle.page_bytes.specs.declared.page_fault.PageFault.TheVariants.{Sink}
use Rattle.page_bytes.specs.Sinks.{Sunk, Writes, Fails}
use Rattle.page_model.specs.Layout.{Box, Lined, Empty, Layout, page_place}
use Rattle.page_model.specs.Happenings.{Places, Titles}
use Rattle.page_model.specs.Stops.{next_stop}
use Rattle.page_model.specs.Titles.{Title, title_text}
use Rattle.page_model.specs.DeviceText.{device_lines}
use Rattle.page_model.specs.Turning.{no_space_behind, turned_if_full}
use Rattle.roff_pages.specs.Pages.Kept.{Kept}
use Rattle.roff_pages.specs.Pages.Stands.{StandsAs}
use Rattle.roff_pages.specs.Pages.Advancing.{sprung_by, way_on, with_lines}
use Rattle.roff_pages.specs.Pages.Printing.{DidTo, Printed, if_listed}
use Rattle.page_bytes.proofs.Appending.{Writes-nothing}
use Rattle.roff_pages.proofs.NextStop.{next_stop_le}
use Rattle.roff_pages.proofs.Standing.{goes_on_standing, none_sprung}
use Rattle.roff_pages.proofs.PageBoxes.{PutsBoxes, boxed, device_lines-behind, did_boxes, set_standing, unboxed}
use Rattle.roff_pages.proofs.Blanking.{closed_page, closed_target, none_open, way_is}

-- a text, and blank lines behind it
abbrev pub text_boxes : ℕ → List ℕ → List Box
text_boxes after text = replicate after Empty ++ Lined text ∷ []

pub length-text_boxes : (after : ℕ) (text : List ℕ) → length (text_boxes after text) ≡ after + 1
length-text_boxes after text =
    omega (arith, length-append {A = Box} (replicate after Empty) (Lined text ∷ []), length-replicate {A = Box} after Empty)

-- a text ends no-space mode
pub ended_by_text : (on : Bool) (after : ℕ) (text : List ℕ) → no_space_behind false (text_boxes after text) on ≡ false
ended_by_text true zero text = refl
ended_by_text true (suc after) text = refl
ended_by_text false after text = refl

-- a line puts its text, and its blank lines up to the next stop
pub line_puts : (line : Finished) (L : Layout) (k : Kept) (after : ℕ) (next : Option Num) → StandsAs L k → k.length < 2 ^ 32 → k.diversions ≡ []
    → after ≡ min line.after (way_on k - 1) → next ≡ k.next → PutsBoxes (Places line) L (text_boxes after (printed line)) next false
line_puts line L k after next s short none is same =
    let closed : L.diversions ≡ [] = none_open L k s none in
    let way = way_is L k s short in
    let cut : min line.after (next_stop L.length (page_place L) L.traps - (page_place L + 1)) ≡ after = omega (arith, way, is) in
    record {
      put = record { first = Some (printed line); space = line.after };
      puts_is = refl;
      target_is = closed_target L closed;
      on_page = closed_page L closed;
      boxes_are = ap (λ n. text_boxes n (printed line)) cut;
      next_is = sym (same ∙ s.next);
      mode_is = ended_by_text L.no_space after (printed line);
    }

-- a title puts its text alone
pub title_puts : (t : Title) (L : Layout) (k : Kept) (next : Option Num) → StandsAs L k → k.diversions ≡ [] → next ≡ k.next
    → PutsBoxes (Titles t) L (text_boxes 0 (title_text t)) next false
title_puts t L k next s none same =
    let closed : L.diversions ≡ [] = none_open L k s none in
    let cut : min 0 (next_stop L.length (page_place L) L.traps - (page_place L + 1)) ≡ 0 = omega arith in
    record {
      put = record { first = Some (title_text t); space = 0 };
      puts_is = refl;
      target_is = closed_target L closed;
      on_page = closed_page L closed;
      boxes_are = ap (λ n. text_boxes n (title_text t)) cut;
      next_is = sym (same ∙ s.next);
      mode_is = ended_by_text L.no_space 0 (title_text t);
    }

-- what a text does that doesn't reach the next stop: it was written
free_stands : (k : Kept) (boxes : List Box) (lines count : ℕ) → k.length < 2 ^ 32 → k.place + lines < next_stop k.length k.place k.traps
    → k.no_space ≡ false → length boxes ≡ lines → (N : Layout) → StandsAs N (record k { written = k.written + count })
    → StandsAs (turned_if_full (with_lines boxes (record N { next = k.next; no_space = false })))
    (record k { place = k.place + lines; written = k.written + count })
free_stands k boxes lines count short ahead mode long N s =
    let last = next_stop_le k.length k.place k.traps in
    let mid : Kept = record k { written = k.written + count } in
    goes_on_standing (record N { next = k.next; no_space = false }) boxes (record mid { next = k.next; no_space = false })
    (record k { place = k.place + lines; written = k.written + count }) (k.place + lines)
    (set_standing N mid k.next false s) short (omega (arith, ahead, last, short, long)) (omega (arith, ahead, last))
    (ap (λ (on : Bool). record k { place = k.place + lines; written = k.written + count; no_space = on }) (sym mode))

free_springs : (k : Kept) (boxes : List Box) (lines count : ℕ) → k.length < 2 ^ 32 → k.place + lines < next_stop k.length k.place k.traps
    → length boxes ≡ lines → (N : Layout) → StandsAs N (record k { written = k.written + count })
    → None ≡ sprung_by boxes (record N { next = k.next; no_space = false })
free_springs k boxes lines count short ahead long N s =
    let last = next_stop_le k.length k.place k.traps in
    let mid : Kept = record k { written = k.written + count } in
    none_sprung (record N { next = k.next; no_space = false }) boxes (record mid { next = k.next; no_space = false }) (k.place + lines)
    (set_standing N mid k.next false s) short (omega (arith, ahead, last, short, long)) ahead

-- a line with its blank lines, as it is written
abbrev pub line_text : Kept → Finished → List ℕ
line_text k line = device_line k.offset (printed line) ++ replicate line.after 10

-- a line that reaches no stop puts all of its blank lines
free_puts : (line : Finished) (L : Layout) (k : Kept) → StandsAs L k → k.length < 2 ^ 32 → k.diversions ≡ []
    → k.place + (line.after + 1) < next_stop k.length k.place k.traps → PutsBoxes (Places line) L (text_boxes line.after (printed line)) k.next false
free_puts line L k s short none ahead = line_puts line L k line.after k.next s short none (omega (arith, ahead)) refl

-- it was written
pub placed_freely : (line : Finished) (L : Layout) (k : Kept) (count : ℕ) (out out_then : Sunk) → StandsAs L k → k.length < 2 ^ 32 → k.diversions ≡ []
    → k.place + (line.after + 1) < next_stop k.length k.place k.traps → k.is_listed ≡ true → k.no_space ≡ false
    → count ≡ length (line_text k line) → k.written + count ≤ k.output → Writes out out_then (line_text k line)
    → DidTo L (Places line) (Ok None) k (record k { place = k.place + (line.after + 1); written = k.written + count }) out out_then
placed_freely line L k count out out_then s short none ahead listed mode whole within writes =
    let boxes : List Box = text_boxes line.after (printed line) in
    let long = length-text_boxes line.after (printed line) in
    let mid : Kept = record k { written = k.written + count } in
    let new : Kept = record k { place = k.place + (line.after + 1); written = k.written + count } in
    let same : line_text k line ≡ device_lines k.offset boxes = sym (device_lines-behind k.offset line.after (Lined (printed line))) in
    did_boxes (Places line) L boxes k.next false k new out out_then (Ok None) (free_puts line L k s short none ahead)
    (boxed L k mid new boxes (line.after + 1) k.next false None (line_text k line) out out_then s refl long same
    (λ N boxes s long. free_stands k boxes (line.after + 1) count short ahead mode long N s)
    (λ N boxes s long. free_springs k boxes (line.after + 1) count short ahead long N s)
    refl (rw listed (record { within = omega (arith, whole, within); written = omega (arith, whole); writes = writes })))

-- the sink failed
pub cut_freely : (line : Finished) (L : Layout) (k : Kept) (out out_then : Sunk) → StandsAs L k → k.length < 2 ^ 32 → k.diversions ≡ []
    → k.place + (line.after + 1) < next_stop k.length k.place k.traps → k.is_listed ≡ true
    → k.written + length (line_text k line) ≤ k.output → Fails out out_then (line_text k line)
    → DidTo L (Places line) (Err Sink) k k out out_then
cut_freely line L k out out_then s short none ahead listed within fails =
    let boxes : List Box = text_boxes line.after (printed line) in
    let same : line_text k line ≡ device_lines k.offset boxes = sym (device_lines-behind k.offset line.after (Lined (printed line))) in
    did_boxes (Places line) L boxes k.next false k k out out_then (Err Sink) (free_puts line L k s short none ahead)
    (unboxed L k k Sink boxes (line_text k line) out out_then s same (rw listed (record { within = within; same = refl; fails = fails })))

-- the page isn't written
pub printed_nowhere : (k : Kept) (text : List ℕ) (out : Sunk) → k.is_listed ≡ false → k.written ≤ k.output → Printed k k out out (if_listed k.is_listed text)
printed_nowhere k text out listed within =
    rw listed (record { within = omega (arith, within); written = omega arith; writes = Writes-nothing out })
