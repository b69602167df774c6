-- What is put in the innermost open diversion, and what isn't: what the formatter's functions say of both.
use Rattle.std.proofs.Common.{◌∙◌, ◌≡◌, inl, inr, ◌<◌, ℕ, ◌-◌, Bool, true, false, List, [], ◌∷◌, length, Option, Some, None, Result, Ok, ap, arith, refl, subst, sym, if◌then◌else◌, min, nat_lt, not}
use Rattle.std.proofs.lemmas.List.{length-replicate}
use Rattle.roff_num.specs.declared.short_name.ShortName.{ShortName}
use Rattle.page_model.specs.DeviceText.{device_text}
use Rattle.page_model.specs.DivertedText.{diverted_lines, diverted_text}
use Rattle.page_model.specs.DueTexts.{AllDropped, Ends, bytes_due, drop_due, end_due, text_due}
use Rattle.page_model.specs.Happenings.{Happening, Does}
use Rattle.page_model.specs.Layout.{Box, Diversion, Empty, Layout}
use Rattle.page_model.specs.Puts.{appended, blank_lines, boxes_put, needed, within_stop}
use Rattle.page_model.specs.Queries.{text_target}
use Rattle.page_model.specs.Springs.{springs_on_page}
use Rattle.page_model.specs.Stops.{Target, is_diverted}
use Rattle.page_model.specs.Turning.{without_innermost}
use Rattle.page_model.specs.Words.{is_empty}
use Rattle.page_model.specs.declared.layout_event.LayoutEvent.{LayoutEvent}
use Rattle.page_model.specs.declared.layout_event.LayoutEvent.TheVariants.{Need, Space}
use Rattle.roff_pages.specs.Pages.Innermost.{name_and_way}
use Rattle.roff_pages.specs.Pages.Kept.{Kept}
use Rattle.roff_pages.specs.Pages.Stands.{Happens, StandsAs}
use Rattle.roff_pages.proofs.Diverting.{is_open}
use Rattle.run_state.specs.declared.due_text.Due.{Due}
use Rattle.run_state.specs.declared.due_text.DueText.{DueText}
use Rattle.run_state.specs.declared.due_text.DueText.TheVariants.{BlankLines as BlankDue}
use Rattle.page_bytes.specs.Sinks.{Sunk, Writes}
use Rattle.page_bytes.proofs.Appending.{Writes-nothing}
use Rattle.run_events.specs.declared.halt.Halt.{Halt}
use Rattle.run_events.specs.declared.sprung.Sprung.{Sprung}
use Rattle.run_events.specs.Formatter.Paging.{PutsIn, PutsOnPage, blank_due, halted_by, noted_by}
use Rattle.run_events.specs.Formatter.Sprung.{StopsSprung}
use Rattle.run_events.proofs.Placed.{diverted_nothing}

-- where a diversion is open in code it is in the layout
pub open_in : (L : Layout) (k : Kept) → StandsAs L k → 0 < length k.diversions → not (is_empty L.diversions) ≡ true
open_in L k s some = ap not (is_open L k s some)

-- what puts nothing in a diversion changes no text
no_boxes : (boxes : List Box) → length boxes ≡ 0 → boxes ≡ []
no_boxes [] is = refl
no_boxes (b ∷ boxes) is = absurd (omega (arith, is))

pub untold_within : (x : Happening) (L : Layout) → length (appended x L) ≡ 0 → is_diverted x L ≡ true → text_due x L ≡ bytes_due L.diversions (diverted_text x L) → text_due x L ≡ None
untold_within x L none is reads =
    reads ∙ ap (λ (b : Bool). bytes_due L.diversions (if b then diverted_lines (appended x L) else [])) is
    ∙ ap (λ (boxes : List Box). bytes_due L.diversions (diverted_lines boxes)) (no_boxes (appended x L) none)

-- where nothing was put in a diversion nothing is due but what sprang
pub put_nothing : (x : Happening) (text : Layout → DueText) (old new : Kept) (due_old due_new : Due) (out : Sunk) (name : Option ShortName) (r : Result (Option Sprung) Halt)
    → Happens x old new → ((L : Layout) → StandsAs L old → name ≡ springs_on_page x L) → ((L : Layout) → StandsAs L old → is_diverted x L ≡ true)
    → ((L : Layout) → StandsAs L old → text_due x L ≡ None)
    → ((L : Layout) → StandsAs L new → r ≡ halted_by (Ok name) L.is_over) → due_new ≡ noted_by (Ok name) due_old → StopsSprung r due_new
    → PutsOnPage x text old new due_old due_new out out r
put_nothing x text old new due_old due_new out name r happens sprang diverts untold halts due stops =
    inl (record {
      answer = Ok name;
      puts = record {
        did = λ L stands few.
            let none : device_text x L ≡ [] = diverted_nothing x L (diverts L stands) in
            let count : length (device_text x L) ≡ 0 = ap length none in
            record {
              stands = happens.stands L stands;
              springs = sprang L stands;
              printed = record {
                within = omega (arith, few, count);
                written = omega (arith, happens.written, count);
                writes = subst (λ (bytes : List ℕ). Writes out out bytes) (sym none) (Writes-nothing out);
              };
            };
        limits = happens.limits;
      };
      untold = untold;
      halts = halts;
      due = due;
      stops = stops;
    })

-- how many blank lines are spaced
pub spaced_count : (k : ℕ) (L : Layout) → is_empty L.diversions ≡ false → let t : Target = text_target L in
    length (appended (Does (Space k)) L) ≡ (if t.no_space then 0 else within_stop t.place t.stop k)
spaced_count k L some = by (text_target L).no_space
  where
    by : (none : Bool) → let t : Target = text_target L in
        length (boxes_put t (if none then None else Some (blank_lines k))) ≡ (if none then 0 else within_stop t.place t.stop k)
    by true = refl
    by false = length-replicate (within_stop (text_target L).place (text_target L).stop k) Empty

-- and how many are needed
needed-within : (k place : ℕ) (stop : Option ℕ) → within_stop place stop (needed k place stop) ≡ needed k place stop
needed-within k place None = refl
needed-within k place (Some stop) = by (nat_lt (stop - place) k)
  where
    by : (b : Bool) → min (if b then stop - place else 0) (stop - place) ≡ (if b then stop - place else 0)
    by true = omega arith
    by false = omega arith

pub needed_count : (k : ℕ) (L : Layout) → let t : Target = text_target L in length (appended (Does (Need k)) L) ≡ needed k t.place t.stop
needed_count k L =
    let t : Target = text_target L in
    length-replicate (within_stop t.place t.stop (needed k t.place t.stop)) Empty ∙ needed-within k t.place t.stop

-- blank lines that an event put in a diversion
pub put_blank : (e : LayoutEvent) (old new : Kept) (due_old due_new : Due) (out : Sunk) (count : ℕ) (r : Result (Option Sprung) Halt)
    → PutsIn (Does e) (λ L. BlankDue count) old new due_new out out r → ((L : Layout) → StandsAs L old → length (appended (Does e) L) ≡ count)
    → PutsOnPage (Does e) (blank_due e) old new due_old due_new out out r
put_blank e old new due_old due_new out count r put is = inr (record {
  happens = put.happens;
  kind = put.kind;
  diverted = put.diverted;
  some = put.some;
  springs = put.springs;
  told = λ L stands. put.told L stands ∙ ap BlankDue (sym (is L stands));
  quiet = put.quiet;
  is = put.is;
})

-- what becomes of texts where the innermost diversion ends
pub none_ends : (ds : List Diversion) → name_and_way ds ≡ None → end_due ds ≡ None
none_ends [] is = refl
none_ends (d ∷ ds) is = absurd (cc)

pub one_ends : (ds : List Diversion) (name : ShortName) (appends : Bool) → name_and_way ds ≡ Some (name, appends)
    → end_due ds ≡ Some (Ends (length (without_innermost ds)) name appends)
one_ends [] name appends is = absurd (cc)
one_ends (d ∷ ds) name appends is =
    ap (λ (o : Option (ShortName × Bool)). elim o [ None ↦ None | Some way ↦ Some (Ends (length ds) way.0 way.1) ]) is

-- and where all are dropped
pub none_dropped : (ds : List Diversion) → not (is_empty ds) ≡ false → drop_due ds ≡ None
none_dropped [] is = refl
none_dropped (d ∷ ds) is = absurd (cc)

pub all_dropped : (ds : List Diversion) → not (is_empty ds) ≡ true → drop_due ds ≡ Some AllDropped
all_dropped [] is = absurd (cc)
all_dropped (d ∷ ds) is = refl
