-- A history behind which text of a diversion is read again, and the events of such text.
use Rattle.std.proofs.Common.{◌≡◌, ℕ, ◌≤◌, Bool, true, false, List, [], ◌∷◌, ◌++◌, length, Option, Some, None, refl, ap, ◌∙◌, arith, ◌&&◌, is_some, not, option_map, if◌then◌else◌, le-ltb, append-nil}
use Rattle.roff_num.specs.declared.limit.Limit.TheVariants.{Line}
use Rattle.roff_num.specs.declared.limits.Limits.{Limits}
use Rattle.roff_num.specs.declared.short_name.ShortName.{ShortName}
use Rattle.page_model.specs.declared.event.Event.TheVariants.{Print, WordEnd}
use Rattle.page_model.specs.declared.event.Event.{Event}
use Rattle.page_model.specs.Behind.{finished, length_reached}
use Rattle.page_model.specs.Events.{History, is_interrupted, settings_after}
use Rattle.page_model.specs.Fields.{Told, so_far, told_plainly, told_behind, unfielded}
use Rattle.page_model.specs.Happenings.{Places}
use Rattle.page_model.specs.Layout.{Box, Layout}
use Rattle.page_model.specs.Lines.{Finished, finished_in, pending_length as length_in}
use Rattle.page_model.specs.Queries.{takes_text}
use Rattle.page_model.specs.Words.{open_glyphs, paragraph}
use Rattle.page_model.specs.declared.glyph.Glyph.{Glyph}
use Rattle.run_model.specs.Environments.{environments, interrupted_line, text_of}
use Rattle.run_model.specs.Following.{text_behind}
use Rattle.run_model.specs.Layouts.{happens, laid_out, layout_of}
use Rattle.run_model.specs.Output.{text_laid, written}
use Rattle.run_model.specs.declared.event.PageEvent.TheVariants.{Text}
use Rattle.run_model.specs.PageEvents.{PageEvent, PageHistory}
use Rattle.run_model.specs.Run.{State}
use Rattle.run_model.specs.Run.Counts.{first_passed, written_counted}
use Rattle.run_model.specs.Springs.{begins, ends_field, field_end_or, needs_page, next, next_unfielded, page_begin_or, springs, sprung_on, word_end_of}
use Rattle.law_reading_again.proofs.DivertedBoxes.{Around, holding, takes_text-diverted}
use Rattle.law_reading_again.proofs.Events.{IsQuiet}
use Rattle.law_reading_again.proofs.Glyphs.{line_of}
use Rattle.law_reading_again.proofs.PendingLines.{clear, unfilled, finished-word_end, pending-glyph}

-- behind this history these boxes are in the diversion, and these glyphs, the newest first, are the open word; no field is open, and
-- nothing else is pending: so it is told without fields
pub record Stands (around : Around) (boxes : List Box) (glyphs : List Glyph) (h : PageHistory) : Type 0 where
  pub events : History
  pub as_told : told_plainly (text_of h) ≡ unfielded events
  pub laid : layout_of h ≡ holding around boxes
  pub settings : settings_after events ≡ unfilled around.settings
  pub cleared : paragraph events ≡ clear
  pub word : open_glyphs events ≡ glyphs
  pub unbroken : is_interrupted (text_of h) ≡ false
  pub trapless : (environments h).in_force.input_trap ≡ None
  pub unwritten : written h ≡ around.output

-- no line goes on
pub none_goes_on : (around : Around) (boxes : List Box) (glyphs : List Glyph) (h : PageHistory) → Stands around boxes glyphs h
    → interrupted_line h ≡ None
none_goes_on around boxes glyphs h stands =
    ap (λ (c : Bool). if c then Some (environments h).in_force.interrupted else None) stands.unbroken

-- nothing comes before an event, as no word is open where one would end, and no page begins in a diversion
no_page : (takes needs : Bool) → takes ≡ true → (not takes && needs) ≡ false
no_page true needs takes = refl
no_page false needs takes = absurd (cc)

none_before : (around : Around) (boxes : List Box) (h : PageHistory) (e : PageEvent) → layout_of h ≡ holding around boxes
    → begins h e ≡ false
none_before around boxes h e laid =
    no_page (takes_text (layout_of h)) (needs_page h e) (ap takes_text laid ∙ takes_text-diverted around boxes)

pub first-none : (around : Around) (boxes : List Box) (h : PageHistory) (e : PageEvent) → layout_of h ≡ holding around boxes
    → ends_field h e ≡ false → word_end_of h e ≡ None
    → next h e ≡ None
first-none around boxes h e laid no_field none =
    ap (λ (c : Bool). field_end_or c (next_unfielded h e)) no_field
    ∙ ap (λ (o : Option PageEvent). elim o [ None ↦ page_begin_or (begins h e) None | Some own ↦ page_begin_or (begins h own) (Some own) ]) none
    ∙ ap (λ (c : Bool). page_begin_or c None) (none_before around boxes h e laid)

-- an event that finishes no line is quiet, if there is room for the pending line
pub quiet-event : (l : Limits) (around : Around) (boxes : List Box) (s : State) (e : Event) → layout_of s.history ≡ holding around boxes
    → ends_field s.history (Text e) ≡ false → word_end_of s.history (Text e) ≡ None
    → finished (text_of s.history) e ≡ None → springs s.history (Text e) ≡ None
    → length_reached e (text_of s.history) ≤ l.line → IsQuiet l s (Text e) None
quiet-event l around boxes s e laid no_field none_ends none none_springs room =
    let h : PageHistory = s.history in
    let pending : ℕ = length_reached e (text_of h) in record {
      first = first-none around boxes h (Text e) laid no_field none_ends;
      allowed = ap (λ (o : Option Finished). first_passed l ((Line, pending) ∷ written_counted h (option_map Places o))) none
          ∙ ap (λ (c : Bool). if c then Some Line else None) (le-ltb l.line pending room);
      goes_on = ap (λ (o : Option Finished). (laid_out (option_map Places o) (layout_of h)).is_over) none
          ∙ ap (λ (L : Layout). L.is_over) laid ∙ around.goes_on;
      follows = ap
          (λ (o : Option Finished). record { text = text_behind (option_map Places o) (layout_of h); sprung = springs h (Text e) }) none
          ∙ ap (λ (name : Option ShortName). record { text = None; sprung = name }) none_springs;
      none_left = refl;
    }

-- it leaves the layout and the output
pub laid-event : (around : Around) (boxes : List Box) (h : PageHistory) (e : Event) → layout_of h ≡ holding around boxes
    → finished (text_of h) e ≡ None
    → layout_of (Text e ∷ h) ≡ holding around boxes
laid-event around boxes h e laid none = ap (λ (o : Option Finished). laid_out (option_map Places o) (layout_of h)) none ∙ laid

pub written-event : (out : List ℕ) (h : PageHistory) (e : Event) → written h ≡ out → finished (text_of h) e ≡ None
    → written (Text e ∷ h) ≡ out
written-event out h e unwritten none =
    ap (λ (o : Option Finished). written h ++ text_laid (option_map Places o) (layout_of h)) none
    ∙ ap (λ (bytes : List ℕ). bytes ++ []) unwritten
    ∙ append-nil out

-- it springs nothing, unless it counts
pub springs-none : (h : PageHistory) (e : Event) → finished (text_of h) e ≡ None → sprung_on (happens h (Text e)) (layout_of h) ≡ None
springs-none h e none = ap (λ (o : Option Finished). sprung_on (option_map Places o) (layout_of h)) none

-- a glyph
pub quiet-print : (l : Limits) (around : Around) (boxes : List Box) (gs : List Glyph) (s : State) (g : Glyph)
    → Stands around boxes gs s.history
    → length (line_of (g ∷ gs)) ≤ l.line → IsQuiet l s (Text (Print g)) None
quiet-print l around boxes gs s g stands room =
    let length_as : length_reached (Print g) (text_of s.history) ≡ length_in (Print g ∷ stands.events) =
    ap (λ (t : Told). length_in (so_far (told_behind (Print g) t))) stands.as_told in
    quiet-event l around boxes s (Print g) stands.laid refl refl refl refl
    (omega (arith, room, length_as, pending-glyph stands.events g gs stands.cleared stands.word))

pub Stands-print : (around : Around) (boxes : List Box) (gs : List Glyph) (h : PageHistory) (g : Glyph) → Stands around boxes gs h
    → Stands around boxes (g ∷ gs) (Text (Print g) ∷ h)
Stands-print around boxes gs h g stands = record {
  events = Print g ∷ stands.events;
  as_told = ap (told_behind (Print g)) stands.as_told;
  laid = stands.laid;
  settings = stands.settings;
  cleared = stands.cleared;
  word = ap (λ (os : List Glyph). g ∷ os) stands.word;
  unbroken = stands.unbroken;
  trapless = stands.trapless;
  unwritten = ap (λ (bytes : List ℕ). bytes ++ []) stands.unwritten ∙ append-nil around.output;
}

-- a history behind which a word has ended
abbrev pub ended : PageHistory → PageHistory
ended h = Text WordEnd ∷ h

finished-ended : (around : Around) (boxes : List Box) (gs : List Glyph) (h : PageHistory) → Stands around boxes gs h
    → finished (text_of h) WordEnd ≡ None
finished-ended around boxes gs h stands =
    ap (λ (t : Told). if is_some t.field then None else finished_in (so_far t) WordEnd) stands.as_told
    ∙ finished-word_end stands.events stands.cleared

pub quiet-word_end : (l : Limits) (around : Around) (boxes : List Box) (gs : List Glyph) (s : State)
    (stands : Stands around boxes gs s.history)
    → length_in (WordEnd ∷ stands.events) ≤ l.line → IsQuiet l s (Text WordEnd) None
quiet-word_end l around boxes gs s stands room =
    let none : finished (text_of s.history) WordEnd ≡ None = finished-ended around boxes gs s.history stands in
    let length_as : length_reached WordEnd (text_of s.history) ≡ length_in (WordEnd ∷ stands.events) =
    ap (λ (t : Told). length_in (so_far (told_behind WordEnd t))) stands.as_told in
    quiet-event l around boxes s WordEnd stands.laid refl refl none (springs-none s.history WordEnd none) (omega (arith, room, length_as))

pub laid-word_end : (around : Around) (boxes : List Box) (gs : List Glyph) (h : PageHistory) → Stands around boxes gs h
    → layout_of (ended h) ≡ holding around boxes
laid-word_end around boxes gs h stands = laid-event around boxes h WordEnd stands.laid (finished-ended around boxes gs h stands)

pub written-word_end : (around : Around) (boxes : List Box) (gs : List Glyph) (h : PageHistory) → Stands around boxes gs h
    → written (ended h) ≡ around.output
written-word_end around boxes gs h stands =
    written-event around.output h WordEnd stands.unwritten (finished-ended around boxes gs h stands)
