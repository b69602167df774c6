-- The law of reading again, from a run's beginning.
use Rattle.std.proofs.Common.{◌≡◌, ◌≤◌, Bool, false, List, [], ◌∷◌, Some, None, refl, ap, ◌∙◌, arith, if◌then◌else◌, map, le-ltb, append-nil}
use Rattle.roff_num.specs.declared.limit.Limit.TheVariants.{Diversions, Line, Output}
use Rattle.page_model.specs.DueTexts.{Begins}
use Rattle.page_model.specs.declared.event.Event.TheVariants.{Set}
use Rattle.page_model.specs.declared.layout_event.LayoutEvent.TheVariants.{Divert}
use Rattle.page_model.specs.declared.settings.Param.TheVariants.{Filling}
use Rattle.run_model.proofs.ItemsTaken.{Fits-IsWithin}
use Rattle.run_model.specs.PageEvents.{PageEvent}
use Rattle.run_model.specs.Run.{after, blank_state, first_input, State}
use Rattle.run_model.specs.Run.Counts.{first_passed}
use Rattle.run_model.specs.declared.event.PageEvent.TheVariants.{Page, Text}
use Rattle.law_reading_again.proofs.Events.{IsQuiet, event-step, text-step}
use Rattle.roff_num.specs.declared.limits.Limits.{Limits}
use Rattle.roff_num.specs.declared.short_name.ShortName.{ShortName}
use Rattle.input_model.specs.Input.Names.{names_added, stored}
use Rattle.page_model.specs.Layout.{Box, first_layout}
use Rattle.run_model.specs.Within.{IsWithin}
use Rattle.input_source.specs.Tape.{Tape, OneByte, items_then}
use Rattle.law_reading_again.specs.Again.{DiversionsBegin, ReadsAgain, Suffices, again_start, again_text}
use Rattle.law_reading_again.specs.Anywhere.{HasRoomFor, ReadsPlainly, Spot, laid_at}
use Rattle.law_reading_again.proofs.Anywhere.{boxes_come_back_from_the_source}

-- the diversion in which the run begins
abbrev spot : ShortName → Spot
spot name = record { name = name; appends = false; layout = first_layout; boxes = []; older = []; text = [] }

-- it stands so, and is within any limits
begins : (name : ShortName) (tape : Tape) → ReadsPlainly (again_start name tape) (spot name)
begins name tape = record {
  takes = record { going = refl; is_open = refl; idle = refl; unsprung = refl; none_due = refl };
  reading = refl;
  escapes = refl;
  texts = refl;
  nested = refl;
  laid = refl;
  goes_on = refl;
  plain = record { unfilled = refl; uncentred = refl; unindented = refl; single = refl };
  idle = record { no_words = refl; no_glyphs = refl; no_indent = refl };
  unbroken = refl;
  trapless = refl;
}

none_stored : (name : ShortName) (tape : Tape) → stored (again_start name tape).input ≡ 0
none_stored name tape = refl

none_added : (name : ShortName) (tape : Tape) → names_added (again_start name tape).input ≡ 0
none_added name tape = refl

within : (l : Limits) (name : ShortName) (tape : Tape) → IsWithin l (again_start name tape)
within l name tape = record {
  bytes = omega arith;
  stack = omega arith;
  depth = omega arith;
  store = omega (arith, none_stored name tape);
  texts = omega (arith, none_added name tape);
  making = omega arith;
  conditions = omega arith;
  names = omega arith;
  title = omega arith;
  environments = record { in_force = omega arith; next = omega arith; last = omega arith; left = omega arith };
  output = omega arith;
  traps = omega arith;
}

room : (l : Limits) (name : ShortName) (boxes : List Box) (tape : Tape) → Suffices l boxes → HasRoomFor l (again_start name tape) boxes
room l name boxes tape suffices =
    record { bytes = omega (arith, suffices.bytes); store = omega (arith, suffices.store, none_stored name tape); line = suffices.line }

pub reads_again : ReadsAgain
reads_again l name boxes tape print suffices =
    let all : Tape = items_then (map OneByte (again_text boxes)) tape in
    let start : State = again_start name all in
    let read = boxes_come_back_from_the_source l boxes print start (spot name) tape (begins name all) (within l name all)
    (room l name boxes all suffices) refl refl in record {
      steps = read.steps;
      history = read.history;
      there = read.there;
      boxes_are = read.boxes_are ∙ ap (λ (bs : List Box). laid_at (spot name) bs) (append-nil boxes);
      no_words = read.idle.no_words;
      no_glyphs = read.idle.no_glyphs;
      unwritten = read.unwritten;
    }

-- the run comes to such a beginning where a diversion is opened, and filling ends
quiet-divert : (l : Limits) (name : ShortName) (tape : Tape) → 1 ≤ l.diversions
    → IsQuiet l (blank_state tape) (Page (Divert name false)) (Some Begins)
quiet-divert l name tape room = record {
  first = refl;
  allowed = ap (λ (c : Bool). if c then Some Diversions else first_passed l ((Output, 0) ∷ [])) (le-ltb l.diversions 1 room)
      ∙ ap (λ (c : Bool). if c then Some Output else None) (le-ltb l.output 0 (omega arith));
  goes_on = refl;
  follows = refl;
  none_left = refl;
}

abbrev diverting : ShortName → Tape → State
diverting name tape =
    record (blank_state tape) { input = record first_input { open_texts = [] ∷ [] }; history = Page (Divert name false) ∷ [] }

quiet-no_fill : (l : Limits) (name : ShortName) (tape : Tape) → IsQuiet l (diverting name tape) (Text (Set (Filling false))) None
quiet-no_fill l name tape = record {
  first = refl;
  allowed = ap (λ (c : Bool). if c then Some Line else None) (le-ltb l.line 0 (omega arith));
  goes_on = refl;
  follows = refl;
  none_left = refl;
}

pub diversions_begin : DiversionsBegin
diversions_begin l name tape room =
    let opened : State = record (blank_state tape) { history = Page (Divert name false) ∷ [] } in
    let others : List PageEvent = Text (Set (Filling false)) ∷ [] in
    ap (after l 2)
    (event-step l (blank_state tape) (Page (Divert name false)) others (Some Begins) refl refl (quiet-divert l name tape room))
    ∙ ap (after l 1) (text-step l opened others Begins refl (Fits-IsWithin l (again_start name tape) (within l name tape)))
    ∙ event-step l (diverting name tape) (Text (Set (Filling false))) [] None refl refl (quiet-no_fill l name tape)
