-- The end of the input: what is half read ends first, and then an unfinished line.
use Rattle.std.proofs.Common.{◌≡◌, ◌⊎◌, Bool, true, false, List, [], ◌∷◌, length, inl, inr, refl, subst, sym, ap, ◌∙◌, not, pos, ◌==◌}
use Rattle.std.proofs.Math.Dec.{eqb-suc-zero}
use Rattle.input_escapes.specs.OpenEscapes.{reading_ended}
use Rattle.input_source.specs.Tape.{Tape, behind_front}
use Rattle.input_model.specs.Looking.{is_closed, looked_then}
use Rattle.input_model.specs.declared.looked.Looked.{Looked}
use Rattle.input_model.specs.declared.looked.Looked.TheVariants.{Nothing}
use Rattle.input_escapes.specs.OpenEscape.{OpenEscape}
use Rattle.input_escapes.specs.declared.open_escape.Surroundings.TheVariants.{Arguments as AboveArguments, Copy as AboveCopy, Text as AboveText}
use Rattle.run_items.specs.Outcome.{IsRest}
use Rattle.run_items.specs.Ending.{input_ends}
use Rattle.run_model.specs.Reading.{escape_ended}
use Rattle.run_model.specs.Reading.Beginnings.{at_start}
use Rattle.run_model.specs.Reading.Ends.{is_unfinished}
use Rattle.run_model.specs.Reading.Items.{PageInput}
use Rattle.run_model.specs.Reading.TextLines.{on_line}
use Rattle.run_model.specs.Reading.Found.{read_in}
use Rattle.run_model.specs.Registers.{Known}
use Rattle.run_model.specs.Run.{State, escape_ends, input_ended, known}
use Rattle.run_model.specs.declared.line_state.LineState.{LineState}
use Rattle.run_model.specs.declared.line_state.LineState.TheVariants.{LineStart, Branch, Braced, Text as InText, Control, Name, Deciding, Skipping, Dropped, Told, Exiting, TitleFront, Title as InTitle, Collecting}
use Rattle.run_model.specs.declared.purpose.Purpose.TheVariants.{Arguments as InArguments, StringName, StringText, Telling, Calling, Defining}
use Rattle.run_model.specs.declared.status.Status.TheVariants.{Done}
use Rattle.input_model.specs.Input.{Ahead}
use Rattle.input_model.specs.Input.Few.{AreFewFrom}
use Rattle.run_model.specs.PageEvents.{PageEvent}
use Rattle.run_model.proofs.Keeping.{Keeps-escape_ended}
use Rattle.run_model.proofs.KeepingText.{StaysFew}
use Rattle.run_items.proofs.Halted.{IsLeftOf-looked_then}

-- the line and what stands ahead stay
abbrev pub Unmoved : PageInput → PageInput → Type 0
Unmoved i j = (j.line ≡ i.line) × (j.ahead ≡ i.ahead)

-- so they do where a half read item ends with nothing half read
pub nothing_ended : (k : Known) (reading : LineState) (i : PageInput) → i.escapes ≡ []
    → Unmoved i (escape_ended k reading i).input
nothing_ended k LineStart i none = subst (λ (half : List OpenEscape). Unmoved i (read_in k LineStart i (reading_ended (at_start k) half)).input) (sym none) (refl, refl)
nothing_ended k Branch i none = subst (λ (half : List OpenEscape). Unmoved i (read_in k Branch i (reading_ended (at_start k) half)).input) (sym none) (refl, refl)
nothing_ended k Braced i none = subst (λ (half : List OpenEscape). Unmoved i (read_in k Braced i (reading_ended (at_start k) half)).input) (sym none) (refl, refl)
nothing_ended k (InText line) i none = subst (λ (half : List OpenEscape). Unmoved i (read_in k (InText line) i (reading_ended (on_line k line) half)).input) (sym none) (refl, refl)
nothing_ended k (Control breaks) i none = (refl, refl)
nothing_ended k (Name breaks byte) i none = (refl, refl)
nothing_ended k (Collecting (InArguments breaks request)) i none =
    subst (λ (half : List OpenEscape). Unmoved i (read_in k (Collecting (InArguments breaks request)) i (reading_ended AboveArguments half)).input) (sym none) (refl, refl)
nothing_ended k (Deciding keeping) i none =
    subst (λ (half : List OpenEscape). Unmoved i (read_in k (Deciding keeping) i (reading_ended AboveArguments half)).input) (sym none) (refl, refl)
nothing_ended k (Collecting (StringName appends)) i none =
    subst (λ (half : List OpenEscape). Unmoved i (read_in k (Collecting (StringName appends)) i (reading_ended AboveArguments half)).input) (sym none) (refl, refl)
nothing_ended k (Collecting (Calling name)) i none =
    subst (λ (half : List OpenEscape). Unmoved i (read_in k (Collecting (Calling name)) i (reading_ended AboveArguments half)).input) (sym none) (refl, refl)
nothing_ended k (Collecting (StringText name appends is_front)) i none =
    subst (λ (half : List OpenEscape). Unmoved i (read_in k (Collecting (StringText name appends is_front)) i (reading_ended AboveCopy half)).input) (sym none) (refl, refl)
nothing_ended k (Collecting (Defining name appends end matched)) i none =
    subst (λ (half : List OpenEscape). Unmoved i (read_in k (Collecting (Defining name appends end matched)) i (reading_ended AboveCopy half)).input) (sym none) (refl, refl)
nothing_ended k (Collecting (Telling aborts is_front)) i none =
    subst (λ (half : List OpenEscape). Unmoved i (read_in k (Collecting (Telling aborts is_front)) i (reading_ended AboveCopy half)).input) (sym none) (refl, refl)
nothing_ended k (Told aborts) i none = (refl, refl)
nothing_ended k Exiting i none = (refl, refl)
nothing_ended k (Skipping opened closed behind) i none = (refl, refl)
nothing_ended k Dropped i none = (refl, refl)
nothing_ended k TitleFront i none =
    subst (λ (half : List OpenEscape). Unmoved i (read_in k TitleFront i (reading_ended AboveArguments half)).input) (sym none) (refl, refl)
nothing_ended k (InTitle delimiter) i none =
    subst (λ (half : List OpenEscape). Unmoved i (read_in k (InTitle delimiter) i (reading_ended (AboveText (pos 0)) half)).input) (sym none) (refl, refl)

-- the line stays where what is half read ends
pub line-escape_ended : (k : Known) (reading : LineState) (i : PageInput) → (escape_ended k reading i).input.line ≡ i.line
line-escape_ended k reading i =
    let by : (half : List OpenEscape) → i.escapes ≡ half → (escape_ended k reading i).input.line ≡ i.line = λ half. elim half as (λ h. i.escapes ≡ h → (escape_ended k reading i).input.line ≡ i.line) [
      | [] ↦ λ is. (nothing_ended k reading i is).0
      | first ∷ others ↦ λ is. (Keeps-escape_ended k reading i first others is).line
    ] in
    by i.escapes refl

-- and as few events stand in front
pub few-escape_ended : (k : Known) (reading : LineState) (i : PageInput) → StaysFew i.ahead (escape_ended k reading i).input.ahead
few-escape_ended k reading i =
    let P : List OpenEscape → Type 0 = λ half. i.escapes ≡ half → StaysFew i.ahead (escape_ended k reading i).input.ahead in
    let by : (half : List OpenEscape) → P half = λ half. elim half as P [
      | [] ↦ λ is. λ room most few. subst (λ (items : List (Ahead PageEvent)). AreFewFrom room items) (sym (nothing_ended k reading i is).1) few
      | first ∷ others ↦ λ is. (Keeps-escape_ended k reading i first others is).few
    ] in
    by i.escapes refl

-- what is left where a run may end: all, or its input was left
pub rest_at_end : (looked : Looked) (tape : Tape) (s : State) → (looked ≡ Nothing) ⊎ (is_closed looked ≡ true) → s.tape ≡ looked_then looked tape
    → s.is_closed ≡ is_closed looked → IsRest Done tape s
rest_at_end looked tape s (inl none) is closed = inl (sym (is ∙ ap (λ (looked : Looked). looked_then looked tape) none))
rest_at_end looked tape s (inr left) is closed = elim (IsLeftOf-looked_then looked tape) [
  | inl all ↦ inl (all ∙ sym is)
  | inr behind ↦ inr (closed ∙ left, behind ∙ sym (ap behind_front is))
]

-- one of two, by whether something is half read
pub by_half : {A : Type 0} (half : List OpenEscape) (none some : A) → not (length half == 0) ≡ true
    → (elim half as (λ _. A) [ [] ↦ none | first ∷ others ↦ some ]) ≡ some
by_half [] none some is = cc
by_half (first ∷ others) none some is = refl

-- and by whether nothing is
pub by_no_half : {A : Type 0} (half : List OpenEscape) (none some : A) → not (length half == 0) ≡ false
    → (elim half as (λ _. A) [ [] ↦ none | first ∷ others ↦ some ]) ≡ none
by_no_half [] none some is = refl
by_no_half (first ∷ others) none some is = cc (eqb-suc-zero (length others))

-- at the input's end what is half read ends, if something is
pub input_ends-escapes : (s : State) → not (length s.input.escapes == 0) ≡ true → input_ends s ≡ escape_ends s
input_ends-escapes s is = by_half s.input.escapes (input_ended (is_unfinished s.phase (known s) s.reading) s) (escape_ends s) is

-- and else an unfinished line, or the phase
pub input_ends-no_half : (s : State) (unfinished : Bool) → not (length s.input.escapes == 0) ≡ false
    → is_unfinished s.phase (known s) s.reading ≡ unfinished
    → input_ends s ≡ input_ended unfinished s
input_ends-no_half s unfinished is ends =
    by_no_half s.input.escapes (input_ended (is_unfinished s.phase (known s) s.reading) s) (escape_ends s) is ∙ ap (λ (b : Bool). input_ended b s) ends

-- something is half read, or nothing is
pub some_half : (half : List OpenEscape) → not (length half == 0) ≡ true → half ≡ [] → ⊥
some_half [] is none = cc
some_half (first ∷ others) is none = cc
