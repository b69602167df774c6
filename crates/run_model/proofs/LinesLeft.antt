-- How many interrupted lines are left in the environment in force behind some events.
use Rattle.std.proofs.Common.{◌≡◌, ◌≤◌, ◌+◌, ℕ, Bool, true, false, List, [], ◌∷◌, ◌++◌, Option, Some, None, refl, sym, ◌∙◌, ap, subst, arith, append-nil, ◌||◌, if◌then◌else◌}
use Rattle.page_model.specs.Events.{is_interrupted}
use Rattle.page_model.specs.declared.event.Event.{Event}
use Rattle.page_model.specs.declared.event.Event.TheVariants.{Print, Tab, FieldEnd, WordEnd, Gap, LineEnd, Count, Break, Interrupt as Interrupted, Resume, Set}
use Rattle.run_model.specs.Environments.{environments, interrupted_line, text_of}
use Rattle.run_model.specs.Reading.Ends.{interrupted_end, is_left}
use Rattle.run_model.specs.Reading.TextLines.{blank_line, text_line_end}
use Rattle.run_model.specs.PageEvents.{PageEvent, PageHistory, Title}
use Rattle.run_model.specs.Registers.{AllRegisters}
use Rattle.run_model.specs.Requests.{Text, Page, Interrupt, Environment, Back, SetsTrap}
use Rattle.run_model.specs.Titles.{told}
use Rattle.run_model.specs.TurnsToCome.{left_by, lines_left, most_left}
use Rattle.run_model.specs.declared.line_state.TextLine.{TextLine}
use Rattle.run_model.specs.declared.phase.Phase.{Phase}
use Rattle.run_model.specs.declared.phase.Phase.TheVariants.{Reading, LastMacro, Closing}

-- one interrupted line is to end at the most
pub lines_left-few : (left : Option TextLine) → lines_left left ≤ 1
lines_left-few None = omega arith
lines_left-few (Some line) = omega arith

-- one line is left at the most
pub left_by-few : (e : PageEvent) (lines : ℕ) → lines ≤ 1 → left_by e lines ≤ 1
left_by-few (Text (Print glyph)) lines few = few
left_by-few (Text Tab) lines few = few
left_by-few (Text FieldEnd) lines few = few
left_by-few (Text WordEnd) lines few = few
left_by-few (Text (Gap columns)) lines few = few
left_by-few (Text LineEnd) lines few = few
left_by-few (Text Count) lines few = few
left_by-few (Text Break) lines few = few
left_by-few (Text Interrupted) lines few = omega arith
left_by-few (Text Resume) lines few = omega arith
left_by-few (Text (Set param)) lines few = few
left_by-few (Page e) lines few = few
left_by-few (Interrupt line) lines few = omega arith
left_by-few (Environment number) lines few = omega arith
left_by-few Back lines few = omega arith
left_by-few (SetsTrap trap) lines few = few
left_by-few (Title which) lines few = few

pub most_left-few : (es : List PageEvent) (lines : ℕ) → lines ≤ 1 → most_left es lines ≤ 1
most_left-few [] lines few = few
most_left-few (e ∷ es) lines few = omega (arith, left_by-few e lines few, most_left-few es (left_by e lines) (left_by-few e lines few))

-- and so of a history
pub left-few : (es : List PageEvent) (h : PageHistory) → most_left es (lines_left (interrupted_line h)) ≤ 1
left-few es h = most_left-few es (lines_left (interrupted_line h)) (lines_left-few (interrupted_line h))

-- where fewer were left before, fewer are behind
pub left_by-fewer : (e : PageEvent) (few many : ℕ) → few ≤ many → left_by e few ≤ left_by e many
left_by-fewer (Text (Print glyph)) few many fewer = fewer
left_by-fewer (Text Tab) few many fewer = fewer
left_by-fewer (Text FieldEnd) few many fewer = fewer
left_by-fewer (Text WordEnd) few many fewer = fewer
left_by-fewer (Text (Gap columns)) few many fewer = fewer
left_by-fewer (Text LineEnd) few many fewer = fewer
left_by-fewer (Text Count) few many fewer = fewer
left_by-fewer (Text Break) few many fewer = fewer
left_by-fewer (Text Interrupted) few many fewer = omega arith
left_by-fewer (Text Resume) few many fewer = omega arith
left_by-fewer (Text (Set param)) few many fewer = fewer
left_by-fewer (Page e) few many fewer = fewer
left_by-fewer (Interrupt line) few many fewer = omega arith
left_by-fewer (Environment number) few many fewer = omega arith
left_by-fewer Back few many fewer = omega arith
left_by-fewer (SetsTrap trap) few many fewer = fewer
left_by-fewer (Title which) few many fewer = fewer

pub most_left-fewer : (es : List PageEvent) (few many : ℕ) → few ≤ many → most_left es few ≤ most_left es many
most_left-fewer [] few many fewer = fewer
most_left-fewer (e ∷ es) few many fewer =
    omega (arith, left_by-fewer e few many fewer, most_left-fewer es (left_by e few) (left_by e many) (left_by-fewer e few many fewer))

-- what doesn't interrupt a line, or go on with it, leaves as many
same_lines : (h : PageHistory) (e : Event) → is_interrupted (e ∷ text_of h) ≡ is_interrupted (text_of h)
    → lines_left (interrupted_line (Text e ∷ h)) ≤ lines_left (interrupted_line h)
same_lines h e same = by_test (is_interrupted (e ∷ text_of h)) (is_interrupted (text_of h)) same
  where
    by_test : (now before : Bool) → now ≡ before
        → lines_left (if now then Some (environments h).in_force.interrupted else None)
        ≤ lines_left (if before then Some (environments h).in_force.interrupted else None)
    by_test true true is = omega arith
    by_test true false is = absurd (cc)
    by_test false before is = omega arith

-- so many are left indeed
pub lines_left-event : (rs : AllRegisters) (e : PageEvent) (h : PageHistory) → lines_left (interrupted_line (told rs e ∷ h)) ≤ left_by e (lines_left (interrupted_line h))
lines_left-event rs (Text (Print glyph)) h = same_lines h (Print glyph) refl
lines_left-event rs (Text Tab) h = same_lines h Tab refl
lines_left-event rs (Text FieldEnd) h = same_lines h FieldEnd refl
lines_left-event rs (Text WordEnd) h = same_lines h WordEnd refl
lines_left-event rs (Text (Gap columns)) h = same_lines h (Gap columns) refl
lines_left-event rs (Text LineEnd) h = same_lines h LineEnd refl
lines_left-event rs (Text Count) h = same_lines h Count refl
lines_left-event rs (Text Break) h = same_lines h Break refl
lines_left-event rs (Text Interrupted) h = lines_left-few (interrupted_line (Text Interrupted ∷ h))
lines_left-event rs (Text Resume) h = omega arith
lines_left-event rs (Text (Set param)) h = same_lines h (Set param) refl
lines_left-event rs (Page e) h = omega arith
lines_left-event rs (Interrupt line) h = lines_left-few (interrupted_line (Interrupt line ∷ h))
lines_left-event rs (Environment number) h = lines_left-few (interrupted_line (Environment number ∷ h))
lines_left-event rs Back h = lines_left-few (interrupted_line (Back ∷ h))
lines_left-event rs (SetsTrap trap) h = omega arith
lines_left-event rs (Title which) h = omega arith

-- the end of an interrupted line leaves none
none_left : (line : TextLine) (lines : ℕ) → most_left (Text Resume ∷ text_line_end line) lines ≡ 0
none_left line lines = by_glyphs (line.has_glyph || line.has_other) line.has_brace
  where
    by_glyphs : (told brace : Bool) → most_left (Text Resume ∷ (if told then Text WordEnd ∷ Text LineEnd ∷ Text Count ∷ [] else if brace then [] else blank_line)) lines ≡ 0
    by_glyphs true brace = refl
    by_glyphs false true = refl
    by_glyphs false false = refl

-- so where an interrupted line is to end, none is left behind it
one_left : (phase : Phase) (left : Option TextLine) → is_left phase left ≡ true
    → most_left (interrupted_end left) (lines_left left) + 1 ≡ lines_left left
one_left Reading None is = absurd (cc)
one_left LastMacro None is = absurd (cc)
one_left Closing None is = absurd (cc)
one_left phase (Some line) is = ap (λ n. n + 1) (none_left line 1)

-- the same where nothing else is to do
pub left_behind : (phase : Phase) (h : PageHistory) (es : List PageEvent) → es ≡ [] → is_left phase (interrupted_line h) ≡ true
    → most_left (interrupted_end (interrupted_line h) ++ es) (lines_left (interrupted_line h)) + 1 ≡ most_left es (lines_left (interrupted_line h))
left_behind phase h es none is =
    subst (λ (es : List PageEvent). most_left (interrupted_end (interrupted_line h) ++ es) (lines_left (interrupted_line h)) + 1 ≡ most_left es (lines_left (interrupted_line h)))
    (sym none)
    (ap (λ (all : List PageEvent). most_left all (lines_left (interrupted_line h)) + 1) (append-nil (interrupted_end (interrupted_line h)))
    ∙ one_left phase (interrupted_line h) is)
