-- What is half read and ends before something that can't be read springs no macro, and leads to no condition where none was read, but
-- for a condition that decided: it is a size.
use Rattle.std.proofs.Common.{◌≡◌, ℕ, Bool, true, false, List, [], ◌∷◌, ◌++◌, Option, Some, None, refl, ◌+◌, ◌&&◌, drop, if◌then◌else◌, ◌==◌}
use Rattle.roff_num.specs.declared.short_name.ShortName.{ShortName}
use Rattle.input_escapes.specs.OpenEscape.{OpenEscape, Backslash, Comment, Name as NameHalf, Size, Delimited, Width, Condition}
use Rattle.input_escapes.specs.OpenEscapes.{escape_given, reading_ended}
use Rattle.input_escapes.specs.Conditions.{is_decided}
use Rattle.input_escapes.specs.Waiting.{is_ended_by, takes_backslash_alone}
use Rattle.input_escapes.specs.declared.open_escape.ConditionPart.TheVariants.{Choice, Expression, Compared, Decided}
use Rattle.input_escapes.specs.declared.open_escape.CopyUnit.TheVariants.{Kept}
use Rattle.input_escapes.specs.declared.open_escape.Found.TheVariants.{GoesOn, Escape}
use Rattle.run_model.specs.Definitions.{end_mark, front_of, line_from, line_with}
use Rattle.run_model.specs.Reading.{escape_ended}
use Rattle.run_model.specs.Reading.Beginnings.{going_on_told}
use Rattle.run_model.specs.Reading.DefinedLines.{definition_unit}
use Rattle.run_model.specs.Reading.Found.{found_in, place_in, read_in}
use Rattle.run_model.proofs.MeantEvents.{NoCondition}
use Rattle.run_model.specs.Reading.Items.{PageInput, Taking}
use Rattle.run_model.specs.Reading.Strings.{name_read, string_name_behind, string_name_or_text}
use Rattle.run_model.specs.Reading.Units.{holding, settling}
use Rattle.run_model.specs.Registers.{Known}
use Rattle.run_model.specs.Requests.{PageEvent}
use Rattle.run_model.specs.Springs.{may_spring}
use Rattle.run_model.specs.declared.definition.DefinitionLine.{DefinitionLine}
use Rattle.run_model.specs.declared.definition.DefinitionLine.TheVariants.{MayBeLast, IsLast, IsText}
use Rattle.run_model.specs.declared.line_state.LineState.{LineState}
use Rattle.run_model.specs.declared.line_state.LineState.TheVariants.{LineStart, Branch, Braced, Text as InText, Control, Name, Deciding, Skipping, Dropped, Told, Exiting, TitleFront, Title as InTitle, Collecting}
use Rattle.run_model.specs.declared.purpose.Purpose.TheVariants.{Arguments as InArguments, StringName, StringText, Telling, Calling, Defining}
use Rattle.run_model.specs.declared.line_state.TextLine.{TextLine}

-- none of these events may spring a macro
abbrev pub NoneSprings : List PageEvent → Type 0
NoneSprings [] = Unit {0}
NoneSprings (e ∷ es) = (may_spring e ≡ false) × NoneSprings es

-- what is done with an item means none that may, and leads to no condition where none was read
abbrev pub Quiet : LineState → Taking → Type 0
Quiet old t = NoneSprings t.effect.events × (NoCondition old → NoCondition t.reading)

-- where a line begins an interrupted one may go on
quiet-told : (left : Option TextLine) → NoneSprings (going_on_told left ++ [])
quiet-told None = tt
quiet-told (Some line) = (refl, tt)

-- behind a string's name
quiet-string_behind : (old : LineState) (i : PageInput) (appends : Bool) (name : Option (Option ShortName)) → Quiet old (string_name_behind i appends name)
quiet-string_behind old i appends None = (tt, λ over. tt)
quiet-string_behind old i appends (Some name) = (tt, λ over. tt)

quiet-string_name : (old : LineState) (i : PageInput) (appends : Bool) (name : Option (Option ShortName))
    → Quiet old (string_name_or_text (settling i) appends (Kept 115) name)
quiet-string_name old i appends None = quiet-string_behind old (holding (Kept 115) (settling i)) appends (name_read (holding (Kept 115) (settling i)))
quiet-string_name old i appends (Some name) = (tt, λ over. tt)

-- an escape doesn't end a definition
abbrev GoesOnBehind : DefinitionLine → Type 0
GoesOnBehind (MayBeLast matched) = Unit {0}
GoesOnBehind (IsLast b) = ⊥
GoesOnBehind IsText = Unit {0}

goes_on-if : (b : Bool) (line other : DefinitionLine) → GoesOnBehind line → GoesOnBehind other → GoesOnBehind (if b then line else other)
goes_on-if true line other one two = one
goes_on-if false line other one two = two

goes_on-second : (mark : List ℕ) (matched : ℕ) → GoesOnBehind (line_with mark matched (115 ∷ []))
goes_on-second [] matched = tt
goes_on-second (m ∷ mark) matched = goes_on-if (115 == m) (MayBeLast (matched + 1)) IsText tt tt

goes_on-line_with : (mark : List ℕ) (matched : ℕ) → GoesOnBehind (line_with mark matched (92 ∷ 115 ∷ []))
goes_on-line_with [] matched = tt
goes_on-line_with (m ∷ mark) matched = goes_on-if (92 == m) (line_with mark (matched + 1) (115 ∷ [])) IsText (goes_on-second mark (matched + 1)) tt

goes_on-line_from : (mark : List ℕ) (matched : Option ℕ) → GoesOnBehind (line_from mark matched (Kept 115))
goes_on-line_from mark None = tt
goes_on-line_from mark (Some matched) = goes_on-line_with (drop matched mark) matched

quiet-definition : (old : LineState) (k : Known) (i : PageInput) (name : Option ShortName) (appends : Bool) (end : Option ShortName) (front : List ℕ) (line : DefinitionLine)
    → GoesOnBehind line → Quiet old (definition_unit k i name appends end front (Kept 115) line)
quiet-definition old k i name appends end front (MayBeLast matched) goes = (tt, λ over. tt)
quiet-definition old k i name appends end front (IsLast b) goes = absurd goes
quiet-definition old k i name appends end front IsText goes = (tt, λ over. tt)

-- a size's escape, and nothing
quiet-escape : (k : Known) (i : PageInput) (reading : LineState) → Quiet reading (found_in k i reading (Escape 115))
quiet-escape k i LineStart = (quiet-told k.interrupted, λ over. tt)
quiet-escape k i Branch = (quiet-told k.interrupted, λ over. tt)
quiet-escape k i Braced = (quiet-told k.interrupted, λ over. tt)
quiet-escape k i (InText line) = (tt, λ over. tt)
quiet-escape k i (Control breaks) = (tt, λ over. tt)
quiet-escape k i (Name breaks first) = (tt, λ over. tt)
quiet-escape k i (Collecting (InArguments breaks request)) = (tt, λ over. tt)
quiet-escape k i (Deciding keeps) = (tt, λ over. over)
quiet-escape k i (Collecting (StringName appends)) = quiet-string_name (Collecting (StringName appends)) i appends (name_read (settling i))
quiet-escape k i (Collecting (StringText name appends is_front)) = (tt, λ over. tt)
quiet-escape k i (Skipping opened closed behind) = (tt, λ over. tt)
quiet-escape k i Dropped = (tt, λ over. tt)
quiet-escape k i (Collecting (Telling aborts is_front)) = (tt, λ over. tt)
quiet-escape k i (Told aborts) = (tt, λ over. tt)
quiet-escape k i Exiting = (tt, λ over. tt)
quiet-escape k i (Collecting (Calling name)) = (tt, λ over. tt)
quiet-escape k i (Collecting (Defining name appends end matched)) =
    quiet-definition (Collecting (Defining name appends end matched)) k i name appends end (front_of (end_mark end) matched)
    (line_from (end_mark end) matched (Kept 115)) (goes_on-line_from (end_mark end) matched)
quiet-escape k i TitleFront = (tt, λ over. tt)
quiet-escape k i (InTitle delimiter) = (tt, λ over. tt)

quiet-nothing : (k : Known) (i : PageInput) (reading : LineState) → Quiet reading (found_in k i reading GoesOn)
quiet-nothing k i LineStart = (tt, λ over. tt)
quiet-nothing k i Branch = (tt, λ over. tt)
quiet-nothing k i Braced = (tt, λ over. tt)
quiet-nothing k i (InText line) = (tt, λ over. tt)
quiet-nothing k i (Control breaks) = (tt, λ over. tt)
quiet-nothing k i (Name breaks first) = (tt, λ over. tt)
quiet-nothing k i (Collecting (InArguments breaks request)) = (tt, λ over. tt)
quiet-nothing k i (Deciding keeps) = (tt, λ over. over)
quiet-nothing k i (Collecting (StringName appends)) = (tt, λ over. tt)
quiet-nothing k i (Collecting (StringText name appends is_front)) = (tt, λ over. tt)
quiet-nothing k i (Skipping opened closed behind) = (tt, λ over. tt)
quiet-nothing k i Dropped = (tt, λ over. tt)
quiet-nothing k i (Collecting (Telling aborts is_front)) = (tt, λ over. tt)
quiet-nothing k i (Told aborts) = (tt, λ over. tt)
quiet-nothing k i Exiting = (tt, λ over. tt)
quiet-nothing k i (Collecting (Calling name)) = (tt, λ over. tt)
quiet-nothing k i (Collecting (Defining name appends end matched)) = (tt, λ over. tt)
quiet-nothing k i TitleFront = (tt, λ over. tt)
quiet-nothing k i (InTitle delimiter) = (tt, λ over. tt)

-- a size ends
quiet-size : (k : Known) (i : PageInput) (reading : LineState) (rest : List OpenEscape) → Quiet reading (read_in k reading i (escape_given rest 115))
quiet-size k i reading [] = quiet-escape k (record i { escapes = [] }) reading
quiet-size k i reading (Width d width is_deep ∷ rest) = quiet-nothing k (record i { escapes = (escape_given (Width d width is_deep ∷ rest) 115).1 }) reading
quiet-size k i reading (Backslash ∷ rest) = quiet-escape k (record i { escapes = Backslash ∷ rest }) reading
quiet-size k i reading (Comment ∷ rest) = quiet-escape k (record i { escapes = Comment ∷ rest }) reading
quiet-size k i reading (NameHalf purpose part ∷ rest) = quiet-escape k (record i { escapes = NameHalf purpose part ∷ rest }) reading
quiet-size k i reading (Size part ∷ rest) = quiet-escape k (record i { escapes = Size part ∷ rest }) reading
quiet-size k i reading (Delimited purpose d text ∷ rest) = quiet-escape k (record i { escapes = Delimited purpose d text ∷ rest }) reading
quiet-size k i reading (Condition part text ∷ rest) = quiet-escape k (record i { escapes = Condition part text ∷ rest }) reading

-- a backslash doesn't
not_alone : (alone : Bool) → (alone && false) ≡ true → ⊥
not_alone true is = absurd (cc)
not_alone false is = absurd (cc)

-- the reading on top isn't a condition that decided
abbrev pub IsUndecided : List OpenEscape → Type 0
IsUndecided (Condition part text ∷ rest) = is_decided part ≡ false
IsUndecided (_) = Unit {0}

quiet-unseen_half : (k : Known) (i : PageInput) (reading : LineState) (half : List OpenEscape) → is_ended_by half None ≡ true → IsUndecided half
    → Quiet reading (read_in k reading i (reading_ended (place_in k reading) half))
quiet-unseen_half k i reading [] ends undecided = absurd (cc)
quiet-unseen_half k i reading (Backslash ∷ rest) ends undecided = absurd (not_alone (takes_backslash_alone rest) ends)
quiet-unseen_half k i reading (Comment ∷ rest) ends undecided = absurd (cc)
quiet-unseen_half k i reading (NameHalf purpose part ∷ rest) ends undecided = absurd (cc)
quiet-unseen_half k i reading (Size part ∷ rest) ends undecided = quiet-size k i reading rest
quiet-unseen_half k i reading (Delimited purpose d text ∷ rest) ends undecided = absurd (cc)
quiet-unseen_half k i reading (Width d width is_deep ∷ rest) ends undecided = absurd (cc)
quiet-unseen_half k i reading (Condition (Choice negated) text ∷ rest) ends undecided = absurd (cc)
quiet-unseen_half k i reading (Condition (Expression negated) text ∷ rest) ends undecided = absurd (cc)
quiet-unseen_half k i reading (Condition (Compared negated d first) text ∷ rest) ends undecided = absurd (cc)
quiet-unseen_half k i reading (Condition (Decided decision freed) text ∷ rest) ends undecided = absurd (cc)

-- what ends before something that can't be read springs nothing
pub quiet-unseen : (k : Known) (reading : LineState) (i : PageInput) → is_ended_by i.escapes None ≡ true → IsUndecided i.escapes
    → Quiet reading (escape_ended k reading i)
quiet-unseen k reading i ends undecided = quiet-unseen_half k i reading i.escapes ends undecided
