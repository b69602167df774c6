-- What waits, and what ends it.
use Rattle.std.proofs.Common.{◌≡◌, ℕ, ◌≤◌, Bool, true, false, List, [], ◌∷◌, length, Option, refl, ap, arith, if◌then◌else◌}
use Rattle.input_model.specs.Arguments.{is_behind_quote}
use Rattle.input_model.specs.declared.place.Place.{Place}
use Rattle.input_escapes.specs.Conditions.{ends_condition, is_decided}
use Rattle.input_escapes.specs.OpenEscape.{OpenEscape, Backslash, Comment, Name, Size, Delimited, Width, Condition}
use Rattle.input_escapes.specs.OpenEscapes.{reads_text, surroundings}
use Rattle.input_escapes.specs.Waiting.{decides, is_ended_by}
use Rattle.input_escapes.specs.declared.open_escape.ConditionPart.{ConditionPart}
use Rattle.input_escapes.specs.declared.open_escape.ConditionPart.TheVariants.{Choice, Expression, Compared, Decided}
use Rattle.input_escapes.specs.declared.open_escape.Waiting.TheVariants.{Takes, Decides, Waits}
use Rattle.run_model.specs.Reading.Waiting.{copies_in, line_waits, waiting_above}
use Rattle.run_model.specs.declared.line_state.LineState.{LineState}
use Rattle.run_model.specs.declared.line_state.LineState.TheVariants.{LineStart, Branch, Braced, Text as InText, Control, Name as InName, Deciding, Skipping, Dropped, Told, Exiting, TitleFront, Title as InTitle, Collecting}
use Rattle.run_model.specs.declared.purpose.Purpose.TheVariants.{Arguments as InArguments, StringName, StringText, Telling, Calling, Defining}

-- what takes or waits doesn't decide
undecided-if : (c : Bool) → decides (if c then Takes else Waits) ≡ false
undecided-if true = refl
undecided-if false = refl

undecided-quote : (c : Bool) → decides (if c then Waits else Takes) ≡ false
undecided-quote true = refl
undecided-quote false = refl

-- nor does a line of which nothing is half read
undecided-line : (reading : LineState) (place : Place) → decides (line_waits reading place) ≡ false
undecided-line LineStart place = refl
undecided-line Branch place = refl
undecided-line Braced place = refl
undecided-line (InText line) place = refl
undecided-line (Control breaks) place = refl
undecided-line (InName breaks first) place = refl
undecided-line (Collecting (InArguments breaks request)) place = undecided-quote (is_behind_quote place)
undecided-line (Deciding keeps) place = refl
undecided-line (Collecting (StringName appends)) place = undecided-quote (is_behind_quote place)
undecided-line (Collecting (StringText name appends is_front)) place = refl
undecided-line (Skipping opened closed behind) place = refl
undecided-line Dropped place = refl
undecided-line (Collecting (Telling aborts is_front)) place = refl
undecided-line (Told aborts) place = refl
undecided-line Exiting place = refl
undecided-line TitleFront place = refl
undecided-line (InTitle delimiter) place = refl
undecided-line (Collecting (Calling name)) place = undecided-quote (is_behind_quote place)
undecided-line (Collecting (Defining name appends end matched)) place = refl

-- a condition that is read ends, whatever is seen
undecided-part : (part : ConditionPart) (seen : Option ℕ) → ends_condition part seen ≡ false → is_decided part ≡ false
undecided-part (Choice negated) seen goes_on = refl
undecided-part (Expression negated) seen goes_on = refl
undecided-part (Compared negated d first) seen goes_on = refl
undecided-part (Decided decision freed) seen goes_on = absurd (cc)

-- so where something seen doesn't end what is half read, nothing decides before it
pub undecided : (reading : LineState) (place : Place) (half : List OpenEscape) (seen : Option ℕ) → is_ended_by half seen ≡ false
    → decides (waiting_above reading place half) ≡ false
undecided reading place [] seen goes_on = undecided-line reading place
undecided reading place (Backslash ∷ rest) seen goes_on = undecided-if (reads_text (surroundings (copies_in reading) rest))
undecided reading place (Comment ∷ rest) seen goes_on = refl
undecided reading place (Name purpose part ∷ rest) seen goes_on = refl
undecided reading place (Size part ∷ rest) seen goes_on = refl
undecided reading place (Delimited purpose d text ∷ rest) seen goes_on = refl
undecided reading place (Width d width is_deep ∷ rest) seen goes_on = refl
undecided reading place (Condition part text ∷ rest) seen goes_on =
    ap (λ (c : Bool). decides (if c then Decides else Waits)) (undecided-part part seen goes_on)

-- of two tests the first holds, if the second does only then
held-first : (first second : Bool) → (first ≡ false → second ≡ false) → second ≡ true → first ≡ true
held-first true second only is = refl
held-first false second only is =
    let not : second ≡ false = only refl in
    absurd (cc)

-- what decides is ended, whatever is seen
pub ended-deciding : (reading : LineState) (place : Place) (half : List OpenEscape) (seen : Option ℕ) → decides (waiting_above reading place half) ≡ true
    → is_ended_by half seen ≡ true
ended-deciding reading place half seen is = held-first (is_ended_by half seen) _ (undecided reading place half seen) is

-- what stays ends something that is half read
pub length-is_ended_by : (half : List OpenEscape) (seen : Option ℕ) → is_ended_by half seen ≡ true → 1 ≤ length half
length-is_ended_by [] seen stays = cc
length-is_ended_by (first ∷ rest) seen stays = omega arith
