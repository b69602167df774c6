-- What is gone back to at the end of a body (manual, sections 7.2 and 7.5).
--
-- A body that a line called leads back to the beginning of a line; one that sprang in the middle of a text line leads back to that.
-- The end of a body knows it by a number.
use Rattle.std.specs.Prelude.{ℕ, ◌+◌, ◌-◌, ◌*◌, ◌/◌, ◌%◌, ◌==◌, Bool, true, false, List, [], ◌∷◌, min, if◌then◌else◌}
use Rattle.page_model.specs.declared.event.Event.TheVariants.{Resume}
use Rattle.run_model.specs.PageEvents.{PageEvent, Text}
use Rattle.run_model.specs.declared.line_state.LineState.{LineState}
use Rattle.run_model.specs.declared.line_state.LineState.TheVariants.{LineStart, Branch, Braced, Text as InText}
use Rattle.run_model.specs.declared.line_state.TextLine.{TextLine}

-- one for what is so
abbrev pub flag : Bool → ℕ
flag so = if so then 1 else 0

-- The leading blanks of a text line that is gone back to: behind a glyph there are none, and in front of it an event stands behind
-- the first of them alone.
abbrev pub leading_back : TextLine → ℕ
leading_back line = if line.has_glyph then 0 else min line.leading 1

-- the number of what is read where a body springs: of all but a text line and a branch it is that of a line's beginning
abbrev pub back_of : LineState → ℕ
back_of Branch = 1
back_of Braced = 2
back_of (InText line) = 3 + flag line.has_glyph + 2 * flag line.has_other + 4 * flag line.has_brace + 8 * leading_back line
back_of (_) = 0

-- the text line of a number
abbrev pub line_of : ℕ → TextLine
line_of number = record {
  has_glyph = number % 2 == 1;
  has_other = number / 2 % 2 == 1;
  has_brace = number / 4 % 2 == 1;
  leading = number / 8;
}

-- what is gone back to by its number
abbrev pub gone_back_to : ℕ → LineState
gone_back_to back =
    if back == 0 then LineStart
    else if back == 1 then Branch
    else if back == 2 then Braced
    else InText (line_of (back - 3))

-- What is read behind the end of a body: what it leads back to. Where a control line is being read that is read on, and a line
-- begins when it is over.
abbrev pub behind_return : ℕ → LineState → LineState
behind_return back LineStart = gone_back_to back
behind_return back Branch = gone_back_to back
behind_return back Braced = gone_back_to back
behind_return back (InText line) = gone_back_to back
behind_return back reading = reading

-- whether a text line is read
abbrev pub is_text : LineState → Bool
is_text (InText line) = true
is_text (_) = false

-- what going back to something means: a text line is the one that goes on, whichever was interrupted in the environment in force
abbrev pub going_back : LineState → List PageEvent
going_back reading = if is_text reading then Text Resume ∷ [] else []

-- what is read of a body that springs: a line begins, unless a control line is being read
abbrev pub in_sprung : LineState → LineState
in_sprung reading = behind_return 0 reading
