-- Text lines that stand in front up to their newlines, and are told and ended at once.
use Rattle.std.specs.Prelude.{◌≡◌, ℕ, true, List, None}
use Rattle.roff_num.specs.declared.limits.Limits.{Limits}
use Rattle.run_state.specs.Composer.Standing.{StandFor}
use Rattle.run_model.specs.Environments.{PageHistory, interrupted_line}
use Rattle.run_model.specs.declared.line_state.LineState.TheVariants.{LineStart, Text as InText}
use Rattle.run_model.specs.declared.line_state.TextLine.{TextLine}
use Rattle.run_events.specs.Formatter.Unfilled.{StandsLine}
use Rattle.run_items.specs.declared.interpreter.Interpreter.{Interpreter}
use Rattle.run_shortcuts.specs.Beginning.{BeginWithText}

-- these bytes in front are read as those of a text line: behind a glyph, or from the first one on, where no interrupted line goes on
pub data ReadsText (front : List ℕ) (i : Interpreter) : Type 0 where
  BehindGlyph : (line : TextLine) → i.reader.reading ≡ InText line → line.has_glyph ≡ true → line.leading ≡ 0 → ReadsText front i
  FromFirst : i.reader.reading ≡ LineStart → BeginWithText front
      → ((l : Limits) (h : PageHistory) → StandFor l h i.formatter.composer → interrupted_line h ≡ None) → ReadsText front i

-- so many of these bytes in front, among which are so many gaps, stand before the newline of a text line that can be told and ended at once
pub record LineInFront (front : List ℕ) (count gaps : ℕ) (i : Interpreter) : Type 0 where
  pub reads : ReadsText front i
  pub stands : StandsLine front count gaps i.formatter
