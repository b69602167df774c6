-- What is due behind an event, as a composer tells it: what becomes of the texts of diversions.
use Rattle.std.specs.Prelude.{ℕ, ◌-◌, List, [], ◌∷◌, ◌++◌, length, replicate, Option, Some, None}
use Rattle.roff_num.specs.RegisterText.{register_text}
use Rattle.roff_num.specs.declared.num.Num.{Num}
use Rattle.page_model.specs.Columns.{printed}
use Rattle.page_model.specs.Diverted.{diverted}
use Rattle.page_model.specs.DueTexts.{TextDue, Begins, Ends, Gets, AllDropped}
use Rattle.page_model.specs.Lines.{Finished}
use Rattle.page_model.specs.Titles.{Title as PlacedTitle, title_text}
use Rattle.run_model.specs.Registers.{AllRegisters}
use Rattle.run_model.specs.TitleTexts.{TitleText}
use Rattle.run_model.specs.Titles.{title_of}
use Rattle.run_state.specs.declared.composer.Composer.{Composer as ComposerOf}
use Rattle.run_state.specs.declared.due_text.DueText.{DueText}
use Rattle.run_state.specs.declared.due_text.DueText.TheVariants.{Nothing, Begins as TextBegins, Ends as TextEnds, Drops, Line, Title, BlankLines}

-- a line of this text, laid out so
abbrev pub line_laid : List ℕ → ℕ → ℕ → ℕ → Finished
line_laid text lead spare gaps = record { text = text; lead = lead; spare = spare; gaps = gaps; after = 0 }

-- a title of this text and length, with a number as it is printed
abbrev pub title_laid : TitleText → ℕ → List ℕ → PlacedTitle
title_laid text columns number = record { left = text.left; centre = text.centre; right = text.right; length = columns; number = number }

-- the bytes that are put behind the text of the innermost diversion
abbrev pub bytes_told : DueText → ComposerOf → AllRegisters → List ℕ
bytes_told (Line lead spare gaps blank_lines) es rs =
    diverted (printed (line_laid es.environments.in_force.lines.finished lead spare gaps)) ++ replicate blank_lines 10
bytes_told (Title which number columns) es rs =
    diverted (title_text (title_laid (title_of rs which) columns (register_text rs.page_format number.0)))
bytes_told (BlankLines count) es rs = replicate count 10
bytes_told (_) es rs = []

-- what becomes of the texts, as a due text says
abbrev pub text_told : DueText → ComposerOf → AllRegisters → Option TextDue
text_told Nothing es rs = None
text_told TextBegins es rs = Some Begins
text_told (TextEnds index name appends) es rs = Some (Ends index name appends)
text_told Drops es rs = Some AllDropped
text_told text es rs = Some (Gets (length es.pages.diversions - 1) (bytes_told text es rs))

-- the same as is due
abbrev pub due_told : ComposerOf → AllRegisters → Option TextDue
due_told es rs = text_told es.due.text es rs
