-- The line length, the indent, the indent of one line (manual, section 6), and the title length (section 14).
use Rattle.std.specs.Prelude.{ℕ, ◌/◌, pos, List, [], ◌∷◌, Result, Ok, Err}
use Rattle.page_model.specs.declared.settings.Param.{Param}
use Rattle.page_model.specs.declared.settings.Param.TheVariants.{LineLength, Indent, TemporaryIndent, TitleLength}
use Rattle.roff_num.specs.Steps.{followed}
use Rattle.roff_num.specs.declared.num.NumFault.{NumFault}
use Rattle.roff_num.specs.declared.num.Scale.TheVariants.{Columns}
use Rattle.run_model.specs.Numbers.{value_beside, rounded_in_range, at_least_zero}
use Rattle.run_model.specs.Registers.{Known, in_units}
use Rattle.run_model.specs.Requests.Effects.{Response, Ignored, setting, bad_number}

-- the length in columns that a text sets: it is rounded, and not below 0
abbrev pub length_set : ℕ → List ℕ → Result ℕ NumFault
length_set in_force text =
    followed (value_beside (pos (in_units in_force)) Columns text) (λ v.
    followed (rounded_in_range 24 v) (λ r. Ok (at_least_zero r / 24)))

-- the length that is wanted: the previous one where none is given
abbrev pub length_wanted : ℕ → ℕ → List (List ℕ) → Result ℕ NumFault
length_wanted in_force previous [] = Ok previous
length_wanted in_force previous (text ∷ others) = length_set in_force text

-- a length is set
abbrev pub setting_length : (ℕ → Param) → Result ℕ NumFault → Response
setting_length parameter (Ok columns) = setting (parameter columns)
setting_length parameter (Err fault) = bad_number

-- `ll`: the line length
abbrev pub line_length : Known → List (List ℕ) → Response
line_length known as_given =
    let s = known.settings in setting_length LineLength (length_wanted s.line_length s.previous_line_length as_given)

-- `in`: the indent
abbrev pub indent : Known → List (List ℕ) → Response
indent known as_given =
    let s = known.settings in setting_length Indent (length_wanted s.indent s.previous_indent as_given)

-- `ti`: the indent of the next line that a word begins; without an argument it is ignored
abbrev pub temporary_indent : Known → List (List ℕ) → Response
temporary_indent known [] = Ignored []
temporary_indent known (text ∷ others) = setting_length TemporaryIndent (length_set known.settings.indent text)

-- `lt`: the title length
abbrev pub title_length : Known → List (List ℕ) → Response
title_length known as_given =
    let s = known.settings in setting_length TitleLength (length_wanted s.title_length s.previous_title_length as_given)
