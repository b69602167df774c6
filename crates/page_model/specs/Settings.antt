-- The parameters of an environment (manual, sections 4, 5, 6 and 14).
use Rattle.std.specs.Prelude.{ℕ, ◌-◌, Bool, true, ◌&&◌, Option, Some, ◌==◌}
use Rattle.page_model.specs.declared.settings.Settings.{Settings}
use Rattle.page_model.specs.declared.settings.Param.{Param}
use Rattle.page_model.specs.declared.settings.Param.TheVariants.{Filling, Adjusting, Mode, LineLength, Indent, TemporaryIndent, Centring, Spacing, TitleLength}
use Rattle.page_model.specs.declared.settings.AdjustMode.TheVariants.{Both}

-- at first: filling, both edges even, a line of 65 columns, no indent, nothing to centre, no blank line behind a line, and titles
-- of 65 columns
abbrev pub initial_settings : Settings
initial_settings = record {
  filling = true;
  adjusting = true;
  mode = Both;
  line_length = 65;
  previous_line_length = 65;
  indent = 0;
  previous_indent = 0;
  centring = 0;
  spacing = 1;
  previous_spacing = 1;
  title_length = 65;
  previous_title_length = 65;
}

-- what is in force after a change: a length or a spacing that is set puts the one before it into "previous"
abbrev pub settings_with : Param → Settings → Settings
settings_with (Filling on) s = record s { filling = on }
settings_with (Adjusting on) s = record s { adjusting = on }
settings_with (Mode m) s = record s { mode = m }
settings_with (LineLength n) s = record s { line_length = n; previous_line_length = s.line_length }
settings_with (Indent n) s = record s { indent = n; previous_indent = s.indent }
settings_with (Centring n) s = record s { centring = n }
settings_with (Spacing n) s = record s { spacing = n; previous_spacing = s.spacing }
settings_with (TitleLength n) s = record s { title_length = n; previous_title_length = s.title_length }
settings_with (_) s = s

-- whether words are measured and lines adjusted: in filling, unless lines are centred
abbrev pub fills : Settings → Bool
fills s = s.filling && s.centring == 0

-- what is in force behind the end of a line of the input: one line less is to be centred
abbrev pub counted : Settings → Settings
counted s = record s { centring = s.centring - 1 }

-- the indent that is pending for one line alone, behind a change
abbrev pub temporary_with : Param → Option ℕ → Option ℕ
temporary_with (TemporaryIndent n) pending = Some n
temporary_with (_) pending = pending
