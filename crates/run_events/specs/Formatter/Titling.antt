-- What the formatter places of a title.
use Rattle.std.specs.Prelude.{ℕ, List}
use Rattle.run_events.specs.declared.formatter.Formatter.{Formatter}
use Rattle.run_model.specs.TitleTexts.{TitleText}
use Rattle.run_model.specs.declared.title.WhichTitle.{WhichTitle}
use Rattle.run_state.specs.declared.due_text.DueText.{DueText}
use Rattle.run_state.specs.declared.due_text.DueText.TheVariants.{Title as TitleDue}
use Rattle.page_model.specs.Layout.{Layout}
use Rattle.page_model.specs.Titles.{Title}

-- its text, with the title length of the environment in force, and this number of the page
abbrev pub title_at : Formatter → TitleText → List ℕ → Title
title_at f text number = record {
  left = text.left;
  centre = text.centre;
  right = text.right;
  length = f.composer.environments.in_force.lines.settings.title_length;
  number = number;
}

-- what is due of it in a diversion: this title, with the number of the page and that length
abbrev pub title_due : WhichTitle → Formatter → Layout → DueText
title_due which f L = TitleDue which L.number f.composer.environments.in_force.lines.settings.title_length
