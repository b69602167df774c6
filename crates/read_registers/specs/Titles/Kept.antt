-- What the code of the titles keeps.
use Rattle.std.specs.Prelude.{◌≡◌}
use Rattle.read_registers.specs.Lasting.{TitlesKept}
use Rattle.read_registers.specs.declared.titles.Titles.TheInside.{Inside}

-- what the fields keep
abbrev pub titles_by : Inside → TitlesKept
titles_by a = record {
  page_character = a.page_character;
  title = a.title.text;
  kept_title = a.kept_title.text;
  line = a.line;
}

-- both titles have room for what they may
pub record HaveRoom (a : Inside) : Type 0 where
  pub title : a.title.room ≡ a.line
  pub kept_title : a.kept_title.room ≡ a.line
