-- What lasts of a run in the code's parts, as the registers of the definition.
use Rattle.std.specs.Prelude.{ℕ, [], Bool, Option, Some, Result, Ok, Err, nat_lt, if◌then◌else◌}
use Rattle.roff_num.specs.declared.format.Format.{Format}
use Rattle.roff_num.specs.declared.limit.Limit.{Limit}
use Rattle.roff_num.specs.declared.limit.Limit.TheVariants.{Line}
use Rattle.roff_num.specs.declared.num.Num.{Num}
use Rattle.roff_num.specs.declared.short_name.ShortName.{ShortName}
use Rattle.roff_store.specs.Registers.{Registers, unset_register}
use Rattle.run_model.specs.Registers.Capped.{Capped}
use Rattle.run_model.specs.TitleTexts.{TitleText, title_begun, title_length}
use Rattle.run_model.specs.declared.title.WhichTitle.{WhichTitle}
use Rattle.run_model.specs.declared.title.WhichTitle.TheVariants.{Read, Kept}

-- the number registers: those by name, of the page number the increment and the format, and how many names may have one
pub record NumbersKept : Type 0 where
  pub named : Registers
  pub page_increment : Num
  pub page_format : Format
  pub cap : ℕ

-- the titles: the character that stands for the page number in them, if one does, the title that was read last, and one that is
-- kept, and how many bytes a title may have
pub record TitlesKept : Type 0 where
  pub page_character : Option ℕ
  pub title : TitleText
  pub kept_title : TitleText
  pub line : ℕ

-- both, and the macro that is read behind the input, if there is one, together
abbrev pub capped_of : NumbersKept → TitlesKept → Option ShortName → Capped
capped_of n t last = record {
  all = record {
    named = n.named;
    page_increment = n.page_increment;
    page_format = n.page_format;
    last_macro = last;
    page_character = t.page_character;
    title = t.title;
    kept_title = t.kept_title;
  };
  cap = n.cap;
  line = t.line;
}

-- no register is set, and so many names may have one
abbrev pub no_numbers : ℕ → NumbersKept
no_numbers cap = record {
  named = [];
  page_increment = unset_register.increment;
  page_format = unset_register.format;
  cap = cap;
}

-- no title was read, of which each may have so many bytes, and `%` stands for the page number
abbrev pub no_titles : ℕ → TitlesKept
no_titles line = record { page_character = Some 37; title = title_begun []; kept_title = title_begun []; line = line }

-- the text of a title
abbrev pub title_in : TitlesKept → WhichTitle → TitleText
title_in t Read = t.title
title_in t Kept = t.kept_title

-- whether a title has more bytes than it may
abbrev pub is_long : TitleText → TitlesKept → Bool
is_long title t = nat_lt t.line (title_length title)

-- what it answers to read this title: a limit where it has more
abbrev pub title_allowed : TitleText → TitlesKept → Result (Unit {0}) Limit
title_allowed title t = if is_long title t then Err Line else Ok tt

-- the titles once this one is read: where it has more they stay
abbrev pub titles_with : TitleText → TitlesKept → TitlesKept
titles_with title t = if is_long title t then t else record t { title = title }
