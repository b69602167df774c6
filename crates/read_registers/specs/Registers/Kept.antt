-- What the code of the registers keeps.
use Rattle.std.specs.Prelude.{ℕ, ◌≤◌, [], Option, length}
use Rattle.roff_num.specs.declared.format.Format.{Format}
use Rattle.roff_num.specs.declared.num.Num.{Num}
use Rattle.roff_num.specs.declared.short_name.ShortName.{ShortName}
use Rattle.roff_store.specs.Named.{Table, EachOnce}
use Rattle.roff_store.specs.declared.register.Register.{Register}
use Rattle.read_registers.specs.Lasting.{NumbersKept, TitlesKept}
use Rattle.read_registers.specs.declared.registers.RunRegisters.TheInside.{Inside}
use Rattle.run_model.specs.Registers.{AllRegisters}
use Rattle.run_model.specs.Registers.Capped.{Capped}

-- what the fields keep
abbrev pub numbers_by : Inside → NumbersKept
numbers_by a = record {
  named = a.named.entries;
  page_increment = a.page_increment;
  page_format = a.page_format;
  cap = a.named.cap;
}

-- a table, and what is kept beside it, as the registers, how many names may have one, and bytes a title
abbrev pub with_table : Table Register → AllRegisters → ℕ → Capped
with_table t rs line = record { all = record rs { named = t.entries }; cap = t.cap; line = line }

-- what is kept beside the table: of the page number, the titles, and the macro that is read behind the input
abbrev pub kept_beside : Num → Format → TitlesKept → Option ShortName → AllRegisters
kept_beside increment format t last = record {
  named = [];
  page_increment = increment;
  page_format = format;
  last_macro = last;
  page_character = t.page_character;
  title = t.title;
  kept_title = t.kept_title;
}

-- no name has two registers, and no more names have one than may
pub record IsCounted (t : Table Register) : Type 0 where
  pub once : EachOnce t.entries
  pub within : length t.entries ≤ t.cap

-- the names are counted
abbrev pub IsSound : Inside → Type 0
IsSound a = IsCounted a.named
