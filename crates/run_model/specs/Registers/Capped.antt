-- Registers of which so many may have a name, beside titles of so many bytes.
use Rattle.std.specs.Prelude.{ℕ, Bool, length, nat_lt, Result, Ok, Err, if◌then◌else◌}
use Rattle.roff_num.specs.declared.limit.Limit.{Limit}
use Rattle.roff_num.specs.declared.limit.Limit.TheVariants.{Names}
use Rattle.run_model.specs.Registers.{AllRegisters, Change, changed_by}
use Rattle.run_model.specs.TitleTexts.{title_length}

-- the registers, how many names may have one, where the page number doesn't count, and how many bytes a title may have
pub record Capped : Type 0 where
  pub all : AllRegisters
  pub cap : ℕ
  pub line : ℕ

-- the registers behind a change
abbrev pub with_change : Change → Capped → Capped
with_change change r = record r { all = changed_by change r.all }

-- whether more names than may have a register
abbrev pub is_past_cap : Capped → Bool
is_past_cap r = nat_lt r.cap (length r.all.named)

-- what asking for a change answers: a limit where more names than may would have a register behind it
abbrev pub change_admitted : Change → Capped → Result (Unit {0}) Limit
change_admitted change r = if is_past_cap (with_change change r) then Err Names else Ok tt

-- the registers once a change is asked for: where it isn't admitted they stay
abbrev pub after_change : Change → Capped → Capped
after_change change r = if is_past_cap (with_change change r) then r else with_change change r

-- whether a title that is read has more bytes than it may
abbrev pub is_title_past : Capped → Bool
is_title_past r = nat_lt r.line (title_length r.all.title)

-- the registers once it is asked for: where it isn't admitted they stay
abbrev pub title_after : Change → Capped → Capped
title_after change r = if is_title_past (with_change change r) then r else with_change change r
