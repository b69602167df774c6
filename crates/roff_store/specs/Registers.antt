-- Number registers (manual, section 8).
use Rattle.std.specs.Prelude.{ℕ, ◌&&◌, List, [], ◌∷◌, ℤ, pos, ◌+ℤ◌, ◌-ℤ◌, is_some, unwrap_or, Result, Ok, Err, if◌then◌else◌}
use Rattle.roff_num.specs.declared.format.Format.{Format}
use Rattle.roff_num.specs.declared.format.Format.TheVariants.{Decimal}
use Rattle.roff_num.specs.declared.num.Num.{Num}
use Rattle.roff_num.specs.declared.num.NumFault.{NumFault}
use Rattle.roff_num.specs.declared.num.NumFault.TheVariants.{Range}
use Rattle.roff_num.specs.Ranges.{is_in_range}
use Rattle.roff_store.specs.declared.register.Register.{Register}
use Rattle.roff_num.specs.declared.direction.Direction.{Direction}
use Rattle.roff_num.specs.declared.direction.Direction.TheVariants.{Up, Down}
use Rattle.roff_store.specs.Named.{Named, Table, entry_of, with_entry, with_entries_if_room, removed_from}

-- the registers, under their names
abbrev pub Registers : Type 0
Registers = Named Register

-- what a name reads as that isn't a register: 0, in plain decimal
abbrev pub unset_register : Register
unset_register = record { value = record { 0 = pos 0 }; format = Decimal 1; increment = record { 0 = pos 0 } }

-- what a name reads as
abbrev pub register_of : List ℕ → Registers → Register
register_of name registers = unwrap_or (entry_of name registers) unset_register

-- the registers once one is given a value and an increment; its format stays
abbrev pub with_setting : List ℕ → Num → Num → Registers → Registers
with_setting name value increment registers =
    with_entry name (record (register_of name registers) { value = value; increment = increment }) registers

-- the registers once one is given a format; its value and its increment stay
abbrev pub with_format : List ℕ → Format → Registers → Registers
with_format name format registers = with_entry name (record (register_of name registers) { format = format }) registers

-- the value that a step leads to: `\n+x` adds the increment, `\n-x` takes it away
abbrev pub next_value : Direction → Register → ℤ
next_value Up r = r.value.0 +ℤ r.increment.0
next_value Down r = r.value.0 -ℤ r.increment.0

-- what a step answers: the value it leads to, or a fault where that isn't in range
abbrev pub stepped : Direction → Register → Result Num NumFault
stepped direction r =
    if is_in_range (next_value direction r) then Ok (record { 0 = next_value direction r }) else Err Range

-- the registers once one is stepped; a name that isn't one stays so, and a step out of range isn't made
abbrev pub with_step : Direction → List ℕ → Registers → Registers
with_step direction name registers =
    let r = register_of name registers in
    if is_some (entry_of name registers) && is_in_range (next_value direction r)
    then with_entry name (record r { value = record { 0 = next_value direction r } }) registers
    else registers

-- a call that changes a table of registers
pub data Call : Type 0 where
  -- `.nr`: a name, the value and the increment that it gets
  Set : List ℕ → Num → Num → Call
  -- `.af`: a name and the format that it gets
  SetFormat : List ℕ → Format → Call
  -- `\n+x`, `\n-x`: a name that is stepped
  Step : List ℕ → Direction → Call
  -- `.rr`: a name that goes
  Remove : List ℕ → Call

-- the table after a call
abbrev pub after : Call → Table Register → Table Register
after (Set name value increment) t = with_entries_if_room name (with_setting name value increment t.entries) t
after (SetFormat name format) t = with_entries_if_room name (with_format name format t.entries) t
after (Step name direction) t = record t { entries = with_step direction name t.entries }
after (Remove name) t = removed_from name t

-- the table after calls in turn
abbrev pub after_all : List Call → Table Register → Table Register
after_all [] t = t
after_all (call ∷ calls) t = after_all calls (after call t)
