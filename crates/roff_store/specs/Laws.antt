-- What calls in turn make of the registers, seen from one name (manual, section 8).
use Rattle.std.specs.Prelude.{ℕ, List, [], ◌∷◌, ℤ, Option, Some, None, unwrap_or, if◌then◌else◌}
use Rattle.std.specs.Str.{bytes_eq}
use Rattle.roff_num.specs.declared.format.Format.{Format}
use Rattle.roff_num.specs.Ranges.{is_in_range, number}
use Rattle.roff_store.specs.declared.register.Register.{Register}
use Rattle.roff_num.specs.declared.direction.Direction.{Direction}
use Rattle.roff_store.specs.Named.{Table}
use Rattle.roff_store.specs.Registers.{Call, Set, SetFormat, Step, Remove, Registers, after_all, next_value, unset_register}

-- a register of this value, format and increment
abbrev pub register : ℤ → Format → ℤ → Register
register value format increment = record { value = number value; format = format; increment = number increment }

-- a table without registers, for so many
abbrev pub no_registers : ℕ → Table Register
no_registers cap = record { entries = []; cap = cap }

-- `.nr` with these numbers
abbrev pub sets : List ℕ → ℤ → ℤ → Call
sets name value increment = Set name (number value) (number increment)

-- a table for so many after calls in turn, from no registers on
abbrev pub table_after : ℕ → List Call → Table Register
table_after cap calls = after_all calls (no_registers cap)

-- and its registers
abbrev pub after_calls : ℕ → List Call → Registers
after_calls cap calls = (table_after cap calls).entries

-- a register after a step, which isn't made if it leads out of range
abbrev pub stepped_register : Direction → Register → Register
stepped_register direction r =
    if is_in_range (next_value direction r) then record r { value = number (next_value direction r) } else r

-- a register, if there is one, after a step
abbrev pub stepped_if_set : Direction → Option Register → Option Register
stepped_if_set direction None = None
stepped_if_set direction (Some r) = Some (stepped_register direction r)

-- what a call that isn't refused makes of the register of a name, given the one from before
abbrev pub register_after : Call → List ℕ → Option Register → Option Register
register_after (Set changed value increment) name r =
    if bytes_eq name changed then Some (record (unwrap_or r unset_register) { value = value; increment = increment }) else r
register_after (SetFormat changed format) name r =
    if bytes_eq name changed then Some (record (unwrap_or r unset_register) { format = format }) else r
register_after (Step changed direction) name r = if bytes_eq name changed then stepped_if_set direction r else r
register_after (Remove changed) name r = if bytes_eq name changed then None else r

-- what calls in turn make of it
abbrev pub register_after_all : List Call → List ℕ → Option Register → Option Register
register_after_all [] name r = r
register_after_all (call ∷ calls) name r = register_after_all calls name (register_after call name r)
