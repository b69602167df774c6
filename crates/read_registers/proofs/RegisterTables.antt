-- What the table of registers makes of a change.
use Rattle.std.proofs.Common.{◌≡◌, ℕ, ◌+◌, ◌≤◌, Bool, true, false, cond, not, List, length, Result, Ok, Err, is_some, refl, sym, ap, subst, ◌∙◌, arith, nat_lt, ◌||◌, if◌then◌else◌}
use Rattle.std.proofs.lemmas.Bool.Decides.{nat_tests}
use Rattle.roff_num.specs.declared.format.Format.{Format}
use Rattle.roff_num.specs.declared.limit.Limit.{Limit}
use Rattle.roff_num.specs.declared.limit.Limit.TheVariants.{Names}
use Rattle.roff_num.specs.declared.num.Num.{Num}
use Rattle.roff_store.proofs.Calls.{IsCounted-after as store_IsCounted-after}
use Rattle.roff_store.proofs.Entries.{length-with_entry}
use Rattle.roff_store.specs.Named.{Table, entry_of, with_entry, has_room, put_into, admitted as admitted_name}
use Rattle.roff_store.specs.Registers.{Call, Registers, after as after_call, register_of, with_setting, with_format}
use Rattle.roff_store.specs.declared.register.Register.{Register}
use Rattle.run_model.specs.Registers.{AllRegisters, Change, SetTo, FormatAs, is_page, is_read_only}
use Rattle.run_model.specs.Registers.Capped.{Capped, change_admitted, after_change, is_past_cap, with_change}
use Rattle.read_registers.specs.Registers.Kept.{IsCounted, with_table}

-- a call leaves the names counted
pub IsCounted-after : (call : Call) (t u : Table Register) → u ≡ after_call call t → IsCounted t → IsCounted u
IsCounted-after call t u behind counted =
    let all = store_IsCounted-after call t (record { once = counted.once; within = counted.within }) in
    let P : Table Register → Type 0 = λ v. IsCounted v in
    subst P (sym behind) (record { once = all.once; within = all.within })

-- one name more is past the limit where it is new and there was no room
past-by : (has : Bool) (n cap m : ℕ) → n ≤ cap → m ≡ cond has n (n + 1) → nat_lt cap m ≡ not (has || nat_lt n cap)
past-by true n cap m within grown = grind (arith, nat_tests)
past-by false n cap m within grown = grind (arith, nat_tests)

-- more names than may, once one is given a register, just where there is no room for it
past-with_entry : (name : List ℕ) (r : Register) (t : Table Register) → length t.entries ≤ t.cap
    → nat_lt t.cap (length (with_entry name r t.entries)) ≡ not (has_room name t)
past-with_entry name r t within =
    past-by (is_some (entry_of name t.entries)) (length t.entries) t.cap _ within (length-with_entry name r t.entries)

-- a choice by room, as one by the limit
by_room-by_limit : {A : Type 0} (room past : Bool) (go stay : A) → past ≡ not room → cond room go stay ≡ cond past stay go
by_room-by_limit true true go stay differ = cc
by_room-by_limit true false go stay differ = refl
by_room-by_limit false true go stay differ = refl
by_room-by_limit false false go stay differ = cc

-- a choice of tables, as one of registers
with_table-cond : (b : Bool) (t u : Table Register) (rs : AllRegisters) (line : ℕ)
    → with_table (cond b t u) rs line ≡ cond b (with_table t rs line) (with_table u rs line)
with_table-cond true t u rs line = refl
with_table-cond false t u rs line = refl

-- a change that gives a name of a table this register
pub record GivesTo (name : List ℕ) (r : Register) (t : Table Register) (rs : AllRegisters) (line : ℕ) (change : Change) : Type 0 where
  pub changed : with_change change (with_table t rs line) ≡ with_table (record t { entries = with_entry name r t.entries }) rs line

-- the table answers what asking for the change does
pub admitted-given : (name : List ℕ) (r : Register) (t : Table Register) (rs : AllRegisters) (line : ℕ) (change : Change)
    → length t.entries ≤ t.cap → GivesTo name r t rs line change → admitted_name name t ≡ change_admitted change (with_table t rs line)
admitted-given name r t rs line change within gives =
    let refusing : Capped → Result (Unit {0}) Limit = λ next. if is_past_cap next then Err Names else Ok tt in
    by_room-by_limit (has_room name t) _ (Ok tt) (Err Names) (past-with_entry name r t within) ∙ ap refusing (sym gives.changed)

-- and is what is left behind it
pub with_table-given : (name : List ℕ) (r : Register) (t : Table Register) (rs : AllRegisters) (line : ℕ) (change : Change)
    → length t.entries ≤ t.cap → GivesTo name r t rs line change
    → with_table (put_into name r t) rs line ≡ after_change change (with_table t rs line)
with_table-given name r t rs line change within gives =
    let u : Table Register = record t { entries = with_entry name r t.entries } in
    let chosen : Capped → Capped = λ next. if is_past_cap next then with_table t rs line else next in
    with_table-cond (has_room name t) u t rs line
    ∙ by_room-by_limit (has_room name t) _ (with_table u rs line) (with_table t rs line) (past-with_entry name r t within)
    ∙ ap chosen (sym gives.changed)

-- a change of a name that is neither read-only nor the page number's changes the named registers
named-changed : (read_only of_page : Bool) (paged rs : AllRegisters) (others : Registers) (cap line : ℕ)
    → read_only ≡ false → of_page ≡ false
    → (let next : AllRegisters = cond read_only rs (cond of_page paged (record rs { named = others })) in
    let capped : Capped = record { all = next; cap = cap; line = line } in capped)
    ≡ record { all = record rs { named = others }; cap = cap; line = line }
named-changed true of_page paged rs others cap line settable other = cc
named-changed false true paged rs others cap line settable other = cc
named-changed false false paged rs others cap line settable other = refl

-- `nr` gives a name a register
pub SetTo-gives : (name : List ℕ) (value increment : Num) (t : Table Register) (rs : AllRegisters) (line : ℕ)
    → is_read_only name ≡ false → is_page name ≡ false → GivesTo name (record (register_of name t.entries) { value = value; increment = increment }) t rs line (SetTo name value increment)
SetTo-gives name value increment t rs line settable other =
    let all : AllRegisters = record rs { named = t.entries } in
    record {
      changed = named-changed (is_read_only name) (is_page name) (record all { page_increment = increment }) all
          (with_setting name value increment t.entries) t.cap line settable other;
    }

-- and so does `af`
pub FormatAs-gives : (name : List ℕ) (new : Format) (t : Table Register) (rs : AllRegisters) (line : ℕ)
    → is_read_only name ≡ false → is_page name ≡ false → GivesTo name (record (register_of name t.entries) { format = new }) t rs line (FormatAs name new)
FormatAs-gives name new t rs line settable other =
    let all : AllRegisters = record rs { named = t.entries } in
    record {
      changed = named-changed (is_read_only name) (is_page name) (record all { page_format = new }) all
          (with_format name new t.entries) t.cap line settable other;
    }
