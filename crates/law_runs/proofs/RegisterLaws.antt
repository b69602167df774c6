-- The laws over number registers.
use Rattle.std.proofs.Common.{◌≡◌, ℕ, Bool, true, false, cond, not, List, [], ◌∷◌, ◌++◌, Option, Some, None, is_some, unwrap_or, codes, refl, ap, ◌∙◌, arith, bytes_eq, ◌&&◌, if◌then◌else◌}
use Rattle.std.proofs.lemmas.Bool.{cond-true}
use Rattle.std.specs.Fmt.{digits}
use Rattle.std.specs.List.{fold}
use Rattle.roff_num.specs.Ranges.{is_in_range}
use Rattle.roff_num.specs.RegisterText.{register_text}
use Rattle.roff_num.specs.declared.format.Format.{Format}
use Rattle.roff_num.specs.declared.num.Num.{Num}
use Rattle.roff_store.proofs.Entries.{bytes_eq_tells, entry_of-with_entry, entry_of-without_entry}
use Rattle.roff_store.specs.Named.{entry_of, with_entry, without_entry}
use Rattle.roff_store.specs.Registers.{Registers, next_value, register_of, unset_register, with_format, with_setting, with_step}
use Rattle.roff_num.specs.declared.direction.Direction.{Direction}
use Rattle.roff_num.specs.declared.direction.Direction.TheVariants.{Up, Down}
use Rattle.roff_store.specs.declared.register.Register.{Register}
use Rattle.run_model.specs.declared.message.Message.{Message}
use Rattle.run_model.specs.declared.message.Message.TheVariants.{BadNumber}
use Rattle.run_model.specs.declared.query.Query.{Query}
use Rattle.run_model.specs.declared.query.Query.TheVariants.{Newlines, Indent, LineLength, LastWidth, Filling, LineSpacing, ColumnWidth, Arguments, PagePlace, PageLength, PageOffset, WayToTrap, TextPlace, DiversionHeight, DiversionWidth, DiversionName}
use Rattle.page_model.specs.Layout.{Layout}
use Rattle.law_runs.specs.RegisterLaws.{known_set, ValuesReadBack, FormatsReadBack, FormatsStay, UndefinedReadAsZero, ReadingMakesNone, ReadingIsSilent, ReadOnlyStay, ReadOnlyAreLeftAlone, RemovedReadAsZero}
use Rattle.run_model.specs.Registers.{AllRegisters, Known, SetTo, FormatAs, Remove, StepBy, changed_by, is_page, is_read_only, known_behind, number_in_range, numbered, page_register, query_of, settable, text_answered, text_asked}

-- the page number's register, where the page has this number
abbrev page_by : Num → AllRegisters → Register
page_by number rs = record { value = number; increment = rs.page_increment; format = rs.page_format }

-- what a name reads as, if this says whether it is the page number's
abbrev pub settable_by : Bool → Num → List ℕ → AllRegisters → Register
settable_by of_page number name rs = if of_page then page_by number rs else register_of name rs.named

-- the page's number behind a value, if this says whether it is set
abbrev pub number_by : Bool → Num → Layout → Num
number_by of_page value L = (numbered (if of_page then Some value else None) L).number

-- a change of one register, if these say whether it is read-only and whether it is the page number
abbrev changing_by : Bool → Bool → AllRegisters → Registers → AllRegisters → AllRegisters
changing_by read_only of_page paged named rs =
    if read_only then rs else if of_page then paged else record rs { named = named }

-- a name that isn't read-only asks for nothing
asks_nothing : (asked : Option Query) → is_some asked ≡ false → asked ≡ None
asks_nothing None settable = refl
asks_nothing (Some query) settable = cc

-- the register that a name is given is what it reads as
register_of-with_entry : (name : List ℕ) (r : Register) (named : Registers) → register_of name (with_entry name r named) ≡ r
register_of-with_entry name r named = let has = entry_of-with_entry name name r named in grind (arith, bytes_eq_tells)

-- a register that is set
settable_by-set : (read_only of_page : Bool) (name : List ℕ) (value increment : Num) (L : Layout) (rs : AllRegisters) → read_only ≡ false
    → settable_by of_page (number_by of_page value L) name (changing_by read_only of_page (record rs { page_increment = increment })
    (with_setting name value increment rs.named) rs)
    ≡ record (settable_by of_page L.number name rs) { value = value; increment = increment }
settable_by-set true of_page name value increment L rs free = cc
settable_by-set false true name value increment L rs free = refl
settable_by-set false false name value increment L rs free = register_of-with_entry name _ rs.named

-- a register that is given a format
settable_by-format : (read_only of_page : Bool) (name : List ℕ) (format : Format) (number : Num) (rs : AllRegisters) → read_only ≡ false
    → settable_by of_page number name (changing_by read_only of_page (record rs { page_format = format }) (with_format name format rs.named) rs)
    ≡ record (settable_by of_page number name rs) { format = format }
settable_by-format true of_page name format number rs free = cc
settable_by-format false true name format number rs free = refl
settable_by-format false false name format number rs free = register_of-with_entry name _ rs.named

-- the text of a register that isn't read-only
text_asked-nothing : (asked : Option Query) (k : Known) (name : List ℕ) (r : Register) → is_some asked ≡ false
    → settable name k ≡ r → text_asked asked k name ≡ register_text r.format r.value.0
text_asked-nothing asked k name r free same =
    ap (λ (asked : Option Query). text_asked asked k name) (asks_nothing asked free)
    ∙ ap (λ (r : Register). register_text r.format r.value.0) same

pub values_read_back : ValuesReadBack
values_read_back k name value increment free =
    text_asked-nothing (query_of name) (known_set name value increment k) name
    (record (settable name k) { value = value; increment = increment }) free
    (settable_by-set (is_read_only name) (is_page name) name value increment k.layout k.registers free)

pub formats_read_back : FormatsReadBack
formats_read_back k name format free =
    text_asked-nothing (query_of name) (known_behind (FormatAs name format ∷ []) k) name
    (record (settable name k) { format = format }) free
    (settable_by-format (is_read_only name) (is_page name) name format k.layout.number k.registers free)

-- a register's format as it is set
format-set : (read_only of_page : Bool) (name : List ℕ) (value increment : Num) (L : Layout) (rs : AllRegisters)
    → (settable_by of_page (number_by of_page value L) name (changing_by read_only of_page (record rs { page_increment = increment })
    (with_setting name value increment rs.named) rs)).format
    ≡ (settable_by of_page L.number name rs).format
format-set true true name value increment L rs = refl
format-set true false name value increment L rs = refl
format-set false of_page name value increment L rs =
    ap (λ (r : Register). r.format) (settable_by-set false of_page name value increment L rs refl)

pub formats_stay : FormatsStay
formats_stay k name value increment = format-set (is_read_only name) (is_page name) name value increment k.layout k.registers

-- what isn't set reads as the register that isn't
settable_by-absent : (of_page : Bool) (number : Num) (name : List ℕ) (rs : AllRegisters) → of_page ≡ false → entry_of name rs.named ≡ None
    → settable_by of_page number name rs ≡ unset_register
settable_by-absent true number name rs other absent = cc
settable_by-absent false number name rs other absent = ap (λ (r : Option Register). unwrap_or r unset_register) absent

-- which is 0
text_of-unset : register_text unset_register.format unset_register.value.0 ≡ codes "0"
unfolding digits
text_of-unset = refl

pub undefined_read_as_zero : UndefinedReadAsZero
undefined_read_as_zero k name undefined =
    text_asked-nothing (query_of name) k name unset_register undefined.not_read_only
    (settable_by-absent (is_page name) k.layout.number name k.registers undefined.not_page undefined.absent)
    ∙ text_of-unset

-- a step of what isn't set is none
with_step-absent : (entry : Option Register) (in_range : Bool) (stepped named : Registers) → entry ≡ None
    → cond (is_some entry && in_range) stepped named ≡ named
with_step-absent None in_range stepped named absent = refl
with_step-absent (Some r) in_range stepped named absent = cc

-- a change to the same registers is none
changing_by-same : (read_only of_page : Bool) (named : Registers) (rs : AllRegisters) → named ≡ rs.named
    → changing_by read_only of_page rs named rs ≡ rs
changing_by-same true of_page named rs same = refl
changing_by-same false true named rs same = refl
changing_by-same false false named rs same = ap (λ (named : Registers). let next : AllRegisters = record rs { named = named } in next) same

-- and where the page gets no number either, nothing else is known
none_made : (of_page : Bool) (number : Option Num) (rs : AllRegisters) (k : Known) → of_page ≡ false → rs ≡ k.registers
    → (let next : Known = record k { registers = rs; layout = numbered (if of_page then number else None) k.layout } in next) ≡ k
none_made true number rs k other same = cc
none_made false number rs k other same = ap (λ (rs : AllRegisters). let next : Known = record k { registers = rs } in next) same

pub reading_makes_none : ReadingMakesNone
reading_makes_none k name None undefined = refl
reading_makes_none k name (Some direction) undefined =
    let rs : AllRegisters = k.registers in
    none_made (is_page name) (number_in_range (next_value direction (page_register k))) (changed_by (StepBy name direction) rs) k undefined.not_page
    (changing_by-same (is_read_only name) (is_page name) (with_step direction name rs.named) rs
    (with_step-absent (entry_of name rs.named) (is_in_range (next_value direction (register_of name rs.named)))
    (with_entry name (record (register_of name rs.named) { value = record { 0 = next_value direction (register_of name rs.named) } }) rs.named)
    rs.named undefined.absent))

-- a step of the register that isn't set stays in range
unset-in_range : (direction : Direction) → is_in_range (next_value direction unset_register) ≡ true
unset-in_range Up = refl
unset-in_range Down = refl

-- a step in range is silent
step-silent : (read_only in_range : Bool) → in_range ≡ true
    → (let said : List Message = if not read_only && not in_range then BadNumber ∷ [] else [] in said) ≡ []
step-silent true in_range is = refl
step-silent false true is = refl
step-silent false false is = cc

pub reading_is_silent : ReadingIsSilent
reading_is_silent k name None undefined = refl
reading_is_silent k name (Some direction) undefined =
    step-silent (is_read_only name) (is_in_range (next_value direction (settable name k)))
    (ap (λ (r : Register). is_in_range (next_value direction r)) (settable_by-absent (is_page name) k.layout.number name k.registers undefined.not_page undefined.absent)
    ∙ unset-in_range direction)

-- what a read-only register asks for isn't a register
text_answered-same : (query : Query) (k : Known) (rs : AllRegisters)
    → text_answered (record k { registers = rs }) query ≡ text_answered k query
text_answered-same Newlines k rs = refl
text_answered-same Indent k rs = refl
text_answered-same LineLength k rs = refl
text_answered-same LastWidth k rs = refl
text_answered-same Filling k rs = refl
text_answered-same LineSpacing k rs = refl
text_answered-same ColumnWidth k rs = refl
text_answered-same Arguments k rs = refl
text_answered-same PagePlace k rs = refl
text_answered-same PageLength k rs = refl
text_answered-same PageOffset k rs = refl
text_answered-same WayToTrap k rs = refl
text_answered-same TextPlace k rs = refl
text_answered-same DiversionHeight k rs = refl
text_answered-same DiversionWidth k rs = refl
text_answered-same DiversionName k rs = refl

-- nor is its text that of one
text_asked-same : (asked : Option Query) (k : Known) (rs : AllRegisters) (name : List ℕ) → is_some asked ≡ true
    → text_asked asked (record k { registers = rs }) name ≡ text_asked asked k name
text_asked-same None k rs name read_only = cc
text_asked-same (Some query) k rs name read_only = text_answered-same query k rs

pub read_only_stay : ReadOnlyStay
read_only_stay k name changes read_only = text_asked-same (query_of name) k (known_behind changes k).registers name read_only

pub read_only_are_left_alone : ReadOnlyAreLeftAlone
read_only_are_left_alone rs name read_only = record {
  set = λ value increment. cond-true (is_read_only name) rs _ read_only;
  formatted = λ format. cond-true (is_read_only name) rs _ read_only;
  stepped = λ direction. cond-true (is_read_only name) rs _ read_only;
}

-- the registers without some names
abbrev without_all : Registers → List (List ℕ) → Registers
without_all named names = fold (λ named name. without_entry name named) named names

-- a name that is taken away has no register
entry_of-without : (name : List ℕ) (named : Registers) → entry_of name (without_entry name named) ≡ None
entry_of-without name named = let has = entry_of-without_entry name name named in grind (arith, bytes_eq_tells)

-- nor does it get one as others are
absent-without_entry : (name other : List ℕ) (named : Registers) → entry_of name named ≡ None → entry_of name (without_entry other named) ≡ None
absent-without_entry name other named absent = let has = entry_of-without_entry name other named in grind (arith, bytes_eq_tells)

absent-without_all : (name : List ℕ) (names : List (List ℕ)) (named : Registers) → entry_of name named ≡ None
    → entry_of name (without_all named names) ≡ None
absent-without_all name [] named absent = absent
absent-without_all name (other ∷ names) named absent =
    absent-without_all name names (without_entry other named) (absent-without_entry name other named absent)

-- so it has none behind the removal of names among which it is
absent-removed : (before : List (List ℕ)) (name : List ℕ) (behind : List (List ℕ)) (named : Registers)
    → entry_of name (without_all named (before ++ name ∷ behind)) ≡ None
absent-removed [] name behind named = absent-without_all name behind (without_entry name named) (entry_of-without name named)
absent-removed (other ∷ before) name behind named = absent-removed before name behind (without_entry other named)

pub removed_read_as_zero : RemovedReadAsZero
removed_read_as_zero k before name behind free other =
    undefined_read_as_zero (known_behind (Remove (before ++ name ∷ behind) ∷ []) k) name
    (record { not_read_only = free; not_page = other; absent = absent-removed before name behind k.registers.named })

-- a register of another name stays
register_of-other : (name other : List ℕ) (r : Register) (named : Registers) → bytes_eq name other ≡ false → register_of name (with_entry other r named) ≡ register_of name named
register_of-other name other r named differ = let has = entry_of-with_entry name other r named in grind (arith, bytes_eq_tells)

settable_by-other : (read_only other_page of_page : Bool) (name other : List ℕ) (value increment : Num) (L : Layout) (rs : AllRegisters)
    → bytes_eq name other ≡ false → (other_page ≡ true → of_page ≡ true → ⊥)
    → settable_by of_page (number_by other_page value L) name (changing_by read_only other_page (record rs { page_increment = increment })
    (with_setting other value increment rs.named) rs)
    ≡ settable_by of_page L.number name rs
settable_by-other true true true name other value increment L rs differ pages = absurd (pages refl refl)
settable_by-other true true false name other value increment L rs differ pages = refl
settable_by-other true false of_page name other value increment L rs differ pages = refl
settable_by-other false true true name other value increment L rs differ pages = absurd (pages refl refl)
settable_by-other false true false name other value increment L rs differ pages = refl
settable_by-other false false true name other value increment L rs differ pages = refl
settable_by-other false false false name other value increment L rs differ pages = register_of-other name other _ rs.named differ

-- as one that is set reads as its value
pub settable-set : (name : List ℕ) (value increment : Num) (L : Layout) (rs : AllRegisters) → is_read_only name ≡ false
    → (settable_by (is_page name) (number_by (is_page name) value L) name (changed_by (SetTo name value increment) rs)).value ≡ value
settable-set name value increment L rs free =
    ap (λ (r : Register). r.value) (settable_by-set (is_read_only name) (is_page name) name value increment L rs free)

-- two names aren't both the page number's
two_pages : (name other : List ℕ) → bytes_eq name other ≡ false → is_page other ≡ true → is_page name ≡ true → ⊥
two_pages name other differ one two =
    let same : bytes_eq name other ≡ true = grind (arith, bytes_eq_tells, one, two) in
    absurd (cc)

-- and others stay
pub settable-other : (name other : List ℕ) (value increment : Num) (L : Layout) (rs : AllRegisters) → bytes_eq name other ≡ false
    → settable_by (is_page name) (number_by (is_page other) value L) name (changed_by (SetTo other value increment) rs)
    ≡ settable_by (is_page name) L.number name rs
settable-other name other value increment L rs differ =
    settable_by-other (is_read_only other) (is_page other) (is_page name) name other value increment L rs differ
    (two_pages name other differ)
