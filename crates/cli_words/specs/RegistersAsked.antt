-- The number registers that the options of a command line ask for.
use Rattle.std.specs.Prelude.{◌≡◌, ◌==◌, ℕ, List, [], ◌∷◌, ◌++◌, length, nat_lt, Option, Some, None, Result, Ok, Err, if◌then◌else◌, option_map, unwrap_or, codes}
use Rattle.std.specs.Char.{is_ascii_graphic}
use Rattle.clap.specs.Words.{Row, Text, all_of}
use Rattle.roff_num.specs.declared.num.Num.{Num}
use Rattle.roff_num.specs.declared.num.NumFault.{NumFault}
use Rattle.roff_num.specs.declared.num.Scale.TheVariants.{Units}
use Rattle.roff_num.specs.Expressions.{value_at}
use Rattle.cli_words.specs.declared.registers.Registers.{Registers}
use Rattle.cli_words.specs.declared.registers.Registers.TheVariants.{Set, Bad}

-- what was read of a text of this length, if it is the whole of it
abbrev pub read_whole : ℕ → Result (Num × ℕ) NumFault → Option Num
read_whole end (Ok (value, behind)) = if behind == end then Some value else None
read_whole end (Err fault) = None

-- the value of a text that is an expression as a whole
abbrev pub whole_value : Text → Option Num
whole_value text = read_whole (length text) (value_at text 0 Units None)

-- the register that a text asks for: its first byte is the name, and what follows is the value
abbrev pub register_of : Text → Option (ℕ × Num)
register_of [] = None
register_of (name ∷ value) = if is_ascii_graphic name then option_map (λ n. (name, n)) (whole_value value) else None

-- so many are set at most
abbrev pub most_registers : ℕ
most_registers = 64

-- the register that a text asks for behind these, if there is room for it
abbrev pub next_register : List (ℕ × Num) → Text → Option (ℕ × Num)
next_register done text = if nat_lt (length done) most_registers then register_of text else None

-- the items became these with one more, which is there
abbrev pub Adds : {X : Type 0} → Option X → List X → List X → Type 0
Adds None old new = ⊥
Adds (Some x) old new = new ≡ old ++ x ∷ []

-- what follows a text that asks for this register, or for none
abbrev pub behind_register : Option (ℕ × Num) → Text → ((ℕ × Num) → Result (List (ℕ × Num)) Text) → Result (List (ℕ × Num)) Text
behind_register None text next = Err text
behind_register (Some register) text next = next register

-- these registers and those that further texts ask for, or the first text that asks for none, or for one too many
unfoldable pub registers_behind : List (ℕ × Num) → List Text → Result (List (ℕ × Num)) Text
registers_behind done [] = Ok done
registers_behind done (text ∷ texts) =
    behind_register (next_register done text) text (λ register. registers_behind (done ++ register ∷ []) texts)

-- what texts ask for, in their order
abbrev pub registers_of : List Text → Result (List (ℕ × Num)) Text
registers_of texts = registers_behind [] texts

-- what a command's options ask for
abbrev pub registers_asked : List Row → Result (List (ℕ × Num)) Text
registers_asked rows = registers_of (unwrap_or (all_of (codes "register") rows) [])

-- what the code's answer says
abbrev pub told : Registers → Result (List (ℕ × Num)) Text
told (Set registers) = Ok registers.items
told (Bad text) = Err text.now
