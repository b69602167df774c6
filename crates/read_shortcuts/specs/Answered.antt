-- Conditions that ask for a register, and what they answer where they stand whole in front (manual, sections 8 and 16).
use Rattle.std.specs.Prelude.{◌≡◌, ℕ, ◌+◌, ◌≤◌, ◌==◌, ◌||◌, ◌++◌, Bool, true, pos, int_lt, List, ◌∷◌, [], drop, length, take, Some, Ok}
use Rattle.std.specs.List.{AllByRecursion}
use Rattle.roff_num.specs.Expressions.{value_at}
use Rattle.roff_num.specs.ShortNames.{name_bytes}
use Rattle.roff_num.specs.declared.limits.Limits.{Limits}
use Rattle.roff_num.specs.declared.num.Num.{Num}
use Rattle.roff_num.specs.declared.num.Scale.TheVariants.{Units}
use Rattle.roff_num.specs.declared.short_name.ShortName.{ShortName}
use Rattle.input_source.specs.Bytes.{blank, is_digit}
use Rattle.input_escapes.specs.ConditionFronts.{is_of_expression}
use Rattle.run_state.specs.Composer.Standing.{StandFor}
use Rattle.run_state.specs.declared.composer.Composer.{Composer as ComposerOf}
use Rattle.run_model.specs.Environments.{PageHistory}
use Rattle.run_model.specs.Reading.Items.{PageUnread}
use Rattle.run_model.specs.Registers.{text_of_register}
use Rattle.run_model.specs.Run.{known_at}
use Rattle.read_lines.specs.Reader.State.{ReaderState}
use Rattle.read_shortcuts.specs.ControlFronts.{StandsReady}
use Rattle.read_shortcuts.specs.Registers.{IsRegisterName, register_escape}
use Rattle.read_shortcuts.specs.declared.answered.Answer.{Answer}

-- each of these bytes belongs to an expression
abbrev pub AreOfExpression : List ℕ → Type 0
AreOfExpression bytes = AllByRecursion (λ b. is_of_expression b ≡ true) bytes

-- a digit, or a minus
abbrev pub begins_number : ℕ → Bool
begins_number b = is_digit b || b == 45

-- the first of these bytes begins a number, and all belong to an expression
pub record BeginsNumber (bytes : List ℕ) : Type 0 where
  pub first : ℕ
  pub others : List ℕ
  pub is : bytes ≡ first ∷ others
  pub begins : begins_number first ≡ true
  pub are : AreOfExpression bytes

-- so many of these bytes belong to an expression, and a blank ends it behind them
pub record EndsBehind (count : ℕ) (bytes : List ℕ) : Type 0 where
  pub few : count ≤ length bytes
  pub are : AreOfExpression (take count bytes)
  pub more : List ℕ
  pub ended : drop count bytes ≡ blank ∷ more

-- the bytes of a condition that asks for a register: its escape, these of an expression, and the blank that ends that
abbrev pub asking_bytes : ShortName → List ℕ → List ℕ
asking_bytes name rest = register_escape name ++ (rest ++ blank ∷ [])

-- These bytes begin with such a condition.
pub record AsksFor (name : ShortName) (rest bytes : List ℕ) : Type 0 where
  pub named : IsRegisterName name
  pub are : AreOfExpression rest
  pub more : List ℕ
  pub is : bytes ≡ asking_bytes name rest ++ more

-- It answers this: behind a name of two bytes and a blank it is so many bytes long with these, the register's text is so many, and its
-- expression, which that text begins, is a number, by which it is so or isn't.
pub record IsAnswer (r : ReaderState) (es : ComposerOf) (u : PageUnread) (name : ShortName) (rest : List ℕ) (answer : Answer) : Type 0 where
  pub text : List ℕ
  pub text_is : (limits : Limits) (h : PageHistory) → StandFor limits h es → text ≡ text_of_register (known_at h r.registers.all u.input) (name_bytes name)
  pub number : BeginsNumber text
  pub value : Num × ℕ
  pub is_number : value_at (text ++ rest) 0 Units (Some (pos 0)) ≡ Ok value
  pub so : answer.so ≡ int_lt (pos 0) value.0.0
  pub len : answer.len ≡ length text
  pub count : answer.count ≡ 5 + (length (register_escape name) + length rest)

-- these bytes begin with a condition that asks for a register, and answers this
pub record AnswersBehind (r : ReaderState) (es : ComposerOf) (u : PageUnread) (bytes : List ℕ) (answer : Answer) : Type 0 where
  pub name : ShortName
  pub rest : List ℕ
  pub asks : AsksFor name rest bytes
  pub is : IsAnswer r es u name rest answer

-- such a condition stands in front, behind three bytes and a blank
pub record AnswersFront (r : ReaderState) (es : ComposerOf) (ready : List ℕ) (u : PageUnread) (answer : Answer) : Type 0 where
  pub mark : ℕ
  pub first : ℕ
  pub second : ℕ
  pub bytes : List ℕ
  pub stands : StandsReady (mark ∷ first ∷ second ∷ blank ∷ bytes) ready u
  pub answers : AnswersBehind r es u bytes answer
