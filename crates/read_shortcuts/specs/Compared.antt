-- Conditions that compare an argument with a text, and what they answer where they stand whole in front (manual, sections 7 and 16).
use Rattle.std.specs.Prelude.{◌≡◌, ℕ, ◌+◌, ◌-◌, ◌≤◌, ◌==◌, ◌||◌, ◌&&◌, not, ◌++◌, Bool, true, if◌then◌else◌, bytes_eq, List, ◌∷◌, [], length}
use Rattle.std.specs.List.{AllByRecursion}
use Rattle.input_escapes.specs.Conditions.{so_unless}
use Rattle.input_model.specs.Input.Calls.{argument_live}
use Rattle.run_model.specs.Reading.Items.{PageUnread}
use Rattle.input_source.specs.Bytes.{blank, is_argument_byte}
use Rattle.read_shortcuts.specs.ControlFronts.{StandsReady}
use Rattle.read_shortcuts.specs.declared.answered.Answer.{Answer}

-- an apostrophe or a quote
abbrev pub is_delimiter : ℕ → Bool
is_delimiter b = b == 39 || b == 34

-- whether a byte belongs to a text between two of these
abbrev pub is_of_text : ℕ → ℕ → Bool
is_of_text delimiter b = is_argument_byte b && not (b == delimiter)

-- each of these bytes does
abbrev pub OfText : ℕ → List ℕ → Type 0
OfText delimiter bytes = AllByRecursion (λ b. is_of_text delimiter b ≡ true) bytes

-- the byte that negates a condition, if it is negated
abbrev pub negating : Bool → List ℕ
negating negated = if negated then 33 ∷ [] else []

-- the bytes of a condition that compares an argument with a text: its escape between delimiters, and the text up to another one
abbrev pub comparing_bytes : ℕ → ℕ → List ℕ → List ℕ
comparing_bytes delimiter digit other = delimiter ∷ 92 ∷ 36 ∷ digit ∷ delimiter ∷ (other ++ delimiter ∷ [])

-- how many bytes it has with the front of its line, but for those of the text
abbrev pub bytes_beside : Bool → ℕ
bytes_beside negated = if negated then 11 else 10

-- These bytes begin with such a condition, and it answers this: with the front of its line it is so many bytes long, the argument's text
-- is so many, and it is so where both texts are the same, or where it is negated and they aren't.
pub record ComparesBehind (negated : Bool) (bytes : List ℕ) (u : PageUnread) (answer : Answer) : Type 0 where
  pub delimiter : ℕ
  pub digit : ℕ
  pub other : List ℕ
  pub more : List ℕ
  pub is : bytes ≡ comparing_bytes delimiter digit other ++ more
  pub delimits : is_delimiter delimiter ≡ true
  pub above : 49 ≤ digit
  pub below : digit ≤ 57
  pub text : List ℕ
  pub text_is : text ≡ argument_live (digit - 49) u.input
  pub plain : OfText delimiter text
  pub plain_other : OfText delimiter other
  pub so : answer.so ≡ so_unless negated (bytes_eq text other)
  pub len : answer.len ≡ length text
  pub count : answer.count ≡ bytes_beside negated + length other

-- the same of an argument's text, and of these bytes behind it and its delimiter
pub record AnswersText (negated : Bool) (delimiter : ℕ) (text behind : List ℕ) (answer : Answer) : Type 0 where
  pub other : List ℕ
  pub more : List ℕ
  pub is : behind ≡ other ++ delimiter ∷ more
  pub plain_other : OfText delimiter other
  pub so : answer.so ≡ so_unless negated (bytes_eq text other)
  pub len : answer.len ≡ length text
  pub count : answer.count ≡ bytes_beside negated + length other

-- such a condition stands in front, behind three bytes and a blank
pub record ComparesFront (ready : List ℕ) (u : PageUnread) (answer : Answer) : Type 0 where
  pub mark : ℕ
  pub first : ℕ
  pub second : ℕ
  pub negated : Bool
  pub bytes : List ℕ
  pub stands : StandsReady (mark ∷ first ∷ second ∷ blank ∷ (negating negated ++ bytes)) ready u
  pub answers : ComparesBehind negated bytes u answer
