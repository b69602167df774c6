-- The value of an expression is the left fold over its operands (manual, section 1.4).
use Rattle.std.specs.Prelude.{◌≡◌, ℕ, ◌+◌, List, [], ◌∷◌, drop, ℤ, Some, None, Result, Ok}
use Rattle.roff_num.specs.declared.num.NumFault.{NumFault}
use Rattle.roff_num.specs.declared.operator.Operator.{Operator}
use Rattle.roff_num.specs.Expressions.{expression_of}
use Rattle.roff_num.specs.Operators.{applied, operator_at}
use Rattle.roff_num.specs.Steps.{followed}

-- an operator and the operand behind it: what they are, and how many bytes they have
pub record Term : Type 0 where
  pub operator : Operator
  pub value : ℤ
  pub operator_length : ℕ
  pub operand_length : ℕ

-- a text reads as these terms, where operands are read so, and then no operator follows
abbrev pub ReadsAs : (List ℕ → Result (ℤ × ℕ) NumFault) → List Term → List ℕ → Type 0
ReadsAs operand [] text = operator_at text ≡ None
ReadsAs operand (t ∷ terms) text =
    (k : ℕ) × (t.operator_length ≡ 1 + k) × (operator_at text ≡ Some (t.operator, k))
    × (operand (drop t.operator_length text) ≡ Ok (t.value, t.operand_length))
    × ReadsAs operand terms (drop (t.operator_length + t.operand_length) text)

-- the bytes of terms
abbrev pub terms_length : List Term → ℕ
terms_length [] = 0
terms_length (t ∷ terms) = t.operator_length + t.operand_length + terms_length terms

-- the terms folded onto a value, from the left
abbrev pub left_fold : ℤ → List Term → Result ℤ NumFault
left_fold value [] = Ok value
left_fold value (t ∷ terms) = followed (applied t.operator value t.value) (λ v. left_fold v terms)

-- a text that reads as an operand and then as terms has as its value the left fold, or its first fault
abbrev pub IsLeftFold : Type 0
IsLeftFold =
    (operand : List ℕ → Result (ℤ × ℕ) NumFault) (first : ℤ) (length : ℕ) (terms : List Term) (text : List ℕ)
    → operand text ≡ Ok (first, length) → ReadsAs operand terms (drop length text)
    → expression_of operand text ≡ followed (left_fold first terms) (λ v. Ok (v, length + terms_length terms))
