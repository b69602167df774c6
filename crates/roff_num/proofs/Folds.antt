-- What follows a value, folded onto it: with an operator there, or with none.
use Rattle.std.proofs.Common.{◌≡◌, ℕ, zero, suc, ◌+◌, List, [], ◌∷◌, drop, refl, ap, sym, ◌∙◌, arith, Ok, Err, Some, None, add_assoc, add-zero, ℤ, Result, Option, drop-drop}
use Rattle.roff_num.specs.declared.num.NumFault.{NumFault}
use Rattle.roff_num.specs.declared.operator.Operator.{Operator}
use Rattle.roff_num.specs.Expressions.{folded_onto, past}
use Rattle.roff_num.specs.Reading.Frames.{folded_from}
use Rattle.roff_num.specs.Operators.{applied, operator_at, operator_from}
use Rattle.roff_num.specs.Steps.{followed}

-- bytes that are passed over are dropped
pub folded_onto-drop : (operand : List ℕ → Result (ℤ × ℕ) NumFault) (n : ℕ) (value : ℤ) (text : List ℕ)
    → folded_onto operand n value text ≡ folded_onto operand 0 value (drop n text)
unfolding folded_onto
folded_onto-drop operand zero value text = refl
folded_onto-drop operand (suc n) value [] = refl
folded_onto-drop operand (suc n) value (c ∷ text) = folded_onto-drop operand n value text

-- bytes behind bytes
pub past-past : (m n : ℕ) (r : Result (ℤ × ℕ) NumFault) → past m (past n r) ≡ past (m + n) r
past-past m n (Ok r) = ap (λ k. Ok (r.0, k)) (sym (add_assoc m n r.1))
past-past m n (Err e) = refl

-- a byte more is one element more
drop-one_more : (n : ℕ) (c : ℕ) (text : List ℕ) → drop n text ≡ drop (1 + n) (c ∷ text)
drop-one_more n c text = ap (λ k. drop k (c ∷ text)) (let e : suc n ≡ 1 + n = omega arith in e)

-- behind an operator stands an operand, then the rest
folded_behind : (operand : List ℕ → Result (ℤ × ℕ) NumFault) (value : ℤ) (c : ℕ) (text : List ℕ) (o : Operator) (k : ℕ) (r : ℤ × ℕ) (x : Result ℤ NumFault)
    → followed x (λ v. past (1 + k + r.1) (folded_onto operand (k + r.1) v text))
    ≡ followed x (λ v. past (1 + k + r.1) (folded_onto operand 0 v (drop (1 + k + r.1) (c ∷ text))))
folded_behind operand value c text o k r (Ok v) =
    ap (past (1 + k + r.1))
    (folded_onto-drop operand (k + r.1) v text
    ∙ ap (folded_onto operand 0 v) (drop-one_more (k + r.1) c text ∙ ap (λ n. drop n (c ∷ text)) (sym (add_assoc 1 k r.1))))
folded_behind operand value c text o k r (Err e) = refl

folded_operand : (operand : List ℕ → Result (ℤ × ℕ) NumFault) (value : ℤ) (c : ℕ) (text : List ℕ) (o : Operator) (k : ℕ) (x : Result (ℤ × ℕ) NumFault)
    → followed x (λ r. followed (applied o value r.0) (λ v. past (1 + k + r.1) (folded_onto operand (k + r.1) v text)))
    ≡ followed x (λ r. followed (applied o value r.0) (λ v. past (1 + k + r.1) (folded_onto operand 0 v (drop (1 + k + r.1) (c ∷ text)))))
folded_operand operand value c text o k (Ok r) = folded_behind operand value c text o k r (applied o value r.0)
folded_operand operand value c text o k (Err e) = refl

-- what follows a value, by the operator there
abbrev folded_by : (List ℕ → Result (ℤ × ℕ) NumFault) → ℤ → List ℕ → Option (Operator × ℕ) → Result (ℤ × ℕ) NumFault
folded_by operand value text None = Ok (value, 0)
folded_by operand value text (Some o) = followed (operand (drop o.1 text)) (λ r. followed (applied o.0 value r.0) (λ v. past (1 + o.1 + r.1) (folded_onto operand (o.1 + r.1) v text)))

folded_onto-cons : (operand : List ℕ → Result (ℤ × ℕ) NumFault) (value : ℤ) (c : ℕ) (text : List ℕ)
    → folded_onto operand 0 value (c ∷ text) ≡ folded_by operand value text (operator_from c text)
unfolding folded_onto
folded_onto-cons operand value c text = refl

-- with an operator
pub folded_onto-some : (operand : List ℕ → Result (ℤ × ℕ) NumFault) (value : ℤ) (text : List ℕ) (o : Operator) (k : ℕ)
    → operator_at text ≡ Some (o, k)
    → folded_onto operand 0 value text
    ≡ followed (operand (drop (1 + k) text)) (λ r. followed (applied o value r.0) (λ v. past (1 + k + r.1) (folded_onto operand 0 v (drop (1 + k + r.1) text))))
folded_onto-some operand value [] o k found = cc
folded_onto-some operand value (c ∷ text) o k found =
    folded_onto-cons operand value c text
    ∙ (ap (folded_by operand value text) found
    ∙ (folded_operand operand value c text o k (operand (drop k text))
    ∙ ap (λ x. followed x (λ r. followed (applied o value r.0) (λ v. past (1 + k + r.1) (folded_onto operand 0 v (drop (1 + k + r.1) (c ∷ text))))))
    (ap operand (drop-one_more k c text))))

-- without an operator the value stands
pub folded_onto-none : (operand : List ℕ → Result (ℤ × ℕ) NumFault) (value : ℤ) (text : List ℕ)
    → operator_at text ≡ None → folded_onto operand 0 value text ≡ Ok (value, 0)
unfolding folded_onto
folded_onto-none operand value [] found = refl
folded_onto-none operand value (c ∷ text) found = folded_onto-cons operand value c text ∙ ap (folded_by operand value text) found

-- the same in a whole text, at a place
pub folded_from-none : (text : List ℕ) (operand : List ℕ → Result (ℤ × ℕ) NumFault) (value : ℤ) (at : ℕ)
    → operator_at (drop at text) ≡ None → folded_from text operand value at ≡ Ok (value, at)
folded_from-none text operand value at found =
    ap (past at) (folded_onto-none operand value (drop at text) found) ∙ ap (λ n. Ok (value, n)) (add-zero at)

-- more of a text is at a place behind
folded_further : (text : List ℕ) (operand : List ℕ → Result (ℤ × ℕ) NumFault) (at taken behind : ℕ) (r : ℤ × ℕ) (x : Result ℤ NumFault)
    → behind ≡ at + taken
    → past at (followed x (λ v. past (taken + r.1) (folded_onto operand 0 v (drop (taken + r.1) (drop at text)))))
    ≡ followed x (λ v. folded_from text operand v (behind + r.1))
folded_further text operand at taken behind r (Ok v) e =
    past-past at (taken + r.1) (folded_onto operand 0 v (drop (taken + r.1) (drop at text)))
    ∙ (ap (λ l. past (at + (taken + r.1)) (folded_onto operand 0 v l)) (drop-drop (taken + r.1) at text)
    ∙ ap (λ n. past n (folded_onto operand 0 v (drop n text))) (let same : at + (taken + r.1) ≡ behind + r.1 = omega arith in same))
folded_further text operand at taken behind r (Err f) e = refl

folded_further_operand : (text : List ℕ) (operand : List ℕ → Result (ℤ × ℕ) NumFault) (value : ℤ) (at taken behind : ℕ) (o : Operator) (x : Result (ℤ × ℕ) NumFault)
    → behind ≡ at + taken
    → past at (followed x (λ r. followed (applied o value r.0) (λ v. past (taken + r.1) (folded_onto operand 0 v (drop (taken + r.1) (drop at text))))))
    ≡ followed (past behind x) (λ r. followed (applied o value r.0) (λ v. folded_from text operand v r.1))
folded_further_operand text operand value at taken behind o (Ok r) e = folded_further text operand at taken behind r (applied o value r.0) e
folded_further_operand text operand value at taken behind o (Err f) e = refl

pub folded_from-some : (text : List ℕ) (operand : List ℕ → Result (ℤ × ℕ) NumFault) (value : ℤ) (at behind : ℕ) (o : Operator) (k : ℕ)
    → operator_at (drop at text) ≡ Some (o, k) → behind ≡ at + (1 + k)
    → folded_from text operand value at
    ≡ followed (past behind (operand (drop behind text))) (λ r. followed (applied o value r.0) (λ v. folded_from text operand v r.1))
folded_from-some text operand value at behind o k found e =
    ap (past at) (folded_onto-some operand value (drop at text) o k found)
    ∙ (folded_further_operand text operand value at (1 + k) behind o (operand (drop (1 + k) (drop at text))) e
    ∙ ap (λ l. followed (past behind (operand l)) (λ r. followed (applied o value r.0) (λ v. folded_from text operand v r.1)))
    (drop-drop (1 + k) at text ∙ ap (λ n. drop n text) (sym e)))
