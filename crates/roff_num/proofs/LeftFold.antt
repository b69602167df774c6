-- The value of an expression is the left fold over its operands.
use Rattle.std.proofs.Common.{◌≡◌, ℕ, ◌+◌, List, [], ◌∷◌, drop, refl, ap, sym, ◌∙◌, Ok, Err, ℤ, Result}
use Rattle.roff_num.specs.declared.num.NumFault.{NumFault}
use Rattle.roff_num.specs.Expressions.{folded_onto, past}
use Rattle.roff_num.specs.Laws.{IsLeftFold, left_fold, ReadsAs, Term, terms_length}
use Rattle.roff_num.specs.Operators.{applied}
use Rattle.roff_num.specs.Steps.{followed}
use Rattle.roff_num.proofs.Folds.{folded_onto-drop, folded_onto-none, folded_onto-some}

-- bytes behind a fold
past-fold : (n m : ℕ) (x : Result ℤ NumFault) → past n (followed x (λ v. Ok (v, m))) ≡ followed x (λ v. Ok (v, n + m))
past-fold n m (Ok v) = refl
past-fold n m (Err e) = refl

-- a term, and what follows it
fold_term : (operand : List ℕ → Result (ℤ × ℕ) NumFault) (terms : List Term) (text : List ℕ) (n : ℕ) (x : Result ℤ NumFault)
    → ((v : ℤ) → folded_onto operand 0 v (drop n text) ≡ followed (left_fold v terms) (λ w. Ok (w, terms_length terms)))
    → followed x (λ v. past n (folded_onto operand 0 v (drop n text))) ≡ followed (followed x (λ v. left_fold v terms)) (λ w. Ok (w, n + terms_length terms))
fold_term operand terms text n (Ok v) rest = ap (past n) (rest v) ∙ past-fold n (terms_length terms) (left_fold v terms)
fold_term operand terms text n (Err e) rest = refl

-- what follows a value is the fold of the terms that it reads as
folded_onto-terms : (operand : List ℕ → Result (ℤ × ℕ) NumFault) (value : ℤ) (terms : List Term) (text : List ℕ)
    → ReadsAs operand terms text → folded_onto operand 0 value text ≡ followed (left_fold value terms) (λ v. Ok (v, terms_length terms))
folded_onto-terms operand value [] text none = folded_onto-none operand value text none
folded_onto-terms operand value (t ∷ terms) text (k, lengths, found, read, rest) =
    let bytes : 1 + k ≡ t.operator_length = sym lengths in
    let behind : operand (drop (1 + k) text) ≡ Ok (t.value, t.operand_length) = ap (λ n. operand (drop n text)) bytes ∙ read in
    folded_onto-some operand value text t.operator k found
    ∙ (ap (λ x. followed x (λ r. followed (applied t.operator value r.0) (λ v. past (1 + k + r.1) (folded_onto operand 0 v (drop (1 + k + r.1) text))))) behind
    ∙ (ap (λ n. followed (applied t.operator value t.value) (λ v. past (n + t.operand_length) (folded_onto operand 0 v (drop (n + t.operand_length) text)))) bytes
    ∙ fold_term operand terms text (t.operator_length + t.operand_length) (applied t.operator value t.value)
    (λ v. folded_onto-terms operand v terms (drop (t.operator_length + t.operand_length) text) rest)))

-- so the expression is that fold onto its first operand
pub expression_of-terms : IsLeftFold
expression_of-terms operand first length terms text read rest =
    ap (λ x. followed x (λ r. past r.1 (folded_onto operand r.1 r.0 text))) read
    ∙ (ap (past length) (folded_onto-drop operand length first text ∙ folded_onto-terms operand first terms (drop length text) rest)
    ∙ past-fold length (terms_length terms) (left_fold first terms))
