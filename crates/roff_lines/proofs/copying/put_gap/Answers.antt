use Rattle.std.proofs.Common.{◌≡◌, ℕ, zero, suc, ◌+◌, ◌-◌, ◌<◌, ◌≤◌, false, List, [], ◌∷◌, ◌++◌, length, take, replicate, slice_set, refl, sym, ap, subst, ◌∙◌, arith, append_assoc, ne_eqb, ◌==◌, length-set}
use Rattle.std.proofs.lemmas.List.{take_more_set}
use Rattle.roff_lines.specs.Clauses.{gap_text}
use Rattle.roff_lines.proofs.copying.put_gap.Goals as goal

-- the first two blanks of a gap, and the others behind them
two_blanks : (place blanks : ℕ) (out new : List ℕ) → 1 < blanks → place + blanks ≤ length out
    → take (place + 2 + (blanks - 2)) new ≡ take (place + 2) (slice_set (slice_set out place 32) (place + 1) 1) ++ replicate (blanks - 2) 1
    → take (place + blanks) new ≡ take place out ++ gap_text blanks
two_blanks place zero out new more room written = absurd (omega arith)
two_blanks place (suc zero) out new more room written = absurd (omega arith)
two_blanks place (suc (suc n)) out new more room written =
    let mid : List ℕ = slice_set out place 32 in
    let both : List ℕ = slice_set mid (place + 1) 1 in
    let rest : suc (suc n) - 2 ≡ n = omega arith in
    let less : suc (suc n) - 1 ≡ suc n = omega arith in
    let some : (suc (suc n) == 0) ≡ false = ne_eqb (suc (suc n)) 0 (λ is. omega (arith, is)) in
    let gap : gap_text (suc (suc n)) ≡ 32 ∷ 1 ∷ replicate n 1 = rw (some, less) refl in
    let sum : place + suc (suc n) ≡ place + 2 + n = omega arith in
    let next : place + 2 ≡ place + 1 + 1 = omega arith in
    let others : take (place + 2 + n) new ≡ take (place + 2) both ++ replicate n 1 =
    subst (λ m. take (place + 2 + m) new ≡ take (place + 2) both ++ replicate m 1) rest written in
    let front : take (place + 2) both ≡ (take place out ++ 32 ∷ []) ++ 1 ∷ [] =
    ap (λ m. take m both) next ∙ take_more_set mid (place + 1) 1 (omega (arith, room, length-set out place 32))
    ∙ ap (λ (xs : List ℕ). xs ++ 1 ∷ []) (take_more_set out place 32 (omega (arith, room))) in
    ap (λ m. take m new) sum ∙ others ∙ ap (λ (xs : List ℕ). xs ++ replicate n 1) front
    ∙ append_assoc (take place out ++ 32 ∷ []) (1 ∷ []) (replicate n 1) ∙ append_assoc (take place out) (32 ∷ []) (1 ∷ replicate n 1)
    ∙ ap (λ (xs : List ℕ). take place out ++ xs) (sym gap)

pub returns-then-blanks-gt1-clause-written : goal.returns-then-blanks-gt1-clause-written
returns-then-blanks-gt1-clause-written c =
    two_blanks c.args.place c.args.blanks c.args.out.now c.put_times.new.out c.if-blanks-gt1.true c.requires.room c.put_times.ensures.written
