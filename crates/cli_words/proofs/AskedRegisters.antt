-- Registers that options ask for, read one after another.
use Rattle.std.proofs.Common.{◌≡◌, ◌∙◌, ◌<◌, ◌≤◌, ◌+◌, ◌++◌, ℕ, List, [], ◌∷◌, Option, Some, None, ap, drop, get_or, length, map, refl, sym, Result, Ok, Err}
use Rattle.std.proofs.lemmas.List.{drop_all, drop_more}
use Rattle.std.specs.Borrow.{Bor}
use Rattle.clap.specs.Words.{Text}
use Rattle.roff_num.specs.declared.num.Num.{Num}
use Rattle.cli_words.specs.RegistersAsked.{Adds, behind_register, next_register, registers_behind}

-- texts of which so many are read
module _ (texts : List (Bor Text)) (i : ℕ) (d : Bor Text) (within : i < length texts) (done : List (ℕ × Num)) (all : Result (List (ℕ × Num)) Text)
    (is : registers_behind done (map (λ text. text.now) (drop i texts)) ≡ all) where
  abbrev others : List Text
  others = map (λ text. text.now) (drop (i + 1) texts)

  -- what follows the next one
  next_is : registers_behind done ((get_or texts i d).now ∷ others) ≡ all
  next_is = sym (ap (λ (rest : List (Bor Text)). registers_behind done (map (λ text. text.now) rest)) (drop_more texts i d within)) ∙ is

  -- it is bad
  pub bad_next : next_register done (get_or texts i d).now ≡ None → Err (get_or texts i d).now ≡ all
  unfolding registers_behind
  bad_next none =
      sym (ap (λ r. behind_register r (get_or texts i d).now (λ register. registers_behind (done ++ register ∷ []) others)) none) ∙ next_is

  -- it is one more
  one_more_of : (next : Option (ℕ × Num)) (done' : List (ℕ × Num)) → next_register done (get_or texts i d).now ≡ next → Adds next done done'
      → registers_behind done' others ≡ all
  unfolding registers_behind
  one_more_of None done' next_was adds = absurd adds
  one_more_of (Some register) done' next_was adds =
      ap (λ l. registers_behind l others) adds
      ∙ sym (ap (λ r. behind_register r (get_or texts i d).now (λ register. registers_behind (done ++ register ∷ []) others)) next_was) ∙ next_is

  pub one_more : (done' : List (ℕ × Num)) → Adds (next_register done (get_or texts i d).now) done done' → registers_behind done' others ≡ all
  one_more done' adds = one_more_of (next_register done (get_or texts i d).now) done' refl adds

-- all are read
pub all_read : (texts : List (Bor Text)) (i : ℕ) (done : List (ℕ × Num)) (all : Result (List (ℕ × Num)) Text) → length texts ≤ i
    → registers_behind done (map (λ text. text.now) (drop i texts)) ≡ all → Ok done ≡ all
unfolding registers_behind
all_read texts i done all past is =
    sym (ap (λ (rest : List (Bor Text)). registers_behind done (map (λ text. text.now) rest)) (drop_all i texts past)) ∙ is
