-- The front item of what slots stand for.
use Rattle.std.proofs.Common.{Bool, Some, true, false, ◌≡◌, ◌<◌, ◌≤◌, ◌+◌, ◌-◌, ℕ, zero, suc, List, [], ◌∷◌, ◌++◌, length, length-append, drop, take, get_or, refl, sym, ap, subst, ◌∙◌, arith, replicate, take_all}
use Rattle.std.proofs.lemmas.Bool.Decides.{nat_tests}
use Rattle.std.proofs.lemmas.List.{take_more}
use Rattle.input_model.specs.Input.{Ahead, ByteAhead, EndAhead, first, first_but_ends}
use Rattle.input_ahead.specs.declared.pushed_texts.Mark.{Mark}
use Rattle.input_ahead.specs.declared.pushed_texts.Mark.TheVariants.{Ends, Return, Free, Do}
use Rattle.input_ahead.specs.PushedTexts.Standing.{standing, items_of, is_byte_next, IsStacked}
use Rattle.input_ahead.specs.declared.pushed_texts.MarkAt.{MarkAt}
use Rattle.input_ahead.proofs.Standing.{standing-append, standing_mark}

-- the last one of some bytes
pub last_split : (bytes : List ℕ) → 0 < length bytes → bytes ≡ take (length bytes - 1) bytes ++ get_or bytes (length bytes - 1) 0 ∷ []
last_split bytes some =
    let last : length bytes - 1 < length bytes = omega (arith, some) in
    sym (take_all (length bytes - 1 + 1) bytes (omega (arith, some))) ∙ take_more bytes (length bytes - 1) 0 last

-- what is left of some bytes without those before the last one
drop-last : (bytes : List ℕ) → 0 < length bytes → drop (length bytes - 1) bytes ≡ get_or bytes (length bytes - 1) 0 ∷ []
drop-last [] some = absurd (omega (arith, some))
drop-last (b ∷ []) some = refl
drop-last (b ∷ c ∷ bytes) some =
    let rest = drop-last (c ∷ bytes) (omega arith) in
    let one : length (b ∷ c ∷ bytes) - 1 ≡ suc (length (c ∷ bytes) - 1) = omega arith in
    ap (λ (n : ℕ). drop n (b ∷ c ∷ bytes)) one ∙ rest ∙ ap (λ (n : ℕ). get_or (b ∷ c ∷ bytes) n 0 ∷ []) (sym one)

module _ {E : Type 0} where
  -- a byte comes next: it is the last one of the stack
  pub standing_byte : (pushed_texts : List (MarkAt E)) (bytes : List ℕ) (b : ℕ) → is_byte_next pushed_texts (bytes ++ b ∷ []) ≡ true
      → standing pushed_texts (bytes ++ b ∷ []) ≡ ByteAhead b ∷ standing pushed_texts bytes
  standing_byte [] bytes b next = cc
  standing_byte (slot ∷ pushed_texts) bytes b next =
      let below : slot.height ≤ length bytes = grind (arith, nat_tests, length-append bytes (b ∷ [])) in
      standing-append slot pushed_texts bytes (b ∷ []) below

  -- a byte comes next where there is one
  pub some_byte : (pushed_texts : List (MarkAt E)) (bytes : List ℕ) → is_byte_next pushed_texts bytes ≡ true → 0 < length bytes
  some_byte [] bytes next = cc
  some_byte (slot ∷ pushed_texts) bytes next = grind (arith, nat_tests)

  -- what stands in front is the last byte of the stack
  pub standing_last : (pushed_texts : List (MarkAt E)) (bytes : List ℕ) → is_byte_next pushed_texts bytes ≡ true
      → standing pushed_texts bytes ≡ ByteAhead (get_or bytes (length bytes - 1) 0) ∷ standing pushed_texts (take (length bytes - 1) bytes)
  standing_last pushed_texts bytes next =
      let split = last_split bytes (some_byte pushed_texts bytes next) in
      let next_split = subst (λ (all : List ℕ). is_byte_next pushed_texts all ≡ true) split next in
      ap (λ (all : List ℕ). standing pushed_texts all) split ∙ standing_byte pushed_texts (take (length bytes - 1) bytes) (get_or bytes (length bytes - 1) 0) next_split

  -- no byte comes next: the mark does
  pub at_mark : (slot : MarkAt E) (pushed_texts : List (MarkAt E)) (bytes : List ℕ) → is_byte_next (slot ∷ pushed_texts) bytes ≡ false → IsStacked (slot ∷ pushed_texts) (length bytes)
      → slot.height ≡ length bytes
  at_mark slot pushed_texts bytes next stacked = grind (arith, nat_tests, stacked.0)

  pub standing_behind : (slot : MarkAt E) (pushed_texts : List (MarkAt E)) (bytes : List ℕ) → is_byte_next (slot ∷ pushed_texts) bytes ≡ false → IsStacked (slot ∷ pushed_texts) (length bytes)
      → standing (slot ∷ pushed_texts) bytes ≡ items_of slot.mark ++ standing pushed_texts bytes
  standing_behind slot pushed_texts bytes next stacked = standing_mark slot pushed_texts bytes (at_mark slot pushed_texts bytes next stacked)

  -- the first item behind ends is behind these ends
  pub first_but_ends-ends : (n : ℕ) (items : List (Ahead E))
      → first_but_ends (replicate n EndAhead ++ items) ≡ first_but_ends items
  first_but_ends-ends zero items = refl
  first_but_ends-ends (suc n) items = first_but_ends-ends n items

  -- a mark stands for no byte
  no_byte : (mark : Mark E) (items : List (Ahead E)) (b : ℕ) → Some (ByteAhead b) ≡ first (items_of mark ++ items) → ⊥
  no_byte (Ends more) items b is = cc
  no_byte (Return back) items b is = cc
  no_byte (Free c) items b is = cc
  no_byte (Do event) items b is = cc

  -- the byte in front is the last one of the stack, which has some
  front_byte-by : (next : Bool) (pushed_texts : List (MarkAt E)) (bytes : List ℕ) (b : ℕ) → is_byte_next pushed_texts bytes ≡ next → IsStacked pushed_texts (length bytes)
      → Some (ByteAhead b) ≡ first (standing pushed_texts bytes) → (0 < length bytes) × (drop (length bytes - 1) bytes ≡ b ∷ [])
  front_byte-by true pushed_texts bytes b next stacked is =
      let some : 0 < length bytes = some_byte pushed_texts bytes next in
      let last : ℕ = get_or bytes (length bytes - 1) 0 in
      let found : Some (ByteAhead b) ≡ Some (ByteAhead last) = is ∙ ap (λ (items : List (Ahead E)). first items) (standing_last pushed_texts bytes next) in
      let same : b ≡ last = cc in
      (some, drop-last bytes some ∙ ap (λ (n : ℕ). n ∷ []) (sym same))
  front_byte-by false [] bytes b next stacked is = absurd (cc)
  front_byte-by false (slot ∷ pushed_texts) bytes b next stacked is =
      absurd (no_byte slot.mark (standing pushed_texts bytes) b (is ∙ ap (λ (items : List (Ahead E)). first items) (standing_behind slot pushed_texts bytes next stacked)))

  pub front_byte-last : (pushed_texts : List (MarkAt E)) (bytes : List ℕ) (b : ℕ) → IsStacked pushed_texts (length bytes)
      → Some (ByteAhead b) ≡ first (standing pushed_texts bytes) → (0 < length bytes) × (drop (length bytes - 1) bytes ≡ b ∷ [])
  front_byte-last pushed_texts bytes b stacked is = front_byte-by (is_byte_next pushed_texts bytes) pushed_texts bytes b refl stacked is
