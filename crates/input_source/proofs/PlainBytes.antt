-- Bytes that change nothing, and those of plain text, as code counts them.
use Rattle.std.proofs.Common.{◌≡◌, ◌==◌, ℕ, Bool, true, false, not, ◌||◌, List, Option, Some, None, inl, inr, length, map, take_while, refl, sym, ap, subst, arith, ◌∙◌, zero, suc, ◌+◌, ◌^◌, ◌%◌, ◌≤◌, ◌<◌, [], ◌∷◌, take, drop, get_or, cond, eqb, ltb, bit_or, replicate, unwrap_or, if◌then◌else◌, length-drop}
use Rattle.std.specs.Int.{w64, trailing_zeros}
use Rattle.std.specs.Simd.Lanes.{chunk, mask_l, top, zip2}
use Rattle.std.proofs.lemmas.Simd.{zip2_of_maps, zip2_splat}
use Rattle.std.proofs.lemmas.Bool.{cases_Bool, cases_lt}
use Rattle.std.proofs.Math.Bool.{or-false, cond}
use Rattle.std.proofs.lemmas.List.Folds.{length-prefix_len}
use Rattle.std.proofs.lemmas.List.Sums.{prefix_len-le-length, prefix_len_is, prefix_len-drop_all, prefix_len-drop_no, prefix_len-drop_yes, take_while-cons}
use Rattle.memchr.specs.Find.{IsFirstByte, is_byte, is_byte2}
use Rattle.roff_num.proofs.Masks.{first_lane, mask_l-lanes}
use Rattle.input_source.specs.Bytes.{backslash, newline, is_passed, is_text_byte}
use Rattle.std.specs.List.{prefix_len, AllByRecursion}

-- a byte that isn't found
not_found : (t : Bool) → (t ≡ true → ⊥) → not t ≡ true
not_found false unfound = refl
not_found true unfound = absurd (unfound refl)

-- up to the first byte that is found all are passed, and if none is found all of them
passed_before : (test p : ℕ → Bool) → ((b : ℕ) → p b ≡ not (test b)) → (bytes : List ℕ) (found : Option ℕ) → IsFirstByte test bytes found
    → unwrap_or found (length bytes) ≡ length (take_while p bytes)
passed_before test p same bytes None none =
    sym (length-prefix_len p bytes ∙ prefix_len_is p bytes (length bytes) 0 (omega arith)
    (λ k lt. same _ ∙ not_found _ (none k (omega arith) lt))
    (λ lt. absurd (omega arith)))
passed_before test p same bytes (Some at) first =
    sym (length-prefix_len p bytes ∙ prefix_len_is p bytes at 0 (omega arith)
    (λ k lt. same _ ∙ not_found _ (first.0.before k (omega arith) lt))
    (λ lt. same _ ∙ ap not first.1))

-- within a block a backslash ends them
pub passed_len_in_block : (bytes : List ℕ) (found : Option ℕ) (within_block : Bool) → within_block ≡ true → IsFirstByte (is_byte backslash) bytes found
    → unwrap_or found (length bytes) ≡ length (take_while (is_passed within_block) bytes)
passed_len_in_block bytes found true is first = passed_before (is_byte backslash) (is_passed true) (λ b. ap not (or-false (b == backslash))) bytes found first
passed_len_in_block bytes found false is first = cc

-- and elsewhere a newline too
pub passed_len_in_line : (bytes : List ℕ) (found : Option ℕ) (within_block : Bool) → within_block ≡ false → IsFirstByte (is_byte2 backslash newline) bytes found
    → unwrap_or found (length bytes) ≡ length (take_while (is_passed within_block) bytes)
passed_len_in_line bytes found true is first = cc
passed_len_in_line bytes found false is first = passed_before (is_byte2 backslash newline) (is_passed false) (λ b. refl) bytes found first

-- one byte more of plain text
pub text-more : (bytes : List ℕ) (count : ℕ) → count < length bytes → is_text_byte (get_or bytes count 0) ≡ true
    → count + prefix_len is_text_byte (drop count bytes) ≡ prefix_len is_text_byte bytes
    → count + 1 + prefix_len is_text_byte (drop (count + 1) bytes) ≡ prefix_len is_text_byte bytes
text-more bytes count inside is so_far = let more = prefix_len-drop_yes is_text_byte bytes count 0 inside is in omega (arith, more, so_far)

-- bytes that pass, and those behind them
pub prefix_len-behind : (xs : List ℕ) (n : ℕ) → n ≤ prefix_len is_text_byte xs → n + prefix_len is_text_byte (drop n xs) ≡ prefix_len is_text_byte xs
prefix_len-behind xs zero few = omega arith
prefix_len-behind [] (suc n) few = absurd (omega (arith, few))
prefix_len-behind (x ∷ xs) (suc n) few =
    elim (cases_Bool (is_text_byte x)) [
      | inl e ↦
          let whole : prefix_len is_text_byte (x ∷ xs) ≡ 1 + prefix_len is_text_byte xs = ap (λ (c : Bool). cond c (1 + prefix_len is_text_byte xs) 0) e in
          let rest = prefix_len-behind xs n (omega (arith, few, whole)) in
          omega (arith, whole, rest)
      | inr e ↦
          let none : prefix_len is_text_byte (x ∷ xs) ≡ 0 = ap (λ (c : Bool). cond c (1 + prefix_len is_text_byte xs) 0) e in
          absurd (omega (arith, few, none))
    ]

-- what so many bytes say of all: one of them ends the text, or none does
pub record SaysOf (xs : List ℕ) (n run : ℕ) : Type 0 where
  pub ended : run < n → run ≡ prefix_len is_text_byte xs
  pub reached : run ≤ prefix_len is_text_byte xs

pub prefix_len-front : (xs : List ℕ) (n : ℕ) → n ≤ length xs → SaysOf xs n (prefix_len is_text_byte (take n xs))
prefix_len-front xs zero few = record { ended = λ less. absurd (omega (arith, less)); reached = omega arith }
prefix_len-front [] (suc n) few = absurd (omega (arith, few))
prefix_len-front (x ∷ xs) (suc n) few =
    let says = prefix_len-front xs n (omega (arith, few)) in
    let front : List ℕ = take n xs in
    elim (cases_Bool (is_text_byte x)) [
      | inl e ↦
          let whole : prefix_len is_text_byte (x ∷ xs) ≡ 1 + prefix_len is_text_byte xs = ap (λ (c : Bool). cond c (1 + prefix_len is_text_byte xs) 0) e in
          let part : prefix_len is_text_byte (x ∷ front) ≡ 1 + prefix_len is_text_byte front = ap (λ (c : Bool). cond c (1 + prefix_len is_text_byte front) 0) e in
          record {
            ended = λ less. part ∙ ap (λ (k : ℕ). 1 + k) (says.ended (omega (arith, part, less))) ∙ sym whole;
            reached = omega (arith, whole, part, says.reached);
          }
      | inr e ↦
          let whole : prefix_len is_text_byte (x ∷ xs) ≡ 0 = ap (λ (c : Bool). cond c (1 + prefix_len is_text_byte xs) 0) e in
          let part : prefix_len is_text_byte (x ∷ front) ≡ 0 = ap (λ (c : Bool). cond c (1 + prefix_len is_text_byte front) 0) e in
          record { ended = λ less. part ∙ sym whole; reached = omega (arith, whole, part) }
    ]

-- the bytes of a step behind text
module _ (bytes : List ℕ) (start run : ℕ) (inside : start + 16 ≤ length bytes) (text : start ≤ prefix_len is_text_byte bytes)
    (counted : run ≡ prefix_len is_text_byte (chunk start 16 bytes)) where
  says : SaysOf (drop start bytes) 16 run
  says =
      subst (SaysOf (drop start bytes) 16) (sym counted)
      (prefix_len-front (drop start bytes) 16 (omega (arith, length-drop start bytes, inside)))

  -- one of them ends the text
  pub text-ends : run < 16 → start + run ≡ length (take_while is_text_byte bytes)
  text-ends less =
      omega (arith, says.ended less, prefix_len-behind bytes start text, length-prefix_len is_text_byte bytes)

  -- or it goes on behind them
  pub text-goes-on : 16 ≤ run → start + 16 ≤ prefix_len is_text_byte bytes
  text-goes-on all = omega (arith, all, says.reached, prefix_len-behind bytes start text)

  -- and of the last ones all that pass are told
  pub text-last : run ≤ 16 → length bytes ≡ start + 16 → start + run ≡ length (take_while is_text_byte bytes)
  text-last few last =
      let most = prefix_len-le-length is_text_byte bytes in
      let behind = prefix_len-behind bytes start text in
      let whole = length-prefix_len is_text_byte bytes in
      elim (cases_lt run 16) [
        | inl less ↦ text-ends less
        | inr all ↦ omega (arith, all, few, last, most, says.reached, behind, whole)
      ]

-- a lane that is set where a byte ends the text
abbrev pub ending_lane : ℕ → ℕ
ending_lane b = bit_or (cond (ltb b 32) 255 0) (bit_or (cond (eqb b 127) 255 0) (cond (eqb b 92) 255 0))

lane-top : (p q r : Bool) → top 7 (bit_or (cond p 255 0) (bit_or (cond q 255 0) (cond r 255 0))) ≡ (p || (q || r))
lane-top true true true = refl
lane-top true true false = refl
lane-top true false true = refl
lane-top true false false = refl
lane-top false true true = refl
lane-top false true false = refl
lane-top false false true = refl
lane-top false false false = refl

-- the mask of the three comparisons
pub ending-mask : (v : List ℕ) → length v ≡ 16
    → mask_l (map (top 7) (zip2 bit_or (zip2 (λ a b. cond (ltb a b) 255 0) v (replicate 16 32))
    (zip2 bit_or (zip2 (λ a b. cond (eqb a b) 255 0) v (replicate 16 127)) (zip2 (λ a b. cond (eqb a b) 255 0) v (replicate 16 92))))) % 2 ^ 64
    ≡ mask_l (map (λ b. top 7 (ending_lane b)) v)
ending-mask v long =
    let others =
    zip2_of_maps bit_or _ _ v (zip2_splat (λ a b. cond (eqb a b) 255 0) v 16 127 long) (zip2_splat (λ a b. cond (eqb a b) 255 0) v 16 92 long) in
    let lanes = zip2_of_maps bit_or _ _ v (zip2_splat (λ a b. cond (ltb a b) 255 0) v 16 32 long) others in
    mask_l-lanes ending_lane v _ (omega (arith, long)) lanes

-- the text of a step is told by the lowest bit of it that is set
pub first-ending : (v : List ℕ) (r m : ℕ) → length v ≡ 16 → r ≡ (if m == 0 then 16 else trailing_zeros w64 m)
    → m ≡ mask_l (map (λ b. top 7 (ending_lane b)) v) → r ≡ prefix_len is_text_byte v
first-ending v r m long found mask =
    let is : (b : ℕ) → not (top 7 (ending_lane b)) ≡ is_text_byte b = λ b. ap not (lane-top (ltb b 32) (eqb b 127) (eqb b 92)) in
    first_lane (λ b. top 7 (ending_lane b)) v 16 r m long (omega arith) found mask ∙ (λ i. prefix_len (λ b. is b i) v)

-- as many as stand in front, where none more does
text-all : (bytes : List ℕ) (count more : ℕ) → more ≡ 0 → count + more ≡ prefix_len is_text_byte bytes → count ≡ length (take_while is_text_byte bytes)
text-all bytes count more none so_far = omega (arith, none, so_far, length-prefix_len is_text_byte bytes)

-- at the end of the bytes
pub text-ended : (bytes : List ℕ) (count : ℕ) → length bytes ≤ count → count + prefix_len is_text_byte (drop count bytes) ≡ prefix_len is_text_byte bytes
    → count ≡ length (take_while is_text_byte bytes)
text-ended bytes count past = text-all bytes count (prefix_len is_text_byte (drop count bytes)) (prefix_len-drop_all is_text_byte bytes count past)

-- before a byte that is none
pub text-stopped : (bytes : List ℕ) (count : ℕ) → count < length bytes → is_text_byte (get_or bytes count 0) ≡ false
    → count + prefix_len is_text_byte (drop count bytes) ≡ prefix_len is_text_byte bytes → count ≡ length (take_while is_text_byte bytes)
text-stopped bytes count inside stops =
    text-all bytes count (prefix_len is_text_byte (drop count bytes)) (prefix_len-drop_no is_text_byte bytes count 0 inside stops)

-- the bytes in front that pass a test pass it
plain_front : (p : ℕ → Bool) (b : ℕ) (t : Bool) (front : List ℕ) → p b ≡ t → AllByRecursion (λ c. p c ≡ true) front
    → AllByRecursion (λ c. p c ≡ true) (cond t (b ∷ front) [])
plain_front p b true front passes plain = (passes, plain)
plain_front p b false front passes plain = tt

pub take_while-plain : (p : ℕ → Bool) (bytes : List ℕ) → AllByRecursion (λ b. p b ≡ true) (take_while p bytes)
take_while-plain p [] = tt
take_while-plain p (b ∷ bytes) = rw (take_while-cons p b bytes) (plain_front p b (p b) (take_while p bytes) refl (take_while-plain p bytes))
