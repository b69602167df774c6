-- From the mask of a step to the bytes of a text.
use Rattle.std.proofs.Common.{◌≡◌, ℕ, zero, suc, ◌+◌, ◌-◌, ◌*◌, ◌%◌, ◌/◌, ◌^◌, ◌<◌, ◌≤◌, eqb, leb, ltb, nat_lt, cond, Bool, true, false, not, ◌||◌, ◌&&◌, List, [], ◌∷◌, map, length, take, drop, slice_index_or, replicate, bit_and, bit_or, refl, sym, ap, ap₂, subst, ◌∙◌, arith, ◌==◌, count_ones, if◌then◌else◌, eqb-true, get_or-take, get_or-drop, length-drop, length-take, take-take}
use Rattle.std.specs.List.{prefix_len, count_by, sum_by}
use Rattle.std.specs.Int.{w64, trailing_zeros}
use Rattle.std.specs.Int.Count.{count_leading_zeros, leading_unique}
use Rattle.std.specs.Simd.Lanes.{chunk, mask_l, top, zip2}
use Rattle.std.proofs.Math.Arith.{mod-mul}
use Rattle.std.proofs.Math.Nat.{mod-one, one-le-pow, zero-mod, pow-zero, pow-suc}
use Rattle.std.proofs.Math.Seq.{take-add}
use Rattle.std.proofs.lemmas.Simd.{get_or-chunk, get_or-zip2, length-chunk, length-zip2, map-map, ones-mask_l, zip2_of_maps, zip2_splat, zip2_splat_left}
use Rattle.std.proofs.lemmas.Bool.{and_parts, not-true, not-false, or_parts}
use Rattle.std.proofs.lemmas.Bool.Decides.{nat_tests}
use Rattle.std.proofs.lemmas.List.{length-map}
use Rattle.std.proofs.lemmas.List.Sums.{prefix_len-le-length, prefix_len_passes, prefix_len_stops, sum_by-append, sum_by-cons}
use Rattle.roff_num.specs.Widths.{byte_width}
use Rattle.roff_num.proofs.Masks.{first_lane, mask_l-lanes}
use Rattle.page_model.specs.Glyphs.{gap_blank, gaps_in, text_width}
use Rattle.roff_lines.specs.Env.Tells.{GoesOn, IsRun}
use Rattle.roff_lines.proofs.WordRuns.{IsRun-more}

-- what isn't at most 32 is above it
above : (b : ℕ) → not (leb b 32) ≡ nat_lt 32 b
above b = grind (arith, nat_tests)

-- the lowest of two digits, and the other one
half : (b : Bool) (n : ℕ) → ((cond b 1 0 + 2 * n) / 2 ≡ n) × ((cond b 1 0 + 2 * n) % 2 ≡ cond b 1 0)
half true n = omega arith
half false n = omega arith

-- the remainder by a power of two more has that digit
half-mod : (b : Bool) (n power twice : ℕ) → 0 < power → twice ≡ power * 2 → (cond b 1 0 + 2 * n) % twice ≡ cond b 1 0 + 2 * (n % power)
half-mod b n power twice some is =
    ap (λ m. (cond b 1 0 + 2 * n) % m) is ∙ mod-mul (cond b 1 0 + 2 * n) {m = power} {c = 2} some (omega arith)
    ∙ ap₂ (λ high low. high % power * 2 + low) (half b n).0 (half b n).1 ∙ omega arith

module _ {X : Type 0} (p : X → Bool) where
  -- the first bits are those of the first lanes
  pub mask_l-take : (n : ℕ) (v : List X) → mask_l (map p v) % 2 ^ n ≡ mask_l (map p (take n v))
  mask_l-take zero v = ap (λ k. mask_l (map p v) % k) (pow-zero 2) ∙ mod-one (mask_l (map p v))
  mask_l-take (suc n) [] = zero-mod (2 ^ suc n)
  mask_l-take (suc n) (x ∷ v) =
      half-mod (p x) (mask_l (map p v)) (2 ^ n) (2 ^ suc n) (omega (arith, one-le-pow n 2 (omega arith))) (pow-suc 2 n) ∙ ap (λ k. cond (p x) 1 0 + 2 * k) (mask_l-take n v)

-- the glyphs of a step
pub glyphs-first : (v : List ℕ) (n r m : ℕ) → length v ≡ n → n ≤ 64 → r ≡ (if m == 0 then n else trailing_zeros w64 m)
    → m ≡ mask_l (map (λ b. leb b 32) v) → r ≡ prefix_len (nat_lt 32) v
glyphs-first v n r m long few found mask =
    first_lane (λ b. leb b 32) v n r m long few found mask ∙ (λ i. prefix_len (λ b. above b i) v)

-- behind the last bit that is set: 0 where none is
abbrev behind : ℕ → Bool → ℕ
behind zero b = cond b 1 0
behind (suc r) b = suc (suc r)

abbrev pub last_set : List Bool → ℕ
last_set [] = 0
last_set (b ∷ bs) = behind (last_set bs) b

-- so many bits has the mask
record HasBits (m r : ℕ) : Type 0 where
  below : m < 2 ^ r
  most : 2 ^ r ≤ 2 * m + 1

HasBits-behind : (r n : ℕ) (b : Bool) → HasBits n r → HasBits (cond b 1 0 + 2 * n) (behind r b)
HasBits-behind zero n true h = record { below = omega (arith, h.below, pow-zero 2, pow-suc 2 0); most = omega (arith, h.below, pow-zero 2, pow-suc 2 0) }
HasBits-behind zero n false h = record { below = omega (arith, h.below, pow-zero 2); most = omega (arith, h.below, pow-zero 2) }
HasBits-behind (suc r) n true h = record {
  below = omega (arith, h.below, pow-suc 2 r, pow-suc 2 (suc r));
  most = omega (arith, h.most, pow-suc 2 r, pow-suc 2 (suc r));
}
HasBits-behind (suc r) n false h = record {
  below = omega (arith, h.below, pow-suc 2 r, pow-suc 2 (suc r));
  most = omega (arith, h.most, pow-suc 2 r, pow-suc 2 (suc r));
}

HasBits-mask_l : (bs : List Bool) → HasBits (mask_l bs) (last_set bs)
HasBits-mask_l [] = record { below = omega (arith, pow-zero 2); most = omega (arith, pow-zero 2) }
HasBits-mask_l (b ∷ bs) = HasBits-behind (last_set bs) (mask_l bs) b (HasBits-mask_l bs)

behind-le : (r n : ℕ) (b : Bool) → r ≤ n → behind r b ≤ suc n
behind-le zero n true few = omega arith
behind-le zero n false few = omega arith
behind-le (suc r) n b few = omega (arith, few)

pub last_set-le : (bs : List Bool) → last_set bs ≤ length bs
last_set-le [] = omega arith
last_set-le (b ∷ bs) = behind-le (last_set bs) (length bs) b (last_set-le bs)

-- the leading zeros tell it
pub last_set-leading : (bs : List Bool) → length bs ≤ 64 → 64 - count_leading_zeros 64 (mask_l bs) ≡ last_set bs
last_set-leading bs few =
    let least = last_set-le bs in
    let has = HasBits-mask_l bs in
    let zeros = leading_unique 64 (mask_l bs) (64 - last_set bs) (last_set bs) (omega (arith, least, few)) has.below has.most in
    omega (arith, zeros, least, few)

module _ {X : Type 0} (p : X → Bool) where
  count-behind : (x : X) (xs : List X) (r : ℕ) (b : Bool) → p x ≡ b → count_by p (take r xs) ≡ count_by p xs
      → count_by p (take (behind r b) (x ∷ xs)) ≡ count_by p (x ∷ xs)
  count-behind x xs zero true is same =
      omega (arith, sum_by-cons (λ y. cond (p y) 1 0) x [], sum_by-cons (λ y. cond (p y) 1 0) x xs, same)
  count-behind x xs zero false is same =
      omega (arith, sum_by-cons (λ y. cond (p y) 1 0) x xs, ap {B = ℕ} (λ b. cond b 1 0) is, same)
  count-behind x xs (suc r) b is same =
      omega (arith, sum_by-cons (λ y. cond (p y) 1 0) x (take (suc r) xs), sum_by-cons (λ y. cond (p y) 1 0) x xs, same)

  -- behind it is none more
  pub count-last_set : (xs : List X) → count_by p (take (last_set (map p xs)) xs) ≡ count_by p xs
  count-last_set [] = refl
  count-last_set (x ∷ xs) = count-behind x xs (last_set (map p xs)) (p x) refl (count-last_set xs)

  passes-behind : (x d : X) (xs : List X) (r : ℕ) (b : Bool) → p x ≡ b → (0 < r → p (slice_index_or xs (r - 1) d) ≡ true)
      → 0 < behind r b → p (slice_index_or (x ∷ xs) (behind r b - 1) d) ≡ true
  passes-behind x d xs zero true is last some = is
  passes-behind x d xs zero false is last some = absurd (omega (arith, some))
  passes-behind x d xs (suc r) b is last some =
      let whole : suc (suc r) - 1 ≡ suc r = omega arith in
      let less : r ≡ suc r - 1 = omega arith in
      ap (λ n. p (slice_index_or (x ∷ xs) n d)) whole ∙ ap (λ n. p (slice_index_or xs n d)) less ∙ last (omega arith)

  -- there is one
  pub passes-last_set : (xs : List X) (d : X) → 0 < last_set (map p xs) → p (slice_index_or xs (last_set (map p xs) - 1) d) ≡ true
  passes-last_set [] d some = absurd (omega (arith, some))
  passes-last_set (x ∷ xs) d some = passes-behind x d xs (last_set (map p xs)) (p x) refl (passes-last_set xs d) some

-- the gaps of some bytes and of those behind them
pub gaps_in-take_add : (bytes : List ℕ) (start n : ℕ) → gaps_in (take (start + n) bytes) ≡ gaps_in (take start bytes) + gaps_in (take n (drop start bytes))
gaps_in-take_add bytes start n = ap gaps_in (take-add start n bytes) ∙ sum_by-append (λ x. cond (x == gap_blank) 1 0) (take start bytes) (take n (drop start bytes))

module _ (p : ℕ → Bool) (bytes : List ℕ) (start count mask front : ℕ) (within : start + 16 ≤ length bytes) (few : count ≤ 16)
    (whole : mask ≡ mask_l (map p (chunk start 16 bytes))) (in_front : front ≡ mask % 2 ^ count) where
  -- the bits of a step's first bytes
  pub front-mask_l : front ≡ mask_l (map p (take count (drop start bytes)))
  front-mask_l =
      in_front ∙ ap (λ m. m % 2 ^ count) whole ∙ mask_l-take p count (chunk start 16 bytes)
      ∙ ap (λ (xs : List ℕ). mask_l (map p xs)) (take-take count 16 (drop start bytes) few)

  -- how many of them are set
  pub ones-front : count_ones front ≡ count_by p (take count (drop start bytes))
  ones-front = ap count_ones front-mask_l ∙ ones-mask_l p (take count (drop start bytes))

  -- the bytes themselves
  front-bytes : (k : ℕ) → k < count → slice_index_or (take count (drop start bytes)) k 0 ≡ slice_index_or bytes (start + k) 0
  front-bytes k less = get_or-take count (drop start bytes) k 0 less ∙ get_or-drop start bytes k 0

  long-front : length (take count (drop start bytes)) ≡ count
  long-front = omega (arith, length-take count (drop start bytes), length-drop start bytes, within, few)

  -- the leading zeros tell how many of them stand up to the last that passes
  abbrev pub last_front : ℕ
  last_front = last_set (map p (take count (drop start bytes)))

  pub leading-front : 64 - count_leading_zeros 64 front ≡ last_front
  leading-front =
      let v : List ℕ = take count (drop start bytes) in
      ap (λ m. 64 - count_leading_zeros 64 m) front-mask_l ∙ last_set-leading (map p v) (omega (arith, length-map v p, long-front, few))

  pub last_front-le : last_front ≤ count
  last_front-le =
      let v : List ℕ = take count (drop start bytes) in
      omega (arith, last_set-le (map p v), length-map v p, long-front)

  pub passes-front : 0 < last_front → p (slice_index_or bytes (start + (last_front - 1)) 0) ≡ true
  passes-front some =
      ap p (sym (front-bytes (last_front - 1) (omega (arith, some, last_front-le)))) ∙ passes-last_set p (take count (drop start bytes)) 0 some

  pub count-front : count_by p (take last_front (drop start bytes)) ≡ count_by p (take count (drop start bytes))
  count-front =
      ap (λ xs. count_by p xs) (sym (take-take last_front count (drop start bytes) last_front-le)) ∙ count-last_set p (take count (drop start bytes))

-- a place is behind the last blank of some bytes
pub record LastBlank (bytes : List ℕ) (start count place : ℕ) : Type 0 where
  pub few : place ≤ start + count
  pub blank : start < place → slice_index_or bytes (place - 1) 0 ≡ 32
  pub others : gaps_in (take place bytes) ≡ gaps_in (take (start + count) bytes)

pub last-blank : (bytes : List ℕ) (start count mask front : ℕ) → start + 16 ≤ length bytes → count ≤ 16
    → mask ≡ mask_l (map (λ b. b == gap_blank) (chunk start 16 bytes)) → front ≡ mask % 2 ^ count
    → LastBlank bytes start count (start + (64 - count_leading_zeros 64 front))
last-blank bytes start count mask front within few whole in_front =
    let p : ℕ → Bool = λ b. b == gap_blank in
    let last = last_front p bytes start count mask front within few whole in_front in
    let place : start + last ≡ start + (64 - count_leading_zeros 64 front) = ap (λ n. start + n) (sym (leading-front p bytes start count mask front within few whole in_front)) in
    subst (LastBlank bytes start count) place (record {
      few = omega (arith, last_front-le p bytes start count mask front within few whole in_front);
      blank = λ some.
          let before : start + last - 1 ≡ start + (last - 1) = omega (arith, some) in
          ap (λ n. slice_index_or bytes n 0) before
          ∙ eqb-true (slice_index_or bytes (start + (last - 1)) 0) gap_blank (passes-front p bytes start count mask front within few whole in_front (omega (arith, some)));
      others =
          gaps_in-take_add bytes start last ∙ ap (λ n. gaps_in (take start bytes) + n) (count-front p bytes start count mask front within few whole in_front)
          ∙ sym (gaps_in-take_add bytes start count);
    })

-- a lane of two comparisons
abbrev either_lane : Bool → Bool → ℕ
either_lane a b = bit_or (cond a 255 0) (cond b 255 0)

either_lane-top : (a b : Bool) → top 7 (either_lane a b) ≡ (a || b)
either_lane-top true true = refl
either_lane-top true false = refl
either_lane-top false true = refl
either_lane-top false false = refl

-- a lane that is set where a byte is a column wide
abbrev pub wide_lane : ℕ → ℕ
wide_lane b = either_lane (ltb b 128) (leb 192 b)

not_both : (a b : Bool) → cond {A = ℕ} (a && b) 0 1 ≡ cond (not a || not b) 1 0
not_both true true = refl
not_both true false = refl
not_both false true = refl
not_both false false = refl

byte_width-lane : (b : ℕ) → byte_width b ≡ cond (top 7 (wide_lane b)) 1 0
byte_width-lane b =
    let low : not (leb 128 b) ≡ ltb b 128 = grind (arith, nat_tests) in
    let high : not (ltb b 192) ≡ leb 192 b = grind (arith, nat_tests) in
    not_both (leb 128 b) (ltb b 192) ∙ ap₂ (λ a d. cond (a || d) 1 0) low high ∙ ap (λ (a : Bool). cond a 1 0) (sym (either_lane-top (ltb b 128) (leb 192 b)))

pub text_width-lanes : (bytes : List ℕ) → text_width bytes ≡ count_by (λ b. top 7 (wide_lane b)) bytes
text_width-lanes bytes = ap (λ (f : ℕ → ℕ). sum_by f bytes) (λ i b. byte_width-lane b i)

-- a lane of three, of which the last has two parts
abbrev third_lane : Bool → Bool → Bool → Bool → ℕ
third_lane a b c d = bit_or (bit_or (cond a 255 0) (cond b 255 0)) (bit_and (cond c 255 0) (cond d 255 0))

third_lane-top : (a b c d : Bool) → top 7 (third_lane a b c d) ≡ ((a || b) || (c && d))
third_lane-top true true true true = refl
third_lane-top true true true false = refl
third_lane-top true true false true = refl
third_lane-top true true false false = refl
third_lane-top true false true true = refl
third_lane-top true false true false = refl
third_lane-top true false false true = refl
third_lane-top true false false false = refl
third_lane-top false true true true = refl
third_lane-top false true true false = refl
third_lane-top false true false true = refl
third_lane-top false true false false = refl
third_lane-top false false true true = refl
third_lane-top false false true false = refl
third_lane-top false false false true = refl
third_lane-top false false false false = refl

-- a lane that is set where words don't go on with a byte behind another one
abbrev pub ending_lane : ℕ × ℕ → ℕ
ending_lane q = third_lane (ltb q.1 32) (leb 128 q.1) (eqb q.1 32) (eqb q.0 32)

-- where it isn't, they do
GoesOn-lane : (a b : ℕ) → top 7 (ending_lane (a, b)) ≡ false → GoesOn a b
GoesOn-lane a b unset =
    let parts = or_parts (ltb b 32 || leb 128 b) (eqb b 32 && eqb a 32) (sym (third_lane-top (ltb b 32) (leb 128 b) (eqb b 32) (eqb a 32)) ∙ unset) in
    let others = or_parts (ltb b 32) (leb 128 b) parts.0 in
    let low : ltb b 32 ≡ false = others.0 in
    let high : leb 128 b ≡ false = others.1 in
    record {
      above = grind (arith, nat_tests);
      below = grind (arith, nat_tests);
      single = λ blank before.
          let both : (eqb 32 32 && eqb 32 32) ≡ false = subst (λ n. (eqb n 32 && eqb 32 32) ≡ false) blank (subst (λ n. (eqb b 32 && eqb n 32) ≡ false) before parts.1) in
          let wrong : true ≡ false = both in
          cc;
    }

-- where it is, they don't
ending_lane-set : (a b : ℕ) → top 7 (ending_lane (a, b)) ≡ true → GoesOn a b → ⊥
ending_lane-set a b set goes =
    let low : ltb b 32 ≡ false = grind (arith, nat_tests, goes.above) in
    let high : leb 128 b ≡ false = grind (arith, nat_tests, goes.below) in
    let both : (eqb b 32 && eqb a 32) ≡ true =
    sym (ap₂ (λ s t. (s || t) || (eqb b 32 && eqb a 32)) low high) ∙ sym (third_lane-top (ltb b 32) (leb 128 b) (eqb b 32) (eqb a 32)) ∙ set in
    let parts = and_parts (eqb b 32) (eqb a 32) both in
    goes.single (eqb-true b 32 parts.0) (eqb-true a 32 parts.1)

-- two lists of lanes as one of pairs
abbrev pairs : List ℕ → List ℕ → List (ℕ × ℕ)
pairs us vs = zip2 (λ a b. (a, b)) us vs

firsts : (us vs : List ℕ) → length us ≡ length vs → us ≡ map (λ (q : ℕ × ℕ). q.0) (pairs us vs)
firsts [] [] same = refl
firsts [] (b ∷ vs) same = absurd (omega (arith, same))
firsts (a ∷ us) [] same = absurd (omega (arith, same))
firsts (a ∷ us) (b ∷ vs) same = ap (λ xs. a ∷ xs) (firsts us vs (omega (arith, same)))

seconds : (us vs : List ℕ) → length us ≡ length vs → vs ≡ map (λ (q : ℕ × ℕ). q.1) (pairs us vs)
seconds [] [] same = refl
seconds [] (b ∷ vs) same = absurd (omega (arith, same))
seconds (a ∷ us) [] same = absurd (omega (arith, same))
seconds (a ∷ us) (b ∷ vs) same = ap (λ xs. b ∷ xs) (seconds us vs (omega (arith, same)))

module _ (bytes : List ℕ) (start r m : ℕ) (some : 0 < start) (within : start + 16 ≤ length bytes)
    (found : r ≡ (if m == 0 then 16 else trailing_zeros w64 m)) where
  abbrev before : List ℕ
  before = chunk (start - 1) 16 bytes

  abbrev step : List ℕ
  step = chunk start 16 bytes

  abbrev both : List (ℕ × ℕ)
  both = pairs before step

  long-before : length before ≡ 16
  long-before = length-chunk (start - 1) 16 bytes (omega (arith, within))

  long-step : length step ≡ 16
  long-step = length-chunk start 16 bytes within

  long-both : length both ≡ 16
  long-both = length-zip2 (λ a b. (a, b)) before step (long-before ∙ sym long-step) ∙ long-before

  -- the mask of the three comparisons
  pub ending-mask : mask_l (map (top 7)
      (zip2 bit_or
      (zip2 bit_or (zip2 (λ a b. cond (ltb a b) 255 0) step (replicate 16 32)) (zip2 (λ a b. cond (leb a b) 255 0) (replicate 16 128) step))
      (zip2 bit_and (zip2 (λ a b. cond (eqb a b) 255 0) step (replicate 16 32)) (zip2 (λ a b. cond (eqb a b) 255 0) before (replicate 16 32)))))
      % 2 ^ 64 ≡ mask_l (map (λ q. top 7 (ending_lane q)) both)
  ending-mask =
      let same = long-before ∙ sym long-step in
      let second : (f : ℕ → ℕ → ℕ) (y : ℕ) → zip2 f step (replicate 16 y) ≡ map (λ q. f q.1 y) both =
      λ f y. zip2_splat f step 16 y long-step ∙ ap (λ (xs : List ℕ). map (λ x. f x y) xs) (seconds before step same) ∙ map-map (λ x. f x y) (λ q. q.1) both in
      let first : (f : ℕ → ℕ → ℕ) (y : ℕ) → zip2 f before (replicate 16 y) ≡ map (λ q. f q.0 y) both =
      λ f y. zip2_splat f before 16 y long-before ∙ ap (λ (xs : List ℕ). map (λ x. f x y) xs) (firsts before step same) ∙ map-map (λ x. f x y) (λ q. q.0) both in
      let high : zip2 (λ a b. cond (leb a b) 255 0) (replicate 16 128) step ≡ map (λ q. cond (leb 128 q.1) 255 0) both =
      zip2_splat_left (λ a b. cond (leb a b) 255 0) 128 16 step long-step
      ∙ ap (λ (xs : List ℕ). map (λ x. cond (leb 128 x) 255 0) xs) (seconds before step same) ∙ map-map (λ x. cond (leb 128 x) 255 0) (λ q. q.1) both in
      mask_l-lanes ending_lane both _ (omega (arith, long-both))
      (zip2_of_maps bit_or _ _ both (zip2_of_maps bit_or _ _ both (second (λ a b. cond (ltb a b) 255 0) 32) high)
      (zip2_of_maps bit_and _ _ both (second (λ a b. cond (eqb a b) 255 0) 32) (first (λ a b. cond (eqb a b) 255 0) 32)))

  module _ (mask : m ≡ mask_l (map (λ q. top 7 (ending_lane q)) both)) where
    counted : r ≡ prefix_len (λ q. not (top 7 (ending_lane q))) both
    counted = first_lane (λ q. top 7 (ending_lane q)) both 16 r m long-both (omega arith) found mask

    pub run-few : r ≤ 16
    run-few = omega (arith, counted, long-both, prefix_len-le-length (λ q. not (top 7 (ending_lane q))) both)

    pair_at : (k : ℕ) → k < 16 → slice_index_or both k (0, 0) ≡ (slice_index_or bytes (start + k - 1) 0, slice_index_or bytes (start + k) 0)
    pair_at k less =
        let place : start - 1 + k ≡ start + k - 1 = omega (arith, some) in
        get_or-zip2 (λ a b. (a, b)) before step k 0 0 (0, 0) (omega (arith, long-before, less)) (omega (arith, long-step, less))
        ∙ ap₂ (λ a b. (a, b)) (get_or-chunk (start - 1) 16 bytes k 0 less ∙ ap (λ n. slice_index_or bytes n 0) place) (get_or-chunk start 16 bytes k 0 less)

    goes-step : (k : ℕ) → k < r → GoesOn (slice_index_or bytes (start + k - 1) 0) (slice_index_or bytes (start + k) 0)
    goes-step k less =
        let passes = prefix_len_passes (λ q. not (top 7 (ending_lane q))) both k (0, 0) (omega (arith, counted, less)) in
        GoesOn-lane (slice_index_or bytes (start + k - 1) 0) (slice_index_or bytes (start + k) 0)
        (sym (ap (λ q. top 7 (ending_lane q)) (pair_at k (omega (arith, less, run-few)))) ∙ not-true _ passes)

    IsRun-places : (k : ℕ) → k ≤ r → IsRun bytes start → IsRun bytes (start + k)
    IsRun-places zero few run = let same : start ≡ start + 0 = omega arith in subst (IsRun bytes) same run
    IsRun-places (suc k) few run =
        let next : start + (k + 1) ≡ start + suc k = omega arith in
        subst (IsRun bytes) next (IsRun-more bytes start k some (IsRun-places k (omega (arith, few)) run) (goes-step k (omega (arith, few))))

    pub IsRun-step : IsRun bytes start → IsRun bytes (start + r)
    IsRun-step = IsRun-places r (omega arith)

    pub ends-step : r < 16 → GoesOn (slice_index_or bytes (start + r - 1) 0) (slice_index_or bytes (start + r) 0) → ⊥
    ends-step less =
        let stops = prefix_len_stops (λ q. not (top 7 (ending_lane q))) both (0, 0) (omega (arith, counted, long-both, less)) in
        let here : not (top 7 (ending_lane (slice_index_or both r (0, 0)))) ≡ false = ap (λ n. not (top 7 (ending_lane (slice_index_or both n (0, 0))))) counted ∙ stops in
        ending_lane-set (slice_index_or bytes (start + r - 1) 0) (slice_index_or bytes (start + r) 0)
        (sym (ap (λ q. top 7 (ending_lane q)) (pair_at r less)) ∙ not-false _ here)
