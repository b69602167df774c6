-- The lines of a block are the longest fronts of its words.
use Rattle.std.specs.List.{flat_map}
use Rattle.std.proofs.Common.{length-drop, ◌≡◌, ℕ, zero, suc, ◌+◌, ◌<◌, ◌≤◌, Bool, true, false, List, [], ◌∷◌, ◌++◌, length, take, drop, Some, None, refl, sym, ap, subst, ◌∙◌, arith, inl, inr, if◌then◌else◌, nat_le, take-append-drop, leb-true, leb-false}
use Rattle.roff_lines.proofs.FirstLine.{joining_by}
use Rattle.std.proofs.lemmas.List.Concat.{flat_map-cons}
use Rattle.roff_lines.specs.FirstLine.{count_joining}
use Rattle.tbl_text.specs.BlockWords.{Word, Part, EmptyLine, OneWord}
use Rattle.tbl_text.specs.BlockLines.{begun_width, measured, joining, joined_count, first_count, lines_up_to, lines_of, width_behind, line_width, EachFits, IsLine, Begins, BeginsBehind, AreLongest, FillsBlock}

module _ (measure : ℕ) where
  -- what the next word does to a line of this width
  data Next (width : ℕ) (w : Word) : Type 0 where
    Breaks : (w.breaks ≡ true) → Next width w
    TooWide : (w.breaks ≡ false) → (measure < width + w.gap + w.columns) → (nat_le (width + w.gap + w.columns) measure ≡ false) → Next width w
    Fits : (w.breaks ≡ false) → (width + w.gap + w.columns ≤ measure) → (nat_le (width + w.gap + w.columns) measure ≡ true) → Next width w

  -- one of the three
  next_by : (width : ℕ) (w : Word) (breaks fits : Bool) → w.breaks ≡ breaks → nat_le (width + w.gap + w.columns) measure ≡ fits
      → Next width w
  next_by width w true fits broken fit = Breaks broken
  next_by width w false true broken fit = Fits broken (leb-true (width + w.gap + w.columns) measure fit) fit
  next_by width w false false broken fit = TooWide broken (leb-false (width + w.gap + w.columns) measure fit) fit

  next : (width : ℕ) (w : Word) → Next width w
  next width w = next_by width w w.breaks (nat_le (width + w.gap + w.columns) measure) refl refl

  -- how many parts go on with a line: none at a word that breaks, or doesn't fit
  pub joined_count-breaks : (width : ℕ) (w : Word) (parts : List Part) → w.breaks ≡ true
      → joined_count measure width (OneWord w ∷ parts) ≡ 0
  joined_count-breaks width w parts broken =
      ap (λ (b : Bool). count_joining measure (Some width) (if b then [] else measured w ∷ joining parts)) broken

  -- behind a word that doesn't break, by whether it fits
  joined_count-by : (width : ℕ) (w : Word) (parts : List Part) (fits : Bool) → w.breaks ≡ false
      → nat_le (width + w.gap + w.columns) measure ≡ fits
      → joined_count measure width (OneWord w ∷ parts)
      ≡ joining_by measure (joining parts) (if fits then Some (width + w.gap + w.columns) else None)
  joined_count-by width w parts fits broken fit =
      ap (λ (b : Bool). count_joining measure (Some width) (if b then [] else measured w ∷ joining parts)) broken
      ∙ ap (λ (b : Bool). joining_by measure (joining parts) (if b then Some (width + w.gap + w.columns) else None)) fit

  pub joined_count-wide : (width : ℕ) (w : Word) (parts : List Part) → w.breaks ≡ false
      → nat_le (width + w.gap + w.columns) measure ≡ false → joined_count measure width (OneWord w ∷ parts) ≡ 0
  joined_count-wide width w parts broken fit = joined_count-by width w parts false broken fit

  pub joined_count-fits : (width : ℕ) (w : Word) (parts : List Part) → w.breaks ≡ false
      → nat_le (width + w.gap + w.columns) measure ≡ true
      → joined_count measure width (OneWord w ∷ parts) ≡ suc (joined_count measure (width + w.gap + w.columns) parts)
  joined_count-fits width w parts broken fit = joined_count-by width w parts true broken fit ∙ omega arith

  -- those that go on fit
  each_by : (width : ℕ) (w : Word) (parts : List Part) → Next width w
      → EachFits measure (width + w.gap + w.columns) (take (joined_count measure (width + w.gap + w.columns) parts) parts)
      → EachFits measure width (take (joined_count measure width (OneWord w ∷ parts)) (OneWord w ∷ parts))
  each_by width w parts (Breaks broken) rest =
      subst (λ (n : ℕ). EachFits measure width (take n (OneWord w ∷ parts))) (sym (joined_count-breaks width w parts broken)) tt
  each_by width w parts (TooWide broken wide fit) rest =
      subst (λ (n : ℕ). EachFits measure width (take n (OneWord w ∷ parts))) (sym (joined_count-wide width w parts broken fit)) tt
  each_by width w parts (Fits broken fits fit) rest =
      subst (λ (n : ℕ). EachFits measure width (take n (OneWord w ∷ parts))) (sym (joined_count-fits width w parts broken fit))
      (broken, fits, rest)

  EachFits-joined : (width : ℕ) (parts : List Part)
      → EachFits measure width (take (joined_count measure width parts) parts)
  EachFits-joined width [] = tt
  EachFits-joined width (EmptyLine ∷ parts) = tt
  EachFits-joined width (OneWord w ∷ parts) =
      each_by width w parts (next width w) (EachFits-joined (width + w.gap + w.columns) parts)

  -- and what is left behind them begins a line
  begins_by : (width : ℕ) (w : Word) (parts : List Part) → Next width w
      → (let n = joined_count measure (width + w.gap + w.columns) parts in
      Begins measure (width_behind (width + w.gap + w.columns) (take n parts)) (drop n parts))
      → (let n = joined_count measure width (OneWord w ∷ parts) in
      Begins measure (width_behind width (take n (OneWord w ∷ parts))) (drop n (OneWord w ∷ parts)))
  begins_by width w parts (Breaks broken) rest =
      let P : ℕ → Type 0 = λ n. Begins measure (width_behind width (take n (OneWord w ∷ parts))) (drop n (OneWord w ∷ parts)) in
      subst P (sym (joined_count-breaks width w parts broken)) (inl broken)
  begins_by width w parts (TooWide broken wide fit) rest =
      let P : ℕ → Type 0 = λ n. Begins measure (width_behind width (take n (OneWord w ∷ parts))) (drop n (OneWord w ∷ parts)) in
      subst P (sym (joined_count-wide width w parts broken fit)) (inr wide)
  begins_by width w parts (Fits broken fits fit) rest =
      let P : ℕ → Type 0 = λ n. Begins measure (width_behind width (take n (OneWord w ∷ parts))) (drop n (OneWord w ∷ parts)) in
      subst P (sym (joined_count-fits width w parts broken fit)) rest

  Begins-left : (width : ℕ) (parts : List Part)
      → (let n = joined_count measure width parts in Begins measure (width_behind width (take n parts)) (drop n parts))
  Begins-left width [] = tt
  Begins-left width (EmptyLine ∷ parts) = tt
  Begins-left width (OneWord w ∷ parts) = begins_by width w parts (next width w) (Begins-left (width + w.gap + w.columns) parts)

  -- the first line of what a word begins: the word, and those that go on with it
  pub first_count-word : (w : Word) (parts : List Part)
      → first_count measure (OneWord w ∷ parts) ≡ suc (joined_count measure (begun_width w) parts)
  first_count-word w parts = omega arith

  -- the first line of what is left is a line, and what is left behind it begins another one
  first_is_line : (p : Part) (parts : List Part) → IsLine measure (take (first_count measure (p ∷ parts)) (p ∷ parts))
  first_is_line EmptyLine parts = refl
  first_is_line (OneWord w) parts =
      subst (λ (n : ℕ). IsLine measure (take n (OneWord w ∷ parts))) (sym (first_count-word w parts)) (EachFits-joined (begun_width w) parts)

  -- the first line of what begins one begins behind
  begins_first : (width : ℕ) (p : Part) (parts : List Part) → Begins measure width (p ∷ parts)
      → Begins measure width (take (first_count measure (p ∷ parts)) (p ∷ parts))
  begins_first width EmptyLine parts begins = tt
  begins_first width (OneWord w) parts begins =
      subst (λ (n : ℕ). Begins measure width (take n (OneWord w ∷ parts))) (sym (first_count-word w parts)) begins

  -- what is left begins behind the first line
  left_behind : (p : Part) (parts : List Part)
      → (let n = first_count measure (p ∷ parts) in BeginsBehind measure (take n (p ∷ parts)) (drop n (p ∷ parts)))
  left_behind EmptyLine parts = tt
  left_behind (OneWord w) parts =
      let P : ℕ → Type 0 = λ n. BeginsBehind measure (take n (OneWord w ∷ parts)) (drop n (OneWord w ∷ parts)) in
      subst P (sym (first_count-word w parts)) (Begins-left (begun_width w) parts)

  -- so does its first line
  behind_first : (line : List Part) (p : Part) (parts : List Part) → BeginsBehind measure line (p ∷ parts)
      → BeginsBehind measure line (take (first_count measure (p ∷ parts)) (p ∷ parts))
  behind_first [] p parts begins = absurd begins
  behind_first (EmptyLine ∷ line) p parts begins = tt
  behind_first (OneWord w ∷ line) p parts begins = begins_first (line_width (OneWord w ∷ line)) p parts begins

  -- a line more in front
  longest-cons : (line : List Part) (n : ℕ) (parts : List Part) → IsLine measure line → BeginsBehind measure line parts
      → AreLongest measure (lines_up_to n measure parts) → AreLongest measure (line ∷ lines_up_to n measure parts)
  longest-cons line zero parts is begins rest = is
  longest-cons line (suc n) [] is begins rest = is
  longest-cons line (suc n) (p ∷ parts) is begins rest = (is, behind_first line p parts begins, rest)

  longest-lines : (n : ℕ) (parts : List Part) → AreLongest measure (lines_up_to n measure parts)
  longest-lines zero parts = tt
  longest-lines (suc n) [] = tt
  longest-lines (suc n) (p ∷ parts) =
      let count = first_count measure (p ∷ parts) in
      longest-cons (take count (p ∷ parts)) n (drop count (p ∷ parts)) (first_is_line p parts) (left_behind p parts)
      (longest-lines n (drop count (p ∷ parts)))

  -- the first line takes a part
  pub first_count-some : (p : Part) (parts : List Part) → 0 < first_count measure (p ∷ parts)
  first_count-some EmptyLine parts = omega arith
  first_count-some (OneWord w) parts = omega (arith, first_count-word w parts)

  -- fewer are left behind it
  pub fewer_left : (p : Part) (parts : List Part) → length (drop (first_count measure (p ∷ parts)) (p ∷ parts)) ≤ length parts
  fewer_left p parts =
      omega (arith, first_count-some p parts, length-drop (first_count measure (p ∷ parts)) (p ∷ parts))

  -- the lines have the parts in order
  joined-lines : (n : ℕ) (parts : List Part) → length parts ≤ n → flat_map (λ line. line) (lines_up_to n measure parts) ≡ parts
  joined-lines zero [] few = refl
  joined-lines zero (p ∷ parts) few = absurd (omega (arith, few))
  joined-lines (suc n) [] few = refl
  joined-lines (suc n) (p ∷ parts) few =
      let count = first_count measure (p ∷ parts) in
      flat_map-cons (λ line. line) (take count (p ∷ parts)) (lines_up_to n measure (drop count (p ∷ parts)))
      ∙ ap (λ (rest : List Part). take count (p ∷ parts) ++ rest)
      (joined-lines n (drop count (p ∷ parts)) (omega (arith, few, fewer_left p parts)))
      ∙ take-append-drop count (p ∷ parts)

  -- more lines than there are parts change nothing
  lines_up_to-enough : (n m : ℕ) (parts : List Part) → length parts ≤ n → length parts ≤ m
      → lines_up_to n measure parts ≡ lines_up_to m measure parts
  lines_up_to-enough zero zero parts few few' = refl
  lines_up_to-enough zero (suc m) [] few few' = refl
  lines_up_to-enough zero (suc m) (p ∷ parts) few few' = absurd (omega (arith, few))
  lines_up_to-enough (suc n) zero [] few few' = refl
  lines_up_to-enough (suc n) zero (p ∷ parts) few few' = absurd (omega (arith, few'))
  lines_up_to-enough (suc n) (suc m) [] few few' = refl
  lines_up_to-enough (suc n) (suc m) (p ∷ parts) few few' =
      let count = first_count measure (p ∷ parts) in
      ap (λ (lines : List (List Part)). take count (p ∷ parts) ∷ lines)
      (lines_up_to-enough n m (drop count (p ∷ parts)) (omega (arith, few, fewer_left p parts)) (omega (arith, few', fewer_left p parts)))

  -- the first line, and those of what is left
  pub lines_of-cons : (p : Part) (parts : List Part)
      → lines_of measure (p ∷ parts)
      ≡ take (first_count measure (p ∷ parts)) (p ∷ parts) ∷ lines_of measure (drop (first_count measure (p ∷ parts)) (p ∷ parts))
  lines_of-cons p parts =
      let count = first_count measure (p ∷ parts) in
      ap (λ (lines : List (List Part)). take count (p ∷ parts) ∷ lines)
      (lines_up_to-enough (length parts) (length (drop count (p ∷ parts))) (drop count (p ∷ parts)) (fewer_left p parts) (omega arith))

-- a block's lines take what they may
pub fills_block : (measure : ℕ) (parts : List Part) → FillsBlock measure parts
fills_block measure parts = record {
  joined = joined-lines measure (length parts) parts (omega arith);
  longest = longest-lines measure (length parts) parts;
}
