-- Texts in a block, by where each ends.
use Rattle.std.proofs.Common.{◌≡◌, ℕ, ◌+◌, ◌-◌, ◌≤◌, List, [], ◌∷◌, ◌++◌, length, take, drop, zero, suc, refl, sym, ◌∙◌, ap, arith, length-drop, slice_get, Some, None, take-append-drop, length-take-le}
use Rattle.std.specs.List.{slice_range}
use Rattle.std.proofs.lemmas.List.{take-append-le, drop-append-le, take_rest}
use Rattle.input_model.specs.Arguments.{total_length}
use Rattle.roff_num.specs.Lists.{last_end, EndInOrder, parts_ending}

-- the first begins within the block, and so does what lies behind the last
pub EndInOrder-first : (len from : ℕ) (ends : List ℕ) → EndInOrder len from ends → from ≤ len
EndInOrder-first len from [] within = within
EndInOrder-first len from (end ∷ ends) within = omega (arith, within.0, EndInOrder-first len end ends within.1)

pub EndInOrder-last : (len from : ℕ) (ends : List ℕ) → EndInOrder len from ends → last_end from ends ≤ len
EndInOrder-last len from [] within = within
EndInOrder-last len from (end ∷ ends) within = EndInOrder-last len end ends within.1

-- they are within the bytes up to the last of them
EndInOrder-own : (len from : ℕ) (ends : List ℕ) → EndInOrder len from ends → EndInOrder (last_end from ends) from ends
EndInOrder-own len from [] within = omega arith
EndInOrder-own len from (end ∷ ends) within = (within.0, EndInOrder-own len end ends within.1)

-- they are within more bytes
pub EndInOrder-more : (len more from : ℕ) (ends : List ℕ) → len ≤ more → EndInOrder len from ends → EndInOrder more from ends
EndInOrder-more len more from [] le within = omega arith
EndInOrder-more len more from (end ∷ ends) le within = (within.0, EndInOrder-more len more end ends le within.1)

-- one text more ends with the block
pub EndInOrder-append : (len from : ℕ) (ends : List ℕ) → EndInOrder len from ends → EndInOrder len from (ends ++ len ∷ [])
EndInOrder-append len from [] within = (within, omega arith)
EndInOrder-append len from (end ∷ ends) within = (within.0, EndInOrder-append len end ends within.1)

-- bytes behind the block change no text in it
slice_range-append : (block more : List ℕ) (from end : ℕ) → from ≤ end → end ≤ length block
    → slice_range (block ++ more) from end ≡ slice_range block from end
slice_range-append block more from end rise within =
    let start : from ≤ length block = omega arith in
    let inside : end - from ≤ length (drop from block) = omega (arith, length-drop from block) in
    ap (λ (bytes : List ℕ). take (end - from) bytes) (drop-append-le from block more start)
    ∙ take-append-le (end - from) (drop from block) more inside

pub parts_ending-append_block : (block more : List ℕ) (from : ℕ) (ends : List ℕ) → EndInOrder (length block) from ends
    → parts_ending (block ++ more) from ends ≡ parts_ending block from ends
parts_ending-append_block block more from [] within = refl
parts_ending-append_block block more from (end ∷ ends) within =
    let end_within : end ≤ length block = EndInOrder-first (length block) end ends within.1 in
    ap (λ (text : List ℕ). text ∷ parts_ending (block ++ more) end ends) (slice_range-append block more from end within.0 end_within)
    ∙ ap (λ (texts : List (List ℕ)). slice_range block from end ∷ texts) (parts_ending-append_block block more end ends within.1)

-- one text more behind the others
pub parts_ending-append : (block : List ℕ) (from end : ℕ) (ends : List ℕ)
    → parts_ending block from (ends ++ end ∷ []) ≡ parts_ending block from ends ++ slice_range block (last_end from ends) end ∷ []
parts_ending-append block from end [] = refl
parts_ending-append block from end (e ∷ ends) =
    ap (λ (texts : List (List ℕ)). slice_range block from e ∷ texts) (parts_ending-append block e end ends)

-- a text that ends with the block
pub slice_range-rest : (block : List ℕ) (from : ℕ) → slice_range block from (length block) ≡ drop from block
slice_range-rest block from = take_rest block from

-- as many texts as ends
pub length-parts_ending : (block : List ℕ) (from : ℕ) (ends : List ℕ) → length (parts_ending block from ends) ≡ length ends
length-parts_ending block from [] = refl
length-parts_ending block from (end ∷ ends) = ap (λ n. suc n) (length-parts_ending block end ends)

-- the texts have the bytes up to the last end
length-slice_range : (block : List ℕ) (from end : ℕ) → end ≤ length block → length (slice_range block from end) ≡ end - from
length-slice_range block from end within =
    let inside : end - from ≤ length (drop from block) = omega (arith, length-drop from block) in
    length-take-le (end - from) (drop from block) inside

pub total_length-parts_ending : (block : List ℕ) (from : ℕ) (ends : List ℕ) → EndInOrder (length block) from ends
    → total_length (parts_ending block from ends) + from ≡ last_end from ends
total_length-parts_ending block from [] within = omega arith
total_length-parts_ending block from (end ∷ ends) within =
    let end_within : end ≤ length block = EndInOrder-first (length block) end ends within.1 in
    omega (arith, within.0, length-slice_range block from end end_within, total_length-parts_ending block end ends within.1)

-- a text by its index: it begins where the one before it ends
pub slice_get-parts_ending : (block : List ℕ) (from : ℕ) (ends : List ℕ) (index end : ℕ) → slice_get ends index ≡ Some end
    → slice_get (parts_ending block from ends) index ≡ Some (slice_range block (last_end from (take index ends)) end)
slice_get-parts_ending block from [] index end is = absurd (cc)
slice_get-parts_ending block from (e ∷ ends) zero end is =
    let same : e ≡ end = cc in
    ap (λ (at : ℕ). Some (slice_range block from at)) same
slice_get-parts_ending block from (e ∷ ends) (suc index) end is = slice_get-parts_ending block e ends index end is

pub slice_get-no_text : (block : List ℕ) (from : ℕ) (ends : List ℕ) (index : ℕ) → slice_get ends index ≡ None
    → slice_get (parts_ending block from ends) index ≡ None
slice_get-no_text block from [] index is = refl
slice_get-no_text block from (e ∷ ends) zero is = absurd (cc)
slice_get-no_text block from (e ∷ ends) (suc index) is = slice_get-no_text block e ends index is

-- it lies within the block
pub EndInOrder-at : (len from : ℕ) (ends : List ℕ) (index end : ℕ) → EndInOrder len from ends → slice_get ends index ≡ Some end
    → (last_end from (take index ends) ≤ end) × (end ≤ len)
EndInOrder-at len from [] index end within is = absurd (cc)
EndInOrder-at len from (e ∷ ends) zero end within is =
    let same : e ≡ end = cc in
    (omega (arith, within.0), omega (arith, EndInOrder-first len e ends within.1))
EndInOrder-at len from (e ∷ ends) (suc index) end within is = EndInOrder-at len e ends index end within.1 is

-- the bytes up to the last end are as many as it says, and the texts lie within them
module _ (block ends : List ℕ) (within : EndInOrder (length block) 0 ends) where
  pub length-up_to_last : length (take (last_end 0 ends) block) ≡ last_end 0 ends
  length-up_to_last = length-take-le (last_end 0 ends) block (EndInOrder-last (length block) 0 ends within)

  pub EndInOrder-up_to_last : EndInOrder (length (take (last_end 0 ends) block)) 0 ends
  EndInOrder-up_to_last = rw length-up_to_last (EndInOrder-own (length block) 0 ends within)

  pub parts_ending-up_to_last : parts_ending (take (last_end 0 ends) block) 0 ends ≡ parts_ending block 0 ends
  parts_ending-up_to_last =
      sym (parts_ending-append_block (take (last_end 0 ends) block) (drop (last_end 0 ends) block) 0 ends EndInOrder-up_to_last)
      ∙ ap (λ (bytes : List ℕ). parts_ending bytes 0 ends) (take-append-drop (last_end 0 ends) block)

  pub total_length-up_to_last : length (take (last_end 0 ends) block) ≡ total_length (parts_ending block 0 ends)
  total_length-up_to_last = omega (arith, length-up_to_last, total_length-parts_ending block 0 ends within)
