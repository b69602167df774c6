-- Parts that lie in one list, one after another.
use Rattle.std.proofs.Common.{◌≡◌, ℕ, zero, suc, ◌+◌, ◌-◌, ◌<◌, ◌≤◌, List, [], ◌∷◌, ◌++◌, length, take, drop, get_or, refl, sym, ap, ◌∙◌, arith, length-drop, length-take-le}
use Rattle.std.specs.List.{slice_range}
use Rattle.std.proofs.lemmas.List.{drop-append-le, take-append-le, take_rest}
use Rattle.roff_num.specs.Lists.{last_end, EndInOrder, parts_ending}
use Rattle.tbl_format.specs.Parts.{EndWithin}

-- the last of them ends within the list
pub EndWithin-last : (len from : ℕ) (ends : List ℕ) → EndWithin len from ends → last_end from ends ≤ len
EndWithin-last len from [] within = within
EndWithin-last len from (end ∷ ends) within = EndWithin-last len end ends within.1

pub EndWithin-first : (len from : ℕ) (ends : List ℕ) → EndWithin len from ends → from ≤ len
EndWithin-first len from [] within = within
EndWithin-first len from (end ∷ ends) within = omega (arith, within.0, EndWithin-first len end ends within.1)

-- and within a longer one
pub EndWithin-more : (len more from : ℕ) (ends : List ℕ) → len ≤ more → EndWithin len from ends → EndWithin more from ends
EndWithin-more len more from [] le within = omega (arith, le, within)
EndWithin-more len more from (end ∷ ends) le within = (within.0, EndWithin-more len more end ends le within.1)

-- ends that are further and further on are in order
pub EndWithin-order : (len from : ℕ) (ends : List ℕ) → EndWithin len from ends → EndInOrder len from ends
EndWithin-order len from [] within = within
EndWithin-order len from (end ∷ ends) within = (omega (arith, within.0), EndWithin-order len end ends within.1)

pub EndInOrder-first : (len from : ℕ) (ends : List ℕ) → EndInOrder len from ends → from ≤ len
EndInOrder-first len from [] order = order
EndInOrder-first len from (end ∷ ends) order = omega (arith, order.0, EndInOrder-first len end ends order.1)

-- one of them starts where the one in front of it ends, and ends within the list
pub record IsPart (len start end : ℕ) : Type 0 where
  pub order : start ≤ end
  pub within : end ≤ len

pub EndInOrder-at : (len from : ℕ) (ends : List ℕ) (at : ℕ) → EndInOrder len from ends → at < length ends
    → IsPart len (get_or (from ∷ ends) at 0) (get_or ends at 0)
EndInOrder-at len from [] at order some = absurd (omega (arith, some))
EndInOrder-at len from (end ∷ ends) zero order some = record { order = order.0; within = EndInOrder-first len end ends order.1 }
EndInOrder-at len from (end ∷ ends) (suc at) order some = EndInOrder-at len end ends at order.1 (omega (arith, some))

-- so it is where its start and its end are read
pub record PartRead (ends : List ℕ) (at start end : ℕ) : Type 0 where
  pub some : at < length ends
  pub start_is : start ≡ get_or (0 ∷ ends) at 0
  pub end_is : end ≡ get_or ends at 0

pub IsPart-read : {len : ℕ} {ends : List ℕ} {at start end : ℕ} → EndWithin len 0 ends → PartRead ends at start end → IsPart len start end
IsPart-read {len} {ends} {at} within read =
    let part = EndInOrder-at len 0 ends at (EndWithin-order len 0 ends within) read.some in
    record { order = omega (arith, part.order, read.start_is, read.end_is); within = omega (arith, part.within, read.end_is) }

-- there are no more of them than elements
pub EndWithin-count : (len from : ℕ) (ends : List ℕ) → EndWithin len from ends → length ends + from ≤ last_end from ends
EndWithin-count len from [] within = omega arith
EndWithin-count len from (end ∷ ends) within = omega (arith, within.0, EndWithin-count len end ends within.1)

-- one part more ends with the list
pub EndWithin-append : (len from : ℕ) (ends : List ℕ) → last_end from ends < len → EndWithin len from ends → EndWithin len from (ends ++ len ∷ [])
EndWithin-append len from [] some within = (some, omega arith)
EndWithin-append len from (end ∷ ends) some within = (within.0, EndWithin-append len end ends some within.1)

module _ {A : Type 0} where
  -- elements behind the list change no part of it
  pub slice_range-append : (items more : List A) (from end : ℕ) → from ≤ end → end ≤ length items
      → slice_range (items ++ more) from end ≡ slice_range items from end
  slice_range-append items more from end rise within =
      let start : from ≤ length items = omega arith in
      let inside : end - from ≤ length (drop from items) = omega (arith, length-drop from items) in
      ap (λ (xs : List A). take (end - from) xs) (drop-append-le from items more start)
      ∙ take-append-le (end - from) (drop from items) more inside

  pub parts_ending-more : (items more : List A) (from : ℕ) (ends : List ℕ) → EndInOrder (length items) from ends
      → parts_ending (items ++ more) from ends ≡ parts_ending items from ends
  parts_ending-more items more from [] within = refl
  parts_ending-more items more from (end ∷ ends) within =
      let end_within : end ≤ length items = EndInOrder-first (length items) end ends within.1 in
      let order : from ≤ end = within.0 in
      ap (λ (part : List A). part ∷ parts_ending (items ++ more) end ends) (slice_range-append items more from end order end_within)
      ∙ ap (λ (parts : List (List A)). slice_range items from end ∷ parts) (parts_ending-more items more end ends within.1)

  -- one part more behind the others
  pub parts_ending-append : (items : List A) (from end : ℕ) (ends : List ℕ)
      → parts_ending items from (ends ++ end ∷ []) ≡ parts_ending items from ends ++ slice_range items (last_end from ends) end ∷ []
  parts_ending-append items from end [] = refl
  parts_ending-append items from end (e ∷ ends) =
      ap (λ (parts : List (List A)). slice_range items from e ∷ parts) (parts_ending-append items e end ends)

  -- one of the parts, with those behind it
  pub parts_ending-at : (items : List A) (from : ℕ) (ends : List ℕ) (at : ℕ) → at < length ends
      → drop at (parts_ending items from ends)
      ≡ slice_range items (get_or (from ∷ ends) at 0) (get_or ends at 0) ∷ drop (at + 1) (parts_ending items from ends)
  parts_ending-at items from [] at some = absurd (omega (arith, some))
  parts_ending-at items from (end ∷ ends) zero some = refl
  parts_ending-at items from (end ∷ ends) (suc at) some =
      let parts = parts_ending items from (end ∷ ends) in
      let next : suc (at + 1) ≡ suc at + 1 = omega arith in
      parts_ending-at items end ends at (omega (arith, some))
      ∙ ap (λ (n : ℕ). slice_range items (get_or (end ∷ ends) at 0) (get_or ends at 0) ∷ drop n parts) next

  pub part-read : (items : List A) {ends : List ℕ} {at start end : ℕ} → PartRead ends at start end
      → drop at (parts_ending items 0 ends) ≡ slice_range items start end ∷ drop (at + 1) (parts_ending items 0 ends)
  part-read items {ends} {at} {start} read =
      let later = drop (at + 1) (parts_ending items 0 ends) in
      parts_ending-at items 0 ends at read.some
      ∙ ap (λ (n : ℕ). slice_range items n (get_or ends at 0) ∷ later) (sym read.start_is)
      ∙ ap (λ (n : ℕ). slice_range items start n ∷ later) (sym read.end_is)

  pub length-parts : (items : List A) (from : ℕ) (ends : List ℕ) → length (parts_ending items from ends) ≡ length ends
  length-parts items from [] = refl
  length-parts items from (end ∷ ends) = ap (λ (n : ℕ). suc n) (length-parts items end ends)

  -- a part that ends with the list
  pub slice_range-rest : (items : List A) (from : ℕ) → slice_range items from (length items) ≡ drop from items
  slice_range-rest items from = take_rest items from

  pub length-slice_range : (items : List A) (from end : ℕ) → end ≤ length items → length (slice_range items from end) ≡ end - from
  length-slice_range items from end within =
      let inside : end - from ≤ length (drop from items) = omega (arith, length-drop from items) in
      length-take-le (end - from) (drop from items) inside
