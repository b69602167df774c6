use Rattle.std.proofs.Common.{◌≡◌, ◌+◌, ℕ, List, [], ◌∷◌, ◌++◌, length, length-append, ap, ◌∙◌, arith, append_assoc, reverse}
use Rattle.std.proofs.lemmas.List.{reverse-append}
use Rattle.input_ahead.proofs.pushed_texts.put_few.Goals as goal

-- the last of the bytes left is put on top
one_more : (old rest left : List ℕ) (b : ℕ) → rest ≡ left ++ b ∷ [] → (new all : List ℕ) → new ≡ old ++ b ∷ []
    → old ++ reverse rest ≡ all → new ++ reverse left ≡ all
one_more old rest left b split new all more before = rw (more, append_assoc) (rw (split, reverse-append) at before)

-- and one fewer is left
one_fewer : (rest left : List ℕ) (b : ℕ) → rest ≡ left ++ b ∷ [] → length rest ≡ length left + 1
one_fewer rest left b split = omega (arith, ap length split, length-append left (b ∷ []))

pub loop-byte-preserved : goal.loop-byte-preserved
loop-byte-preserved c =
    let rest = c.loop-byte.byte-iterator.iter.rest.now in
    let left = c.next.new.self.iter.rest.now in
    let fewer = one_fewer rest left c.in-Some.byte.now c.in-Some.ensures.steps in
    record {
      items = one_more _ rest left c.in-Some.byte.now c.in-Some.ensures.steps _ _ c.push_reserved.ensures.items c.loop-byte.invariant.items;
      room = omega (arith, c.push_reserved.ensures.len, c.push_reserved.ensures.capacity, c.loop-byte.invariant.room, fewer);
      capacity = c.push_reserved.ensures.capacity ∙ c.loop-byte.invariant.capacity;
    }
