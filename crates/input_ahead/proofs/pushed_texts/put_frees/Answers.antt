use Rattle.std.proofs.Common.{◌≡◌, ◌+◌, ℕ, List, [], ◌∷◌, ◌++◌, length, length-append, map, sym, ap, refl, ◌∙◌, arith, append_assoc}
use Rattle.std.proofs.lemmas.List.{map-append}
use Rattle.input_model.specs.Input.{Ahead, FreeAhead}
use Rattle.input_ahead.proofs.pushed_texts.put_frees.Goals as goal

-- the last of the bytes left is in front
one_more : {E : Type 0} (rest left : List ℕ) (b : ℕ) → rest ≡ left ++ b ∷ [] → (old new all : List (Ahead E)) → new ≡ FreeAhead b ∷ old → map FreeAhead rest ++ old ≡ all
    → map FreeAhead left ++ new ≡ all
one_more rest left b split old new all put before = rw put (sym (rw (split, map-append, append_assoc) refl) ∙ before)

-- and one fewer is left
one_fewer : (rest left : List ℕ) (b : ℕ) → rest ≡ left ++ b ∷ [] → length rest ≡ length left + 1
one_fewer rest left b split = omega (arith, ap length split, length-append left (b ∷ []))

pub loop-free-preserved : goal.loop-free-preserved
loop-free-preserved g c =
    let rest = c.loop-free.free-iterator.iter.rest.now in
    let left = c.next.new.self.iter.rest.now in
    record {
      items = one_more rest left c.in-Some.free.now c.in-Some.ensures.steps _ _ _ c.put_mark.ensures.items c.loop-free.invariant.items;
      stacked = c.put_mark.ensures.stacked;
      room = omega (arith, c.put_mark.ensures.len, c.put_mark.ensures.capacity, c.loop-free.invariant.room, one_fewer rest left c.in-Some.free.now c.in-Some.ensures.steps);
      capacity = c.put_mark.ensures.capacity ∙ c.loop-free.invariant.capacity;
    }
