use Rattle.std.proofs.Common.{refl, arith}
use Rattle.roff_store.specs.Buckets.{bucket_count}
use Rattle.roff_store.proofs.Links.{AreLinked-none}
use Rattle.roff_store.proofs.Linking.{clear_heads}
use Rattle.roff_store.proofs.name_table.NameTable.new.Goals as goal

pub invariant_of-result : goal.invariant_of-result
invariant_of-result g c =
    let none = c.in_ok-with_capacity.ensures.items in
    let clear = clear_heads c.in_ok-vec.field-0.items bucket_count (c.in_ok-vec.ensures.items_if_clones_equal (λ y e. e)) in
    record {
      reserved = let exact = c.in_ok-with_capacity.ensures.exact in grind (arith, c.saturating_add-room.ensures);
      small = omega (arith, c.in_ok-with_capacity.ensures.exact, c.saturating_add-room.ensures);
      cap = omega (arith, c.ranges.cap.fits, c.in_ok-with_capacity.ensures.exact, c.saturating_add-room.ensures);
      count = rw none refl;
      within = omega arith;
      once = rw none tt;
      index = rw none (AreLinked-none c.in_ok-vec.field-0.items clear.0 clear.1);
    }
