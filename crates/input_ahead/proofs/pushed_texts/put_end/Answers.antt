use Rattle.std.proofs.Common.{◌≡◌, ◌<◌, ◌+◌, ◌^◌, ℕ, List, arith, sym, ◌∙◌, ◌∷◌, ◌++◌, [], length, refl, reverse}
use Rattle.input_model.specs.Input.{ends_ahead}
use Rattle.input_ahead.specs.PushedTexts.Standing.{standing, items_of}
use Rattle.input_ahead.specs.declared.pushed_texts.MarkAt.{MarkAt}
use Rattle.input_ahead.specs.declared.pushed_texts.Mark.TheVariants.{Ends}
use Rattle.input_ahead.proofs.Counts.{ends_ahead-more}
use Rattle.input_ahead.proofs.Standing.{standing_mark, reverse_front}
use Rattle.input_ahead.proofs.pushed_texts.put_end.Goals as goal

module _ {E : Type 0} where
  -- ends in front, as they stand for items
  ends_on_top : (pushed_texts below : List (MarkAt E)) (slot : MarkAt E) (bytes : List ℕ) (more : ℕ) → pushed_texts ≡ below ++ slot ∷ [] → slot.mark ≡ Ends more
      → slot.height ≡ length bytes → standing (reverse pushed_texts) bytes ≡ items_of (Ends more) ++ standing (reverse below) bytes
  ends_on_top pushed_texts below slot bytes more split is at =
      rw (reverse_front pushed_texts below slot split, standing_mark slot (reverse below) bytes at, is) refl

  -- their number is within a bound of all ends
  ends_within : (items : List (MarkAt E)) (bytes : List ℕ) (more : ℕ) → ends_ahead (items_of (Ends more) ++ standing items bytes) + 1 < 2 ^ 64 → more + 1 < 2 ^ 64
  ends_within items bytes more few = omega (arith, few, ends_ahead-more more (standing items bytes))

pub overflow_add-more : goal.overflow_add-more
overflow_add-more g c =
    let cases = c.in-Some.ensures.cases in
    let top = ends_on_top c.args.pushed_texts.now.items c.in-Some.field-0-1.now c.in-Some.slot.now c.args.bytes.now c.in-Ends.more (sym c.as_slice.ensures.value ∙ cases.0) c.in-Ends.is c.if-slot-bytes.true in
    let few = rw top at c.requires.few in
    omega (arith, ends_within (reverse c.in-Some.field-0-1.now) c.args.bytes.now c.in-Ends.more few)
