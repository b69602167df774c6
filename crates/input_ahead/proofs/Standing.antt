-- What slots stand for, behind each change of theirs.
use Rattle.std.proofs.Common.{false, ◌==◌, ◌≡◌, ◌<◌, ◌≤◌, ℕ, suc, List, [], ◌∷◌, ◌++◌, length, map, drop, refl, arith, append_assoc, reverse}
use Rattle.std.proofs.lemmas.Bool.Decides.{nat_tests}
use Rattle.std.proofs.Math.Seq.{drop-length, take-length}
use Rattle.std.proofs.lemmas.List.{drop-append-le, take-append-le, reverse-append, reverse-reverse, map-append}
use Rattle.input_model.specs.Input.{Ahead, ByteAhead, is_none_ahead}
use Rattle.input_ahead.specs.PushedTexts.Standing.{standing, items_of, IsStacked}
use Rattle.input_ahead.specs.declared.pushed_texts.MarkAt.{MarkAt}
use Rattle.input_ahead.specs.declared.pushed_texts.Mark.TheVariants.{Ends, Return, Free, Do}
use Rattle.input_ahead.specs.declared.pushed_texts.Mark.{Mark}

module _ {E : Type 0} (slot : MarkAt E) (pushed_texts : List (MarkAt E)) (bytes : List ℕ) where
  -- bytes on top of the others come first, the last of them in front
  pub standing-append : (more : List ℕ) → slot.height ≤ length bytes
      → standing (slot ∷ pushed_texts) (bytes ++ more) ≡ map ByteAhead (reverse more) ++ standing (slot ∷ pushed_texts) bytes
  standing-append more below = simp (drop-append-le slot.height bytes more below, take-append-le slot.height bytes more below, reverse-append, map-append, append_assoc) refl

  -- where all bytes above a slot were taken, its mark comes next
  pub standing_mark : slot.height ≡ length bytes → standing (slot ∷ pushed_texts) bytes ≡ items_of slot.mark ++ standing pushed_texts bytes
  standing_mark at = simp (at, drop-length, take-length) refl

-- a number that isn't 0
not_none : (n : ℕ) → (suc n == 0) ≡ false
not_none n = grind (arith, nat_tests)

module _ {E : Type 0} where
  -- something in front is something
  something : (before after : List (Ahead E)) → is_none_ahead after ≡ false → is_none_ahead (before ++ after) ≡ false
  something [] after some = some
  something (item ∷ before) after some = refl

  some_mark : (mark : Mark E) (items : List (Ahead E)) → is_none_ahead (items_of mark ++ items) ≡ false
  some_mark (Ends more) items = refl
  some_mark (Return back) items = refl
  some_mark (Free b) items = refl
  some_mark (Do event) items = refl

  -- nothing stands ahead where there is no slot
  pub is_none_ahead-standing : (pushed_texts : List (MarkAt E)) (bytes : List ℕ) → is_none_ahead (standing pushed_texts bytes) ≡ (length pushed_texts == 0)
  is_none_ahead-standing [] bytes = refl
  is_none_ahead-standing (slot ∷ pushed_texts) bytes = rw (not_none (length pushed_texts)) (something (map ByteAhead (reverse (drop slot.height bytes))) _ (some_mark slot.mark _))

  -- so there is a slot where something stands ahead
  pub some-pushed_texts : (pushed_texts : List (MarkAt E)) (bytes : List ℕ) → is_none_ahead (standing pushed_texts bytes) ≡ false → 0 < length pushed_texts
  some-pushed_texts [] bytes some = cc
  some-pushed_texts (slot ∷ pushed_texts) bytes some = omega arith

  -- a text on top of others
  pub standing-text : (pushed_texts : List (MarkAt E)) (bytes text : List ℕ) → 0 < length pushed_texts → IsStacked pushed_texts (length bytes)
      → standing pushed_texts (bytes ++ reverse text) ≡ map ByteAhead text ++ standing pushed_texts bytes
  standing-text [] bytes text some stacked = absurd (omega (arith, some))
  standing-text (slot ∷ pushed_texts) bytes text some stacked = rw (standing-append slot pushed_texts bytes (reverse text) stacked.0, reverse-reverse) refl

  -- with more bytes on top the heights stay in order
  pub IsStacked-more : (pushed_texts : List (MarkAt E)) (n m : ℕ) → 0 < length pushed_texts → n ≤ m → IsStacked pushed_texts n → IsStacked pushed_texts m
  IsStacked-more [] n m some le stacked = absurd (omega (arith, some))
  IsStacked-more (slot ∷ pushed_texts) n m some le stacked = (omega (arith, stacked.0), stacked.1)

  -- the slot in front is the last one
  pub reverse_front : (pushed_texts below : List (MarkAt E)) (slot : MarkAt E) → pushed_texts ≡ below ++ slot ∷ [] → reverse pushed_texts ≡ slot ∷ reverse below
  reverse_front pushed_texts below slot split = rw (split, reverse-append) refl
