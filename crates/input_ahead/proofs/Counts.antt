-- What is counted of what stands ahead, as marks and a stack of bytes stand for it.
use Rattle.std.proofs.Common.{◌≡◌, ◌≤◌, ◌+◌, ℕ, zero, suc, List, [], ◌∷◌, ◌++◌, length, take, drop, refl, sym, arith, length-drop, reverse, replicate, length-take-le}
use Rattle.std.proofs.lemmas.List.{length-reverse}
use Rattle.input_model.specs.Input.{Ahead, EndAhead, bytes_ahead, ends_ahead, events_ahead, frees_ahead}
use Rattle.input_model.proofs.Counts.{bytes_ahead-bytes, ends_ahead-bytes, events_ahead-bytes, frees_ahead-bytes}
use Rattle.input_ahead.specs.PushedTexts.Standing.{standing, items_of, IsStacked}
use Rattle.input_ahead.specs.declared.pushed_texts.MarkAt.{MarkAt}
use Rattle.input_ahead.specs.declared.pushed_texts.Mark.{Mark}
use Rattle.input_ahead.specs.declared.pushed_texts.Mark.TheVariants.{Ends, Return, Free, Do}

module _ {E : Type 0} where
  -- ends have no bytes
  bytes_ahead-ends : (n : ℕ) (items : List (Ahead E)) → bytes_ahead (replicate n EndAhead ++ items) ≡ bytes_ahead items
  bytes_ahead-ends zero items = refl
  bytes_ahead-ends (suc n) items = bytes_ahead-ends n items

  -- and no mark has any
  bytes_ahead-mark : (mark : Mark E) (items : List (Ahead E)) → bytes_ahead (items_of mark ++ items) ≡ bytes_ahead items
  bytes_ahead-mark (Ends more) items = bytes_ahead-ends more items
  bytes_ahead-mark (Return back) items = refl
  bytes_ahead-mark (Free b) items = refl
  bytes_ahead-mark (Do event) items = refl

  -- the unread bytes are those of the stack
  pub bytes_ahead-standing : (pushed_texts : List (MarkAt E)) (bytes : List ℕ) → IsStacked pushed_texts (length bytes) → bytes_ahead (standing pushed_texts bytes) ≡ length bytes
  bytes_ahead-standing [] bytes stacked = sym stacked
  bytes_ahead-standing (slot ∷ pushed_texts) bytes stacked =
      let below = take slot.height bytes in
      let len : length below ≡ slot.height = length-take-le slot.height bytes stacked.0 in
      let rest : bytes_ahead (standing pushed_texts below) ≡ length below = bytes_ahead-standing pushed_texts below (rw len stacked.1) in
      rw (bytes_ahead-bytes (reverse (drop slot.height bytes)), bytes_ahead-mark slot.mark, rest, len, length-reverse, length-drop) (omega (arith, stacked.0))

  -- each end counts
  ends_ahead-ends : (n : ℕ) (items : List (Ahead E)) → ends_ahead items ≤ ends_ahead (replicate n EndAhead ++ items)
  ends_ahead-ends zero items = omega arith
  ends_ahead-ends (suc n) items = omega (arith, ends_ahead-ends n items)

  frees_ahead-ends : (n : ℕ) (items : List (Ahead E)) → frees_ahead (replicate n EndAhead ++ items) ≡ frees_ahead items
  frees_ahead-ends zero items = refl
  frees_ahead-ends (suc n) items = frees_ahead-ends n items

  events_ahead-ends : (n : ℕ) (items : List (Ahead E)) → events_ahead (replicate n EndAhead ++ items) ≡ events_ahead items
  events_ahead-ends zero items = refl
  events_ahead-ends (suc n) items = events_ahead-ends n items

  -- all items but the bytes of texts
  marks : List (Ahead E) → ℕ
  marks items = ends_ahead items + events_ahead items + frees_ahead items

  -- a mark is one at least
  marks-mark : (mark : Mark E) (items : List (Ahead E)) → marks items + 1 ≤ marks (items_of mark ++ items)
  unfolding marks
  marks-mark (Ends more) items = omega (arith, ends_ahead-ends more items, frees_ahead-ends more items, events_ahead-ends more items)
  marks-mark (Return back) items = omega arith
  marks-mark (Free b) items = omega arith
  marks-mark (Do event) items = omega arith

  marks-standing : (pushed_texts : List (MarkAt E)) (bytes : List ℕ) → length pushed_texts ≤ marks (standing pushed_texts bytes)
  unfolding marks
  marks-standing [] bytes = omega arith
  marks-standing (slot ∷ pushed_texts) bytes =
      let below = take slot.height bytes in
      let above = reverse (drop slot.height bytes) in
      let items = items_of slot.mark ++ standing pushed_texts below in
      let own : marks (standing pushed_texts below) + 1 ≤ marks items = marks-mark slot.mark (standing pushed_texts below) in
      omega (arith, marks-standing pushed_texts below, own, ends_ahead-bytes above items, events_ahead-bytes above items, frees_ahead-bytes above items)

  -- no more slots are used than items stand ahead that are no bytes of texts
  pub length-pushed_texts : (pushed_texts : List (MarkAt E)) (bytes : List ℕ)
      → length pushed_texts ≤ ends_ahead (standing pushed_texts bytes) + events_ahead (standing pushed_texts bytes) + frees_ahead (standing pushed_texts bytes)
  unfolding marks
  length-pushed_texts pushed_texts bytes = marks-standing pushed_texts bytes

  -- a mark stands for one event at the most
  events_ahead-mark : (mark : Mark E) (items : List (Ahead E)) → events_ahead (items_of mark ++ items) ≤ events_ahead items + 1
  events_ahead-mark (Ends more) items = omega (arith, events_ahead-ends more items)
  events_ahead-mark (Return back) items = omega arith
  events_ahead-mark (Free b) items = omega arith
  events_ahead-mark (Do event) items = omega arith

  -- so no more events stand ahead than slots are used
  pub events_ahead-standing : (pushed_texts : List (MarkAt E)) (bytes : List ℕ) → events_ahead (standing pushed_texts bytes) ≤ length pushed_texts
  events_ahead-standing [] bytes = omega arith
  events_ahead-standing (slot ∷ pushed_texts) bytes =
      let below = take slot.height bytes in
      let above = reverse (drop slot.height bytes) in
      omega (
        arith,
        events_ahead-standing pushed_texts below,
        events_ahead-mark slot.mark (standing pushed_texts below),
        events_ahead-bytes above (items_of slot.mark ++ standing pushed_texts below),
      )

  -- ends in front are counted
  pub ends_ahead-more : (n : ℕ) (items : List (Ahead E)) → n ≤ ends_ahead (replicate n EndAhead ++ items)
  ends_ahead-more zero items = omega arith
  ends_ahead-more (suc n) items = omega (arith, ends_ahead-more n items)
