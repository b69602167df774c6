use Rattle.std.proofs.Common.{◌≡◌, ◌≤◌, ℕ, List, [], ◌∷◌, ◌++◌, length, refl, arith, reverse}
use Rattle.input_ahead.specs.PushedTexts.Standing.{standing, IsStacked}
use Rattle.input_model.specs.Input.{first_but_ends}
use Rattle.input_ahead.specs.declared.pushed_texts.MarkAt.{MarkAt}
use Rattle.input_ahead.specs.declared.pushed_texts.Mark.TheVariants.{Ends, Return}
use Rattle.input_ahead.proofs.Standing.{standing_mark, reverse_front}
use Rattle.input_ahead.proofs.Taking.{first_but_ends-ends}
use Rattle.input_ahead.proofs.pushed_texts.PushedTexts.seen.Goals as goal

module _ {E : Type 0} (pushed_texts below : List (MarkAt E)) (slot : MarkAt E) (bytes : List ℕ) (split : pushed_texts ≡ below ++ slot ∷ []) (stacked : IsStacked (reverse pushed_texts) (length bytes)) where
  -- the heights in the order of taking
  in_order : IsStacked (slot ∷ reverse below) (length bytes)
  in_order = rw (reverse_front pushed_texts below slot split) at stacked

  at_end : length bytes ≤ slot.height → slot.height ≡ length bytes
  at_end reached = omega (arith, in_order.0)

  -- what is seen of ends stands below them
  seen_below : (more : ℕ) → length bytes ≤ slot.height → slot.mark ≡ Ends more
      → first_but_ends (standing (reverse pushed_texts) bytes) ≡ first_but_ends (standing (reverse below) bytes)
  seen_below more reached is =
      let passed = first_but_ends-ends more (standing (reverse below) bytes) in
      rw (reverse_front pushed_texts below slot split, standing_mark slot (reverse below) bytes (at_end reached), is) passed

  -- and so does what is seen of the end of a called body
  seen_below_return : (back : ℕ) → length bytes ≤ slot.height → slot.mark ≡ Return back
      → first_but_ends (standing (reverse pushed_texts) bytes) ≡ first_but_ends (standing (reverse below) bytes)
  seen_below_return back reached is =
      rw (reverse_front pushed_texts below slot split, standing_mark slot (reverse below) bytes (at_end reached), is) refl

  stacked_below : length bytes ≤ slot.height → IsStacked (reverse below) (length bytes)
  stacked_below reached = rw (← at_end reached) in_order.1

pub loop-slot-preserved-in-Ends : goal.loop-slot-preserved-in-Ends
loop-slot-preserved-in-Ends g c =
    let bytes = c.self.inside.bytes.items in
    let split = c.in-Some.ensures.cases.0 in
    let reached : length bytes ≤ c.in-Some.slot.now.height = omega (arith, c.self.inside.bytes.ok.0, c.len.ensures, c.if-slot-len.false) in
    record {
      seen = rw (← seen_below c.loop-slot.pushed_texts.now c.in-Some.below.now c.in-Some.slot.now bytes split c.loop-slot.invariant.stacked c.in-Ends.field-0 reached c.in-Ends.is) c.loop-slot.invariant.seen;
      stacked = stacked_below c.loop-slot.pushed_texts.now c.in-Some.below.now c.in-Some.slot.now bytes split c.loop-slot.invariant.stacked reached;
    }

pub loop-slot-preserved : goal.loop-slot-preserved
loop-slot-preserved g c =
    let bytes = c.self.inside.bytes.items in
    let pushed_texts = c.loop-slot.pushed_texts.now in
    let below = c.in-Some.below.now in
    let slot = c.in-Some.slot.now in
    let split = c.in-Some.ensures.cases.0 in
    let stacked = c.loop-slot.invariant.stacked in
    let reached : length bytes ≤ slot.height = omega (arith, c.self.inside.bytes.ok.0, c.len.ensures, c.if-slot-len.false) in
    record {
      seen = rw (← seen_below_return pushed_texts below slot bytes split stacked c.in-Return.field-0 reached c.in-Return.is) c.loop-slot.invariant.seen;
      stacked = stacked_below pushed_texts below slot bytes split stacked reached;
    }
