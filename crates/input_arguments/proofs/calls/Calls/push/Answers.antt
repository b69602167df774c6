use Rattle.std.proofs.Common.{◌≡◌, ◌+◌, ◌≤◌, List, ℕ, ◌∷◌, ◌++◌, length, length-append, refl, ◌∙◌, ap, sym, arith, reverse}
use Rattle.std.proofs.lemmas.List.{length-reverse, reverse-append}
use Rattle.input_model.specs.Arguments.{total_length}
use Rattle.input_arguments.specs.ArgumentList.{listed}
use Rattle.input_arguments.specs.declared.calls.CallStart.{CallStart}
use Rattle.input_arguments.proofs.CallStack.{length-calls_in, live_bytes-calls_in, few_ends, AreStacked-none, AreStacked-push}
use Rattle.input_arguments.proofs.Ends.{length-parts_ending}
use Rattle.input_arguments.proofs.calls.Calls.push.Goals as goal

pub push_reserved-requires : goal.push_reserved-requires
push_reserved-requires c =
    let old = c.self.inside in
    let free = rw (← c.self.view_is) at c.requires.calls in
    let calls = length-calls_in (reverse old.starts.items) old.bytes.items old.ends.items in
    omega (arith, free, calls, length-reverse old.starts.items, old.starts.ok.0, c.self.invariant.starts)

pub unwrap-requires : goal.unwrap-requires
unwrap-requires c =
    let old = c.self.inside in
    let fits = rw (← c.self.view_is) at c.requires.bytes in
    let held = live_bytes-calls_in (reverse old.starts.items) old.bytes.items old.ends.items c.self.invariant.stacked in
    c.extend_from_slice.ensures.succeeds (omega (arith, fits, held, old.bytes.ok.0, c.block.ensures.len, c.self.invariant.bytes))

pub unwrap-requires-2 : goal.unwrap-requires-2
unwrap-requires-2 c =
    let old = c.self.inside in
    let new = c.args.arguments in
    let free = rw (← c.self.view_is) at c.requires.calls in
    let fits = rw (← c.self.view_is) at c.requires.bytes in
    let calls = length-calls_in (reverse old.starts.items) old.bytes.items old.ends.items in
    let held = live_bytes-calls_in (reverse old.starts.items) old.bytes.items old.ends.items c.self.invariant.stacked in
    let few = few_ends (reverse old.starts.items) old.bytes.items old.ends.items c.self.invariant.stacked in
    let more : length c.ends.result.now ≡ length (listed new) =
    ap length c.ends.ensures ∙ sym (length-parts_ending new.bytes.now 0 new.ends.now) in
    c.extend_from_slice-2.ensures.succeeds (omega (
      arith,
      free,
      fits,
      calls,
      held,
      few,
      more,
      c.requires.few,
      length-reverse old.starts.items,
      old.ends.ok.0,
      c.self.invariant.ends,
    ))

-- no argument has a byte, or an end
pub invariant_of-self : goal.invariant_of-self
invariant_of-self c =
    let old = c.self.inside in
    let start : CallStart = record { byte = c.len.result; end = c.len-2.result } in
    let free = rw (← c.self.view_is) at c.requires.calls in
    let calls = length-calls_in (reverse old.starts.items) old.bytes.items old.ends.items in
    let front : reverse c.push_reserved.new.self.items ≡ start ∷ reverse old.starts.items =
    rw (c.push_reserved.ensures.items, reverse-append) refl in
    let byte = sym (c.len.ensures ∙ old.bytes.ok.0) in
    let end = sym (c.len-2.ensures ∙ old.ends.ok.0) in
    record {
      bytes = c.self.invariant.bytes;
      ends = c.self.invariant.ends;
      starts = omega (arith, c.self.invariant.starts, c.push_reserved.ensures.capacity);
      stacked = rw front (AreStacked-none start old.bytes.items old.ends.items byte end (reverse old.starts.items) c.self.invariant.stacked);
      room = c.self.invariant.room;
      calls = omega (
        arith,
        free,
        calls,
        length-reverse old.starts.items,
        old.starts.ok.0,
        c.push_reserved.ensures.len,
        c.push_reserved.new.self.ok.0,
      );
    }

pub invariant_of-self-2 : goal.invariant_of-self-2
invariant_of-self-2 c =
    let old = c.self.inside in
    let new = c.args.arguments in
    let start : CallStart = record { byte = c.len.result; end = c.len-2.result } in
    let free = rw (← c.self.view_is) at c.requires.calls in
    let fits = rw (← c.self.view_is) at c.requires.bytes in
    let calls = length-calls_in (reverse old.starts.items) old.bytes.items old.ends.items in
    let held = live_bytes-calls_in (reverse old.starts.items) old.bytes.items old.ends.items c.self.invariant.stacked in
    let texts = length-parts_ending new.bytes.now 0 new.ends.now in
    let front : reverse c.push_reserved.new.self.items ≡ start ∷ reverse old.starts.items =
    rw (c.push_reserved.ensures.items, reverse-append) refl in
    let bytes : c.extend_from_slice.new.self.items ≡ old.bytes.items ++ c.block.result.now =
    rw c.unwrap.ensures at c.extend_from_slice.ensures.items in
    let held_ends : c.extend_from_slice-2.new.self.items ≡ old.ends.items ++ c.ends.result.now =
    rw c.unwrap-2.ensures at c.extend_from_slice-2.ensures.items in
    let ends : c.extend_from_slice-2.new.self.items ≡ old.ends.items ++ new.ends.now =
    held_ends ∙ ap (λ (more : List ℕ). old.ends.items ++ more) c.ends.ensures in
    let full = ap total_length c.block.ensures.texts ∙ sym c.block.ensures.len in
    let few : length new.ends.now ≤ length c.block.result.now + 32 = omega (arith, texts, c.requires.few, c.block.ensures.len) in
    let byte = sym (c.len.ensures ∙ old.bytes.ok.0) in
    let end = sym (c.len-2.ensures ∙ old.ends.ok.0) in
    let on_top = AreStacked-push start old.bytes.items old.ends.items c.block.result.now new.ends.now byte end in
    let stacked = on_top (reverse old.starts.items) c.block.ensures.within full few c.self.invariant.stacked in
    record {
      bytes = omega (arith, c.self.invariant.bytes, c.extend_from_slice.ensures.capacity);
      ends = omega (arith, c.self.invariant.ends, c.extend_from_slice-2.ensures.capacity);
      starts = omega (arith, c.self.invariant.starts, c.push_reserved.ensures.capacity);
      stacked = rw (front, bytes, ends) stacked;
      room = omega (arith, fits, held, ap length bytes, length-append old.bytes.items c.block.result.now, c.block.ensures.len);
      calls = omega (
        arith,
        free,
        calls,
        length-reverse old.starts.items,
        old.starts.ok.0,
        c.push_reserved.ensures.len,
        c.push_reserved.new.self.ok.0,
      );
    }
