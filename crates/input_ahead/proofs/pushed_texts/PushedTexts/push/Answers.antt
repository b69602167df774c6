use Rattle.std.proofs.Common.{◌<◌, ◌+◌, arith, ap, ◌∷◌, ◌++◌, length, map, reverse}
use Rattle.std.proofs.lemmas.List.{length-reverse}
use Rattle.input_model.specs.Input.{ByteAhead, EndAhead}
use Rattle.input_ahead.specs.PushedTexts.Held.{Held, held_by}
use Rattle.input_ahead.proofs.Counts.{length-pushed_texts, bytes_ahead-standing}
use Rattle.input_model.proofs.Counts.{ends_ahead-bytes}
use Rattle.input_ahead.proofs.Pushing.{standing-pushed, IsStacked-pushed, HasRoom-pushed}
use Rattle.input_ahead.proofs.pushed_texts.PushedTexts.push.Goals as goal

pub put_end-requires-clause-room : goal.put_end-requires-clause-room
put_end-requires-clause-room g c =
    let inside = c.self.inside in
    let used = length-pushed_texts (reverse inside.pushed_texts.items) inside.bytes.items in
    let few = rw (← c.self.view_is) at c.requires.ends in
    let counted = rw length-reverse at used in
    omega (arith, inside.pushed_texts.ok.0, counted, few, c.self.invariant.room.events, c.self.invariant.room.frees, c.self.invariant.pushed_texts)

pub put_end-requires-clause-few : goal.put_end-requires-clause-few
put_end-requires-clause-few g c =
    let few = rw (← c.self.view_is) at c.requires.ends in
    rw c.as_slice.ensures.value (omega (arith, few, c.self.invariant.pushed_texts, c.self.inside.pushed_texts.small))

pub put_reversed-requires : goal.put_reversed-requires
put_reversed-requires g c =
    let inside = c.self.inside in
    let counted = bytes_ahead-standing (reverse inside.pushed_texts.items) inside.bytes.items c.self.invariant.stacked in
    let fits = rw (← c.self.view_is) at c.requires.bytes in
    omega (arith, inside.bytes.ok.0, counted, fits, c.self.invariant.bytes)

pub invariant_of-self : goal.invariant_of-self
invariant_of-self g c =
    let inside = c.self.inside in
    let new = c.put_end.new.pushed_texts in
    let text = c.args.text.now in
    let bytes = c.put_reversed.new.bytes.items in
    let some : 0 < length new.items = omega (arith, new.ok.0, c.put_end.ensures.some) in
    let stands = standing-pushed inside.pushed_texts.items new.items inside.bytes.items c.as_slice.result.now bytes text c.as_slice.ensures.value c.put_reversed.ensures.items some c.put_end.ensures.stacked c.put_end.ensures.items in
    let room = HasRoom-pushed (held_by inside) text c.self.invariant.room (rw (← c.self.view_is) at c.requires.bytes) (rw (← c.self.view_is) at c.requires.ends) in
    record {
      pushed_texts = rw c.put_end.ensures.capacity c.self.invariant.pushed_texts;
      bytes = omega (arith, c.self.invariant.bytes, c.put_reversed.ensures.capacity);
      stacked = IsStacked-pushed inside.pushed_texts.items new.items inside.bytes.items c.as_slice.result.now bytes text c.as_slice.ensures.value c.put_reversed.ensures.items some c.put_end.ensures.stacked;
      ends = rw (stands, ends_ahead-bytes text) (ap (λ n. n + 1) c.self.invariant.ends);
      room = rw stands room;
    }

pub returns : goal.returns
returns g c =
    let inside = c.self.inside in
    let new = c.put_end.new.pushed_texts in
    let text = c.args.text.now in
    let bytes = c.put_reversed.new.bytes.items in
    let some : 0 < length new.items = omega (arith, new.ok.0, c.put_end.ensures.some) in
    let stands = standing-pushed inside.pushed_texts.items new.items inside.bytes.items c.as_slice.result.now bytes text c.as_slice.ensures.value c.put_reversed.ensures.items some c.put_end.ensures.stacked c.put_end.ensures.items in
    rw stands (ap (λ (h : Held _). record h { ahead = map ByteAhead text ++ EndAhead ∷ h.ahead }) c.self.view_is)
