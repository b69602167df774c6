use Rattle.std.proofs.Common.{arith, reverse}
use Rattle.std.proofs.lemmas.List.{length-reverse}
use Rattle.input_ahead.specs.PushedTexts.Held.{held_by}
use Rattle.input_ahead.proofs.Counts.{length-pushed_texts}
use Rattle.input_model.proofs.Counts.{ends_ahead-frees}
use Rattle.input_ahead.proofs.Pushing.{HasRoom-freed}
use Rattle.input_ahead.proofs.pushed_texts.PushedTexts.free.Goals as goal

pub put_frees-requires-clause-room : goal.put_frees-requires-clause-room
put_frees-requires-clause-room g c =
    let inside = c.self.inside in
    let used = length-pushed_texts (reverse inside.pushed_texts.items) inside.bytes.items in
    let few = rw (← c.self.view_is) at c.requires in
    let counted = rw length-reverse at used in
    omega (arith, inside.pushed_texts.ok.0, counted, few, c.self.invariant.room.ends, c.self.invariant.room.events, c.self.invariant.pushed_texts)

pub invariant_of-self : goal.invariant_of-self
invariant_of-self g c =
    let inside = c.self.inside in
    let freed = rw c.as_slice.ensures.value at c.put_frees.ensures.items in
    let stacked = rw c.as_slice.ensures.value at c.put_frees.ensures.stacked in
    record {
      pushed_texts = rw c.put_frees.ensures.capacity c.self.invariant.pushed_texts;
      bytes = c.self.invariant.bytes;
      stacked = stacked;
      ends = rw (freed, ends_ahead-frees c.args.bytes.now) c.self.invariant.ends;
      room = rw freed (HasRoom-freed (held_by inside) c.args.bytes.now c.self.invariant.room (rw (← c.self.view_is) at c.requires));
    }
