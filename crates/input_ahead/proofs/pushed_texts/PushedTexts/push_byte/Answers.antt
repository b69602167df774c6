use Rattle.std.proofs.Common.{◌<◌, ◌∷◌, length, arith, ap, reverse}
use Rattle.input_model.specs.Input.{ByteAhead}
use Rattle.input_ahead.specs.PushedTexts.Held.{Held, held_by}
use Rattle.input_ahead.proofs.Counts.{bytes_ahead-standing}
use Rattle.input_ahead.proofs.Pushing.{standing-one, IsStacked-one, HasRoom-byte}
use Rattle.input_ahead.proofs.Standing.{some-pushed_texts}
use Rattle.input_ahead.proofs.pushed_texts.PushedTexts.push_byte.Goals as goal

pub push_reserved-requires : goal.push_reserved-requires
push_reserved-requires g c =
    let inside = c.self.inside in
    let counted = bytes_ahead-standing (reverse inside.pushed_texts.items) inside.bytes.items c.self.invariant.stacked in
    let fits = rw (← c.self.view_is) at c.requires.room in
    omega (arith, inside.bytes.ok.0, counted, fits, c.self.invariant.bytes)

pub invariant_of-self : goal.invariant_of-self
invariant_of-self g c =
    let inside = c.self.inside in
    let pushed_texts = reverse inside.pushed_texts.items in
    let new = c.push_reserved.new.self in
    let some : 0 < length pushed_texts = some-pushed_texts pushed_texts inside.bytes.items (rw (← c.self.view_is) at c.requires.some) in
    let more = c.push_reserved.ensures.items in
    let stands = standing-one pushed_texts inside.bytes.items new.items c.args.byte more some c.self.invariant.stacked in
    record {
      pushed_texts = c.self.invariant.pushed_texts;
      bytes = omega (arith, c.self.invariant.bytes, c.push_reserved.ensures.capacity);
      stacked = IsStacked-one pushed_texts inside.bytes.items new.items c.args.byte more some c.self.invariant.stacked;
      ends = rw stands c.self.invariant.ends;
      room =
          let fits = rw (← c.self.view_is) at c.requires.room in
          rw stands (HasRoom-byte (held_by inside) c.args.byte c.self.invariant.room fits);
    }

pub returns : goal.returns
returns g c =
    let inside = c.self.inside in
    let pushed_texts = reverse inside.pushed_texts.items in
    let some : 0 < length pushed_texts = some-pushed_texts pushed_texts inside.bytes.items (rw (← c.self.view_is) at c.requires.some) in
    let new = c.push_reserved.new.self in
    let more = c.push_reserved.ensures.items in
    let stands = standing-one pushed_texts inside.bytes.items new.items c.args.byte more some c.self.invariant.stacked in
    rw stands (ap (λ (h : Held _). record h { ahead = ByteAhead c.args.byte ∷ h.ahead }) c.self.view_is)
