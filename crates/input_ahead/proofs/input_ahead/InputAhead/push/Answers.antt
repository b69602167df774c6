use Rattle.std.proofs.Common.{arith, ap, ◌∷◌, ◌++◌, map}
use Rattle.input_model.specs.Input.{ByteAhead, EndAhead}
use Rattle.input_ahead.specs.InputAhead.Kept.{AheadAndTexts}
use Rattle.input_ahead.proofs.Bodies.{bytes-with_bodies, ends-with_bodies, with_bodies-bytes}
use Rattle.input_ahead.proofs.Framing.{IsSound-pushing}
use Rattle.input_ahead.proofs.input_ahead.InputAhead.push.Goals as goal

pub push-requires-clause-bytes : goal.push-requires-clause-bytes
push-requires-clause-bytes g c =
    let fits = rw (← c.self.view_is) at c.requires.bytes in
    omega (arith, fits, bytes-with_bodies c.self.inside.texts c.self.inside.pushed_texts.ahead)

pub push-requires-clause-ends : goal.push-requires-clause-ends
push-requires-clause-ends g c =
    let few = rw (← c.self.view_is) at c.requires.ends in
    omega (arith, few, ends-with_bodies c.self.inside.texts c.self.inside.pushed_texts.ahead)

pub invariant_of-self : goal.invariant_of-self
invariant_of-self g c =
    let fits = rw (← c.self.view_is) at c.requires.bytes in
    let few = rw (← c.self.view_is) at c.requires.ends in
    rw c.push.ensures (IsSound-pushing c.self.inside c.args.text.now c.self.invariant fits few)

pub returns : goal.returns
returns g c =
    let inside = c.self.inside in
    let text = c.args.text.now in
    let more = ap (λ (f : AheadAndTexts _). record f { ahead = map ByteAhead text ++ EndAhead ∷ f.ahead }) c.self.view_is in
    rw (c.push.ensures, with_bodies-bytes inside.texts text (EndAhead ∷ inside.pushed_texts.ahead)) more
