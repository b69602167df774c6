use Rattle.std.proofs.Common.{arith, ap, ◌++◌, map}
use Rattle.input_model.specs.Input.{FreeAhead}
use Rattle.input_ahead.specs.InputAhead.Kept.{AheadAndTexts}
use Rattle.input_ahead.proofs.Bodies.{frees-with_bodies, with_bodies-frees}
use Rattle.input_ahead.proofs.Framing.{IsSound-freeing}
use Rattle.input_ahead.proofs.input_ahead.InputAhead.free.Goals as goal

pub free-requires : goal.free-requires
free-requires g c =
    let few = rw (← c.self.view_is) at c.requires in
    omega (arith, few, frees-with_bodies c.self.inside.texts c.self.inside.pushed_texts.ahead)

pub invariant_of-self : goal.invariant_of-self
invariant_of-self g c =
    rw c.free.ensures (IsSound-freeing c.self.inside c.args.bytes.now c.self.invariant (rw (← c.self.view_is) at c.requires))

pub returns : goal.returns
returns g c =
    let inside = c.self.inside in
    let bytes = c.args.bytes.now in
    let more = ap (λ (f : AheadAndTexts _). record f { ahead = map FreeAhead bytes ++ f.ahead }) c.self.view_is in
    rw (c.free.ensures, with_bodies-frees inside.texts bytes inside.pushed_texts.ahead) more
