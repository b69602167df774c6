use Rattle.std.proofs.Common.{◌≡◌, ◌-◌, ◌+◌, drop, length, arith, ap, ◌∙◌, drop-drop}
use Rattle.input_ahead.specs.InputAhead.Kept.{AheadAndTexts}
use Rattle.input_model.specs.Input.{leading}
use Rattle.input_ahead.proofs.Leading.{leading-fewer}
use Rattle.input_ahead.proofs.input_ahead.InputAhead.pass_all.Goals as goal

pub pass_some-left-requires-clause-among : goal.pass_some-left-requires-clause-among
pass_some-left-requires-clause-among g c =
    let all = c.args.self.now.ahead in
    let left = c.loop-left.left in
    let passed = c.args.count - left in
    let fewer = leading-fewer passed all (omega (arith, c.requires)) in
    let here = ap (λ (f : AheadAndTexts _). length (leading f.ahead)) c.loop-left.invariant.taken in
    omega (arith, fewer, here, c.requires, c.loop-left.invariant.few)

pub loop-left-preserved : goal.loop-left-preserved
loop-left-preserved g c =
    let all = c.args.self.now in
    let left = c.loop-left.left in
    let count = c.pass_some-left.result in
    let passed = c.args.count - left in
    let same : passed + count ≡ c.args.count - (left - count) = omega (arith, c.loop-left.invariant.few, c.pass_some-left.ensures.few) in
    record {
      few = omega (arith, c.loop-left.invariant.few);
      taken =
          c.pass_some-left.ensures.taken ∙ ap (λ (f : AheadAndTexts _). record f { ahead = drop count f.ahead }) c.loop-left.invariant.taken
          ∙ ap (λ items. record all { ahead = items }) (drop-drop count passed all.ahead ∙ ap (λ n. drop n all.ahead) same);
    }
