use Rattle.std.proofs.Common.{◌+◌, ◌≤◌, length, take, refl, arith, length-take-le}
use Rattle.input_model.specs.Arguments.{bytes_held}
use Rattle.input_model.specs.Input.{pushed}
use Rattle.roff_scan.specs.Unread.Kept.{kept_by}
use Rattle.roff_scan.specs.declared.run_kind.RunKind.TheVariants.{Arguments}
use Rattle.roff_scan.proofs.RunKinds.{run-begun, run-held}
use Rattle.roff_scan.proofs.Runs.{IsWithin-staged}
use Rattle.roff_scan.proofs.unread.Unread.hold_bytes.Goals as goal

pub take_front-requires : goal.take_front-requires
take_front-requires g c =
    let kept = kept_by c.self.inside in
    let stack : pushed kept.input + length c.args.text.now ≤ kept.limits.stack = rw (← c.self.view_is) at c.requires in
    omega (arith, stack, c.self.invariant.arguments)

pub invariant_of-self : goal.invariant_of-self
invariant_of-self g c =
    let kept = kept_by c.self.inside in
    let part = c.take_front.ensures.takes in
    let bytes = take c.take_front.result c.args.text.now in
    let stack : pushed kept.input + length c.args.text.now ≤ kept.limits.stack = rw (← c.self.view_is) at c.requires in
    let few : length bytes ≤ length c.args.text.now = omega (arith, length-take-le c.take_front.result c.args.text.now part.few, part.few) in
    record {
      bytes = c.self.invariant.bytes;
      texts = c.self.invariant.texts;
      arguments = rw part.taken c.self.invariant.arguments;
      begun = rw part.taken (run-begun Arguments bytes kept.input.arguments c.self.invariant.begun);
      call_bytes = c.self.invariant.call_bytes;
      most_calls = c.self.invariant.most_calls;
      calls = c.self.invariant.calls;
      held = c.self.invariant.held;
      small = c.self.invariant.small;
      store = c.self.invariant.store;
      once = c.self.invariant.once;
      results = c.self.invariant.results;
      within =
          rw part.taken
          (IsWithin-staged kept kept.input.escapes (bytes_held bytes kept.input.arguments) (length bytes) c.self.invariant.within
          (run-held Arguments bytes kept.input.arguments kept.input.escapes kept.input.escapes refl) (omega (arith, stack, few)));
    }
