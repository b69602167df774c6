use Rattle.std.proofs.Common.{◌≡◌, Ok, Err, sym, subst}
use Rattle.roff_num.specs.declared.limit.Limit.TheVariants.{Stack}
use Rattle.input_model.specs.Input.{with_arguments}
use Rattle.input_model.specs.Unread.{Unread, changing}
use Rattle.input_model.specs.Arguments.{with_unit}
use Rattle.roff_scan.specs.Unread.Kept.{kept_by}
use Rattle.roff_scan.proofs.Changing.{hold_past_stack, hold_within, IsWithin-holding}
use Rattle.roff_scan.proofs.LineCalls.{NoneBegun-with_unit}
use Rattle.roff_scan.proofs.Sound.{sound-arguments}
use Rattle.roff_scan.proofs.unread.Unread.hold.Goals as goal

pub returns-then-bytes_more-self : goal.returns-then-bytes_more-self
returns-then-bytes_more-self g c =
    let kept = kept_by c.self.inside in
    let counted = rw (← c.self.view_is) at c.pushed.ensures in
    record {
      change =
          subst (λ (u : Unread _). (Err Stack, u) ≡ changing (with_arguments (with_unit u.input.arguments c.args.unit) u.input) u) c.self.view_is
          (sym (hold_past_stack kept (with_unit kept.input.arguments c.args.unit) c.self.invariant.within c.pushed.result c.bytes_more.result counted c.bytes_more.ensures.value c.if-bytes_more-self.true));
    }

pub invariant_of-self : goal.invariant_of-self
invariant_of-self g c =
    let kept = kept_by c.self.inside in
    let counted = rw (← c.self.view_is) at c.pushed.ensures in
    let holding = with_unit kept.input.arguments c.args.unit in
    sound-arguments c.self.inside c.self.invariant _ _ c.take.ensures.value (NoneBegun-with_unit c.self.inside.arguments.arguments c.args.unit c.self.invariant.begun)
    (IsWithin-holding kept holding c.self.invariant.within c.pushed.result c.bytes_more.result counted c.bytes_more.ensures.value c.if-bytes_more-self.false)

pub returns : goal.returns
returns g c =
    let kept = kept_by c.self.inside in
    let counted = rw (← c.self.view_is) at c.pushed.ensures in
    record {
      change =
          rw c.take.ensures.value
          (subst (λ (u : Unread _). (Ok tt, record kept { input = with_arguments (with_unit kept.input.arguments c.args.unit) kept.input }) ≡ changing (with_arguments (with_unit u.input.arguments c.args.unit) u.input) u) c.self.view_is
          (sym (hold_within kept (with_unit kept.input.arguments c.args.unit) c.self.invariant.within c.pushed.result c.bytes_more.result counted c.bytes_more.ensures.value c.if-bytes_more-self.false)));
    }
