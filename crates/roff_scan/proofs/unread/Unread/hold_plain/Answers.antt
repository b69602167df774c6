use Rattle.std.proofs.Common.{◌≡◌, Ok, Err, sym, subst}
use Rattle.roff_num.specs.declared.limit.Limit.TheVariants.{Stack}
use Rattle.input_model.specs.Arguments.{with_plain}
use Rattle.input_model.specs.Input.{holding_plain}
use Rattle.input_model.specs.Unread.{Unread, changing}
use Rattle.roff_scan.specs.Unread.Kept.{kept_by}
use Rattle.roff_scan.proofs.Changing.{plain_past_stack, plain_within, IsWithin-plain}
use Rattle.roff_scan.proofs.LineCalls.{NoneBegun-with_plain}
use Rattle.roff_scan.proofs.Sound.{sound-arguments}
use Rattle.roff_scan.proofs.unread.Unread.hold_plain.Goals as goal

pub returns-then-bytes_of-self : goal.returns-then-bytes_of-self
returns-then-bytes_of-self g c =
    let kept = kept_by c.self.inside in
    let counted = rw (← c.self.view_is) at c.pushed.ensures in
    let holding = with_plain kept.input.arguments c.args.unit in
    let longer = c.bytes_of.ensures kept.input.arguments in
    record {
      change =
          subst (λ (u : Unread _). (Err Stack, u) ≡ changing (holding_plain c.args.unit u.input) u) c.self.view_is
          (sym (plain_past_stack kept holding c.self.invariant.within c.pushed.result c.bytes_of.result counted longer
          c.if-bytes_of-self.true));
    }

pub invariant_of-self : goal.invariant_of-self
invariant_of-self g c =
    let kept = kept_by c.self.inside in
    let counted = rw (← c.self.view_is) at c.pushed.ensures in
    let holding = with_plain kept.input.arguments c.args.unit in
    let longer = c.bytes_of.ensures kept.input.arguments in
    sound-arguments c.self.inside c.self.invariant _ _ c.take_plain.ensures (NoneBegun-with_plain c.self.inside.arguments.arguments c.args.unit)
    (IsWithin-plain kept holding c.self.invariant.within c.pushed.result c.bytes_of.result counted longer c.if-bytes_of-self.false)

pub returns : goal.returns
returns g c =
    let kept = kept_by c.self.inside in
    let counted = rw (← c.self.view_is) at c.pushed.ensures in
    let holding = with_plain kept.input.arguments c.args.unit in
    let longer = c.bytes_of.ensures kept.input.arguments in
    record {
      change =
          rw c.take_plain.ensures
          (subst (λ (u : Unread _). (Ok tt, record kept { input = holding_plain c.args.unit kept.input })
          ≡ changing (holding_plain c.args.unit u.input) u) c.self.view_is
          (sym (plain_within kept holding c.self.invariant.within c.pushed.result c.bytes_of.result counted longer
          c.if-bytes_of-self.false)));
    }
