use Rattle.std.proofs.Common.{◌∙◌, ap, sym, reverse}
use Rattle.input_arguments.specs.Calls.Kept.{KeptCalls}
use Rattle.input_model.specs.Arguments.{live_bytes}
use Rattle.input_arguments.proofs.CallStack.{live_bytes-calls_in}
use Rattle.input_arguments.proofs.calls.Calls.byte_count.Goals as goal

pub returns-clause-count : goal.returns-clause-count
returns-clause-count c =
    let old = c.self.inside in
    let counted = live_bytes-calls_in (reverse old.starts.items) old.bytes.items old.ends.items c.self.invariant.stacked in
    c.len.ensures ∙ old.bytes.ok.0 ∙ sym counted ∙ ap (λ (k : KeptCalls). live_bytes k.calls) c.self.view_is
