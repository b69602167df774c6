use Rattle.std.proofs.Common.{◌∙◌, ap, sym, length, reverse}
use Rattle.std.proofs.lemmas.List.{length-reverse}
use Rattle.input_arguments.specs.Calls.Kept.{KeptCalls}
use Rattle.input_arguments.proofs.CallStack.{length-calls_in}
use Rattle.input_arguments.proofs.calls.Calls.len.Goals as goal

pub returns-clause-count : goal.returns-clause-count
returns-clause-count c =
    let inside = c.self.inside in
    let counted = length-calls_in (reverse inside.starts.items) inside.bytes.items inside.ends.items in
    c.len.ensures ∙ inside.starts.ok.0 ∙ sym (length-reverse inside.starts.items) ∙ sym counted
    ∙ ap (λ (k : KeptCalls). length k.calls) c.self.view_is
