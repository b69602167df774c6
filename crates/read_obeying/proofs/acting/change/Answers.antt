use Rattle.std.proofs.Common.{ℕ, List, ap, ◌∙◌}
use Rattle.run_model.specs.Registers.{Remove}
use Rattle.run_model.specs.Registers.Capped.{with_change}
use Rattle.run_model.specs.Requests.Numbering.{names_given}
use Rattle.read_obeying.specs.Acting.{texts_read}
use Rattle.read_obeying.proofs.RemovedRegisters.{Changed-removed}
use Rattle.read_obeying.proofs.acting.change.Goals as goal

pub returns-in-RemoveGiven-clause-changed : goal.returns-in-RemoveGiven-clause-changed
returns-in-RemoveGiven-clause-changed c =
    let old = c.args.lasting.now in
    rw c.in-RemoveGiven.is
    (Changed-removed (names_given (texts_read c.args.unread.now)) old c.remove_given.new.lasting
    (c.remove_given.ensures ∙ ap (λ (texts : List (List ℕ)). with_change (Remove (names_given texts)) old) c.arguments.ensures))
