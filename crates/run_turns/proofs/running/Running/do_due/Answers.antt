use Rattle.std.proofs.Common.{◌∙◌, sym}
use Rattle.run_turns.proofs.DueDone.{nothing_due}
use Rattle.run_turns.proofs.running.Running.do_due.Goals as goal

pub carry_out-requires : goal.carry_out-requires
carry_out-requires g c = sym c.due.ensures ∙ c.in-Some.is

pub returns-in-None : goal.returns-in-None
returns-in-None g c = λ failures out. nothing_due c.args.self.now _ (sym c.due.ensures ∙ c.in-None.is)
