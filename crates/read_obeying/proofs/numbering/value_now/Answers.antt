use Rattle.std.proofs.Common.{refl}
use Rattle.run_model.specs.Registers.{Known}
use Rattle.run_model.specs.Run.{known_at}
use Rattle.read_registers.proofs.NumbersKept.{AreNumbersOf-shown}
use Rattle.read_obeying.proofs.numbering.value_now.Goals as goal

pub returns-in-None : goal.returns-in-None
returns-in-None c = λ l h stands.
    let rs = c.args.lasting.now.all in
    let k : Known = known_at h rs c.args.unread.now.input in
    let kept = c.lasting.inside in
    c.value_in_force.ensures k (c.facts.ensures l h rs stands)
    (AreNumbersOf-shown k kept.registers kept.titles kept.last_macro c.args.lasting.now c.lasting.view_is refl)
