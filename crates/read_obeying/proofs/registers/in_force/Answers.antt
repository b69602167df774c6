use Rattle.std.proofs.Common.{◌≡◌, ℕ, List, Option, IfSome, refl, subst}
use Rattle.run_model.specs.Registers.{Known, value_in_force}
use Rattle.run_model.specs.Run.{known_at}
use Rattle.read_registers.proofs.NumbersKept.{AreNumbersOf-shown}
use Rattle.read_obeying.proofs.registers.in_force.Goals as goal

pub returns-in-None-set_value : goal.returns-in-None-set_value
returns-in-None-set_value c = λ l h as_given stands is.
    let rs = c.args.lasting.now.all in
    let i = c.args.unread.now.input in
    let k : Known = known_at h rs i in
    let kept = c.lasting.inside in
    subst (λ (named : Option (List ℕ)). IfSome named (λ name. c.value_in_force.result ≡ value_in_force k name)) (c.in-Some.ensures as_given is)
    (c.value_in_force.ensures k (c.facts.ensures l h rs stands)
    (AreNumbersOf-shown k kept.registers kept.titles kept.last_macro c.args.lasting.now c.lasting.view_is refl))
