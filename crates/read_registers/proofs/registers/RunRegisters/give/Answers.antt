use Rattle.std.proofs.Common.{ℕ, List, pos, ap, ◌∙◌}
use Rattle.run_model.specs.Registers.{SetTo}
use Rattle.run_model.specs.Registers.Capped.{change_admitted, after_change}
use Rattle.read_registers.specs.Lasting.{capped_of}
use Rattle.read_registers.proofs.registers.RunRegisters.give.Goals as goal

pub returns-clause-answer : goal.returns-clause-answer
returns-clause-answer c = λ t last.
    c.set.ensures.answer t last
    ∙ ap (λ (name : List ℕ). change_admitted (SetTo name c.args.value (record { 0 = pos 0 })) (capped_of c.args.self.now t last)) c.name.ensures

pub returns-clause-registers : goal.returns-clause-registers
returns-clause-registers c = λ t last.
    c.set.ensures.registers t last
    ∙ ap (λ (name : List ℕ). after_change (SetTo name c.args.value (record { 0 = pos 0 })) (capped_of c.args.self.now t last)) c.name.ensures
