use Rattle.std.proofs.Common.{◌≡◌, ℤ, Option, Some, sym, ap, ◌∙◌, rules, w32, FitsSigned}
use Rattle.std.proofs.lemmas.Int.{to_z-of_z}
use Rattle.roff_num.specs.declared.num.Num.{Num}
use Rattle.run_model.specs.Registers.{query_of, value_asked}
use Rattle.run_model.specs.declared.query.Query.{Query}
use Rattle.read_registers.proofs.registers.RunRegisters.value_in_force.Goals as goal

pub returns-in-Some : goal.returns-in-Some
returns-in-Some c = λ k facts same.
    let fits : FitsSigned w32 c.answer.result = search rules in
    let asked : query_of c.args.name.now ≡ Some c.in-Some.query = sym c.in-Some.ensures in
    ap (λ (value : ℤ). (let number : Num = record { 0 = value } in number)) (to_z-of_z w32 c.answer.result fits ∙ c.answer.ensures k facts)
    ∙ ap (λ (asked : Option Query). value_asked asked k c.args.name.now) (sym asked)
