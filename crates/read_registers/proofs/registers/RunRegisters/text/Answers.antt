use Rattle.std.proofs.Common.{◌≡◌, Option, Some, sym, ap, ◌∙◌}
use Rattle.run_model.specs.Registers.{query_of, text_asked}
use Rattle.run_model.specs.declared.query.Query.{Query}
use Rattle.read_registers.proofs.registers.RunRegisters.text.Goals as goal

pub returns-in-Some : goal.returns-in-Some
returns-in-Some c = λ k facts same.
    let asked : query_of c.args.name.now ≡ Some c.in-Some.query = sym c.in-Some.ensures in
    c.text.ensures k facts ∙ ap (λ (asked : Option Query). text_asked asked k c.args.name.now) (sym asked)
