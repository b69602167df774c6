use Rattle.read_obeying.proofs.acting.in_force_for.Goals as goal

pub returns-in-NumberRegister : goal.returns-in-NumberRegister
returns-in-NumberRegister c = λ l h as_given stands is asks. c.in_force.ensures l h as_given stands is
