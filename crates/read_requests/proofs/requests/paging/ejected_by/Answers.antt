use Rattle.std.proofs.Common.{ap, sym, ◌∙◌, rules, w32, FitsSigned}
use Rattle.std.proofs.lemmas.Int.{to_z-of_z}
use Rattle.roff_num.specs.Ranges.{number}
use Rattle.run_model.specs.Requests.Paging.{ejected_by, ejected_to}
use Rattle.read_requests.proofs.requests.paging.ejected_by.Goals as goal

pub returns-in-Ok : goal.returns-in-Ok
returns-in-Ok c = λ L as_given begun diverts.
    let fits : FitsSigned w32 c.in-Ok.number = search rules in
    c.ejected_to.ensures L as_given begun diverts ∙ ap (λ n. ejected_to (number n) L) (to_z-of_z w32 c.in-Ok.number fits) ∙ ap (ejected_by L) (sym c.in-Ok.is)
