use Rattle.std.proofs.Common.{◌≡◌, slice_get, Some, refl, sym, ◌∙◌}
use Rattle.read_requests.specs.Request.Coded.{register_named}
use Rattle.read_requests.proofs.Numbering.{set_register-named}
use Rattle.read_requests.proofs.requests.numbering.set_register.Goals as goal

pub returns-in-Some-Some : goal.returns-in-Some-Some
returns-in-Some-Some c = λ k as_given knows gives.
    let named : Some c.in-Some-Some.name ≡ register_named as_given = sym c.in-Some-Some.is-0 ∙ c.register_named.ensures as_given gives.first in
    let second : Some c.in-Some-Some.text.now ≡ slice_get as_given 1 = rw c.in-Some-Some.is-1 at gives.second in
    c.set_to.ensures as_given
    ∙ c.numbers_given.ensures c.in-Some-Some.name as_given gives.third
    ∙ sym (set_register-named k as_given c.in-Some-Some.name c.in-Some-Some.text.now c.args.known.in_force named second (knows.in_force refl))
