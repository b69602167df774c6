use Rattle.std.proofs.Common.{◌∙◌}
use Rattle.read_requests.proofs.requests.response.Goals as goal

pub returns-in-Environment : goal.returns-in-Environment
returns-in-Environment c = λ k as_given knows gives.
    rw c.in-Environment.is (c.switch.ensures k as_given (c.has_left.ensures knows.limits knows.history knows.stand ∙ knows.has_left) gives.first)
