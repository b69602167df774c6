use Rattle.std.proofs.Common.{Bool, ap}
use Rattle.read_meaning.specs.Meaning.{OfLine, kept_events}
use Rattle.read_meaning.proofs.meaning.Meaning.begins_with_break.Goals as goal

pub returns-else-self-clause-others : goal.returns-else-self-clause-others
returns-else-self-clause-others c = λ other.
    let kept = c.self.inside in
    rw (← c.self.view_is) (OfLine kept.resumes kept.line (ap (λ (is_request : Bool). kept_events is_request kept.requested.items kept.resumes kept.line) other))
