use Rattle.std.proofs.Common.{◌≡◌, ◌==◌, ◌∙◌, false, rules}
use Rattle.read_meaning.proofs.EventsAt.{slice_get-behind}
use Rattle.read_meaning.proofs.events.break_at.Goals as goal

pub returns-clause-at : goal.returns-clause-at
returns-clause-at c =
    let later : (c.args.index == 0) ≡ false = search rules in
    c.kept_at.ensures.at ∙ slice_get-behind _ _ c.args.index later
