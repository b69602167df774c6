use Rattle.run_shortcuts.proofs.line_ends.end_any_line.Goals as goal

pub returns : goal.returns
returns g c = λ failures.
    let acts = rw c.line-line.ensures at (c.take.ensures failures) in
    acts
