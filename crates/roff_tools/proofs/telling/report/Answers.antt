use Rattle.std.proofs.Common.{List, ℕ, [], ◌∷◌, ◌++◌, codes, subst}
use Rattle.roff_tools.specs.Told.{Tells}
use Rattle.roff_tools.proofs.Told.{Puts-Tells}
use Rattle.roff_tools.proofs.telling.report.Goals as goal

pub returns-clause-told : goal.returns-clause-told
returns-clause-told g c =
    let told : List ℕ → Type 0 = λ text.
    Tells (g.E.MessageSink.sunk c.args.err.now) (g.E.MessageSink.sunk c.put_line.new.err) (codes "roff: " ++ text ++ 10 ∷ []) in
    subst told c.told.ensures (Puts-Tells _ _ _ _ c.put_line.ensures)
