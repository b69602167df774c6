use Rattle.std.proofs.Common.{sym, subst}
use Rattle.roff_lines.specs.Env.Kept.{kept_by}
use Rattle.roff_lines.specs.Env.Stands.{Stands}
use Rattle.roff_lines.proofs.SameText.{Stands-interrupt}
use Rattle.roff_lines.proofs.env.Env.interrupt.Goals as goal

pub returns : goal.returns
returns c line_cap h s =
    Stands-interrupt (kept_by c.self.inside) line_cap h (subst (Stands line_cap h) (sym c.self.view_is) s)
