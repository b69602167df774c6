use Rattle.roff_lines.proofs.SameText.{Stands-count}
use Rattle.roff_lines.proofs.env.Env.count.Goals as goal

pub returns : goal.returns
returns c = Stands-count c.args.self.now
