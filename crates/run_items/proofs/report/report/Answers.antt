use Rattle.std.proofs.Common.{List, ℕ, subst, ◌∙◌}
use Rattle.page_bytes.specs.Sinks.{Puts}
use Rattle.page_bytes.specs.Told.{told_by}
use Rattle.run_items.proofs.Bounded.{puts_told}
use Rattle.run_items.proofs.report.report.Goals as goal

pub returns : goal.returns
returns g c =
    subst (λ (piece : List ℕ). Puts (told_by g.E.MessageSink c.args.err.now) (told_by g.E.MessageSink c.put.new.self) piece c.put.result)
    (c.deref.ensures.0 ∙ c.line.ensures) (puts_told _ c.put.result c.put.ensures.puts)
