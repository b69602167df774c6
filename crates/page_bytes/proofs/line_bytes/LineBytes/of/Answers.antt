use Rattle.std.proofs.Common.{[], ◌∷◌, replicate, ◌∙◌, append_assoc}
use Rattle.page_model.specs.Columns.{finished_of, printed, trimmed}
use Rattle.page_bytes.proofs.line_bytes.LineBytes.of.Goals as goal

pub returns : goal.returns
returns c =
    c.behind_columns.ensures ∙ append_assoc (trimmed (printed (finished_of c.args.line))) (10 ∷ []) (replicate c.args.line.after 10)
