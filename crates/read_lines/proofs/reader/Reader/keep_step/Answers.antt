use Rattle.std.proofs.Common.{◌∙◌, ap}
use Rattle.read_meaning.specs.Meaning.{MeaningKept}
use Rattle.read_lines.proofs.reader.Reader.keep_step.Goals as goal

pub returns-clause-kept : goal.returns-clause-kept
returns-clause-kept c = ap (λ (kept : MeaningKept). kept.events) c.keep_line.ensures ∙ c.line.ensures
