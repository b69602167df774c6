use Rattle.std.proofs.Common.{ap, sym, ◌∙◌}
use Rattle.read_definitions.specs.CopiedLines.{AsTheyStand, ThenDoubled, is_doubled}
use Rattle.read_definitions.proofs.copied.piece_len.Goals as goal

pub returns-then-is_doubled : goal.returns-then-is_doubled
returns-then-is_doubled c =
    ThenDoubled c.copied_len-count.result.1 c.copied_len-count.result.0 c.copied_len-count.ensures
    (ap is_doubled (sym c.split_at.ensures.back) ∙ sym c.is_doubled.ensures ∙ c.if-is_doubled.true)

pub returns : goal.returns
returns c =
    AsTheyStand c.copied_len-count.result.1 c.copied_len-count.result.0 c.copied_len-count.ensures
    (ap is_doubled (sym c.split_at.ensures.back) ∙ sym c.is_doubled.ensures ∙ c.if-is_doubled.false)
