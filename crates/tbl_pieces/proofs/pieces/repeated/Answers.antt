use Rattle.std.proofs.Common.{ℕ, min, replicate, sym, ap, ◌∙◌}
use Rattle.tbl_format.proofs.Slices.{take-replicate}
use Rattle.tbl_pieces.proofs.PiecesLeft.{repeated-by}
use Rattle.tbl_pieces.proofs.pieces.repeated.Goals as goal

pub returns-in-45-clause-value : goal.returns-in-45-clause-value
returns-in-45-clause-value c =
    let n = min c.args.most 64 in
    repeated-by c.at_most.result.now n c.args.byte
    (c.at_most.ensures ∙ take-replicate c.args.most 64 45 ∙ ap (λ (b : ℕ). replicate n b) (sym c.in-45.is))

pub returns-in-61-clause-value : goal.returns-in-61-clause-value
returns-in-61-clause-value c =
    let n = min c.args.most 64 in
    repeated-by c.at_most-in-61.result.now n c.args.byte
    (c.at_most-in-61.ensures ∙ take-replicate c.args.most 64 61 ∙ ap (λ (b : ℕ). replicate n b) (sym c.in-61.is))
