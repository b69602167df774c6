use Rattle.std.proofs.Common.{[], ◌∷◌, List, ℕ, ap, ◌∙◌}
use Rattle.page_model.specs.Columns.{finished_of, printed}
use Rattle.page_model.specs.Diverted.{escaped}
use Rattle.page_bytes.proofs.Escaped.{escaped-append}
use Rattle.page_bytes.proofs.diverted_bytes.DivertedBytes.of.Goals as goal

pub returns : goal.returns
returns c =
    ap (λ (bytes : List ℕ). 92 ∷ 38 ∷ escaped bytes) c.printed.ensures
    ∙ ap (λ (bytes : List ℕ). 92 ∷ 38 ∷ bytes) (escaped-append (printed (finished_of c.args.line)) (10 ∷ []))
