use Rattle.std.proofs.Common.{[], ◌∷◌, List, ℕ, ap, ◌∙◌}
use Rattle.page_model.specs.Diverted.{escaped}
use Rattle.page_model.specs.Titles.{title_text}
use Rattle.page_bytes.specs.TitleLeft.{title_of}
use Rattle.page_bytes.proofs.Escaped.{escaped-append}
use Rattle.page_bytes.proofs.diverted_title.DivertedTitle.of.Goals as goal

pub returns : goal.returns
returns c =
    ap (λ (bytes : List ℕ). 92 ∷ 38 ∷ escaped bytes) c.of.ensures
    ∙ ap (λ (bytes : List ℕ). 92 ∷ 38 ∷ bytes) (escaped-append (title_text (title_of c.args.title)) (10 ∷ []))
