use Rattle.std.proofs.Common.{◌≡◌, ℕ, ◌+◌, ◌-◌, ◌*◌, ◌^◌, List, min, ◌∙◌, arith}
use Rattle.page_model.specs.Titles.{part_text, title_text}
use Rattle.page_bytes.specs.TitleLeft.{title_of}
use Rattle.page_bytes.proofs.TitleBytes.{title_kept}
use Rattle.page_bytes.proofs.diverted_title.diverted_title_len.Goals as goal

pub returns : goal.returns
returns c =
    let t = c.args.title in
    let number : List ℕ = t.number.now in
    let gaps = c.title_gaps-centre_gap in
    let left = c.kept_of_part-left in
    let centre = c.kept_of_part-centre in
    let right = c.kept_of_part-right in
    let counted : c.min.result ≡ min (3 + 2 * (gaps.result.0 + gaps.result.1) + (left.result + centre.result + right.result)) (2 ^ 64 - 1) =
    omega (arith, c.min.ensures, c.from-most.ensures, c.from.ensures, c.from-2.ensures, c.from-3.ensures, c.from-4.ensures, c.from-5.ensures) in
    counted ∙ title_kept gaps.result.0 gaps.result.1 left.result centre.result right.result (part_text number t.left.now) (part_text number t.centre.now)
    (part_text number t.right.now) (title_text (title_of t)) gaps.ensures left.ensures centre.ensures right.ensures
