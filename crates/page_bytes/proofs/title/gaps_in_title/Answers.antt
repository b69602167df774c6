use Rattle.std.proofs.Common.{◌≡◌, ◌+◌, ◌-◌, List, ◌++◌, ℕ, slice_index_or, ap, ◌∙◌, arith, if◌then◌else◌}
use Rattle.page_model.specs.Glyphs.{text_width}
use Rattle.page_model.specs.Columns.{spaces}
use Rattle.page_model.specs.TitleColumns.{centre_column, right_column}
use Rattle.page_model.specs.Words.{is_empty}
use Rattle.page_model.specs.Titles.{part_text}
use Rattle.page_bytes.specs.TitleParts.{blanks_before}
use Rattle.page_bytes.proofs.TitleParts.{is_empty-part, parts_at, title_assembled}
use Rattle.page_bytes.proofs.title.gaps_in_title.Goals as goal
use Rattle.page_bytes.proofs.title.gaps_in_title.Goals.{then-is_empty, else-is_empty}

pub returns : goal.returns
returns c =
    let t = c.args.title in
    let number : List ℕ = t.number.now in
    let left : List ℕ = part_text number t.left.now in
    let centre : List ℕ = part_text number t.centre.now in
    let right : List ℕ = part_text number t.right.now in
    let centre_at : ℕ = centre_column t.length (text_width centre) (text_width left) in
    let placed : List ℕ = c.place_title.result in
    let l : ℕ = c.args.left in
    let end : ℕ = c.if-is_empty.end in
    let second : ℕ = slice_index_or placed 1 0 - l in
    let third : ℕ = slice_index_or placed 2 0 - end in
    let at = parts_at t.length l c.args.centre c.args.right placed left centre right c.place_title.ensures
    c.requires.left c.requires.centre c.requires.right in
    let empty = is_empty-part number t.centre.now c.requires.some in
    let ends : end ≡ (if is_empty centre then text_width left else centre_at + text_width centre) =
    elim c.if-is_empty.branch [
      | then-is_empty w ↦ w.end-is ∙ rw (empty, ← c.is_empty.ensures, w.if-is_empty.true) c.requires.left
      | else-is_empty w ↦
          w.end-is ∙ rw (empty, ← c.is_empty.ensures, w.if-is_empty.false) (omega (arith, at.0, c.requires.centre))
    ] in
    let is_second : second ≡ centre_at - text_width left = omega (arith, at.0, c.requires.left) in
    let is_third : third ≡ right_column t.length (text_width right) (centre_at + text_width centre) - end = ap (λ n. n - end) at.1 in
    ap (λ (bytes : List ℕ). left ++ (bytes ++ (spaces c.gap_before-2.result ++ right))) (c.gap_before.ensures number c.requires.some)
    ∙ ap (λ (bytes : List ℕ). left ++ (blanks_before second centre ++ bytes)) (c.gap_before-2.ensures number c.requires.some)
    ∙ title_assembled 0 t.length end second third left centre right is_second is_third ends
