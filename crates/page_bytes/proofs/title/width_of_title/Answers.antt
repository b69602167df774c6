use Rattle.std.proofs.Common.{◌≡◌, ◌+◌, ◌∙◌, ℕ, List, false, true, arith, refl, sym}
use Rattle.page_model.specs.Glyphs.{text_width}
use Rattle.page_model.specs.TitleColumns.{centre_column, right_column}
use Rattle.page_model.specs.Words.{is_empty}
use Rattle.page_model.specs.Titles.{part_text, parts_placed}
use Rattle.page_bytes.proofs.TitleParts.{is_empty-part, parts_at, width-placed}
use Rattle.page_bytes.proofs.title.width_of_title.Goals as goal

pub returns-then-not-is_empty : goal.returns-then-not-is_empty
returns-then-not-is_empty c =
    let t = c.args.title in
    let number : List ℕ = t.number.now in
    let left : List ℕ = part_text number t.left.now in
    let centre : List ℕ = part_text number t.centre.now in
    let right : List ℕ = part_text number t.right.now in
    let at = parts_at t.length c.width_of_part-left.result c.width_of_part-centre.result c.width_of_part-right.result c.place_title.result left centre right
    c.place_title.ensures c.width_of_part-left.ensures c.width_of_part-centre.ensures c.width_of_part-right.ensures in
    let some : is_empty right ≡ false = is_empty-part number t.right.now c.requires.some ∙ (sym c.is_empty.ensures ∙ c.if-not-is_empty.true) in
    let centre_at : ℕ = centre_column t.length (text_width centre) (text_width left) in
    let wide : text_width (parts_placed t.length left centre right) ≡ right_column t.length (text_width right) (centre_at + text_width centre) + text_width right =
    width-placed t.length left centre right ∙ rw some refl in
    omega (arith, at.1, c.width_of_part-right.ensures, wide)

pub returns-then-not-is_empty-2 : goal.returns-then-not-is_empty-2
returns-then-not-is_empty-2 c =
    let t = c.args.title in
    let number : List ℕ = t.number.now in
    let left : List ℕ = part_text number t.left.now in
    let centre : List ℕ = part_text number t.centre.now in
    let right : List ℕ = part_text number t.right.now in
    let at = parts_at t.length c.width_of_part-left.result c.width_of_part-centre.result c.width_of_part-right.result c.place_title.result left centre right
    c.place_title.ensures c.width_of_part-left.ensures c.width_of_part-centre.ensures c.width_of_part-right.ensures in
    let none : is_empty right ≡ true = is_empty-part number t.right.now c.requires.some ∙ (sym c.is_empty.ensures ∙ c.if-not-is_empty.false) in
    let some : is_empty centre ≡ false = is_empty-part number t.centre.now c.requires.some ∙ (sym c.is_empty-2.ensures ∙ c.if-not-is_empty-2.true) in
    let wide : text_width (parts_placed t.length left centre right) ≡ centre_column t.length (text_width centre) (text_width left) + text_width centre =
    width-placed t.length left centre right ∙ rw (none, some) refl in
    omega (arith, at.0, c.width_of_part-centre.ensures, wide)
