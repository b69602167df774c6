use Rattle.std.proofs.Common.{◌≡◌, ℕ, ◌+◌, ◌<◌, List, ◌++◌, length, sym, ap, ◌∙◌, arith, rules}
use Rattle.page_model.specs.Columns.{spaces, trimmed}
use Rattle.page_bytes.specs.TitleLeft.{part_left}
use Rattle.page_bytes.proofs.TitleParts.{all_blank, none_left, piece_behind, piece_last, piece_left}
use Rattle.page_bytes.proofs.title.TitlePieces.next_piece.Goals as goal

pub returns-then-not-is_empty-clause-some : goal.returns-then-not-is_empty-clause-some
returns-then-not-is_empty-clause-some c =
    let left = c.take-left in
    let some : 0 < length left.result.glyphs.now = first_of (search rules, omega arith) in (
      some,
      piece_left left.result.blanks left.result.glyphs.now (part_left c.self.inside.left) (part_left left.new.self)
          (part_left c.self.inside.centre ++ part_left c.self.inside.right) left.ensures.taken left.ensures.shown some
          ∙ c.self.view_is,
    )

pub returns-then-not-is_empty-2-clause-some : goal.returns-then-not-is_empty-2-clause-some
returns-then-not-is_empty-2-clause-some c =
    let left = c.take-left in
    let centre = c.take-centre in
    let right : List ℕ = part_left c.self.inside.right in
    let none : length left.result.glyphs.now ≡ 0 = first_of (search rules, omega arith) in
    let some : 0 < length centre.result.glyphs.now = first_of (search rules, omega arith) in
    let blank = all_blank left.result.blanks left.result.glyphs.now (part_left c.self.inside.left) (part_left left.new.self) left.ensures.taken none
    (left.ensures.end none) in (
      some,
      ap (λ (bytes : List ℕ). spaces (left.result.blanks + centre.result.blanks)
          ++ (centre.result.glyphs.now ++ trimmed (bytes ++ (part_left centre.new.self ++ right)))) (left.ensures.end none)
          ∙ piece_behind left.result.blanks centre.result.blanks centre.result.glyphs.now (part_left c.self.inside.left) (part_left c.self.inside.centre)
          (part_left centre.new.self) right blank centre.ensures.taken centre.ensures.shown some
          ∙ c.self.view_is,
    )

pub returns-then-not-is_empty-3-clause-some : goal.returns-then-not-is_empty-3-clause-some
returns-then-not-is_empty-3-clause-some c =
    let left = c.take-left in
    let centre = c.take-centre in
    let right = c.take-right in
    let none : length left.result.glyphs.now ≡ 0 = first_of (search rules, omega arith) in
    let none_more : length centre.result.glyphs.now ≡ 0 = first_of (search rules, omega arith) in
    let some : 0 < length right.result.glyphs.now = first_of (search rules, omega arith) in
    let blank = all_blank left.result.blanks left.result.glyphs.now (part_left c.self.inside.left) (part_left left.new.self) left.ensures.taken none
    (left.ensures.end none) in
    let blank_more = all_blank centre.result.blanks centre.result.glyphs.now (part_left c.self.inside.centre) (part_left centre.new.self)
    centre.ensures.taken none_more (centre.ensures.end none_more) in
    let count : ℕ = left.result.blanks + centre.result.blanks + right.result.blanks in (
      some,
      ap (λ (bytes : List ℕ). spaces count ++ (right.result.glyphs.now ++ trimmed (bytes ++ (part_left centre.new.self ++ part_left right.new.self))))
          (left.ensures.end none)
          ∙ ap (λ (bytes : List ℕ). spaces count ++ (right.result.glyphs.now ++ trimmed (bytes ++ part_left right.new.self))) (centre.ensures.end none_more)
          ∙ piece_last left.result.blanks centre.result.blanks right.result.blanks right.result.glyphs.now (part_left c.self.inside.left)
          (part_left c.self.inside.centre) (part_left c.self.inside.right) (part_left right.new.self) blank blank_more right.ensures.taken right.ensures.shown some
          ∙ c.self.view_is,
    )

pub returns-clause-none : goal.returns-clause-none
returns-clause-none c =
    let left = c.take-left in
    let centre = c.take-centre in
    let right = c.take-right in
    let none : length left.result.glyphs.now ≡ 0 = first_of (search rules, omega arith) in
    let none_more : length centre.result.glyphs.now ≡ 0 = first_of (search rules, omega arith) in
    let none_last : length right.result.glyphs.now ≡ 0 = first_of (search rules, omega arith) in
    sym c.self.view_is
    ∙ none_left left.result.blanks centre.result.blanks right.result.blanks (part_left c.self.inside.left) (part_left c.self.inside.centre)
    (part_left c.self.inside.right)
    (all_blank left.result.blanks left.result.glyphs.now _ (part_left left.new.self) left.ensures.taken none (left.ensures.end none))
    (all_blank centre.result.blanks centre.result.glyphs.now _ (part_left centre.new.self) centre.ensures.taken none_more (centre.ensures.end none_more))
    (all_blank right.result.blanks right.result.glyphs.now _ (part_left right.new.self) right.ensures.taken none_last (right.ensures.end none_last))
