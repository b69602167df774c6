use Rattle.std.proofs.Common.{◌≡◌, ◌+◌, [], ◌++◌, length, arith}
use Rattle.page_bytes.specs.TitleLeft.{part_left}
use Rattle.page_bytes.proofs.TitleBytes.{none_of_part, none_of_three, piece_of_first, piece_of_second, piece_of_third}
use Rattle.page_bytes.proofs.title_bytes.PartsText.take.Goals as goal

pub returns-then-is_some-clause-taken : goal.returns-then-is_some-clause-taken
returns-then-is_some-clause-taken c =
    let a = c.args.self.now in
    let left = c.take-left in
    piece_of_first left.result.blanks left.result.glyphs.now (part_left a.left) (part_left left.new.self) (part_left a.centre ++ part_left a.right)
    left.ensures.taken

pub returns-then-is_some-2-clause-taken : goal.returns-then-is_some-2-clause-taken
returns-then-is_some-2-clause-taken c =
    let a = c.args.self.now in
    let left = c.take-left in
    let centre = c.take-centre in
    let none : left.result.blanks + length left.result.glyphs.now ≡ 0 = c.is_some.ensures.none c.if-is_some.false in
    let end : part_left left.new.self ≡ [] = left.ensures.end (omega (arith, none)) in
    piece_of_second centre.result.blanks centre.result.glyphs.now (part_left a.left) (part_left left.new.self) (part_left a.centre)
    (part_left centre.new.self) (part_left a.right) (none_of_part left.result.blanks left.result.glyphs.now (part_left a.left) (part_left left.new.self) left.ensures.taken none end)
    end centre.ensures.taken

pub returns-clause-taken : goal.returns-clause-taken
returns-clause-taken c =
    let a = c.args.self.now in
    let left = c.take-left in
    let centre = c.take-centre in
    let none : left.result.blanks + length left.result.glyphs.now ≡ 0 = c.is_some.ensures.none c.if-is_some.false in
    let more : centre.result.blanks + length centre.result.glyphs.now ≡ 0 = c.is_some-2.ensures.none c.if-is_some-2.false in
    let end : part_left left.new.self ≡ [] = left.ensures.end (omega (arith, none)) in
    let end_more : part_left centre.new.self ≡ [] = centre.ensures.end (omega (arith, more)) in
    let first : part_left a.left ≡ [] =
    none_of_part left.result.blanks left.result.glyphs.now (part_left a.left) (part_left left.new.self) left.ensures.taken none end in
    let second : part_left a.centre ≡ [] =
    none_of_part centre.result.blanks centre.result.glyphs.now (part_left a.centre) (part_left centre.new.self) centre.ensures.taken more end_more in
    piece_of_third c.take.result.blanks c.take.result.glyphs.now (part_left a.left) (part_left left.new.self) (part_left a.centre)
    (part_left centre.new.self) (part_left a.right) (part_left c.take.new.self) first end second end_more c.take.ensures.taken

pub returns-clause-end : goal.returns-clause-end
returns-clause-end c nothing =
    let left = c.take-left in
    let centre = c.take-centre in
    let none : left.result.blanks + length left.result.glyphs.now ≡ 0 = c.is_some.ensures.none c.if-is_some.false in
    let more : centre.result.blanks + length centre.result.glyphs.now ≡ 0 = c.is_some-2.ensures.none c.if-is_some-2.false in
    none_of_three (part_left left.new.self) (part_left centre.new.self) (part_left c.take.new.self) (left.ensures.end (omega (arith, none)))
    (centre.ensures.end (omega (arith, more))) (c.take.ensures.end (omega (arith, nothing)))
