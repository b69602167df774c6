use Rattle.std.proofs.Common.{◌≡◌, length, arith, rules}
use Rattle.page_bytes.proofs.Escaped.{TakesEscaped-piece}
use Rattle.page_bytes.proofs.diverted_bytes.DivertedBytes.take_piece.Goals as goal

pub returns-then-blanks-glyphs-gt0 : goal.returns-then-blanks-glyphs-gt0
returns-then-blanks-glyphs-gt0 c =
    let blanks = c.take_blanks-blanks in
    let glyphs = c.take_plain-glyphs in
    let none : length c.self.inside.due.now ≡ 0 = first_of (search rules, omega arith) in
    rw (← c.self.view_is)
    (TakesEscaped-piece c.args.most blanks.result c.self.inside.due.now glyphs.result.now c.self.inside.printed blanks.new.self glyphs.new.self none
    blanks.ensures.most blanks.ensures.taken glyphs.ensures.most glyphs.ensures.taken (omega arith))
