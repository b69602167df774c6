use Rattle.std.proofs.Common.{◌≡◌, length, arith, rules}
use Rattle.page_bytes.specs.TitleBytes.{bytes_of_title}
use Rattle.page_bytes.proofs.Escaped.{TakesEscaped-piece}
use Rattle.page_bytes.proofs.diverted_title.DivertedTitle.take_piece.Goals as goal

pub returns-then-blanks-glyphs-gt0 : goal.returns-then-blanks-glyphs-gt0
returns-then-blanks-glyphs-gt0 c =
    let blanks = c.take_blanks-blanks in
    let glyphs = c.take_plain-glyphs in
    let none : length c.self.inside.due.now ≡ 0 = first_of (search rules, omega arith) in
    rw (← c.self.view_is)
    (TakesEscaped-piece c.args.most blanks.result c.self.inside.due.now glyphs.result.now (bytes_of_title c.self.inside.printed)
    (bytes_of_title blanks.new.self) (bytes_of_title glyphs.new.self) none blanks.ensures.most blanks.ensures.taken glyphs.ensures.most glyphs.ensures.taken
    (omega arith))
