use Rattle.std.proofs.Common.{◌≡◌, replicate, arith}
use Rattle.page_bytes.specs.LineBytes.Left.{spare_columns}
use Rattle.page_bytes.proofs.GlyphsSpread.{glyphs_in_front-spread, take-append-spread}
use Rattle.page_bytes.proofs.line_bytes.LineBytes.take_glyphs.Goals as goal

pub returns-clause-glyphs : goal.returns-clause-glyphs
returns-clause-glyphs c =
    let none : c.self.inside.blanks ≡ 0 = omega arith in
    rw (← c.self.view_is, none, glyphs_in_front-spread, c.split_at.ensures.front) c.count_of_glyphs.ensures.glyphs

pub returns-clause-taken : goal.returns-clause-taken
returns-clause-taken c =
    let left = c.self.inside in
    let none : left.blanks ≡ 0 = omega arith in
    rw (← c.self.view_is, none, c.split_at.ensures.front, c.split_at.ensures.back)
    (take-append-spread (spare_columns left) left.gaps left.passed _ _ left.text.now (replicate left.newlines 10) c.count_of_glyphs.ensures.glyphs)
