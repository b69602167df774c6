use Rattle.std.proofs.Common.{◌+◌, take, arith}
use Rattle.page_bytes.specs.DivertedText.{first_left}
use Rattle.page_bytes.proofs.DivertedPieces.{newlines_put, some_put}
use Rattle.page_bytes.proofs.diverted_text.DivertedText.fill.Goals as goal

pub returns-clause-whole : goal.returns-clause-whole
returns-clause-whole c =
    let text = c.fill-end in
    rw (← c.self.view_is)
    (newlines_put 256 text.result c.min-newlines.result c.self.inside.newlines (take text.result text.new.buffer)
    (take (text.result + c.min-newlines.result) c.put_newlines.new.buffer) (first_left c.self.inside.first) (first_left text.new.self) text.ensures.whole
    (λ before. text.ensures.end (omega (arith, before))) (omega arith) c.min-newlines.ensures c.put_newlines.ensures.written)

pub returns-clause-some : goal.returns-clause-some
returns-clause-some c =
    let text = c.fill-end in
    rw (← c.self.view_is)
    (some_put 256 text.result c.min-newlines.result c.self.inside.newlines text.new.buffer (first_left c.self.inside.first) (first_left text.new.self)
    text.ensures.whole (λ before. text.ensures.end (omega (arith, before))) (omega arith) c.min-newlines.ensures)
