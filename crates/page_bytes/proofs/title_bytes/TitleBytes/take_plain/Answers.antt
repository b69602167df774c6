use Rattle.std.proofs.Common.{◌≡◌, ◌++◌, replicate, arith}
use Rattle.page_bytes.specs.TitleBytes.{parts_left}
use Rattle.page_bytes.proofs.Escaped.{plain_kept}
use Rattle.page_bytes.proofs.title_bytes.TitleBytes.take_plain.Goals as goal

pub returns-clause-taken : goal.returns-clause-taken
returns-clause-taken c =
    let a = c.args.self.now in
    let none : a.blanks ≡ 0 = omega arith in
    rw (none, c.split_at.ensures.front, c.split_at.ensures.back)
    (plain_kept c.args.most c.count_of_plain.result a.glyphs.now (parts_left a.parts ++ replicate a.newlines 10) c.count_of_plain.ensures.plain)
