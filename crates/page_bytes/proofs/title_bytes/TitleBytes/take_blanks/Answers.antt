use Rattle.std.proofs.Common.{◌++◌, ◌≤◌, replicate, rules}
use Rattle.page_bytes.specs.TitleBytes.{parts_left}
use Rattle.page_bytes.proofs.BlanksInFront.{some_blanks}
use Rattle.page_bytes.proofs.title_bytes.TitleBytes.take_blanks.Goals as goal

pub returns-clause-taken : goal.returns-clause-taken
returns-clause-taken c =
    let a = c.args.self.now in
    let few : c.min-count.result ≤ a.blanks = search rules in
    some_blanks c.min-count.result a.blanks (a.glyphs.now ++ (parts_left a.parts ++ replicate a.newlines 10)) few
