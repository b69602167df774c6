use Rattle.std.proofs.Common.{◌≡◌, rules, subst}
use Rattle.read_lines.specs.Reader.Taken.{TakesAs}
use Rattle.run_model.specs.Reading.Beginnings.{at_start, beginning_found}
use Rattle.run_model.specs.declared.line_state.LineState.{LineState}
use Rattle.run_model.specs.declared.line_state.LineState.TheVariants.{Branch}
use Rattle.read_lines.proofs.TakesAs.{TakesAs-read_at}
use Rattle.read_lines.proofs.reader.Reader.begin_branch.Goals as goal

pub returns-in-Some : goal.returns-in-Some
returns-in-Some c =
    let es = c.args.composer.now in
    let old = c.args.self.now in
    let u = c.args.unread.now in
    let b = c.in-Some.byte in
    let read = c.read_byte-found in
    let done = c.begin_line in
    let at : c.branch-branch.result ≡ Branch = search rules in
    let begun = subst (λ (r : LineState). TakesAs (λ k. beginning_found k read.new.self.input r read.result) es old done.new.self read.new.self done.new.unread done.result)
    at done.ensures in
    rw (c.in-Some.is, c.if-so.true)
    (TakesAs-read_at (λ k i found. beginning_found k i Branch found) at_start c.at_start.result es c.at_start.ensures old done.new.self u read.new.self done.new.unread
    read.result done.result b read.ensures.reading begun)
