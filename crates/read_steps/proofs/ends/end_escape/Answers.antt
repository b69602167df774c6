use Rattle.std.proofs.Common.{rules, subst}
use Rattle.run_model.specs.Reading.{escape_ended}
use Rattle.run_model.specs.Reading.Items.{PageUnread}
use Rattle.read_lines.specs.Reader.State.{ReaderState}
use Rattle.read_lines.specs.Reader.Taken.{TakesAs}
use Rattle.read_steps.proofs.ends.end_escape.Goals as goal

pub returns-then-ends_quietly : goal.returns-then-ends_quietly
returns-then-ends_quietly c = c.ends_quietly.ensures.ends (search rules) c.args.composer.now

pub returns : goal.returns
returns c =
    let es = c.args.composer.now in
    let kept = c.ends_quietly.ensures.unchanged (search rules) in
    let done = c.end_any in
    subst (λ (s : ReaderState). TakesAs (λ k. escape_ended k s.reading c.args.unread.now.input) es s done.new.reader c.args.unread.now done.new.unread done.result) kept.0
    (subst (λ (u : PageUnread). TakesAs (λ k. escape_ended k c.ends_quietly.new.self.reading u.input) es c.ends_quietly.new.self done.new.reader u done.new.unread done.result) kept.1 done.ensures)
