use Rattle.roff_scan.proofs.Newlines.{newline-ahead}
use Rattle.roff_scan.proofs.unread.Unread.pass_newline.Goals as goal

pub returns-then-not-is_empty-clause-passes : goal.returns-then-not-is_empty-clause-passes
returns-then-not-is_empty-clause-passes g c = λ did. newline-ahead _ _ _ (c.pass_newline_ahead.ensures.passes did)
