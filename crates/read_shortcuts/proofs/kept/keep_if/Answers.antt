use Rattle.read_shortcuts.proofs.KeptResults.{kept-none, kept-where, result-kept, result-refused}
use Rattle.read_shortcuts.proofs.kept.keep_if.Goals as goal

pub returns-then-not-keeps-clause-kept : goal.returns-then-not-keeps-clause-kept
returns-then-not-keeps-clause-kept c = λ done. kept-none c.args.keeps c.args.so c.args.unread.now c.if-not-keeps.true

pub returns-in-Ok-clause-kept : goal.returns-in-Ok-clause-kept
returns-in-Ok-clause-kept c = λ done.
    kept-where c.args.keeps c.args.so c.args.unread.now c.keep_result.new.self c.if-not-keeps.false
    (result-kept c.args.so c.args.unread.now c.keep_result.new.self c.keep_result.result c.keep_result.ensures.change c.in-Ok.is)

pub returns-in-Err-clause-unchanged : goal.returns-in-Err-clause-unchanged
returns-in-Err-clause-unchanged c = λ refused.
    result-refused c.args.so c.args.unread.now c.keep_result.new.self c.keep_result.result c.in-Err.field-0 c.keep_result.ensures.change c.in-Err.is
