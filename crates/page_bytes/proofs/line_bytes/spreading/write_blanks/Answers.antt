use Rattle.std.proofs.Common.{ap, take, ◌+◌, ◌∙◌}
use Rattle.page_bytes.proofs.StepsCopied.{blank_step}
use Rattle.page_bytes.proofs.line_bytes.spreading.write_blanks.Goals as goal

pub returns-then-count-le-STEP-clause-written : goal.returns-then-count-le-STEP-clause-written
returns-then-count-le-STEP-clause-written c =
    ap (take (c.args.place + c.args.count)) c.blank_step.ensures
    ∙ blank_step c.args.place 16 c.args.count c.args.out.now c.requires.step c.if-count-le-STEP.true
