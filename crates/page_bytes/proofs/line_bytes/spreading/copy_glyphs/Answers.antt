use Rattle.std.proofs.Common.{ap, take, ◌+◌, ◌∙◌, arith}
use Rattle.page_bytes.proofs.StepsCopied.{copied_step}
use Rattle.page_bytes.proofs.line_bytes.spreading.copy_glyphs.Goals as goal

pub returns-then-left-ge-STEP-clause-written : goal.returns-then-left-ge-STEP-clause-written
returns-then-left-ge-STEP-clause-written c =
    let count = c.glyphs_of_step-count in
    ap (take (c.args.end + count.result)) c.copy_step.ensures
    ∙ copied_step c.args.taken c.args.end 16 count.result c.args.text.now c.args.out.now (omega (arith, c.if-left-ge-STEP.true)) c.requires.room count.ensures

pub returns-then-left-ge-HALF_STEP-clause-written : goal.returns-then-left-ge-HALF_STEP-clause-written
returns-then-left-ge-HALF_STEP-clause-written c =
    let count = c.glyphs_of_half_step-count in
    ap (take (c.args.end + count.result)) c.copy_half_step.ensures
    ∙ copied_step c.args.taken c.args.end 8 count.result c.args.text.now c.args.out.now (omega (arith, c.if-left-ge-HALF_STEP.true)) (omega (arith, c.requires.room))
    count.ensures
