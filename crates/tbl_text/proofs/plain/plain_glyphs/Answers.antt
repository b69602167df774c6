use Rattle.std.proofs.Common.{ap, sym, ◌∙◌, arith, ne_eqb, eq-eqb}
use Rattle.tbl_text.specs.Measuring.{len_of}
use Rattle.tbl_text.proofs.PlainTexts.{glyphs-last, glyphs-shorter}
use Rattle.tbl_text.proofs.plain.plain_glyphs.Goals as goal

pub returns-then-bytes-len-ne32-clause-value : goal.returns-then-bytes-len-ne32-clause-value
returns-then-bytes-len-ne32-clause-value c =
    sym (glyphs-last c.args.bytes.now c.loop-len.len c.requires c.loop-len-test.true c.loop-len.invariant.within (ne_eqb _ 32 c.if-bytes-len-ne32.true))
    ∙ ap len_of c.loop-len.invariant.same

pub loop-len-preserved : goal.loop-len-preserved
loop-len-preserved c = record {
  within = omega (arith, c.loop-len.invariant.within);
  same =
      sym (glyphs-shorter c.args.bytes.now c.loop-len.len c.requires c.loop-len-test.true c.loop-len.invariant.within (eq-eqb _ 32 c.if-bytes-len-ne32.false))
      ∙ c.loop-len.invariant.same;
}
