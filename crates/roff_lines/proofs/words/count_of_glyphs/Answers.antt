use Rattle.std.proofs.Common.{◌<◌, length, arith, nat_lt}
use Rattle.std.proofs.lemmas.List.Sums.{prefix_len-le-length}
use Rattle.std.proofs.lemmas.Simd.{length-chunk}
use Rattle.std.specs.Simd.Lanes.{chunk}
use Rattle.roff_lines.proofs.GlyphsInFront.{glyphs_in_front-more, glyphs_in_front-step}
use Rattle.roff_lines.proofs.words.count_of_glyphs.Goals as goal

pub loop-count-preserved : goal.loop-count-preserved
loop-count-preserved c =
    let text = c.args.text.now in
    let l = c.loop-count in
    let room = c.if-text-count-ge-STEP.true in
    record {
      text = omega (arith, room, c.glyphs_of_step-run.ensures, prefix_len-le-length (nat_lt 32) (chunk l.count 16 text), length-chunk l.count 16 text (omega (arith, room)));
      glyphs = glyphs_in_front-step text l.count l.invariant.glyphs 16 c.glyphs_of_step-run.result c.glyphs_of_step-run.ensures;
    }

pub loop-count-2-preserved : goal.loop-count-2-preserved
loop-count-2-preserved c =
    let text = c.args.text.now in
    let l = c.loop-count-2 in
    let within : l.count < length text = omega (arith, c.loop-count-2-test.true, c.min-end.ensures) in
    record {
      text = omega (arith, within);
      glyphs = glyphs_in_front-more text l.count l.invariant.glyphs within c.if-text-count-gt32.true;
    }
