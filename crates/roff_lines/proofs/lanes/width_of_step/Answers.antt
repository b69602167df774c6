use Rattle.std.proofs.Common.{ℕ, List, leb, ltb, cond, bit_or, take, drop, arith, sym, ◌∙◌}
use Rattle.std.specs.Simd.Lanes.{chunk, top}
use Rattle.std.proofs.lemmas.Simd.{length-chunk, zip2_of_maps, zip2_splat, zip2_splat_left}
use Rattle.roff_num.proofs.Masks.{mask_l-lanes}
use Rattle.roff_lines.proofs.Steps.{ones-front, text_width-lanes, wide_lane}
use Rattle.roff_lines.proofs.lanes.width_of_step.Goals as goal

pub returns : goal.returns
returns c =
    let bytes : List ℕ = c.args.bytes.now in
    let v = chunk c.args.start 16 bytes in
    let long = length-chunk c.args.start 16 bytes c.requires.within in
    let lanes = zip2_of_maps bit_or _ _ v (zip2_splat (λ a b. cond (ltb a b) 255 0) v 16 128 long) (zip2_splat_left (λ a b. cond (leb a b) 255 0) 192 16 v long) in
    c.from.ensures
    ∙ ones-front (λ b. top 7 (wide_lane b)) bytes c.args.start c.args.count _ c.in_front.result c.requires.within c.requires.count
    (mask_l-lanes wide_lane v _ (omega (arith, long)) lanes) c.in_front.ensures
    ∙ sym (text_width-lanes (take c.args.count (drop c.args.start bytes)))
