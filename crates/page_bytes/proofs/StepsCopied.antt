-- Steps of a text that are copied into a buffer.
use Rattle.std.proofs.Common.{◌≡◌, ℕ, ◌+◌, ◌≤◌, List, ◌++◌, length, take, drop, ap, ◌∙◌, arith, nat_lt, take-take}
use Rattle.std.specs.List.{prefix_len}
use Rattle.std.specs.Simd.Lanes.{chunk, put_chunk}
use Rattle.std.proofs.lemmas.Simd.{length-chunk}
use Rattle.std.proofs.lemmas.List.{length-replicate}
use Rattle.std.proofs.lemmas.List.Sums.{prefix_len-le-length}
use Rattle.page_model.specs.Columns.{spaces}
use Rattle.roff_lines.proofs.CopiedSteps.{take-put_chunk}
use Rattle.page_bytes.proofs.SpreadsOver.{take-spaces}

-- so many glyphs of a step that was copied
pub copied_step : (taken end n r : ℕ) (text out : List ℕ) → taken + n ≤ length text → end + n ≤ length out
    → r ≡ prefix_len (nat_lt 32) (chunk taken n text)
    → take (end + r) (put_chunk end out (chunk taken n text)) ≡ take end out ++ take r (drop taken text)
copied_step taken end n r text out within room counted =
    let long = length-chunk taken n text within in
    let few : r ≤ n = omega (arith, counted, prefix_len-le-length (nat_lt 32) (chunk taken n text), long) in
    take-put_chunk end n r out (chunk taken n text) long room few ∙ ap (λ (xs : List ℕ). take end out ++ xs) (take-take r n (drop taken text) few)

-- so many blanks of a step of them
pub blank_step : (place n count : ℕ) (out : List ℕ) → place + n ≤ length out → count ≤ n
    → take (place + count) (put_chunk place out (spaces n)) ≡ take place out ++ spaces count
blank_step place n count out room few =
    take-put_chunk place n count out (spaces n) (length-replicate {A = ℕ} n 32) room few ∙ ap (λ (xs : List ℕ). take place out ++ xs) (take-spaces count n few)
