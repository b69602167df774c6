use Rattle.std.proofs.Common.{List, ℕ, length, ◌-◌, ◌+◌, ◌≤◌, arith}
use Rattle.std.proofs.lemmas.List.Sums.{prefix_len-le-length}
use Rattle.std.proofs.lemmas.Simd.{length-chunk}
use Rattle.std.specs.Simd.Lanes.{chunk}
use Rattle.input_source.specs.Bytes.{is_text_byte}
use Rattle.input_source.proofs.PlainBytes.{text-ends, text-goes-on, text-last}
use Rattle.input_source.proofs.bytes.text_in_front.Goals as goal

pub returns-then-run-lt-STEP : goal.returns-then-run-lt-STEP
returns-then-run-lt-STEP c =
    text-ends c.args.bytes.now c.loop-start.start c.text_of_step-run.result (omega (arith, c.loop-start-test.true, c.if-bytes-lt-STEP.false)) c.loop-start.invariant
    c.text_of_step-run.ensures c.if-run-lt-STEP.true

pub loop-start-preserved : goal.loop-start-preserved
loop-start-preserved c =
    text-goes-on c.args.bytes.now c.loop-start.start c.text_of_step-run.result (omega (arith, c.loop-start-test.true, c.if-bytes-lt-STEP.false)) c.loop-start.invariant
    c.text_of_step-run.ensures (omega (arith, c.if-run-lt-STEP.false))

pub overflow_add-result-2 : goal.overflow_add-result-2
overflow_add-result-2 c =
    let bytes : List ℕ = c.args.bytes.now in
    let last = length bytes - 16 in
    let long = length-chunk last 16 bytes (omega (arith, c.if-bytes-lt-STEP.false)) in
    omega (arith, c.text_of_step.ensures, prefix_len-le-length is_text_byte (chunk last 16 bytes), long)

pub returns : goal.returns
returns c =
    let bytes : List ℕ = c.args.bytes.now in
    let last = length bytes - 16 in
    let inside : last + 16 ≤ length bytes = omega (arith, c.if-bytes-lt-STEP.false) in
    text-last bytes last c.text_of_step.result inside (omega (arith, c.loop-start-test.false, c.loop-start.invariant)) c.text_of_step.ensures
    (omega (arith, c.text_of_step.ensures, prefix_len-le-length is_text_byte (chunk last 16 bytes), length-chunk last 16 bytes inside)) (omega (arith, c.if-bytes-lt-STEP.false))
