use Rattle.std.proofs.Common.{◌≡◌, ℕ, ◌+◌, ◌-◌, arith, subst}
use Rattle.roff_lines.specs.Env.Tells.{Begins, IsRun}
use Rattle.roff_lines.proofs.WordRuns.{IsRun-front, gaps_in-first}
use Rattle.roff_lines.proofs.env.unfilled.run_by_steps.Goals as goal

pub loop-read-init : goal.loop-read-init
loop-read-init c = record {
  some = omega arith;
  few = omega (arith, c.requires.some);
  run = Begins c.requires.first;
  gaps = gaps_in-first c.args.bytes.now (omega (arith, c.requires.some, c.requires.text)) c.requires.first;
  less = omega arith;
}

pub returns-then-run-lt-STEP-clause-run : goal.returns-then-run-lt-STEP-clause-run
returns-then-run-lt-STEP-clause-run c =
    let run = c.run_of_step in
    let read : ℕ = c.loop-read.read in
    let few : ℕ = c.min-run.result in
    let sum : read + run.result ≡ read + few + (run.result - few) = omega (arith, c.min-run.ensures) in
    IsRun-front c.args.bytes.now (read + few) (run.result - few) (subst (IsRun c.args.bytes.now) sum (run.ensures.run c.loop-read.invariant.run))
