use Rattle.std.proofs.Common.{ap, inl, inr}
use Rattle.roff_tools.proofs.Starting.{with_nothing}
use Rattle.roff_tools.proofs.program.main_with.Goals as goal

pub returns-in-Ok : goal.returns-in-Ok
returns-in-Ok g c =
    let sunk = g.E.BlockWrite.sunk c.args.stderr in
    let told = rw (c.in-Ok.ensures.empty, c.in-Ok.ensures.writer, with_nothing sunk) at c.run_told-exit.ensures in
    (c.run_told-exit.result.0, inl (rw (c.ended_so.ensures.stdout, c.ended_so.ensures.stderr) told), c.ended_so.ensures.exit)

pub returns-in-Err : goal.returns-in-Err
returns-in-Err g c =
    let told = rw (c.new-sink.ensures, c.in-Err.ensures.refused) at c.report-exit.ensures.told in (
      c.report-exit.result,
      inr record {
        ends = c.report-exit.ensures.exit;
        unwritten = ap g.O.BlockWrite.sunk c.ended_so-in-Err.ensures.stdout;
        tells = rw (c.ended_so-in-Err.ensures.stderr, c.into_inner.ensures) told;
      },
      c.ended_so-in-Err.ensures.exit,
    )
