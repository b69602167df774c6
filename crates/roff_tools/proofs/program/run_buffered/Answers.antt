use Rattle.std.proofs.Common.{ap, inl, inr}
use Rattle.roff_tools.proofs.Starting.{with_nothing}
use Rattle.roff_tools.proofs.program.run_buffered.Goals as goal

pub returns-in-Ok : goal.returns-in-Ok
returns-in-Ok g c =
    let sunk = g.O.BlockWrite.sunk c.args.stdout in
    inl (rw (c.in-Ok.ensures.empty, c.in-Ok.ensures.writer, with_nothing sunk) at c.run_flushed.ensures)

pub returns-in-Err : goal.returns-in-Err
returns-in-Err g c = inr record {
  ends = c.report.ensures.exit;
  unwritten = ap g.O.BlockWrite.sunk c.in-Err.ensures.refused;
  tells = c.report.ensures.told;
}
