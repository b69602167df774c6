use Rattle.std.proofs.Common.{ap, inl, inr, map, refl, string_bytes}
use Rattle.roff_tools.proofs.program.start.Goals as goal

pub returns-in-Ok : goal.returns-in-Ok
returns-in-Ok g c = inl record {
  prepared = map string_bytes c.as_slice.result.now;
  is = rw c.as_slice.ensures.value c.in-Ok.ensures.words;
  obeys = record {
    performs = c.obey.ensures.performs;
    asked = λ help. elim (c.obey.ensures.asked help) [
      | inl refused ↦ inl refused
      | inr shown ↦ inr (shown.0, ap g.E.MessageSink.sunk shown.1)
    ];
    mistaken = c.obey.ensures.mistaken;
    unwritten = λ refused. ap g.O.ByteSink.sunk (c.obey.ensures.unwritten refused);
  };
}

pub returns-in-Err : goal.returns-in-Err
returns-in-Err g c = inr record {
  ends = c.report.ensures.exit;
  unwritten = refl;
  tells = record { fault = c.in-Err.fault; names = c.in-Err.ensures.fault; told = c.report.ensures.told };
}
