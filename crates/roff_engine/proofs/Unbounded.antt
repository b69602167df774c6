-- What a run tells of a sink behind a bound holds of the sink.
use Rattle.std.proofs.Common.{ℕ, inl, inr}
use Rattle.roff_num.specs.declared.limits.Limits.{Limits}
use Rattle.run_items.specs.Outcome.{Outcome, Runs, seen}
use Rattle.run_model.specs.declared.start.Start.{Start}
use Rattle.run_model.specs.declared.status.Status.{Status}
use Rattle.page_bytes.specs.Sinks.{Sunk, with_room}
use Rattle.input_source.specs.Tape.{Tape}

-- each outcome
outcome_through : (l : Limits) (start : Start) (t left : Tape) (status : Status) (failures failed : ℕ) (out out_new err err_new : Sunk) (room room_new : ℕ)
    → Outcome l start t left status (seen failures out (with_room err room)) (seen failed out_new (with_room err_new room_new))
    → Outcome l start t left status (seen failures out err) (seen failed out_new err_new)
outcome_through l start t left status failures failed out out_new err err_new room room_new (inl run) = inl (record {
  state = run.state;
  reaches = record {
    comes = run.reaches.comes;
    text = run.reaches.text;
    messages = run.reaches.messages;
    faults = record { source = run.reaches.faults.source; out = run.reaches.faults.out; err = run.reaches.faults.err };
  };
  ended = run.ended;
  rest = run.rest;
  fault = run.fault;
})
outcome_through l start t left status failures failed out out_new err err_new room room_new (inr (inl run)) = inr (inl (record {
  is_device = run.is_device;
  state = run.state;
  stops = record { comes = run.stops.comes; goes_on = run.stops.goes_on; text = run.stops.text; fault = run.stops.fault };
  rest = run.rest;
  messages = run.messages;
}))
outcome_through l start t left status failures failed out out_new err err_new room room_new (inr (inr (inl run))) = inr (inr (inl (record {
  is_device = run.is_device;
  state = run.state;
  comes = run.comes;
  goes_on = run.goes_on;
  text = run.text;
  messages = run.messages;
  fault = run.fault;
  output_stays = run.output_stays;
  rest = run.rest;
})))
outcome_through l start t left status failures failed out out_new err err_new room room_new (inr (inr (inr run))) = inr (inr (inr (record {
  is_device = run.is_device;
  refused = run.refused;
  text = run.text;
  messages = run.messages;
  fault = run.fault;
  output_stays = run.output_stays;
  rest = run.rest;
})))

-- a whole run
pub runs_through : (l : Limits) (start : Start) (status : Status) (old new : Tape → Type 0) (failures failed : ℕ) (out out_new err err_new : Sunk) (room room_new : ℕ)
    → Runs l start status old new (seen failures out (with_room err room)) (seen failed out_new (with_room err_new room_new))
    → Runs l start status old new (seen failures out err) (seen failed out_new err_new)
runs_through l start status old new failures failed out out_new err err_new room room_new run = record {
  taken = run.taken;
  took = run.took;
  outcome = λ left given.
      outcome_through l start _ left status failures failed out out_new err err_new room room_new (run.outcome left given);
}
