-- What the code has come to is a state of the run whose messages are bounded: so many are told as the limit lets be.
use Rattle.std.proofs.Common.{◌≡◌, ℕ, ◌+◌, ◌≤◌, List, [], length, None, Result, Ok, Err, refl, ap, arith, length-append}
use Rattle.roff_num.specs.declared.limits.Limits.{Limits}
use Rattle.run_items.specs.Outcome.{Arrives, Beginning, OutputStops, Reaches, Seen}
use Rattle.run_model.specs.Run.{State, ToldLeads, initial, step, told_step, reported}
use Rattle.run_model.proofs.Leads.{told_step-within}
use Rattle.page_bytes.specs.Sinks.{Fails, Puts, Sunk, Writes, with_room}
use Rattle.page_bytes.proofs.Appending.{Writes-nothing}
use Rattle.run_items.specs.Reporting.{IsTold}
use Rattle.law_runs.proofs.Told.{told_where_within}

-- what is put is put, however much room there is
module _ {old new : Sunk} {room room_then : ℕ} (piece : List ℕ) where
  pub writes_told : Writes old new piece → Writes (with_room old room) (with_room new room_then) piece
  writes_told writes = record { written = writes.written; failures = writes.failures }

  pub fails_told : Fails old new piece → Fails (with_room old room) (with_room new room_then) piece
  fails_told fails = record {
    written = record { front = fails.written.front; back = fails.written.back; split = fails.written.split; written = fails.written.written };
    fault = fails.fault;
  }

  pub puts_told : {F : Type 0} (r : Result (Unit {0}) F) → Puts old new piece r → Puts (with_room old room) (with_room new room_then) piece r
  puts_told (Ok done) puts = record { ok = writes_told puts.ok; err = tt }
  puts_told (Err fault) puts = record { ok = tt; err = fails_told puts.err }

-- where nothing is told there is room for it
pub told_nothing : (s : Sunk) → IsTold s s []
told_nothing s = record { writes = Writes-nothing s; room = omega arith }

-- no more is told than may be where there is room for the rest
pub told-within : (s : State) (room most : ℕ) → room + length (reported s) ≡ most → length s.messages ≤ most
told-within s room most left = omega (arith, left, length-append s.messages s.last_message)

-- the run whose messages are bounded comes there
pub told_reached : (l : Limits) (t : Beginning) (before now : Seen) (s : State) → Reaches l t before now s → ToldLeads l (initial l t.start t.tape) s
told_reached l t before now s reached =
    told_where_within l (initial l t.start t.tape) s reached.comes (told-within s now.err.room l.messages reached.room)

pub arrives : (l : Limits) (t : Beginning) (before now : Seen) (s : State) → Reaches l t before now s → Arrives l t before now s
arrives l t before now s reached = record {
  comes = told_reached l t before now s reached;
  text = reached.text;
  messages = reached.messages;
  faults = reached.faults;
}

-- a step that tells nothing is one of it
pub told_step-quiet : (l : Limits) (s t : State) (room : ℕ) → s.ended ≡ None → room + length (reported s) ≡ l.messages → step l s ≡ t → t.messages ≡ s.messages
    → told_step l s ≡ t
told_step-quiet l s t room going left is quiet =
    told_step-within l s t going is (omega (arith, told-within s room l.messages left, ap length quiet))

-- so is one in which the output failed
pub told_step-failing : (l : Limits) (t : Beginning) (before now : Seen) (s : State) → OutputStops l t before now s → told_step l s ≡ step l s
told_step-failing l t before now s stops = told_step-quiet l s (step l s) now.err.room stops.goes_on stops.room refl stops.quiet

pub told_stopped : (l : Limits) (t : Beginning) (before now : Seen) (s : State) → OutputStops l t before now s → ToldLeads l (initial l t.start t.tape) s
told_stopped l t before now s stops =
    told_where_within l (initial l t.start t.tape) s stops.comes (told-within s now.err.room l.messages stops.room)
