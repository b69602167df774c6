use Rattle.std.proofs.Common.{◌≡◌, ◌≤◌, ℕ, ◌-◌, List, drop}
use Rattle.roff_num.specs.declared.limits.Limits.{Limits}
use Rattle.run_items.specs.Outcome.{Beginning, Seen, seen}
use Rattle.run_items.specs.Performing.{CameSoFar}
use Rattle.run_model.specs.Output.{PageHistory}
use Rattle.run_model.specs.PageEvents.{PageEvent}
use Rattle.run_model.specs.Run.{State}
use Rattle.page_bytes.specs.Sinks.{Sunk}
use Rattle.run_items.proofs.interpreter.Interpreter.perform_from.Given as goal

abbrev pub invariant-loop-event : goal.invariant-loop-event
invariant-loop-event g l = record {
  performed : (k : Limits) (t : Beginning) (before : Seen) (failures : ℕ) (err : Sunk) (s : State) (h : PageHistory) (rest : List PageEvent)
      → s.registers ≡ l.initial.self.reader.registers.all
      → CameSoFar k t before (seen failures (g.O.ByteSink.sunk l.initial.out) err) s l.initial.self.reader.meaning.events h (drop l.begin l.initial.self.reader.meaning.events) rest l.initial.self.formatter.composer
      → CameSoFar k t before (seen failures (g.O.ByteSink.sunk l.out) err) s l.initial.self.reader.meaning.events h (drop l.index l.initial.self.reader.meaning.events) rest l.self.formatter.composer;
  reader : l.self.reader ≡ l.initial.self.reader;
  from : l.begin ≤ l.index;
  same : l.index ≡ l.begin → l.self.formatter ≡ l.initial.self.formatter;
}

abbrev pub decreases-loop-event : goal.decreases-loop-event
decreases-loop-event g l = 36 - l.index
