use Rattle.std.specs.Prelude.{◌-◌, ◌≤◌, drop}
use Rattle.run_turns.specs.Running.Springing.{PutsBack}
use Rattle.run_turns.proofs.running.Running.put_back.Given as goal

-- the events from the index on were put back
abbrev pub invariant-loop-index : goal.invariant-loop-index
invariant-loop-index l = (l.first ≤ l.index) × PutsBack (drop l.index l.fn.self.interpreter.reader.meaning.events) l.fn.self l.self

abbrev pub decreases-loop-index : goal.decreases-loop-index
decreases-loop-index l = l.index - l.first
