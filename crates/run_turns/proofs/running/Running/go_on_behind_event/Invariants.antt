use Rattle.std.proofs.Common.{ℕ}
use Rattle.run_items.specs.Outcome.{seen}
use Rattle.run_turns.proofs.StopsNext.{StoodSo}
use Rattle.page_bytes.specs.Told.{told_by}
use Rattle.run_turns.proofs.running.Running.go_on_behind_event.Given as goal

abbrev pub invariant-loop-left : goal.invariant-loop-left
invariant-loop-left g l = (failures : ℕ) → StoodSo l.fn.first l.sprung l.initial.self l.self
    (seen failures (g.O.ByteSink.sunk l.initial.out) (told_by g.E.MessageSink l.initial.err))
    (seen failures (g.O.ByteSink.sunk l.out) (told_by g.E.MessageSink l.err)) l.left

abbrev pub decreases-loop-left : goal.decreases-loop-left
decreases-loop-left g l = l.left
