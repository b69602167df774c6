use Rattle.std.proofs.Common.{arith}
use Rattle.roff_store.specs.Laws.{no_registers}
use Rattle.roff_store.proofs.Calls.{IsCounted-after_all, cap-after_all}
use Rattle.roff_store.proofs.laws.counted.Goals as goal

pub returns-clause-once : goal.returns-clause-once
returns-clause-once c = λ cap calls.
    (IsCounted-after_all calls (no_registers cap) (record { once = tt; within = omega arith })).once

pub returns-clause-within : goal.returns-clause-within
returns-clause-within c = λ cap calls.
    rw cap-after_all at (IsCounted-after_all calls (no_registers cap) (record { once = tt; within = omega arith })).within
