use Rattle.std.proofs.Common.{rules, sym, take-append-drop}
use Rattle.cli_devices.proofs.memory.MemSinkByteSink.put.Goals as goal

pub returns-clause-puts : goal.returns-clause-puts
returns-clause-puts c = record {
  ok = tt;
  err = record {
    written = record {
      front = c.split_at.result.0.now;
      back = c.split_at.result.1.now;
      split = rw (c.split_at.ensures.front, c.split_at.ensures.back) (sym (take-append-drop _ _));
      written = search rules;
    };
    fault = search rules;
  };
}
