use Rattle.std.proofs.Common.{rules}
use Rattle.roff_scan.proofs.unread.Unread.new.Goals as goal

pub invariant_of-result : goal.invariant_of-result
invariant_of-result g c = record {
  bytes = search rules;
  texts = search rules;
  store = search rules;
  once = search rules;
  arguments = search rules;
  begun = search rules;
  call_bytes = search rules;
  most_calls = search rules;
  calls = search rules;
  held = search rules;
  small = search rules;
  results = search rules;
  within = search rules;
}
