use Rattle.std.proofs.Common.{◌≡◌, ◌≤◌, ◌+◌, ◌++◌, length, reverse, vec_len, vec_capacity}
use Rattle.input_ahead.proofs.pushed_texts.put_few.Given as goal

abbrev pub invariant-loop-byte : goal.invariant-loop-byte
invariant-loop-byte l =
    let left = l.byte-iterator.iter.rest.now in
    record {
      items : l.bytes.items ++ reverse left ≡ l.initial.bytes.items ++ reverse l.text;
      room : vec_len l.bytes + length left ≤ vec_capacity l.bytes;
      capacity : vec_capacity l.bytes ≡ vec_capacity l.initial.bytes;
    }
