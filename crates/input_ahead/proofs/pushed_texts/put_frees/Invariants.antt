use Rattle.std.proofs.Common.{◌≡◌, ◌≤◌, ◌+◌, ◌++◌, length, map, reverse, vec_len, vec_capacity}
use Rattle.input_model.specs.Input.{FreeAhead}
use Rattle.input_ahead.specs.PushedTexts.Standing.{standing, IsStacked}
use Rattle.input_ahead.proofs.pushed_texts.put_frees.Given as goal

abbrev pub invariant-loop-free : goal.invariant-loop-free
invariant-loop-free g l =
    let left = l.free-iterator.iter.rest.now in
    record {
      items : map FreeAhead left ++ standing (reverse l.pushed_texts.items) l.bytes ≡ map FreeAhead l.frees ++ standing (reverse l.initial.pushed_texts.items) l.bytes;
      stacked : IsStacked (reverse l.pushed_texts.items) (length l.bytes);
      room : vec_len l.pushed_texts + length left ≤ vec_capacity l.pushed_texts;
      capacity : vec_capacity l.pushed_texts ≡ vec_capacity l.initial.pushed_texts;
    }
