use Rattle.std.proofs.Common.{◌≡◌, false, ◌++◌, map, length, string_bytes}
use Rattle.cli_words.specs.Preparing.{words_prepared}
use Rattle.cli_words.proofs.preparing.prepare_words.Given as goal

-- those prepared, and what becomes of the rest
abbrev pub invariant-loop-word : goal.invariant-loop-word
invariant-loop-word l =
    map string_bytes l.prepared.items ++ words_prepared l.are_files (map string_bytes l.rest) ≡ words_prepared false (map string_bytes l.words)

abbrev pub decreases-loop-word : goal.decreases-loop-word
decreases-loop-word l = length l.rest
