use Rattle.std.proofs.Common.{◌≡◌, [], length}
use Rattle.input_ahead.proofs.input_ahead.names.drop_texts.Given as goal

abbrev pub invariant-loop-id : goal.invariant-loop-id
invariant-loop-id l = record l.texts { open_texts = [] } ≡ record l.initial.texts { open_texts = [] }

abbrev pub decreases-loop-id : goal.decreases-loop-id
decreases-loop-id l = length l.texts.open_texts
