use Rattle.std.proofs.Common.{◌≡◌, length}
use Rattle.input_model.specs.Input.{outermost_back}
use Rattle.input_ahead.proofs.input_ahead.InputAhead.clear.Given as goal

abbrev pub invariant-loop-self : goal.invariant-loop-self
invariant-loop-self g l = record {
  texts : l.self.texts ≡ l.initial.self.texts;
  most_bytes : l.self.most_bytes ≡ l.initial.self.most_bytes;
  most_texts : l.self.most_texts ≡ l.initial.self.most_texts;
  back : outermost_back l.outermost l.self.ahead ≡ outermost_back 0 l.initial.self.ahead;
}

abbrev pub decreases-loop-self : goal.decreases-loop-self
decreases-loop-self g l = length l.self.ahead
