-- What is due: a message is told, or the input is left.
use Rattle.std.proofs.Common.{◌≡◌, Bool, true, false, [], inl, inr, refl, arith}
use Rattle.input_source.specs.Tape.{Tape}
use Rattle.run_model.specs.Reading.Items.{PageUnread}
use Rattle.run_model.specs.Run.{State, aborted, message_told}
use Rattle.run_model.specs.declared.status.Status.TheVariants.{Aborted}
use Rattle.run_items.specs.Outcome.{IsLeftOf, IsRest}
use Rattle.run_items.proofs.Halted.{IsLeftOf-looked_then}
use Rattle.run_items.proofs.Calls.{Leaves}
use Rattle.input_model.specs.Looking.{closing, is_closed, looked_then}
use Rattle.input_model.specs.declared.looked.Looked.{Looked}
use Rattle.input_model.specs.declared.looked.Looked.TheVariants.{Nothing, Byte, Closed}

-- nothing is taken, over this tape
abbrev pub IsTape : Tape → Tape → Type 0
IsTape tape t = t ≡ tape

pub Leaves-nothing : (tape : Tape) (u : PageUnread) → Leaves (IsTape tape) (IsTape tape) u u []
Leaves-nothing tape u = record {
  before = λ t may. may;
  rest = λ t may. IsLeftOf-looked_then u.looked t;
  limits = refl;
  within = λ rs none. none;
  turns = omega arith;
}

-- the state behind a message
abbrev pub behind_message : Bool → State → State
behind_message true s = aborted s
behind_message false s = message_told s

-- what is left where a run was aborted
pub rest_aborted : (tape : Tape) (s : State) → IsLeftOf tape s.tape → IsRest Aborted tape s
rest_aborted tape s (inl all) = inl all
rest_aborted tape s (inr looked) = inr (tt, looked)

-- what was looked at stays as the source is closed
pub looked-closing : (looked : Looked) (tape : Tape) → looked_then (closing looked) tape ≡ looked_then looked tape
looked-closing Nothing tape = refl
looked-closing (Byte b) tape = refl
looked-closing (Closed kept) tape = refl

pub closed-closing : (looked : Looked) → is_closed (closing looked) ≡ true
closed-closing Nothing = refl
closed-closing (Byte b) = refl
closed-closing (Closed kept) = refl
