-- What a change of the unread input comes to.
use Rattle.std.specs.Prelude.{◌≡◌, None, Some, Result, Ok, Err}
use Rattle.roff_num.specs.declared.limit.Limit.{Limit}
use Rattle.input_model.specs.Unread.{input_refusal}
use Rattle.run_model.specs.Reading.Items.{PageInput, PageUnread}

-- the input is this one now, and no count is above its limit; or a limit refuses it
abbrev pub IsInputNow : PageInput → PageUnread → PageUnread → Result (Unit {0}) Limit → Type 0
IsInputNow i before behind (Ok done) = (behind ≡ record before { input = i }) × (input_refusal before.limits i ≡ None)
IsInputNow i before behind (Err limit) = input_refusal before.limits i ≡ Some limit

-- so it became, if no count was above its limit before
pub record InputCameTo (i : PageInput) (before behind : PageUnread) (result : Result (Unit {0}) Limit) : Type 0 where
  pub becomes : input_refusal before.limits before.input ≡ None → IsInputNow i before behind result
