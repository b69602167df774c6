-- What calls that change the unread input come to.
use Rattle.std.proofs.Common.{◌≡◌, Option, Some, None, Result, Ok, Err, refl, ap}
use Rattle.roff_num.specs.declared.limit.Limit.{Limit}
use Rattle.input_model.specs.Unread.{changing, input_refusal, unless_passed}
use Rattle.read_names.specs.Inputs.{InputCameTo, IsInputNow}
use Rattle.run_model.specs.Reading.Items.{PageInput, PageUnread}

-- an input that changed
pub passed_none : (refusal : Option Limit) (i : PageInput) (u behind : PageUnread) (done : Unit {0}) → (Ok done, behind) ≡ unless_passed refusal i u
    → (behind ≡ record u { input = i }) × (refusal ≡ None)
passed_none None i u behind done is = (ap (λ (answer : Result (Unit {0}) Limit × PageUnread). answer.1) is, refl)
passed_none (Some limit) i u behind done is =
    let differs = ap (λ (answer : Result (Unit {0}) Limit × PageUnread). answer.0) is in cc

pub passed_one : (refusal : Option Limit) (i : PageInput) (u behind : PageUnread) (limit : Limit) → (Err limit, behind) ≡ unless_passed refusal i u → refusal ≡ Some limit
passed_one None i u behind limit is =
    let differs = ap (λ (answer : Result (Unit {0}) Limit × PageUnread). answer.0) is in cc
passed_one (Some other) i u behind limit is =
    let same = ap (λ (answer : Result (Unit {0}) Limit × PageUnread). answer.0) is in cc

-- what a change of the input answers says what is the input now
IsInputNow-changing : (i : PageInput) (before behind : PageUnread) (result : Result (Unit {0}) Limit) → (result, behind) ≡ changing i before
    → IsInputNow i before behind result
IsInputNow-changing i before behind (Ok done) changes = passed_none (input_refusal before.limits i) i before behind done changes
IsInputNow-changing i before behind (Err limit) changes = passed_one (input_refusal before.limits i) i before behind limit changes

pub InputCameTo-changing : (i : PageInput) (before behind : PageUnread) (result : Result (Unit {0}) Limit) → (result, behind) ≡ changing i before
    → InputCameTo i before behind result
InputCameTo-changing i before behind result changes = record { becomes = λ within. IsInputNow-changing i before behind result changes }
