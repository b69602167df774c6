-- What a change of the unread input says, by whether a limit refused it.
use Rattle.std.proofs.Common.{◌≡◌, ◌≤◌, ℕ, Option, Some, None, Result, Ok, Err, ap, arith, refl, false, nat_lt}
use Rattle.std.proofs.lemmas.Bool.Decides.{nat_tests}
use Rattle.roff_num.specs.declared.limit.Limit.{Limit}
use Rattle.input_model.specs.Unread.{unless_passed}
use Rattle.run_model.specs.Reading.Items.{PageInput, PageUnread}

-- what no test finds above a limit isn't
pub not_above : (n most : ℕ) → nat_lt most n ≡ false → n ≤ most
not_above n most none = grind (arith, nat_tests, none)

-- what a change of the input says that was made
pub changed-Ok : (refused : Option Limit) (i : PageInput) (u v : PageUnread) → (Ok tt, v) ≡ unless_passed refused i u
    → (refused ≡ None) × (v ≡ record u { input = i })
changed-Ok None i u v is = (refl, ap (λ (p : Result (Unit {0}) Limit × PageUnread). p.1) is)
changed-Ok (Some limit) i u v is = (let wrong = ap (λ (p : Result (Unit {0}) Limit × PageUnread). p.0) is in cc)

-- and one that was refused
pub changed-Err : (refused : Option Limit) (limit : Limit) (i : PageInput) (u v : PageUnread) → (Err limit, v) ≡ unless_passed refused i u
    → (refused ≡ Some limit) × (v ≡ u)
changed-Err None limit i u v is = (let wrong = ap (λ (p : Result (Unit {0}) Limit × PageUnread). p.0) is in cc)
changed-Err (Some other) limit i u v is = (
  (let same = ap (λ (p : Result (Unit {0}) Limit × PageUnread). p.0) is in cc),
  ap (λ (p : Result (Unit {0}) Limit × PageUnread). p.1) is,
)
