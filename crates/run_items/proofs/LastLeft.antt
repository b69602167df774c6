-- The last of some events: how many interrupted lines they leave, and on which line a halt in them is told.
use Rattle.std.proofs.Common.{◌≡◌, ◌≤◌, ℕ, zero, suc, Bool, true, false, List, [], ◌∷◌, ap, arith, refl, drop}
use Rattle.run_events.specs.declared.halt.Halt.{Halt}
use Rattle.run_events.specs.declared.halt.Halt.TheVariants.{Limit as Limited, Refused, Over, Output, Messages}
use Rattle.run_items.specs.Halting.{line_told}
use Rattle.run_model.proofs.LinesLeft.{left_by-fewer, most_left-few, most_left-fewer}
use Rattle.run_model.specs.PageEvents.{PageEvent}
use Rattle.run_model.specs.TurnsToCome.{left_by, most_left}

-- where none of some events leaves an interrupted line, the last of them leave none
pub none-left : (n lines : ℕ) (events : List PageEvent) → most_left events lines ≡ 0 → most_left (drop n events) 0 ≡ 0
none-left n lines [] none = drop-nothing n
  where
    drop-nothing : (n : ℕ) → most_left (drop n []) 0 ≡ 0
    drop-nothing zero = refl
    drop-nothing (suc n) = refl
none-left zero lines (e ∷ events) none =
    let fewer = left_by-fewer e 0 lines (omega arith) in
    let others = most_left-fewer events (left_by e 0) (left_by e lines) fewer in
    omega (arith, fewer, others, none)
none-left (suc n) lines (e ∷ events) none = none-left n (left_by e lines) events (omega (arith, none))

-- the last of some events leave no more interrupted lines than any of them
pub last-left : (n lines first : ℕ) (events : List PageEvent) → lines ≤ 1 → lines ≤ most_left events first → most_left (drop n events) lines ≤ most_left events first
last-left n lines first events few fewer = by (most_left events first) refl
  where
    by : (most : ℕ) → most_left events first ≡ most → most_left (drop n events) lines ≤ most_left events first
    by zero is =
        let none : lines ≡ 0 = omega (arith, fewer, is) in
        let nothing : most_left (drop n events) 0 ≡ 0 = none-left n first events is in
        let same : most_left (drop n events) lines ≡ most_left (drop n events) 0 = ap (λ (k : ℕ). most_left (drop n events) k) none in
        omega (arith, nothing, same)
    by (suc most) is = omega (arith, is, most_left-few (drop n events) lines few)

-- what isn't true is false
pub not-true : (b : Bool) → (b ≡ true → ⊥) → b ≡ false
not-true true is = absurd (is refl)
not-true false is = refl

-- a halt is told on the line of the last byte taken
pub line_told-same : (halt : Halt) (line : ℕ) → line_told halt line line ≡ line
line_told-same (Limited limit) line = refl
line_told-same (Refused limit) line = refl
line_told-same Output line = refl
line_told-same Over line = refl
line_told-same Messages line = refl
