-- The end of a called body is taken: its call is over, and what was kept in it is kept no more.
use Rattle.std.proofs.Common.{◌≡◌, ◌≤◌, ◌+◌, ℕ, Bool, true, false, List, [], ◌∷◌, length, length-drop, drop, sym, ap, arith, if◌then◌else◌, nat_le}
use Rattle.input_model.specs.Input.{Ahead, ByteAhead, FreeAhead, EndAhead, ReturnAhead, DoAhead, bytes_ahead, ends_ahead, item_taken, results_below, returns_ahead}
use Rattle.input_model.specs.Arguments.{live_bytes}
use Rattle.input_model.specs.Unread.{Unread, IsWithin}
use Rattle.input_model.specs.Shown.{ShowsReturn, shown_ahead}

-- no more is kept than before
fewer-if : (is : Bool) (calls : ℕ) (result : Bool × ℕ) (others : List (Bool × ℕ))
    → length (results_below calls others) ≤ length others
    → length (if is then results_below calls others else result ∷ others) ≤ length (result ∷ others)
fewer-if true calls result others fewer = omega (arith, fewer)
fewer-if false calls result others fewer = omega arith

pub results_below-few : (calls : ℕ) (kept : List (Bool × ℕ)) → length (results_below calls kept) ≤ length kept
results_below-few calls [] = omega arith
results_below-few calls (result ∷ others) = fewer-if (nat_le calls result.1) calls result others (results_below-few calls others)

-- nor have calls more bytes
live_bytes-few : (calls : List (List (List ℕ))) → live_bytes (drop 1 calls) ≤ live_bytes calls
live_bytes-few [] = omega arith
live_bytes-few (arguments ∷ calls) = omega arith

module _ {E : Type 0} where
  -- only one item shows the end of a called body
  pub shows_return : (back : ℕ) (item : Ahead E) → ShowsReturn back ≡ shown_ahead item → item ≡ ReturnAhead back
  shows_return back (ByteAhead b) shows = cc
  shows_return back (FreeAhead b) shows = cc
  shows_return back EndAhead shows = cc
  shows_return back (ReturnAhead other) shows = let same : back ≡ other = cc in ap (λ (n : ℕ). ReturnAhead n) (sym same)
  shows_return back (DoAhead event) shows = cc

  -- behind it one call less isn't over
  pub returns-over : (back : ℕ) (ahead behind : List (Ahead E)) (calls : List (List (List ℕ))) → ahead ≡ ReturnAhead back ∷ behind
      → returns_ahead ahead ≡ length calls → returns_ahead behind ≡ length (drop 1 calls)
  returns-over back ahead behind calls first same =
      let one : returns_ahead ahead ≡ returns_ahead behind + 1 = ap returns_ahead first in
      omega (arith, one, same, length-drop 1 calls)

  -- and no more is counted
  pub IsWithin-over : (back : ℕ) (u : Unread E) (behind : List (Ahead E)) → u.input.ahead ≡ ReturnAhead back ∷ behind → IsWithin u
      → u.input.charge + 1 ≤ u.limits.bytes → IsWithin (record u { input = item_taken (ReturnAhead back) behind u.input })
  IsWithin-over back u behind first within fits =
      let bytes : bytes_ahead u.input.ahead ≡ bytes_ahead behind = ap bytes_ahead first in
      let ends : ends_ahead u.input.ahead ≡ ends_ahead behind + 1 = ap ends_ahead first in
      record {
        charge = fits;
        newlines = omega (arith, within.newlines);
        pushed = omega (arith, bytes, live_bytes-few u.input.calls, within.pushed);
        depth = omega (arith, ends, within.depth);
        results = omega (arith, results_below-few (length u.input.calls) u.input.results, within.results);
        stored = within.stored;
        names = within.names;
        making = within.making;
      }
