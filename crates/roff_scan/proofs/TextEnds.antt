-- The end of a text or of a call in front that is taken at once.
use Rattle.std.proofs.Common.{◌≡◌, ◌+◌, ◌<◌, List, ◌∷◌, refl, subst, arith}
use Rattle.input_model.specs.Input.{Ahead, EndAhead, ReturnAhead, item_taken}
use Rattle.input_model.specs.Unread.{Unread}
use Rattle.roff_scan.specs.Unread.Calls.{PassesEnd, PassesReturn}

-- one that stands ahead was taken, by the fields that keep the input
pub takes_end : {E : Type 0} (behind : List (Ahead E)) (kept before : Unread E) → kept ≡ before → kept.input.ahead ≡ EndAhead ∷ behind
    → kept.input.charge < kept.limits.bytes
    → PassesEnd before (record kept { input = record kept.input { ahead = behind; charge = kept.input.charge + 1 } })
takes_end behind kept before is front room =
    subst (λ (u : Unread _). PassesEnd u (record kept { input = record kept.input { ahead = behind; charge = kept.input.charge + 1 } })) is (record {
      behind = behind;
      in_front = front;
      input = refl;
      within = omega (arith, room);
    })

-- and that of a call
pub takes_return : {E : Type 0} (behind : List (Ahead E)) (kept before : Unread E) → kept ≡ before → kept.input.ahead ≡ ReturnAhead 0 ∷ behind
    → kept.input.charge < kept.limits.bytes → PassesReturn before (record kept { input = item_taken (ReturnAhead 0) behind kept.input })
takes_return behind kept before is front room =
    subst (λ (u : Unread _). PassesReturn u (record kept { input = item_taken (ReturnAhead 0) behind kept.input })) is (record {
      behind = behind;
      in_front = front;
      input = refl;
      within = omega (arith, room);
    })
