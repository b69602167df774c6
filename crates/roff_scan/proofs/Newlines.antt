-- A newline in front that is taken at once.
use Rattle.std.proofs.Common.{◌≡◌, ◌<◌, List, [], ◌∷◌, refl, subst, arith}
use Rattle.input_source.specs.Bytes.{newline}
use Rattle.input_model.specs.Input.{Ahead, ByteAhead}
use Rattle.input_source.specs.Tape.{Tape}
use Rattle.input_model.specs.Unread.{Unread}
use Rattle.roff_scan.specs.Unread.Calls.{OfTexts, PassesFront, PassesNewline}
use Rattle.roff_scan.proofs.PassingAhead.{behind_bytes}

module _ {E : Type 0} where
  -- one that stands ahead was taken, by the fields that keep the input
  pub takes_newline : (behind : List (Ahead E)) (kept before : Unread E) → kept ≡ before → kept.input.ahead ≡ ByteAhead newline ∷ behind
      → kept.input.charge < kept.limits.bytes → PassesNewline before (record kept { input = behind_bytes 1 behind kept.input })
  takes_newline behind kept before is front room =
      subst (λ (u : Unread E). PassesNewline u (record kept { input = behind_bytes 1 behind kept.input })) is (record {
        behind = behind;
        in_front = front;
        input = refl;
        within = omega (arith, room);
      })

  -- and it is a byte that is taken there
  pub newline-ahead : (gives : Tape → Type 0) (before after : Unread E) → PassesNewline before after → PassesFront gives gives (newline ∷ []) before after
  newline-ahead gives before after passes = OfTexts (record {
    behind = passes.behind;
    in_front = passes.in_front;
    stays = record { before = λ t may. may; after = λ t may. may };
    input = passes.input;
    within = passes.within;
  })
