-- Bytes that are taken behind a change of what is half read, of the arguments or of the texts in the making.
use Rattle.std.proofs.Common.{◌≡◌, ℕ, List, [], ◌∷◌, ◌++◌, map, refl, sym, ap, ◌∙◌}
use Rattle.input_model.specs.Arguments.{Arguments as LineArguments}
use Rattle.input_escapes.specs.OpenEscape.{OpenEscape}
use Rattle.input_model.specs.Input.{Ahead, ByteAhead, Input, bytes_taken, counting, item_taken, lines_taken}
use Rattle.input_source.specs.Tape.{Tape}
use Rattle.input_model.specs.Unread.{Unread}
use Rattle.roff_scan.specs.Unread.Calls.{OfSource, OfTexts, PassesFront}
use Rattle.roff_scan.specs.Unread.Runs.{with_stage_of}

module _ {E : Type 0} where
  -- an input at this stage
  abbrev pub staged : List OpenEscape → LineArguments → List (List ℕ) → Input E → Input E
  staged half a texts i = record i { escapes = half; arguments = a; open_texts = texts }

  -- what is counted of bytes doesn't depend on it
  lines_taken-staged : (bytes : List ℕ) (half : List OpenEscape) (a : LineArguments) (texts : List (List ℕ)) (i : Input E)
      → lines_taken bytes (staged half a texts i) ≡ staged half a texts (lines_taken bytes i)
  lines_taken-staged [] half a texts i = refl
  lines_taken-staged (b ∷ bytes) half a texts i = lines_taken-staged bytes half a texts (counting b i)

  bytes_taken-staged : (bytes : List ℕ) (behind : List (Ahead E)) (half : List OpenEscape) (a : LineArguments) (texts : List (List ℕ)) (i : Input E)
      → bytes_taken bytes behind (staged half a texts i) ≡ staged half a texts (bytes_taken bytes behind i)
  bytes_taken-staged [] behind half a texts i = refl
  bytes_taken-staged (b ∷ bytes) behind half a texts i = bytes_taken-staged bytes behind half a texts (item_taken (ByteAhead b) (map ByteAhead bytes ++ behind) i)

  module _ (old new : Tape → Type 0) (bytes : List ℕ) (half : List OpenEscape) (a : LineArguments) (texts : List (List ℕ)) (before after : Unread E) where
    -- bytes that were taken behind a change of the stage alone were taken without it
    pub passes-staged : PassesFront old new bytes (record before { input = staged half a texts before.input }) after
        → PassesFront old new bytes before (record after { input = with_stage_of before.input after.input })
    passes-staged (OfSource passes) =
        let i : Input E = before.input in
        OfSource (record {
          ahead = passes.ahead;
          looked = passes.looked;
          in_front = passes.in_front;
          some = passes.some;
          input =
              ap (λ (u : Unread E). record u { input = with_stage_of i u.input }) passes.input
              ∙ ap (λ (j : Input E). record before { input = with_stage_of i j }) (lines_taken-staged bytes half a texts i)
              ∙ ap (λ (j : Input E). record before { input = j }) (sym (lines_taken-staged bytes i.escapes i.arguments i.open_texts i));
          within = passes.within;
        })
    passes-staged (OfTexts passes) =
        let i : Input E = before.input in
        OfTexts (record {
          behind = passes.behind;
          in_front = passes.in_front;
          stays = passes.stays;
          input =
              ap (λ (u : Unread E). record u { input = with_stage_of i u.input }) passes.input
              ∙ ap (λ (j : Input E). record before { input = with_stage_of i j }) (bytes_taken-staged bytes passes.behind half a texts i)
              ∙ ap (λ (j : Input E). record before { input = j }) (sym (bytes_taken-staged bytes passes.behind i.escapes i.arguments i.open_texts i));
          within = passes.within;
        })

    -- and it stays
    pub stage-behind : PassesFront old new bytes (record before { input = staged half a texts before.input }) after → after.input ≡ staged half a texts after.input
    stage-behind (OfSource passes) =
        let is = ap (λ (u : Unread E). u.input) passes.input ∙ lines_taken-staged bytes half a texts before.input in
        is ∙ ap (staged half a texts) (sym is)
    stage-behind (OfTexts passes) =
        let is = ap (λ (u : Unread E). u.input) passes.input ∙ bytes_taken-staged bytes passes.behind half a texts before.input in
        is ∙ ap (staged half a texts) (sym is)
