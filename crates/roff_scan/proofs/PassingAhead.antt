-- Bytes ahead that are taken at once: what is left of the input behind them.
use Rattle.std.proofs.Common.{◌≡◌, ℕ, ◌+◌, ◌≤◌, List, [], ◌∷◌, ◌++◌, length, map, refl, ap, ◌∙◌, arith}
use Rattle.input_model.specs.Input.{Ahead, ByteAhead, Input, bytes_ahead, bytes_taken, ends_ahead, item_taken}
use Rattle.input_model.specs.Unread.{Unread, IsWithin}
use Rattle.input_model.proofs.Counts.{bytes_ahead-bytes, ends_ahead-bytes}

module _ {E : Type 0} where
  -- the input behind so many bytes ahead
  abbrev pub behind_bytes : ℕ → List (Ahead E) → Input E → Input E
  behind_bytes count behind i = record i { ahead = behind; charge = i.charge + count }

  -- bytes are taken one after another as so many are
  pub bytes_taken-is : (bytes : List ℕ) (behind : List (Ahead E)) (i : Input E) → i.ahead ≡ map ByteAhead bytes ++ behind
      → bytes_taken bytes behind i ≡ behind_bytes (length bytes) behind i
  bytes_taken-is [] behind i front =
      let same : i.charge ≡ i.charge + 0 = omega arith in
      ap (λ (items : List (Ahead E)). record i { ahead = items }) front ∙ ap (λ (n : ℕ). record i { ahead = behind; charge = n }) same
  bytes_taken-is (b ∷ bytes) behind i front =
      let same : i.charge + 1 + length bytes ≡ i.charge + length (b ∷ bytes) = omega arith in
      bytes_taken-is bytes behind (item_taken (ByteAhead b) (map ByteAhead bytes ++ behind) i) refl
      ∙ ap (λ (n : ℕ). record i { ahead = behind; charge = n }) same

  module _ (bytes : List ℕ) (behind : List (Ahead E)) (u : Unread E) (front : u.input.ahead ≡ map ByteAhead bytes ++ behind)
      (allowed : u.input.charge + length bytes ≤ u.limits.bytes) where
    -- no count is above its limit
    pub IsWithin-behind : IsWithin u → IsWithin (record u { input = behind_bytes (length bytes) behind u.input })
    IsWithin-behind within =
        let fewer = ap bytes_ahead front ∙ bytes_ahead-bytes bytes behind in
        let ends = ap ends_ahead front ∙ ends_ahead-bytes bytes behind in
        record {
          charge = allowed;
          newlines = omega (arith, within.newlines);
          pushed = omega (arith, fewer, within.pushed);
          depth = omega (arith, ends, within.depth);
          results = within.results;
          stored = within.stored;
          names = within.names;
          making = within.making;
        }
