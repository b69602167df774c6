-- The bytes of pieces.
use Rattle.std.proofs.Common.{◌≡◌, ℕ, zero, suc, Bool, true, false, List, [], ◌∷◌, ◌++◌, take, refl, sym, ap, ◌∙◌, arith, append_assoc, if◌then◌else◌, ◌==◌}
use Rattle.std.proofs.lemmas.Bool.Decides.{nat_tests}
use Rattle.tbl_pieces.specs.Pieces.{bytes_of, bytes_of_all}
use Rattle.tbl_pieces.specs.declared.pieces.Piece.{Piece}

module _ (block frame : List ℕ) where
  -- the bytes of pieces behind others
  pub bytes_of_all-append : (xs ys : List Piece) → bytes_of_all block frame (xs ++ ys) ≡ bytes_of_all block frame xs ++ bytes_of_all block frame ys
  bytes_of_all-append [] ys = refl
  bytes_of_all-append (x ∷ xs) ys =
      ap (λ (rest : List ℕ). bytes_of block frame x ++ rest) (bytes_of_all-append xs ys)
      ∙ sym (append_assoc (bytes_of block frame x) (bytes_of_all block frame xs) (bytes_of_all block frame ys))

  -- a piece without a byte is left out
  pub some_by : (t : Bool) (piece : Piece) (rest : List Piece) → (t ≡ true → bytes_of block frame piece ≡ [])
      → bytes_of_all block frame ((if t then [] else piece ∷ []) ++ rest) ≡ bytes_of block frame piece ++ bytes_of_all block frame rest
  some_by true piece rest none = ap (λ (bytes : List ℕ). bytes ++ bytes_of_all block frame rest) (sym (none refl))
  some_by false piece rest none = refl

  pub part-none : (n : ℕ) (bytes : List ℕ) → (n == 0) ≡ true → take n bytes ≡ []
  part-none zero [] is = refl
  part-none zero (b ∷ bytes) is = refl
  part-none (suc n) bytes is = absurd (grind (arith, nat_tests))
