-- What is put in a buffer of what a diversion keeps.
use Rattle.std.proofs.Common.{◌≡◌, ℕ, ◌+◌, ◌-◌, ◌*◌, ◌<◌, ◌≤◌, min, inl, inr, List, [], ◌∷◌, ◌++◌, length, take, replicate, refl, sym, ap, ◌∙◌, arith, append_assoc, append-nil, length-append}
use Rattle.std.proofs.lemmas.Bool.{cases_lt}
use Rattle.std.proofs.lemmas.List.{length-replicate, replicate-append-replicate, take_more_set}
use Rattle.std.proofs.Math.ListN.{set, length-set}
use Rattle.page_model.specs.Columns.{spaces}
use Rattle.page_model.specs.Diverted.{escaped}
use Rattle.page_bytes.specs.DivertedBytes.{TakesEscaped}
use Rattle.page_bytes.proofs.Escaped.{escaped-append}

-- a piece more
pub piece_put : (front out blanks glyphs old new all : List ℕ) → out ≡ front ++ (blanks ++ glyphs)
    → blanks ++ (glyphs ++ new) ≡ old → front ++ old ≡ all → out ++ new ≡ all
piece_put front out blanks glyphs old new all is whole before =
    ap (λ (bytes : List ℕ). bytes ++ new) is ∙ append_assoc front (blanks ++ glyphs) new
    ∙ ap (λ (bytes : List ℕ). front ++ bytes) (append_assoc blanks glyphs new ∙ whole) ∙ before

-- where an empty piece is taken, though there is room, nothing is left
none_of_length : (bytes : List ℕ) → length bytes ≤ 0 → bytes ≡ []
none_of_length [] none = refl
none_of_length (b ∷ bytes) none = absurd (omega (arith, none))

pub last_piece : (most blanks : ℕ) (glyphs old new : List ℕ) → TakesEscaped most blanks glyphs old new
    → 2 * blanks + length glyphs ≡ 0 → 0 < most → new ≡ []
last_piece most blanks glyphs old new t none room =
    let all = ap length t.whole in
    let first = length-append {A = ℕ} (escaped (spaces blanks)) (glyphs ++ new) in
    let second = length-append {A = ℕ} glyphs new in
    none_of_length new (elim (cases_lt 0 (length old)) [
      | inl some ↦ absurd (omega (arith, t.some room some, none))
      | inr empty ↦ omega (arith, all, first, second, empty)
    ])

-- one blank more as it is kept
pub blanks_kept : (count : ℕ) → escaped (spaces (count + 1)) ≡ escaped (spaces count) ++ 92 ∷ 32 ∷ []
blanks_kept count = ap escaped (sym (replicate-append-replicate count 1 32)) ∙ escaped-append (spaces count) (spaces 1)

pub two_written : (place n p : ℕ) (front xs : List ℕ) → p ≡ place + 2 * n → p + 1 < length xs → take p xs ≡ front ++ escaped (spaces n)
    → take (place + 2 * (n + 1)) (set (set xs p 92) (p + 1) 32) ≡ front ++ escaped (spaces (n + 1))
two_written place n p front xs is within before =
    let at : place + 2 * (n + 1) ≡ p + 1 + 1 = omega (arith, is) in
    let kept : List ℕ = escaped (spaces n) in
    let once : take (p + 1) (set xs p 92) ≡ take p xs ++ 92 ∷ [] = take_more_set xs p 92 (omega (arith, within)) in
    let twice : take (p + 1 + 1) (set (set xs p 92) (p + 1) 32) ≡ take (p + 1) (set xs p 92) ++ 32 ∷ [] =
    take_more_set (set xs p 92) (p + 1) 32 (omega (arith, within, length-set xs p 92)) in
    ap (λ n. take n (set (set xs p 92) (p + 1) 32)) at ∙ twice
    ∙ ap (λ (bytes : List ℕ). bytes ++ 32 ∷ []) (once ∙ ap (λ (bytes : List ℕ). bytes ++ 92 ∷ []) before)
    ∙ append_assoc (front ++ kept) (92 ∷ []) (32 ∷ []) ∙ append_assoc front kept (92 ∷ 32 ∷ [])
    ∙ ap (λ (bytes : List ℕ). front ++ bytes) (sym (blanks_kept n))

-- newlines behind what was put, as many as there is room for
pub newlines_put : (room end count newlines : ℕ) (front out old new : List ℕ) → front ++ new ≡ old → (end < room → new ≡ []) → end ≤ room
    → count ≡ min newlines (room - end) → out ≡ front ++ replicate count 10
    → out ++ (new ++ replicate (newlines - count) 10) ≡ old ++ replicate newlines 10
newlines_put room end count newlines front out old new whole ends within is put =
    elim (cases_lt end room) [
      | inl before ↦
          let none : new ≡ [] = ends before in
          let sum : count + (newlines - count) ≡ newlines = omega (arith, is) in
          let joined : replicate {A = ℕ} count 10 ++ replicate (newlines - count) 10 ≡ replicate newlines 10 =
          replicate-append-replicate count (newlines - count) 10 ∙ ap (λ n. replicate {A = ℕ} n 10) sum in
          let all : front ≡ old = sym (append-nil front) ∙ ap (λ (bytes : List ℕ). front ++ bytes) (sym none) ∙ whole in
          rw (none, put) (append_assoc front (replicate count 10) (replicate (newlines - count) 10)
          ∙ ap (λ (bytes : List ℕ). front ++ bytes) joined ∙ ap (λ (bytes : List ℕ). bytes ++ replicate newlines 10) all)
      | inr behind ↦
          let no_room : count ≡ 0 = omega (arith, is, behind) in
          let stays : newlines - count ≡ newlines = omega (arith, no_room) in
          let same : out ≡ front = put ∙ ap (λ n. front ++ replicate {A = ℕ} n 10) no_room ∙ append-nil front in
          rw (stays, same) (sym (append_assoc front new (replicate newlines 10))
          ∙ ap (λ (bytes : List ℕ). bytes ++ replicate newlines 10) whole)
    ]

-- none are put only where none were left
pub some_put : (room end count newlines : ℕ) (out old new : List ℕ) → take end out ++ new ≡ old → (end < room → new ≡ []) → 0 < room
    → count ≡ min newlines (room - end) → 0 < length (old ++ replicate newlines 10) → 0 < end + count
some_put room end count newlines out old new whole ends wide is some =
    elim (cases_lt 0 (end + count)) [
      | inl put ↦ put
      | inr none ↦
          let at : end ≡ 0 = omega (arith, none) in
          let rest : new ≡ [] = ends (omega (arith, at, wide)) in
          let empty : old ≡ [] = sym whole ∙ ap (λ n. take n out ++ new) at ∙ rest in
          absurd (omega (
            arith,
            none,
            is,
            wide,
            some,
            ap length empty,
            length-append {A = ℕ} old (replicate newlines 10),
            length-replicate {A = ℕ} newlines 10,
          ))
    ]
