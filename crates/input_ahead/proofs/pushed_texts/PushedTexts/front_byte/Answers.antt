use Rattle.std.proofs.Common.{◌≡◌, ◌-◌, ℕ, List, [], ◌∷◌, drop, length, take, rules, ap, sym, subst, ◌∙◌, arith}
use Rattle.input_ahead.proofs.Taking.{front_byte-last}
use Rattle.input_ahead.proofs.pushed_texts.PushedTexts.front_byte.Goals as goal

pub returns-then-is_empty : goal.returns-then-is_empty
returns-then-is_empty g c = λ b is.
    let found = rw (← c.self.view_is) at is in
    let last = front_byte-last _ c.self.inside.bytes.items b c.self.invariant.stacked found in
    let none : c.as_slice-bytes.result.now ≡ [] = search rules in
    absurd (omega (arith, last.0, ap (λ (bytes : List ℕ). length bytes) (sym c.as_slice-bytes.ensures.value ∙ none)))

pub returns : goal.returns
returns g c = λ b is.
    let found = rw (← c.self.view_is) at is in
    let last = front_byte-last _ c.self.inside.bytes.items b c.self.invariant.stacked found in
    let bytes = c.as_slice-bytes.result.now in
    let alone : drop (length bytes - 1) bytes ≡ b ∷ [] =
    subst (λ (all : List ℕ). drop (length all - 1) all ≡ b ∷ []) (sym c.as_slice-bytes.ensures.value) last.1 in
    let one : length bytes - (length bytes - 1) ≡ 1 = omega (arith, last.0, ap (λ (all : List ℕ). length all) c.as_slice-bytes.ensures.value) in
    ap (λ (all : List ℕ). take (length bytes - (length bytes - 1)) all) alone ∙ ap (λ (n : ℕ). take n (b ∷ [])) one
