use Rattle.std.proofs.Common.{◌≡◌, ℕ, false, List, [], ◌∷◌, take, replicate, refl, sym, ap, ◌∙◌, arith, ne_eqb, ◌==◌}
use Rattle.page_model.specs.Diverted.{escaped}
use Rattle.page_bytes.specs.LineBytes.Fronts.{blanks_in_front}
use Rattle.page_bytes.specs.LineBytes.Left.{spare_columns}
use Rattle.page_bytes.proofs.BlanksInFront.{first_byte}
use Rattle.page_bytes.proofs.Escaped.{escaped-first}
use Rattle.page_bytes.proofs.line_bytes.LineBytes.take_escaped.Goals as goal

-- a backslash in front is kept as two bytes
backslash : (b : ℕ) (old new : List ℕ) → old ≡ b ∷ new → b ≡ 92 → 92 ∷ 101 ∷ escaped new ≡ escaped old
backslash b old new first is_backslash = sym (ap escaped first ∙ ap (λ c. escaped (c ∷ new)) is_backslash)

pub returns-then-byte-eq92-clause-taken : goal.returns-then-byte-eq92-clause-taken
returns-then-byte-eq92-clause-taken c =
    let left = c.self.inside in
    let b : ℕ = c.in-Some.field-0-0.now in
    let same = c.self.view_is ∙ c.if-take_blank.ensures.taken in
    let none = ap blanks_in_front same ∙ c.if-take_blank.ensures.none refl in
    let first = first_byte (spare_columns left) left.gaps left.passed b left.blanks left.text.now c.in-Some.rest.now (replicate left.newlines 10)
    c.in-Some.ensures.cases.0 none in
    let is_backslash : b ≡ 92 = omega arith in
    backslash b _ _ (sym same ∙ first) is_backslash

pub returns-clause-taken : goal.returns-clause-taken
returns-clause-taken c =
    let left = c.self.inside in
    let b : ℕ = c.in-Some.field-0-0.now in
    let same = c.self.view_is ∙ c.if-take_blank.ensures.taken in
    let none = ap blanks_in_front same ∙ c.if-take_blank.ensures.none refl in
    let first = first_byte (spare_columns left) left.gaps left.passed b left.blanks left.text.now c.in-Some.rest.now (replicate left.newlines 10)
    c.in-Some.ensures.cases.0 none in
    let other : (b == 92) ≡ false = ne_eqb b 92 (λ is. absurd (omega arith)) in
    let front : c.split_at.result.0.now ≡ b ∷ [] = c.split_at.ensures.front ∙ ap (take 1) c.in-Some.ensures.cases.0 in
    escaped-first b c.split_at.result.0.now _ _ (sym same ∙ first) (c.if-take_blank.ensures.none refl) other front
