use Rattle.std.proofs.Common.{◌≡◌, ℕ, ◌+◌, Bool, true, false, List, [], ◌∷◌, drop, refl, ap, sym, ◌∙◌, ◌==◌, if◌then◌else◌}
use Rattle.std.proofs.Math.Seq.{drop-drop}
use Rattle.run_model.specs.Definitions.{ends_mark, line_with}
use Rattle.run_model.specs.declared.definition.DefinitionLine.TheVariants.{MayBeLast, IsLast, IsText}
use Rattle.run_model.proofs.definition.EndMark.line_with.Goals as goal

-- behind the whole mark no line may be the last one
not_behind : (m b : ℕ) (c : Bool) → MayBeLast m ≡ (if c then IsLast b else IsText) → ⊥
not_behind m b true is = cc
not_behind m b false is = cc

-- one that may be has a byte more of it in front
is_next : (m n : ℕ) (c : Bool) → MayBeLast m ≡ (if c then MayBeLast n else IsText) → (m ≡ n) × (c ≡ true)
is_next m n true is = (cc, refl)
is_next m n false is = absurd (cc)

-- so a second byte goes on behind a first one
line_with-second : (rest : List ℕ) (matched m a : ℕ) → MayBeLast m ≡ line_with rest matched (a ∷ [])
    → (m ≡ matched + 1) × ((b : ℕ) → line_with (drop 1 rest) (matched + 1) (b ∷ []) ≡ line_with rest matched (a ∷ b ∷ []))
line_with-second [] matched m a is = absurd (not_behind m a (ends_mark a) is)
line_with-second (next ∷ rest) matched m a is =
    let same = is_next m (matched + 1) (a == next) is in (same.0, λ b. rw same.1 refl)

pub returns-in-MayBeLast : goal.returns-in-MayBeLast
returns-in-MayBeLast c =
    let mark = c.args.self.now.bytes.items in
    let matched = c.in-Some.matched in
    let b = c.in-Kept.byte in
    let second = line_with-second (drop matched mark) matched c.in-MayBeLast.matched 92 c.in-MayBeLast.ensures in
    rw (c.in-Some.is, c.in-Kept.is)
    (c.line_with_byte-in-MayBeLast.ensures
    ∙ ap (λ (n : ℕ). line_with (drop n mark) n (b ∷ [])) second.0
    ∙ ap (λ (rest : List ℕ). line_with rest (matched + 1) (b ∷ [])) (sym (drop-drop 1 matched mark))
    ∙ second.1 b)
