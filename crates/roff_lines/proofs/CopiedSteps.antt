-- Bytes that are copied into a buffer, step by step.
use Rattle.std.proofs.Common.{◌≡◌, ℕ, ◌+◌, ◌-◌, ◌<◌, ◌≤◌, List, ◌++◌, length, take, drop, subst, ap, ap₂, sym, ◌∙◌, arith, append_assoc, length-take, take-take}
use Rattle.std.specs.Simd.Lanes.{chunk, put_chunk}
use Rattle.std.proofs.Math.Seq.{take-add, take-append-add}
use Rattle.std.proofs.lemmas.Simd.{length-chunk, put_chunk_is}
use Rattle.std.proofs.lemmas.List.{take-append-le}

-- what stands up to a place within a step that was written
pub take-put_chunk : (place n r : ℕ) (out step : List ℕ) → length step ≡ n → place + n ≤ length out → r ≤ n
    → take (place + r) (put_chunk place out step) ≡ take place out ++ take r step
take-put_chunk place n r out step long room few =
    let front : List ℕ = take place out in
    let rest : List ℕ = drop (length step) (drop place out) in
    let here : place ≡ length front = omega (arith, length-take place out, room) in
    ap (take (place + r)) (put_chunk_is place out step (omega (arith, long, room))) ∙ ap (λ m. take (m + r) (front ++ (step ++ rest))) here
    ∙ take-append-add front (step ++ rest) r ∙ ap (λ (xs : List ℕ). front ++ xs) (take-append-le r step rest (omega (arith, long, few)))

-- so many bytes of a text stand in a buffer, from a place on
abbrev pub Stands : ℕ → List ℕ → List ℕ → List ℕ → ℕ → Type 0
Stands place text old out n = take (place + n) out ≡ take place old ++ take n text

-- fewer do
pub Stands-less : (place less more : ℕ) (text old out : List ℕ) → less ≤ more → place ≤ length old → Stands place text old out more
    → Stands place text old out less
Stands-less place less more text old out few room written =
    let front : List ℕ = take place old in
    let here : place ≡ length front = omega (arith, length-take place old, room) in
    sym (take-take (place + less) (place + more) out (omega (arith, few))) ∙ ap (take (place + less)) written
    ∙ ap (λ m. take (m + less) (front ++ take more text)) here ∙ take-append-add front (take more text) less
    ∙ ap (λ (xs : List ℕ). front ++ xs) (take-take less more text few)

-- and some more behind a step
pub Stands-step : (place copied n r : ℕ) (text old out : List ℕ) → copied + n ≤ length text → place + copied + n ≤ length out → r ≤ n
    → Stands place text old out copied → Stands place text old (put_chunk (place + copied) out (chunk copied n text)) (copied + r)
Stands-step place copied n r text old out within room few written =
    let sum : place + (copied + r) ≡ place + copied + r = omega arith in
    ap (λ m. take m (put_chunk (place + copied) out (chunk copied n text))) sum
    ∙ take-put_chunk (place + copied) n r out (chunk copied n text) (length-chunk copied n text within) room few
    ∙ ap₂ (λ (xs ys : List ℕ). xs ++ ys) written (take-take r n (drop copied text) few)
    ∙ append_assoc (take place old) (take copied text) (take r (drop copied text))
    ∙ ap (λ (xs : List ℕ). take place old ++ xs) (sym (take-add copied r text))

-- a last step that ends with the text covers what is left
pub Stands-last : (place copied last count n : ℕ) (text old out : List ℕ) → last + n ≡ length text → last < copied → copied < count → count ≤ length text
    → place + count + n ≤ length out → place ≤ length old → Stands place text old out copied
    → Stands place text old (put_chunk (place + last) out (chunk last n text)) count
Stands-last place copied last count n text old out ends less more within room start written =
    let sum : last + (count - last) ≡ count = omega (arith, less, more) in
    subst (Stands place text old (put_chunk (place + last) out (chunk last n text))) sum
    (Stands-step place last n (count - last) text old out (omega (arith, ends)) (omega (arith, room, less, more)) (omega (arith, ends, within))
    (Stands-less place last copied text old out (omega (arith, less)) start written))
