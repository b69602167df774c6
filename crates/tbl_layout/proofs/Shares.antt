-- The parts of what is spread that fall to fronts of all gaps.
use Rattle.std.proofs.Common.{◌≡◌, ℕ, suc, zero, ◌+◌, ◌-◌, ◌*◌, ◌/◌, ◌%◌, ◌<◌, ◌≤◌, Bool, ap, subst, ◌∙◌, arith, if◌then◌else◌, ne_eqb, div-add-mod'}
use Rattle.std.proofs.Math.Nat.{add-mul-div_left}
use Rattle.std.proofs.lemmas.Nat.{div_below, le-div}
use native.Mathlib.Nat.{div-mul-le_self}
use Rattle.tbl_layout.specs.Columns.{share}

-- where there is a gap
pub share-is : (more front all : ℕ) → share more front (suc all) ≡ more * front / suc all
share-is more front all = ap (λ (t : Bool). if t then 0 else more * front / suc all) (ne_eqb (suc all) 0 (λ is. omega (arith, is)))

-- a longer front has no less
pub share-grows : (more front gap all : ℕ) → share more front all ≤ share more (front + gap) all
share-grows more front gap zero = omega arith
share-grows more front gap (suc all) =
    let grows = le-div (more * front / suc all) (more * (front + gap)) (suc all) (omega arith)
    (omega (arith, div-mul-le_self (more * front) (suc all))) in
    omega (arith, grows, share-is more front all, share-is more (front + gap) all)

-- and none more than all
share-within : (more front behind : ℕ) → share more front (front + behind) ≤ more
share-within more zero zero = omega arith
share-within more zero (suc behind) =
    let below = div_below (more * zero) (suc behind) (more + 1) (omega arith) (omega arith) in
    let same : share more zero (zero + suc behind) ≡ share more zero (suc behind) = ap (λ (n : ℕ). share more zero n) (omega arith) in
    omega (arith, same, below, share-is more zero behind)
share-within more (suc front) behind =
    let below = div_below (more * suc front) (suc (front + behind)) (more + 1) (omega arith) (omega arith) in
    let same : share more (suc front) (suc front + behind) ≡ share more (suc front) (suc (front + behind)) =
    ap (λ (n : ℕ). share more (suc front) n) (omega arith) in
    omega (arith, same, below, share-is more (suc front) (front + behind))

pub share-most : (more front all : ℕ) → front ≤ all → share more front all ≤ more
share-most more front all within =
    subst (λ (n : ℕ). share more front n ≤ more) (omega (arith, within)) (share-within more front (all - front))

-- the front of a spread, whole parts apart: these are alike for all that it is spread over
parts-front : (n more count : ℕ) → 0 < count → n * more / count ≡ n * (more % count) / count + n * (more / count)
parts-front n more count some =
    let split : n * (more / count * count + more % count) ≡ n * more = ap (λ (m : ℕ). n * m) (div-add-mod' more count) in
    let whole : n * more ≡ n * (more % count) + count * (n * (more / count)) = omega (arith, split) in
    ap (λ (m : ℕ). m / count) whole ∙ add-mul-div_left (n * (more % count)) (n * (more / count)) some

-- a longer front of what is spread evenly has no less
pub part-grows : (at more count : ℕ) → 0 < count → at * more / count ≤ (at + 1) * more / count
part-grows at more count some =
    le-div (at * more / count) ((at + 1) * more) count some (omega (arith, div-mul-le_self (at * more) count))

-- so the part of one is a whole part, and what its front adds to the rest
pub part-is : (at more count : ℕ) → 0 < count
    → more / count + ((at + 1) * (more % count) / count - at * (more % count) / count) ≡ suc at * more / count - at * more / count
part-is at more count some =
    let next : suc at * more / count ≡ (at + 1) * more / count = ap (λ (n : ℕ). n * more / count) (omega arith) in
    let grows = part-grows at (more % count) count some in
    omega (arith, next, grows, parts-front (at + 1) more count some, parts-front at more count some)
