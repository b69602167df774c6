-- The last byte of a body.
use Rattle.std.proofs.Common.{◌≡◌, ℕ, zero, suc, ◌-◌, ◌<◌, ◌≤◌, List, [], ◌∷◌, ◌++◌, length, Some, None, refl, sym, ap, subst, ◌∙◌, arith, Option, slice_get, append-nil}
use Rattle.std.specs.List.{last_or}
use Rattle.roff_store.specs.declared.strand.Strand.{Strand}
use Rattle.roff_store.specs.Chains.{Chunks, bytes_of, chain_bytes, content, last_of, link, IsText}
use Rattle.roff_store.proofs.Extending.{length-text, text-filled, whole-bytes}
use Rattle.roff_store.proofs.Leaving.{chunks-enough, chunks-few}

-- the last element is the one at the last place
last-behind : (x : ℕ) (xs : List ℕ) → slice_get (x ∷ xs) (length xs) ≡ last_or (Some x) xs
last-behind x [] = refl
last-behind x (y ∷ xs) = last-behind y xs

pub last-place : (xs : List ℕ) → slice_get xs (length xs - 1) ≡ last_or None xs
last-place [] = refl
last-place (x ∷ xs) =
    let place : length (x ∷ xs) - 1 ≡ length xs = omega arith in ap (slice_get (x ∷ xs)) place ∙ last-behind x xs

-- the last of two lists is that of the second one
last-append : (o : Option ℕ) (xs ys : List ℕ) → last_or o (xs ++ ys) ≡ last_or (last_or o xs) ys
last-append o [] ys = refl
last-append o (x ∷ xs) ys = last-append (Some x) xs ys

-- and comes from it, if it has elements
last-some : (o : Option ℕ) (xs : List ℕ) → 0 < length xs → last_or o xs ≡ last_or None xs
last-some o [] some = absurd (omega arith)
last-some o (x ∷ xs) some = refl

-- the last byte of a chain is that of its last chunk
last-chain : (m : Chunks) (n first : ℕ) (o : Option ℕ) → 0 < length (content m (last_of m n first))
    → last_or o (chain_bytes m (suc n) first) ≡ last_or None (content m (last_of m n first))
last-chain m zero first o some = ap (last_or o) (append-nil (content m first)) ∙ last-some o (content m first) some
last-chain m (suc n) first o some =
    last-append o (content m first) (chain_bytes m (suc n) (link m first))
    ∙ last-chain m n (link m first) (last_or o (content m first)) some

-- a text with bytes has chunks
pub text-chunks : (m : Chunks) (s : Strand) → IsText m s → 0 < s.rest → 0 < s.chunks
text-chunks m s text some = let enough = chunks-enough m s text.strand in omega arith

-- the last byte of a text is that of its last chunk
pub last-text : (m : Chunks) (s : Strand) → length m.contents ≤ m.most → ((chunk : ℕ) → length (content m chunk) ≤ 120)
    → IsText m s → 0 < s.rest → last_or None (bytes_of m s) ≡ last_or None (content m s.last)
last-text m s within fits text some =
    let chunks = text-chunks m s text some in
    let few = chunks-few m s text.strand in
    let whole = text.whole in
    let ends = text.ends chunks in
    let filled = ends.filled in
    let held : 0 < length (content m s.last) = omega arith in
    let long = length-text m s fits (text-filled m s within text chunks) chunks in
    let count : suc (s.chunks - 1) ≡ s.chunks = omega arith in
    let chain = last-chain m (s.chunks - 1) s.first None (subst (λ c. 0 < length (content m c)) (sym ends.last) held) in
    ap (last_or None) (whole-bytes m s whole (omega arith))
    ∙ subst (λ n. last_or None (chain_bytes m n s.first) ≡ last_or None (content m s.last)) count
    (subst (λ c. last_or None (chain_bytes m (suc (s.chunks - 1)) s.first) ≡ last_or None (content m c)) ends.last chain)
