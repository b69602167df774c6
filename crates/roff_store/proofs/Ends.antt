-- Where the chains of texts end.
use Rattle.std.proofs.Common.{◌≡◌, ◌≢◌, ℕ, zero, suc, ◌+◌, ◌-◌, ◌<◌, ◌≤◌, length, refl, sym, subst, ◌⊎◌, ◌==◌, if◌then◌else◌, arith}
use Rattle.std.proofs.lemmas.Bool.Decides.{nat_tests}
use Rattle.roff_store.specs.declared.strand.Strand.{Strand}
use Rattle.roff_store.specs.Pool.{ends_in}
use Rattle.roff_store.specs.Chains.{Chunks, has, last_of, link, times_in, IsChain, IsStrand, IsText}

-- a chunk is one of its own
one-same : (a : ℕ) → 0 < (if a == a then 1 else 0)
one-same a = grind (arith, nat_tests)

-- and none of another
one-other : (a b : ℕ) → b < a → (if a == b then 1 else 0) ≤ 0
one-other a b less = grind (arith, nat_tests)

-- a text that has chunks ends in its last one
pub ends_in-last : (s : Strand) → 0 < s.chunks → ends_in s.last s ≡ 1
ends_in-last s some = grind (arith, nat_tests)

-- a text that doesn't end with a chunk doesn't count
pub ends_in-other : (chunk : ℕ) (s : Strand) → (0 < s.chunks → s.last ≢ chunk) → ends_in chunk s ≡ 0
ends_in-other chunk s other = grind (arith, nat_tests)

-- one at most
pub ends_in-cases : (chunk : ℕ) (s : Strand) → (ends_in chunk s ≡ 0) ⊎ ((ends_in chunk s ≡ 1) × (s.last ≡ chunk))
ends_in-cases chunk s = grind (arith, nat_tests)

module _ (m : Chunks) where
  -- the last chunk of a chain is one of the chunks
  last_of-lt : (count first need : ℕ) → IsChain m (suc count) first need → last_of m count first < length m.contents
  last_of-lt zero first need chain = chain.0.chunk
  last_of-lt (suc count) first need chain = last_of-lt count (link m first) (need - 120) chain.1

  -- and stands in the chain
  pub times_in-last : (count first : ℕ) → 0 < times_in m (suc count) first (last_of m count first)
  times_in-last zero first = omega (arith, one-same first)
  times_in-last (suc count) first = let more = times_in-last count (link m first) in omega arith

  -- a chain has no others than the chunks
  times_in-past : (count first need chunk : ℕ) → IsChain m count first need → length m.contents ≤ chunk
      → times_in m count first chunk ≡ 0
  times_in-past zero first need chunk chain past = refl
  times_in-past (suc count) first need chunk chain past =
      let more = times_in-past count (link m first) (need - 120) chunk chain.1 past in
      let here = one-other chunk first (omega (arith, chain.0.chunk)) in omega arith

  -- a strand has no others than the chunks
  pub has-past : (s : Strand) (chunk : ℕ) → IsStrand m s → length m.contents ≤ chunk → has m s chunk ≡ 0
  has-past s chunk strand past = times_in-past s.chunks s.first (s.at + s.rest) chunk strand.chain past

  -- the last chunk of a text is one of the chunks, and the text has it
  pub record HasLast (s : Strand) : Type 0 where
    pub chunk : s.last < length m.contents
    pub has : 0 < has m s s.last

  pub HasLast-text : (s : Strand) → IsText m s → 0 < s.chunks → HasLast s
  HasLast-text s text some =
      let ends = text.ends some in
      let count : suc (s.chunks - 1) ≡ s.chunks = omega arith in
      let chain = subst (λ n. IsChain m n s.first (s.at + s.rest)) (sym count) text.strand.chain in
      let chunk = last_of-lt (s.chunks - 1) s.first (s.at + s.rest) chain in
      let there = times_in-last (s.chunks - 1) s.first in
      record {
        chunk = subst (λ c. c < length m.contents) ends.last chunk;
        has = subst (λ c. 0 < has m s c) ends.last
            (subst (λ n. 0 < times_in m n s.first (last_of m (s.chunks - 1) s.first)) count there);
      }
