-- What a chain is once its last chunk has more bytes, or a chunk is linked behind it.
use Rattle.std.proofs.Common.{◌≡◌, ◌≢◌, ℕ, zero, suc, ◌+◌, ◌-◌, ◌*◌, ◌<◌, ◌≤◌, List, ◌++◌, length, refl, sym, ap, subst, arith, length-append, ◌==◌, if◌then◌else◌, eq-eqb, append_assoc, append-nil}
use Rattle.roff_store.specs.Chains.{Chunks, chain_bytes, content, last_of, link, times_in, IsChain, IsPart}

-- a chain comes to a chunk behind so many others, each of which is another one
abbrev pub ComesTo : Chunks → ℕ → ℕ → ℕ → Type 0
ComesTo m zero first last = first ≡ last
ComesTo m (suc n) first last = (first ≢ last) × ComesTo m n (link m first) last

-- a chain of a chunk more than this number holds so many bytes, to the end of its last chunk
pub record IsFilled (m : Chunks) (n first last need : ℕ) : Type 0 where
  pub chain : IsChain m (suc n) first need
  pub comes : ComesTo m n first last
  pub filled : length (content m last) + 120 * n ≡ need

-- no chunk comes behind the last one of a chain, so it is none of the others
pub comes_to : (m : Chunks) (n first last need : ℕ) → length m.contents ≤ m.most → IsChain m (suc n) first need
    → last_of m n first ≡ last → m.most ≤ link m last → ComesTo m n first last
comes_to m zero first last need within chain ends none = ends
comes_to m (suc n) first last need within chain ends none = (
  λ same.
      let behind = chain.1.0.chunk in
      let there : m.most ≤ link m first = subst (λ chunk. m.most ≤ link m chunk) (sym same) none in
      omega arith,
  comes_to m n (link m first) last (need - 120) within chain.1 ends none,
)

-- and that chunk is the last one
pub last_comes : (m : Chunks) (n first last : ℕ) → ComesTo m n first last → last_of m n first ≡ last
last_comes m zero first last comes = comes
last_comes m (suc n) first last comes = last_comes m n (link m first) last comes.1

-- it stands in the chain
pub times-last : (m : Chunks) (n first last : ℕ) → ComesTo m n first last → 0 < times_in m (suc n) first last
times-last m zero first last comes = rw (eq-eqb last first (sym comes)) (omega arith)
times-last m (suc n) first last comes = let behind = times-last m n (link m first) last comes.1 in omega arith

-- what comes behind the first chunk
filled-behind : (m : Chunks) (n first last need : ℕ) → IsFilled m (suc n) first last need
    → IsFilled m n (link m first) last (need - 120)
filled-behind m n first last need f = record {
  chain = f.chain.1;
  comes = f.comes.1;
  filled = let whole = f.filled in omega arith;
}

-- such a chain has no other bytes
pub length-filled : (m : Chunks) (n first last need : ℕ) → ((chunk : ℕ) → length (content m chunk) ≤ 120)
    → IsFilled m n first last need → length (chain_bytes m (suc n) first) ≡ need
length-filled m zero first last need fits f =
    let here : length (content m first) ≡ need = rw f.comes (let whole = f.filled in omega arith) in
    rw (append-nil (content m first)) here
length-filled m (suc n) first last need fits f =
    let behind = length-filled m n (link m first) last (need - 120) fits (filled-behind m n first last need f) in
    let held = f.chain.0.held in
    let short = fits first in
    let whole = f.filled in
    rw (length-append (content m first) (chain_bytes m (suc n) (link m first))) (omega arith)

-- a chunk has got more bytes, and the others are as they were
pub record IsGrown (last : ℕ) (more : List ℕ) (m m' : Chunks) : Type 0 where
  pub most : m'.most ≡ m.most
  pub chunks : length m'.contents ≡ length m.contents
  pub others : (chunk : ℕ) → chunk ≢ last → content m' chunk ≡ content m chunk
  pub links : (chunk : ℕ) → link m' chunk ≡ link m chunk
  pub shares : m'.shares ≡ m.shares
  pub grown : content m' last ≡ content m last ++ more

module _ (last : ℕ) (more : List ℕ) (m m' : Chunks) (g : IsGrown last more m m') where
  -- a chain whose last chunk has got longer is one of more bytes
  pub filled-grown : (n first need : ℕ) → IsFilled m n first last need → length (content m last) + length more ≤ 120
      → IsFilled m' n first last (need + length more)
  filled-grown zero first need f room =
      let whole = f.filled in
      let some = f.chain.0.some in
      let count = f.chain.0.chunk in
      let longer : length (content m' last) ≡ need + length more =
      rw (g.grown, length-append (content m last) more) (omega arith) in
      record {
        chain = (
          record {
            chunk = rw g.chunks count;
            some = omega arith;
            held = rw f.comes (omega arith);
          },
          omega arith,
        );
        comes = f.comes;
        filled = omega arith;
      }
  filled-grown (suc n) first need f room =
      let whole = f.filled in
      let held = f.chain.0.held in
      let behind = filled-grown n (link m first) (need - 120) (filled-behind m n first last need f) room in
      let left : need - 120 + length more ≡ need + length more - 120 = omega arith in
      let chain = subst (λ k. IsChain m' (suc n) (link m first) k) left behind.chain in
      record {
        chain = (
          record {
            chunk = rw g.chunks f.chain.0.chunk;
            some = omega arith;
            held = rw (g.others first f.comes.0) (omega arith);
          },
          subst (λ next. IsChain m' (suc n) next (need + length more - 120)) (sym (g.links first)) chain,
        );
        comes = (f.comes.0, subst (λ next. ComesTo m' n next last) (sym (g.links first)) behind.comes);
        filled = let all = behind.filled in omega arith;
      }

  -- its bytes are the old ones and then those
  pub bytes-grown : (n first : ℕ) → ComesTo m n first last → chain_bytes m' (suc n) first ≡ chain_bytes m (suc n) first ++ more
  bytes-grown zero first comes =
      let here : content m' first ≡ content m first ++ more = rw comes g.grown in
      rw (here, append-nil (content m first ++ more), append-nil (content m first)) refl
  bytes-grown (suc n) first comes =
      rw (g.others first comes.0, g.links first, bytes-grown n (link m first) comes.1)
      (sym (append_assoc (content m first) (chain_bytes m (suc n) (link m first)) more))

  -- and its chunks the same
  pub times-grown : (n first chunk : ℕ) → times_in m' n first chunk ≡ times_in m n first chunk
  times-grown zero first chunk = refl
  times-grown (suc n) first chunk =
      rw (g.links first) (ap (λ times. (if chunk == first then 1 else 0) + times) (times-grown n (link m first) chunk))

-- a chunk is linked behind another one, and has bytes; the others are as they were
pub record IsLinked (last chunk : ℕ) (m m' : Chunks) : Type 0 where
  pub chunks : length m.contents ≤ length m'.contents
  pub there : chunk < length m'.contents
  pub contents : (other : ℕ) → other ≢ chunk → content m' other ≡ content m other
  pub links : (other : ℕ) → other ≢ last → link m' other ≡ link m other
  pub linked : link m' last ≡ chunk

-- where it doesn't stand in a chain, it isn't the first chunk of it
fresh-first : (m : Chunks) (n first chunk : ℕ) → times_in m (suc n) first chunk ≡ 0 → first ≢ chunk
fresh-first m n first chunk fresh same =
    let once = rw (eq-eqb chunk first (sym same)) at fresh in
    omega arith

module _ (last chunk : ℕ) (m m' : Chunks) (l : IsLinked last chunk m m') where
  -- a chain of full chunks is a longer one
  pub filled-linked : (n first need : ℕ) → IsFilled m n first last need → need ≡ 120 * suc n → times_in m (suc n) first chunk ≡ 0
      → 0 < length (content m' chunk) → length (content m' chunk) ≤ 120
      → IsFilled m' (suc n) first chunk (need + length (content m' chunk))
  filled-linked zero first need f full fresh some fits =
      let more = length (content m' chunk) in
      let count = f.chain.0.chunk in
      let chunks = l.chunks in
      let held = f.chain.0.held in
      let link_is : link m' first ≡ chunk = rw f.comes l.linked in
      let other = fresh-first m 0 first chunk fresh in
      let behind : IsPart m' chunk (need + more - 120) = record {
        chunk = l.there;
        some = omega arith;
        held = omega arith;
      } in
      record {
        chain = (
          record {
            chunk = omega arith;
            some = omega arith;
            held = rw (l.contents first other) (omega arith);
          },
          (subst (λ next. IsPart m' next (need + more - 120)) (sym link_is) behind, omega arith),
        );
        comes = (other, link_is);
        filled = omega arith;
      }
  filled-linked (suc n) first need f full fresh some fits =
      let more = length (content m' chunk) in
      let count = f.chain.0.chunk in
      let chunks = l.chunks in
      let held = f.chain.0.held in
      let other = fresh-first m (suc n) first chunk fresh in
      let link_is = l.links first f.comes.0 in
      let behind = filled-linked n (link m first) (need - 120) (filled-behind m n first last need f) (omega arith) (omega arith)
      some fits in
      let left : need - 120 + more ≡ need + more - 120 = omega arith in
      let chain = subst (λ k. IsChain m' (suc (suc n)) (link m first) k) left behind.chain in
      record {
        chain = (
          record {
            chunk = omega arith;
            some = omega arith;
            held = rw (l.contents first other) (omega arith);
          },
          subst (λ next. IsChain m' (suc (suc n)) next (need + more - 120)) (sym link_is) chain,
        );
        comes = (other, subst (λ next. ComesTo m' (suc n) next chunk) (sym link_is) behind.comes);
        filled = let all = behind.filled in omega arith;
      }

  -- its bytes are the old ones and then those of the chunk
  pub bytes-linked : (n first : ℕ) → ComesTo m n first last → times_in m (suc n) first chunk ≡ 0
      → chain_bytes m' (suc (suc n)) first ≡ chain_bytes m (suc n) first ++ content m' chunk
  bytes-linked zero first comes fresh =
      let here = l.contents first (fresh-first m 0 first chunk fresh) in
      let link_is : link m' first ≡ chunk = rw comes l.linked in
      rw (here, link_is, append-nil (content m' chunk), append-nil (content m first)) refl
  bytes-linked (suc n) first comes fresh =
      let here = l.contents first (fresh-first m (suc n) first chunk fresh) in
      rw (here, l.links first comes.0, bytes-linked n (link m first) comes.1 (omega arith))
      (sym (append_assoc (content m first) (chain_bytes m (suc n) (link m first)) (content m' chunk)))

  -- and it has that chunk once more
  pub times-linked : (n first other : ℕ) → ComesTo m n first last
      → times_in m' (suc (suc n)) first other ≡ times_in m (suc n) first other + (if other == chunk then 1 else 0)
  times-linked zero first other comes =
      let link_is : link m' first ≡ chunk = rw comes l.linked in
      rw link_is (omega arith)
  times-linked (suc n) first other comes =
      let behind = times-linked n (link m first) other comes.1 in
      rw (l.links first comes.0, behind) (omega arith)
