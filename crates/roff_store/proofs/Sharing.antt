-- Strands that share the chunks of others, and let them go.
use Rattle.std.proofs.Common.{◌≡◌, ℕ, zero, suc, ◌+◌, ◌-◌, ◌<◌, ◌≤◌, List, [], ◌++◌, length, take, drop, min, get_or, vec_len, refl, sym, ap, ◌∙◌, subst, arith, length-drop, length-take, length-take-le, take-take, drop_at, drop-drop, ◌==◌, if◌then◌else◌}
use Rattle.std.proofs.lemmas.List.{get_or_read, take_rest, take-append-le, drop-append-le, drop_all, drop-take}
use Rattle.std.proofs.lemmas.Bool.Decides.{nat_tests}
use Rattle.roff_store.specs.declared.strand.Strand.{Strand}
use Rattle.arrayvec.specs.ArrayVec.{ArrayVec as Bytes}
use Rattle.roff_store.specs.declared.chunks.Chunks.TheInside.{Inside}
use Rattle.roff_store.specs.Chunks.Kept.{kept_by, IsSound}
use Rattle.roff_store.specs.Chains.{Chunks, bytes_of, chain_bytes, content, has, link, others, share, shares_in, times_in, AreSameChunks, IsChain, IsPart, IsShared, IsStrand}
use Rattle.roff_store.proofs.Leaving.{is-left, strand-same}

-- chunks are the same as themselves
pub AreSameChunks-refl : (m : Chunks) → AreSameChunks m m
AreSameChunks-refl m = record { contents = refl; links = refl; most = refl }

-- a chain with bytes has a first chunk, which has bytes of it
first-part : (m : Chunks) (chunks first need : ℕ) → 0 < need → IsChain m chunks first need → IsPart m first need
first-part m zero first need some chain = absurd (omega arith)
first-part m (suc chunks) first need some chain = chain.0

-- and it stands in the chain
chunk-had : (m : Chunks) (chunks first need : ℕ) → 0 < need → IsChain m chunks first need
    → (0 < chunks) × (0 < times_in m chunks first first)
chunk-had m zero first need some chain = absurd (omega arith)
chunk-had m (suc chunks) first need some chain = (omega arith, grind (arith, nat_tests))

-- a strand with bytes has its first chunk
pub first-had : (m : Chunks) (s : Strand) → 0 < s.rest → IsStrand m s → (0 < s.chunks) × (0 < has m s s.first)
first-had m s some strand = chunk-had m s.chunks s.first (s.at + s.rest) (omega arith) strand.chain

-- a walk along a strand has come to a chunk, with so many chunks left
pub record Along (old : Chunks) (s : Strand) (m : Chunks) (chunk left : ℕ) : Type 0 where
  pub same : AreSameChunks old m
  -- how many bytes the rest of the chain has to have
  pub need : ℕ
  pub chain : IsChain old left chunk need
  pub rest : (x : ℕ) → times_in old left chunk x ≤ has old s x

-- another strand has got the chunks before that one
pub record Sharing (old : Chunks) (s : Strand) (m : Chunks) (chunk left : ℕ) : Type 0 where
  pub along : Along old s m chunk left
  pub shares : (x : ℕ) → share m x + times_in old left chunk x ≡ share old x + has old s x
  pub sum : shares_in m + left ≡ shares_in old + s.chunks

-- the strand has let go the chunks before that one
pub record Releasing (old : Chunks) (s : Strand) (m : Chunks) (chunk left : ℕ) : Type 0 where
  pub along : Along old s m chunk left
  pub shares : (x : ℕ) → share m x + has old s x ≡ share old x + times_in old left chunk x
  pub sum : shares_in m + s.chunks ≡ shares_in old + left

-- as a walk begins, all chunks are left
Along-start : (old : Chunks) (s : Strand) → IsStrand old s → Along old s old s.first s.chunks
Along-start old s strand = record {
  same = record { contents = refl; links = refl; most = refl };
  need = s.at + s.rest;
  chain = strand.chain;
  rest = λ x. omega arith;
}

-- as sharing begins, none is shared
pub Sharing-start : (old : Chunks) (s : Strand) (left : ℕ) → left ≡ s.chunks → IsStrand old s → Sharing old s old s.first left
Sharing-start old s left all strand = rw all (record { along = Along-start old s strand; shares = λ x. refl; sum = refl })

-- as releasing begins, none is let go
pub Releasing-start : (old : Chunks) (s : Strand) (left : ℕ) → left ≡ s.chunks → IsStrand old s → Releasing old s old s.first left
Releasing-start old s left all strand = rw all (record { along = Along-start old s strand; shares = λ x. refl; sum = refl })

-- of the chunks that are left, the first one is there
Along-part : (old : Chunks) (s : Strand) (m : Chunks) (chunk left : ℕ) → 0 < left → Along old s m chunk left
    → (chunk < length old.contents) × (0 < times_in old left chunk chunk)
Along-part old s m chunk zero some a = absurd (omega arith)
Along-part old s m chunk (suc left) some a = let part = (a.chain.0).chunk in (part, grind (arith, nat_tests))

-- and its link is there
pub Along-here : (old : Chunks) (s : Strand) (m m' : Chunks) (chunk left : ℕ) (a : Inside) → IsSound a → kept_by a ≡ m'
    → AreSameChunks m m' → 0 < left → Along old s m chunk left → chunk < vec_len a.links
Along-here old s m m' chunk left a sound kept same some along =
    let here = (Along-part old s m chunk left some along).0 in
    let contents : length a.contents.items ≡ length old.contents =
    ap length (ap (λ m. m.contents) kept ∙ same.contents ∙ along.same.contents) in
    let links = sound.links in omega arith

-- the link that is read
pub link-read : (m m' : Chunks) (chunk : ℕ) (a : Inside) → kept_by a ≡ m' → AreSameChunks m m' → (next : ℕ)
    → next ≡ get_or a.links.items chunk next → chunk < vec_len a.links → next ≡ link m chunk
link-read m m' chunk a kept same next is here =
    get_or_read a.links.items chunk next (omega (arith, a.links.ok.0)) is m.most
    ∙ ap (λ xs. get_or xs chunk m.most) (ap (λ m. m.links) kept ∙ same.links)

-- a walk goes on to the next chunk
Along-step : (old : Chunks) (s : Strand) (m m' : Chunks) (chunk next left after : ℕ) → left ≡ suc after → next ≡ link m chunk
    → AreSameChunks m m' → Along old s m chunk left → Along old s m' next after
Along-step old s m m' chunk next left after one is same a =
    let b = rw one at a in
    let links = a.same.links in
    let most = a.same.most in
    let there : next ≡ link old chunk = cc in
    record {
      same = record { contents = cc; links = cc; most = cc };
      need = b.need - 120;
      chain = rw there b.chain.1;
      rest = λ x. let r = b.rest x in rw there (omega arith);
    }

-- the next chunk to be shared is had by the strand
pub Sharing-shared : (old : Chunks) (s : Strand) (m : Chunks) (chunk left : ℕ) → 0 < left → IsShared old s
    → Sharing old s m chunk left → 0 < share m chunk
Sharing-shared old s m chunk left some shared g =
    let a = (Along-part old s m chunk left some g.along).1 in
    let b = g.along.rest chunk in let d = g.shares chunk in let e = shared chunk in omega arith

-- one more chunk is shared
pub Sharing-step : (old : Chunks) (s : Strand) (m m' : Chunks) (chunk next left after : ℕ) → left ≡ suc after
    → next ≡ link m chunk → AreSameChunks m m' → ((x : ℕ) → share m' x ≡ share m x + (if x == chunk then 1 else 0))
    → shares_in m' ≡ shares_in m + 1 → Sharing old s m chunk left → Sharing old s m' next after
Sharing-step old s m m' chunk next left after one is same more sum g =
    let h = rw one at g in
    let links = g.along.same.links in
    let most = g.along.same.most in
    let there : next ≡ link old chunk = cc in
    record {
      along = Along-step old s m m' chunk next left after one is same g.along;
      shares = λ x. let a = h.shares x in let b = more x in rw there (omega arith);
      sum = let a = g.sum in omega arith;
    }

-- and all are shared as it ends
pub Sharing-end : (old : Chunks) (s : Strand) (m : Chunks) (chunk left : ℕ) → left ≡ 0 → Sharing old s m chunk left
    → (x : ℕ) → share m x ≡ share old x + has old s x
Sharing-end old s m chunk left none g x = let h = (rw none at g).shares x in omega arith

-- the next chunk to be let go is had by the strand
pub Releasing-shared : (old : Chunks) (s : Strand) (m : Chunks) (chunk left : ℕ) → 0 < left → IsShared old s
    → Releasing old s m chunk left → 0 < share m chunk
Releasing-shared old s m chunk left some shared g =
    let a = (Along-part old s m chunk left some g.along).1 in
    let b = g.along.rest chunk in let d = g.shares chunk in let e = shared chunk in omega arith

-- one more chunk is let go
pub Releasing-step : (old : Chunks) (s : Strand) (m m' : Chunks) (chunk next left after : ℕ) → left ≡ suc after
    → next ≡ link m chunk → AreSameChunks m m' → ((x : ℕ) → share m' x ≡ share m x - (if x == chunk then 1 else 0))
    → shares_in m' + 1 ≡ shares_in m → IsShared old s → Releasing old s m chunk left → Releasing old s m' next after
Releasing-step old s m m' chunk next left after one is same fewer sum shared g =
    let h = rw one at g in
    let links = g.along.same.links in
    let most = g.along.same.most in
    let there : next ≡ link old chunk = cc in
    record {
      along = Along-step old s m m' chunk next left after one is same g.along;
      shares = λ x. let a = h.shares x in let b = fewer x in let e = shared x in rw there (omega arith);
      sum = let a = g.sum in omega arith;
    }

-- and all are let go as it ends
pub Releasing-end : (old : Chunks) (s : Strand) (m : Chunks) (chunk left : ℕ) → left ≡ 0 → Releasing old s m chunk left
    → (x : ℕ) → share m x ≡ others old s x
Releasing-end old s m chunk left none g x = let h = (rw none at g).shares x in omega arith

-- what the first chunk of a chain has of a strand in it
front-bytes : (bytes more : List ℕ) (at rest n : ℕ) → at ≤ length bytes
    → n ≡ min (length (take (length bytes - at) (drop at bytes))) rest
    → take n (take (length bytes - at) (drop at bytes))
    ≡ take (length (take n (take (length bytes - at) (drop at bytes)))) (take rest (drop at (bytes ++ more)))
front-bytes bytes more at rest n within is =
    let is' = rw take_rest at is in
    let few : n ≤ rest = omega arith in
    let some : n ≤ length (drop at bytes) = omega arith in
    rw (
      take_rest,
      length-take-le n (drop at bytes) some,
      take-take n rest (drop at (bytes ++ more)) few,
      drop-append-le at bytes more within,
      take-append-le n (drop at bytes) more some,
    )
    refl

-- the first chunk of a strand with bytes is there
pub front-here : (m : Chunks) (s : Strand) (a : Inside) → kept_by a ≡ m → 0 < s.rest → IsStrand m s → s.first < vec_len a.contents
front-here m s a kept some strand =
    let here = (first-part m s.chunks s.first (s.at + s.rest) (omega arith) strand.chain).chunk in
    let long = ap (λ m. length m.contents) kept in omega (arith, a.contents.ok.0)

-- its bytes are those that are read, and more than lie before the strand
pub front-read : (m : Chunks) (s : Strand) (a : Inside) (x : Bytes ℕ) (bytes : List ℕ) → kept_by a ≡ m → 0 < s.rest
    → IsStrand m s → x ≡ get_or a.contents.items s.first x → bytes ≡ x.items → (content m s.first ≡ bytes) × (s.at < length bytes)
front-read m s a x bytes kept some strand is read =
    let here = front-here m s a kept some strand in
    let same : content m s.first ≡ bytes =
    ap (λ m. content m s.first) (sym kept)
    ∙ ap (λ x. x.items) (sym (get_or_read a.contents.items s.first x (omega (arith, a.contents.ok.0)) is (record { items = [] })))
    ∙ sym read in
    let held = (first-part m s.chunks s.first (s.at + s.rest) (omega arith) strand.chain).held in
    let start = strand.start in (same, omega (arith, ap length same))

-- so the strand has some of them
pub front-some : (bytes : List ℕ) (at rest n : ℕ) → at < length bytes
    → n ≡ min (length (take (length bytes - at) (drop at bytes))) rest → 0 < rest
    → 0 < length (take n (take (length bytes - at) (drop at bytes)))
front-some bytes at rest n within is some =
    let is' = rw take_rest at is in
    let long = length-drop at bytes in rw (take_rest, length-take-le n (drop at bytes) (omega arith)) (omega arith)

-- what the first chunk of a strand has of it
pub front-of : (m : Chunks) (chunks first at rest n : ℕ) (bytes : List ℕ) → content m first ≡ bytes → 0 < rest
    → IsChain m chunks first (at + rest) → at ≤ length bytes → n ≡ min (length (take (length bytes - at) (drop at bytes))) rest
    → take n (take (length bytes - at) (drop at bytes))
    ≡ take (length (take n (take (length bytes - at) (drop at bytes)))) (take rest (drop at (chain_bytes m chunks first)))
front-of m zero first at rest n bytes is some chain within few = absurd (omega arith)
front-of m (suc chunks) first at rest n bytes is some chain within few =
    rw is (front-bytes bytes (chain_bytes m chunks (link m first)) at rest n within few)

-- what is left of a list's part behind so many of it
pub drop-part : (xs : List ℕ) (at rest count : ℕ) → count ≤ rest
    → take (rest - count) (drop (at + count) xs) ≡ drop count (take rest (drop at xs))
drop-part xs at rest count within =
    let all : count + (rest - count) ≡ rest = omega arith in
    ap (λ ys. take (rest - count) ys) (sym (drop-drop count at xs))
    ∙ sym (drop-take count (rest - count) (drop at xs))
    ∙ ap (λ n. drop count (take n (drop at xs))) all

-- nothing is left of a strand behind all of it
pub bytes-none : (m m' : Chunks) (s t : Strand) (count : ℕ) → s.rest ≤ count → t.rest ≡ 0
    → bytes_of m' t ≡ drop count (bytes_of m s)
bytes-none m m' s t count all none =
    let long = length-take s.rest (drop s.at (chain_bytes m s.chunks s.first)) in
    rw (none, drop_all count (bytes_of m s) (omega arith)) refl

-- a strand is what another one is behind its first chunk
pub record IsNext (m m' : Chunks) (s : Strand) (count : ℕ) (t : Strand) : Type 0 where
  pub strand : IsStrand m' t
  pub bytes : bytes_of m' t ≡ drop count (bytes_of m s)
  pub has : (x : ℕ) → has m s x ≡ (if x == s.first then 1 else 0) + has m' t x

-- also once only the shares change
IsNext-same : (m m' : Chunks) (s : Strand) (count : ℕ) (t : Strand) → AreSameChunks m m' → IsNext m m s count t
    → IsNext m m' s count t
IsNext-same m m' s count t same n =
    let left = is-left m m' t same in
    record {
      strand = strand-same m m' t same n.strand;
      bytes = left.bytes ∙ n.bytes;
      has = λ x. let h = n.has x in let l = left.has x in omega arith;
    }

-- what is left behind the first chunk, which is full
IsNext-chunk : (m : Chunks) (s : Strand) (count next after : ℕ) → s.chunks ≡ suc after → next ≡ link m s.first
    → 120 ≤ s.at + count → s.at + count ≤ 120 → count < s.rest → length (content m s.first) ≤ 120 → IsStrand m s
    → IsNext m m s count (record { first = next; last = s.last; chunks = after; at = 0; rest = s.rest - count })
IsNext-chunk m s count next after one is past within some fits strand =
    let chain = rw one at strand.chain in
    let held = (chain.0).held in
    let full : length (content m s.first) ≡ s.at + count = omega arith in
    let need : s.at + s.rest - 120 ≡ 0 + (s.rest - count) = omega arith in
    record {
      strand = record {
        chain = rw is (subst (λ n. IsChain m after (link m s.first) n) need chain.1);
        start = omega arith;
        some = λ _. omega arith;
      };
      bytes = rw (is, one) (ap (λ xs. take (s.rest - count) xs)
          (sym (drop_at (content m s.first) (chain_bytes m after (link m s.first)) (s.at + count) full))
          ∙ drop-part (content m s.first ++ chain_bytes m after (link m s.first)) s.at s.rest count (omega arith));
      has = λ x. rw (is, one) refl;
    }

-- what is left behind the first chunk, whose link is read
pub IsNext-read : (m m' : Chunks) (s : Strand) (count next : ℕ) (a : Inside) → IsSound a → kept_by a ≡ m
    → next ≡ get_or a.links.items s.first next → AreSameChunks m m' → 120 ≤ s.at + count → s.at + count ≤ 120 → count < s.rest
    → IsStrand m s
    → IsNext m m' s count (record { first = next; last = s.last; chunks = s.chunks - 1; at = 0; rest = s.rest - count })
IsNext-read m m' s count next a sound kept is same past within some strand =
    let had = (first-had m s (omega arith) strand).0 in
    let here = front-here m s a kept (omega arith) strand in
    let links = sound.links in
    let fits = subst (λ m. length (content m s.first) ≤ 120) kept (sound.fits s.first) in
    let read = link-read m m s.first a kept (AreSameChunks-refl m) next is (omega arith) in
    IsNext-same m m' s count (record { first = next; last = s.last; chunks = s.chunks - 1; at = 0; rest = s.rest - count }) same
    (IsNext-chunk m s count next (s.chunks - 1) (omega arith) read past within some fits strand)

-- so much is still to be passed of what is left of a strand
pub record Passing (old : Chunks) (s : Strand) (all : ℕ) (m : Chunks) (t : Strand) (count : ℕ) : Type 0 where
  pub strand : IsStrand m t
  pub bytes : drop count (bytes_of m t) ≡ drop all (bytes_of old s)
  pub rest : t.rest + all ≡ s.rest + count
  pub shares : (x : ℕ) → share m x ≡ others old s x + has m t x
  pub sum : shares_in m + s.chunks ≡ shares_in old + t.chunks
  pub same : AreSameChunks old m
