-- What strands keep while bytes are put behind a text.
use Rattle.std.proofs.Common.{◌≡◌, ◌≢◌, ℕ, zero, suc, ◌+◌, ◌-◌, ◌*◌, ◌<◌, ◌≤◌, List, [], ◌∷◌, ◌++◌, length, take, drop, inl, inr, refl, sym, ap, subst, ◌∙◌, arith, length-append, length-drop, ◌==◌, min, if◌then◌else◌, eq-eqb, append_assoc, length-take-le}
use Rattle.std.proofs.Math.Seq.{take-append-add}
use Rattle.std.proofs.lemmas.Bool.{cases_eq, cases_lt}
use Rattle.std.proofs.lemmas.List.{drop-take, take-append-le}
use Rattle.roff_store.specs.declared.strand.Strand.{Strand}
use Rattle.roff_store.specs.Pool.{IsLeft}
use Rattle.roff_store.proofs.Ends.{times_in-last}
use Rattle.roff_store.specs.Chains.{Chunks, bytes_of, chain_bytes, content, has, last_of, link, times_in, AreSameChunks, IsChain, IsPart, IsStrand, IsText, LeavesOthers}

-- two lists that begin alike begin alike a shorter way too
take-less : (k n : ℕ) (x y : List ℕ) → k ≤ n → take n x ≡ take n y → take k x ≡ take k y
take-less zero n x y less same = refl
take-less (suc k) zero x y less same = absurd (omega arith)
take-less (suc k) (suc n) [] [] less same = refl
take-less (suc k) (suc n) [] (b ∷ y) less same = cc
take-less (suc k) (suc n) (a ∷ x) [] less same = cc
take-less (suc k) (suc n) (a ∷ x) (b ∷ y) less same =
    let rest : take n x ≡ take n y = cc in let shorter = take-less k n x y (omega arith) rest in let head : a ≡ b = cc in cc

-- what follows a chunk counts only behind its 120 bytes
take-behind : (need : ℕ) (c x y : List ℕ) → min need 120 ≤ length c → take (need - 120) x ≡ take (need - 120) y
    → take need (c ++ x) ≡ take need (c ++ y)
take-behind need c x y held same =
    elim (cases_lt (length c) need) [
      | inl short ↦ (let long : need ≡ length c + (need - length c) = omega arith in
          rw long (rw (take-append-add c x (need - length c), take-append-add c y (need - length c))
          (ap (λ behind. c ++ behind) (take-less (need - length c) (need - 120) x y (omega arith) same))))
      | inr fits ↦ rw (take-append-le need c x fits, take-append-le need c y fits) refl
    ]

-- bytes in the middle of a list, from how it begins
take-drop_same : (at rest : ℕ) (x y : List ℕ) → take (at + rest) x ≡ take (at + rest) y
    → take rest (drop at x) ≡ take rest (drop at y)
take-drop_same at rest x y same = sym (drop-take at rest x) ∙ ap (drop at) same ∙ drop-take at rest y

-- a chain is as it was
record ChainLeft (m m' : Chunks) (n first need : ℕ) : Type 0 where
  pub chain : IsChain m' n first need
  pub bytes : take need (chain_bytes m' n first) ≡ take need (chain_bytes m n first)
  pub times : (chunk : ℕ) → times_in m' n first chunk ≡ times_in m n first chunk

-- a chain has its first chunk
times-first : (m : Chunks) (n first : ℕ) → 0 < times_in m (suc n) first first
times-first m n first = rw (eq-eqb first first refl) (omega arith)

-- bytes are put behind those of one chunk, which has none behind it
module _ (claims : ℕ → ℕ) (last : ℕ) (m m' : Chunks) (leaves : LeavesOthers claims last m m')
    (within : length m.contents ≤ m.most) (end : 0 < claims last → m.most ≤ link m last) where
  -- a chunk that others have, and that has one behind it, is as it was
  other-behind : (n first need : ℕ) → IsChain m (suc (suc n)) first need → 0 < claims first → first ≢ last
  other-behind n first need chain claimed same =
      let behind = chain.1.0.chunk in
      let ends : m.most ≤ link m first = subst (λ chunk. 0 < claims chunk → m.most ≤ link m chunk) (sym same) end claimed in
      omega arith

  -- a chunk has at least the bytes that it had
  part-left : (first need : ℕ) → IsPart m first need → 0 < claims first → IsPart m' first need
  part-left first need part claimed =
      let count = part.chunk in let chunks = leaves.chunks in let held = part.held in
      record {
        chunk = omega arith;
        some = part.some;
        held = elim (cases_eq first last) [
          | inl e ↦ (let grown = leaves.grown (subst (λ chunk. 0 < claims chunk) e claimed) in
              let held_last : min need 120 ≤ length (content m last) = rw e at held in
              rw (e, grown.grown, length-append (content m last) grown.more) (omega arith))
          | inr e ↦ rw (leaves.same_bytes first claimed e) held
        ];
      }

  -- a chain whose first chunk is as it was
  chain-same : (n first need : ℕ) → IsChain m (suc n) first need → 0 < claims first → first ≢ last
      → ChainLeft m m' n (link m first) (need - 120) → ChainLeft m m' (suc n) first need
  chain-same n first need chain claimed other rest =
      let link_same = leaves.same_link first claimed other in
      let bytes_same = leaves.same_bytes first claimed other in
      record {
        chain = (part-left first need chain.0 claimed, subst (λ next. IsChain m' n next (need - 120)) (sym link_same) rest.chain);
        bytes = rw (bytes_same, link_same) (take-behind need (content m first) (chain_bytes m' n (link m first))
            (chain_bytes m n (link m first)) chain.0.held rest.bytes);
        times = λ chunk. ap (λ next. (if chunk == first then 1 else 0) + times_in m' n next chunk) link_same
            ∙ ap (λ times. (if chunk == first then 1 else 0) + times) (rest.times chunk);
      }

  -- a chain of one chunk, which may have got longer
  chain-grown : (need : ℕ) → IsChain m 1 last need → 0 < claims last → ChainLeft m m' 1 last need
  chain-grown need chain claimed =
      let grown = leaves.grown claimed in
      let few : need - 120 ≡ 0 = chain.1 in
      let held = chain.0.held in
      let fits : need ≤ length (content m last) = omega arith in
      record {
        chain = (part-left last need chain.0 claimed, few);
        bytes = rw (
          grown.grown,
          append_assoc (content m last) grown.more [],
          take-append-le need (content m last) (grown.more ++ []) fits,
          take-append-le need (content m last) [] fits,
        ) refl;
        times = λ chunk. refl;
      }

  -- a chain of which others have the chunks is as it was
  chain-left : (n first need : ℕ) → IsChain m n first need → ((chunk : ℕ) → 0 < times_in m n first chunk → 0 < claims chunk)
      → ChainLeft m m' n first need
  chain-left zero first need chain claimed = record { chain = chain; bytes = refl; times = λ chunk. refl }
  chain-left (suc zero) first need chain claimed =
      let here = claimed first (times-first m 0 first) in
      elim (cases_eq first last) [
        | inl e ↦ subst (λ chunk. ChainLeft m m' 1 chunk need) (sym e)
            (chain-grown need (subst (λ chunk. IsChain m 1 chunk need) e chain) (subst (λ chunk. 0 < claims chunk) e here))
        | inr e ↦ chain-same 0 first need chain here e (record { chain = chain.1; bytes = refl; times = λ chunk. refl })
      ]
  chain-left (suc (suc n)) first need chain claimed =
      let here = claimed first (times-first m (suc n) first) in
      chain-same (suc n) first need chain here (other-behind n first need chain here)
      (chain-left (suc n) (link m first) (need - 120) chain.1 (λ chunk h. claimed chunk (omega arith)))

  -- the last chunk of a chain stays the last one
  last-left : (n first need : ℕ) → IsChain m (suc n) first need
      → ((chunk : ℕ) → 0 < times_in m (suc n) first chunk → 0 < claims chunk) → last_of m' n first ≡ last_of m n first
  last-left zero first need chain claimed = refl
  last-left (suc n) first need chain claimed =
      let here = claimed first (times-first m (suc n) first) in
      ap (λ next. last_of m' n next) (leaves.same_link first here (other-behind n first need chain here))
      ∙ last-left n (link m first) (need - 120) chain.1 (λ chunk h. claimed chunk (omega arith))

  -- a text's last chunk is one of it, and stays its last one
  end-left : (chunks first need final : ℕ) → IsChain m chunks first need
      → ((chunk : ℕ) → 0 < times_in m chunks first chunk → 0 < claims chunk) → 0 < chunks → last_of m (chunks - 1) first ≡ final
      → (last_of m' (chunks - 1) first ≡ final) × (0 < claims final)
  end-left zero first need final chain claimed some ends = absurd (omega arith)
  end-left (suc n) first need final chain claimed some ends =
      let back : suc n - 1 ≡ n = omega arith in
      let ends_there : last_of m n first ≡ final = rw back at ends in
      rw back (
        last-left n first need chain claimed ∙ ends_there,
        subst (λ chunk. 0 < claims chunk) ends_there (claimed (last_of m n first) (times_in-last m n first)),
      )

-- a strand of which others have the chunks stays as it was, and a strand
pub strand-left : (claims : ℕ → ℕ) (last : ℕ) (m m' : Chunks) (s : Strand) → LeavesOthers claims last m m'
    → length m.contents ≤ m.most → (0 < claims last → m.most ≤ link m last) → IsStrand m s
    → ((chunk : ℕ) → 0 < has m s chunk → 0 < claims chunk) → IsStrand m' s × IsLeft m m' s
strand-left claims last m m' s leaves within end strand claimed =
    let left = chain-left claims last m m' leaves within end s.chunks s.first (s.at + s.rest) strand.chain claimed in (
      record { chain = left.chain; start = strand.start; some = strand.some },
      record {
        bytes = take-drop_same s.at s.rest (chain_bytes m' s.chunks s.first) (chain_bytes m s.chunks s.first) left.bytes;
        has = left.times;
      },
    )

-- and a text stays one, if it doesn't end with the chunk that gets longer
pub text-left : (claims : ℕ → ℕ) (last : ℕ) (m m' : Chunks) (s : Strand) → LeavesOthers claims last m m'
    → length m.contents ≤ m.most → (0 < claims last → m.most ≤ link m last) → IsText m s
    → ((chunk : ℕ) → 0 < has m s chunk → 0 < claims chunk) → (0 < s.chunks → s.last ≢ last) → IsText m' s
text-left claims last m m' s leaves within end text claimed other =
    record {
      strand = (strand-left claims last m m' s leaves within end text.strand claimed).0;
      whole = text.whole;
      ends = λ some.
          let ends = text.ends some in
          let chain = text.strand.chain in
          let need = s.at + s.rest in
          let left = end-left claims last m m' leaves within end s.chunks s.first need s.last chain claimed some ends.last in
          record {
            last = left.0;
            end = rw (leaves.same_link s.last left.1 (other some), leaves.most) ends.end;
            filled = rw (leaves.same_bytes s.last left.1 (other some)) ends.filled;
          };
      none = λ none. rw leaves.most (text.none none);
    }

-- the chains among the same chunks are the same
module _ (m m' : Chunks) (same : AreSameChunks m m') where
  pub content-same : (chunk : ℕ) → content m' chunk ≡ content m chunk
  content-same chunk = rw same.contents refl

  pub link-same : (chunk : ℕ) → link m' chunk ≡ link m chunk
  link-same chunk = rw (same.links, same.most) refl

  bytes-same : (n first : ℕ) → chain_bytes m' n first ≡ chain_bytes m n first
  bytes-same zero first = refl
  bytes-same (suc n) first =
      rw (content-same first, link-same first) (ap (λ behind. content m first ++ behind) (bytes-same n (link m first)))

  times-same : (n first chunk : ℕ) → times_in m' n first chunk ≡ times_in m n first chunk
  times-same zero first chunk = refl
  times-same (suc n) first chunk =
      rw (link-same first) (ap (λ times. (if chunk == first then 1 else 0) + times) (times-same n (link m first) chunk))

  last-same : (n first : ℕ) → last_of m' n first ≡ last_of m n first
  last-same zero first = refl
  last-same (suc n) first = rw (link-same first) (last-same n (link m first))

  chain-is_same : (n first need : ℕ) → IsChain m n first need → IsChain m' n first need
  chain-is_same zero first need chain = chain
  chain-is_same (suc n) first need chain = (
    record {
      chunk = rw same.contents chain.0.chunk;
      some = chain.0.some;
      held = rw (content-same first) chain.0.held;
    },
    rw (link-same first) (chain-is_same n (link m first) (need - 120) chain.1),
  )

-- where only the shares change, each strand is as it was
pub strand-same : (m m' : Chunks) (s : Strand) → AreSameChunks m m' → IsStrand m s → IsStrand m' s
strand-same m m' s same strand = record {
  chain = chain-is_same m m' same s.chunks s.first (s.at + s.rest) strand.chain;
  start = strand.start;
  some = strand.some;
}

pub text-same : (m m' : Chunks) (s : Strand) → AreSameChunks m m' → IsText m s → IsText m' s
text-same m m' s same text = record {
  strand = strand-same m m' s same text.strand;
  whole = text.whole;
  ends = λ some.
      let ends = text.ends some in
      record {
        last = last-same m m' same (s.chunks - 1) s.first ∙ ends.last;
        end = rw (link-same m m' same s.last, same.most) ends.end;
        filled = rw (content-same m m' same s.last) ends.filled;
      };
  none = λ none. rw same.most (text.none none);
}

pub is-left : (m m' : Chunks) (s : Strand) → AreSameChunks m m' → IsLeft m m' s
is-left m m' s same = record {
  bytes = ap (λ bytes. take s.rest (drop s.at bytes)) (bytes-same m m' same s.chunks s.first);
  has = times-same m m' same s.chunks s.first;
}

-- a chain holds what it should
chain-long : (m : Chunks) (n first need : ℕ) → IsChain m n first need → need ≤ length (chain_bytes m n first)
chain-long m zero first need chain = omega arith
chain-long m (suc n) first need chain =
    let behind = chain-long m n (link m first) (need - 120) chain.1 in
    let held = chain.0.held in
    rw (length-append (content m first) (chain_bytes m n (link m first))) (omega arith)

-- a strand has as many bytes as it says
pub length-bytes_of : (m : Chunks) (s : Strand) → IsStrand m s → length (bytes_of m s) ≡ s.rest
length-bytes_of m s strand =
    let long = chain-long m s.chunks s.first (s.at + s.rest) strand.chain in
    length-take-le s.rest (drop s.at (chain_bytes m s.chunks s.first))
    (rw (length-drop s.at (chain_bytes m s.chunks s.first)) (omega arith))

-- a chain has no chunk too many
chain-few : (m : Chunks) (n first need : ℕ) → IsChain m n first need → 120 * n ≤ need + 119
chain-few m zero first need chain = omega arith
chain-few m (suc n) first need chain =
    let behind = chain-few m n (link m first) (need - 120) chain.1 in
    let some = chain.0.some in
    omega arith

-- and enough of them
chain-enough : (m : Chunks) (n first need : ℕ) → IsChain m n first need → need ≤ 120 * n
chain-enough m zero first need chain = omega arith
chain-enough m (suc n) first need chain =
    let behind = chain-enough m n (link m first) (need - 120) chain.1 in
    omega arith

-- a strand has no chunk too many, and enough of them
pub chunks-few : (m : Chunks) (s : Strand) → IsStrand m s → 120 * s.chunks ≤ s.at + s.rest + 119
chunks-few m s strand = chain-few m s.chunks s.first (s.at + s.rest) strand.chain

pub chunks-enough : (m : Chunks) (s : Strand) → IsStrand m s → s.at + s.rest ≤ 120 * s.chunks
chunks-enough m s strand = chain-enough m s.chunks s.first (s.at + s.rest) strand.chain
