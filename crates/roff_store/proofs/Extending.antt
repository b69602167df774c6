-- What a text is once bytes are put behind it.
use Rattle.std.proofs.Common.{◌≡◌, ◌≢◌, ℕ, suc, ◌+◌, ◌-◌, ◌*◌, ◌<◌, ◌≤◌, List, [], ◌++◌, length, take, drop, get_or, inl, inr, refl, sym, ap, subst, ◌∙◌, arith, length-append, ◌==◌, if◌then◌else◌, eq-eqb, append-nil, take_all}
use Rattle.std.proofs.lemmas.Bool.{cases_eq}
use Rattle.std.proofs.lemmas.Bool.Decides.{nat_tests}
use Rattle.roff_store.specs.declared.strand.Strand.{Strand}
use Rattle.roff_store.specs.Chains.{Chunks, bytes_of, chain_bytes, content, has, link, others, share, times_in, IsChain, IsExtended, IsShared, IsText, LeavesOthers}
use Rattle.roff_store.proofs.Ends.{HasLast-text}
use Rattle.roff_store.proofs.Free.{shared_known}
use Rattle.roff_store.proofs.Leaving.{strand-left, text-left}
use Rattle.roff_store.proofs.Filling.{IsFilled, IsGrown, IsLinked, bytes-grown, bytes-linked, comes_to, filled-grown, filled-linked, last_comes, length-filled, times-grown, times-last, times-linked}

-- a text that has chunks, as a chain
pub text-filled : (m : Chunks) (s : Strand) → length m.contents ≤ m.most → IsText m s → 0 < s.chunks
    → IsFilled m (s.chunks - 1) s.first s.last s.rest
text-filled m s within text some =
    let whole = text.whole in
    let ends = text.ends some in
    let count : s.chunks ≡ suc (s.chunks - 1) = omega arith in
    let need : s.at + s.rest ≡ s.rest = omega arith in
    let chain = subst (λ chunks. IsChain m chunks s.first s.rest) count
    (subst (λ k. IsChain m s.chunks s.first k) need text.strand.chain) in
    record {
      chain = chain;
      comes = comes_to m (s.chunks - 1) s.first s.last s.rest within chain ends.last ends.end;
      filled = ends.filled;
    }

-- and such a chain as a text
pub filled-text : (m : Chunks) (s : Strand) → IsFilled m (s.chunks - 1) s.first s.last s.rest → m.most ≤ link m s.last
    → s.at ≡ 0 → 0 < s.chunks → IsText m s
filled-text m s f none whole some =
    let count : suc (s.chunks - 1) ≡ s.chunks = omega arith in
    let need : s.rest ≡ s.at + s.rest = omega arith in
    let chain = subst (λ chunks. IsChain m chunks s.first s.rest) count f.chain in
    record {
      strand = record {
        chain = subst (λ k. IsChain m s.chunks s.first k) need chain;
        start = omega arith;
        some = λ _. f.chain.0.some;
      };
      whole = whole;
      ends = λ _. record {
        last = last_comes m (s.chunks - 1) s.first s.last f.comes;
        end = none;
        filled = f.filled;
      };
      none = λ empty. absurd (omega arith);
    }

-- the last chunk of a text is there, and has room for what is missing
pub text-last : (m : Chunks) (s : Strand) → length m.contents ≤ m.most → IsText m s → 0 < s.chunks → s.last < length m.contents
text-last m s within text some = (HasLast-text m s text some).chunk

pub text-room : (m : Chunks) (s : Strand) (room : ℕ) → IsText m s → 0 < s.chunks → room + length (content m s.last) ≡ 120
    → room + s.rest ≡ 120 * s.chunks
text-room m s room text some left =
    let filled = (text.ends some).filled in omega arith

-- the bytes of a whole text are those of its chain
pub whole-bytes : (m : Chunks) (s : Strand) → s.at ≡ 0 → length (chain_bytes m s.chunks s.first) ≤ s.rest
    → bytes_of m s ≡ chain_bytes m s.chunks s.first
whole-bytes m s whole few =
    ap (λ at. take s.rest (drop at (chain_bytes m s.chunks s.first))) whole
    ∙ take_all s.rest (chain_bytes m s.chunks s.first) few

-- and there are as many as it says
pub length-text : (m : Chunks) (s : Strand) → ((chunk : ℕ) → length (content m chunk) ≤ 120)
    → IsFilled m (s.chunks - 1) s.first s.last s.rest → 0 < s.chunks → length (chain_bytes m s.chunks s.first) ≡ s.rest
length-text m s fits f some =
    let count : suc (s.chunks - 1) ≡ s.chunks = omega arith in
    subst (λ chunks. length (chain_bytes m chunks s.first) ≡ s.rest) count
    (length-filled m (s.chunks - 1) s.first s.last s.rest fits f)

-- a text whose last chunk has more bytes
pub fill-extended : (m m' : Chunks) (s : Strand) (more : List ℕ) → length m.contents ≤ m.most
    → ((chunk : ℕ) → length (content m chunk) ≤ 120) → IsText m s → IsShared m s → 0 < length more
    → s.rest + length more ≤ 120 * s.chunks → IsGrown s.last more m m'
    → IsExtended (others m s) m s more m' (record s { rest = s.rest + length more })
fill-extended m m' s more within fits text shared more_some room g =
    let some : 0 < s.chunks = omega arith in
    let f = text-filled m s within text some in
    let whole = f.filled in
    let f' = filled-grown s.last more m m' g (s.chunks - 1) s.first s.rest f (omega arith) in
    let none : m'.most ≤ link m' s.last = rw (g.links s.last, g.most) (text.ends some).end in
    let count : suc (s.chunks - 1) ≡ s.chunks = omega arith in
    let bytes = subst (λ chunks. chain_bytes m' chunks s.first ≡ chain_bytes m chunks s.first ++ more) count
    (bytes-grown s.last more m m' g (s.chunks - 1) s.first f.comes) in
    let long = length-text m s fits f some in
    let longer : length (chain_bytes m' s.chunks s.first) ≡ s.rest + length more =
    rw (bytes, length-append (chain_bytes m s.chunks s.first) more) (omega arith) in
    let t : Strand = record s { rest = s.rest + length more } in
    record {
      text = filled-text m' t f' none text.whole some;
      bytes = whole-bytes m' t text.whole (omega arith) ∙ bytes
          ∙ ap (λ bytes. bytes ++ more) (sym (whole-bytes m s text.whole (omega arith)));
      len = refl;
      shared = λ chunk.
          let here = shared chunk in
          let same : share m' chunk ≡ share m chunk = ap (λ shares. get_or shares chunk 0) g.shares in
          rw (same, times-grown s.last more m m' g s.chunks s.first chunk) (omega arith);
      leaves = record {
        most = g.most;
        chunks = let n = g.chunks in omega arith;
        same_bytes = λ chunk _ other. g.others chunk other;
        same_link = λ chunk _ _. g.links chunk;
        grown = λ _. record { more = more; grown = g.grown };
      };
      apart = λ chunk _ other. other;
      within = rw (g.chunks, g.most) within;
    }

-- a chunk has been claimed
pub record IsClaimed (m mc : Chunks) (chunk : ℕ) : Type 0 where
  pub fresh : share m chunk ≡ 0
  pub there : chunk < length mc.contents
  pub end : mc.most ≤ link mc chunk
  pub claimed : share mc chunk ≡ 1
  pub shares : (other : ℕ) → other ≢ chunk → share mc other ≡ share m other
  pub leaves : LeavesOthers (share m) m.most m mc
  pub within : length mc.contents ≤ mc.most
  pub known : length mc.shares ≤ mc.most
  pub fits : (other : ℕ) → length (content mc other) ≤ 120

-- the last chunk of a text is still there
pub last-claimed : (m mc : Chunks) (s : Strand) (chunk : ℕ) → IsClaimed m mc chunk → IsText m s → 0 < s.chunks
    → s.last < length mc.contents
last-claimed m mc s chunk claimed text some =
    let most = claimed.leaves.most in
    let chunks = claimed.leaves.chunks in
    let within = claimed.within in
    let there = text-last m s (omega arith) text some in
    omega arith

-- bytes are put into it, and the last chunk of a text may lead elsewhere
pub record IsPut (last chunk : ℕ) (piece : List ℕ) (mc m' : Chunks) : Type 0 where
  pub most : m'.most ≡ mc.most
  pub chunks : length m'.contents ≡ length mc.contents
  pub contents : (other : ℕ) → other ≢ chunk → content m' other ≡ content mc other
  pub holds : content m' chunk ≡ piece
  pub links : (other : ℕ) → other ≢ last → link m' other ≡ link mc other
  pub shares : m'.shares ≡ mc.shares

module _ (m mc m' : Chunks) (s : Strand) (chunk : ℕ) (piece : List ℕ) (claimed : IsClaimed m mc chunk)
    (put : IsPut s.last chunk piece mc m') where
  -- a chunk that strands had is another one, and one of the most
  had-other : (other : ℕ) → 0 < share m other → other ≢ chunk
  had-other other some same =
      let fresh = claimed.fresh in
      let here : 0 < share m chunk = subst (λ x. 0 < share m x) same some in
      omega arith

  had-few : (other : ℕ) → 0 < share m other → other < m.most
  had-few other some =
      let still = claimed.shares other (had-other other some) in
      let there = shared_known mc.shares other (omega arith) in
      let known = claimed.known in
      let most = claimed.leaves.most in
      omega arith

  had-there : (other : ℕ) → 0 < share m other → other ≢ m.most
  had-there other some same = let few = had-few other some in omega arith

  -- its bytes are as they were
  had-content : (other : ℕ) → 0 < share m other → content m' other ≡ content m other
  had-content other some =
      put.contents other (had-other other some) ∙ claimed.leaves.same_bytes other some (had-there other some)

  -- what others have is left, but for where the last chunk of the text leads
  put-leaves : LeavesOthers (others m s) s.last m m'
  put-leaves = record {
    most = put.most ∙ claimed.leaves.most;
    chunks = let more = claimed.leaves.chunks in let n = put.chunks in omega arith;
    same_bytes = λ other some _. had-content other (omega arith);
    same_link = λ other some apart. put.links other apart
        ∙ claimed.leaves.same_link other (omega arith) (had-there other (omega arith));
    grown = λ some. record {
      more = [];
      grown = had-content s.last (omega arith) ∙ sym (append-nil (content m s.last));
    };
  }

  -- how many strands have a chunk then
  put-shares : (n first : ℕ) → IsShared m s
      → ((other : ℕ) → times_in m' n first other ≡ has m s other + (if other == chunk then 1 else 0))
      → (other : ℕ) → share m' other ≡ others m s other + times_in m' n first other
  put-shares n first shared times other =
      let same : share m' other ≡ share mc other = ap (λ shares. get_or shares other 0) put.shares in
      let here = shared other in
      elim (cases_eq other chunk) [
        | inl e ↦ (
            let fresh : share m other ≡ 0 = rw e claimed.fresh in
            let one : share mc other ≡ 1 = rw e claimed.claimed in
            let once : times_in m' n first other ≡ has m s other + 1 =
            subst (λ b. times_in m' n first other ≡ has m s other + (if b then 1 else 0)) (eq-eqb other chunk e) (times other) in
            omega arith)
        | inr e ↦ (
            let still = claimed.shares other e in
            let as_often : times_in m' n first other ≡ has m s other =
            (let t = times other in grind (arith, nat_tests)) in
            omega arith)
      ]

  -- the first chunk of a text
  pub link-first : IsText m s → s.chunks ≡ 0 → 0 < length piece → length piece ≤ 120 → link m' chunk ≡ link mc chunk
      → IsExtended (others m s) m s piece m'
      (record { first = chunk; last = chunk; chunks = 1; at = 0; rest = length piece })
  link-first text none some fits same_link =
      let t : Strand = record { first = chunk; last = chunk; chunks = 1; at = 0; rest = length piece } in
      let rest : s.at + s.rest ≡ 0 = subst (λ chunks. IsChain m chunks s.first (s.at + s.rest)) none text.strand.chain in
      let no_rest : 0 ≡ s.rest = omega arith in
      let without : (other : ℕ) → has m s other ≡ 0 = λ other. ap (λ chunks. times_in m chunks s.first other) none in
      let shared : IsShared m s = λ other. rw (without other) (omega arith) in
      let there = claimed.there in
      let n = put.chunks in
      let held : length (content m' chunk) ≡ length piece = ap (λ bytes. length bytes) put.holds in
      let f : IsFilled m' 0 chunk chunk t.rest = record {
        chain = (record { chunk = omega arith; some = omega arith; held = omega arith }, omega arith);
        comes = refl;
        filled = omega arith;
      } in
      let end = claimed.end in
      let most = put.most in
      let bytes : chain_bytes m' 1 chunk ≡ piece = append-nil (content m' chunk) ∙ put.holds in
      let few : length (chain_bytes m' 1 chunk) ≤ t.rest = rw bytes (omega arith) in
      record {
        text = filled-text m' t f (rw (same_link, put.most) claimed.end) refl (omega arith);
        bytes = whole-bytes m' t refl few ∙ bytes
            ∙ ap (λ k. take k (drop s.at (chain_bytes m s.chunks s.first)) ++ piece) no_rest;
        len = omega arith;
        shared = put-shares 1 chunk shared (λ other. rw (without other) (omega arith));
        leaves = put-leaves;
        apart = λ other some _. had-other other (omega arith);
        within = rw (put.chunks, put.most) claimed.within;
      }

  -- one more chunk of a text whose chunks are full
  pub link-extended : IsText m s → IsShared m s → 0 < s.chunks → s.rest ≡ 120 * s.chunks → 0 < length piece → length piece ≤ 120
      → link m' s.last ≡ chunk → IsExtended (others m s) m s piece m'
      (record { first = s.first; last = chunk; chunks = s.chunks + 1; at = 0; rest = s.rest + length piece })
  link-extended text shared has_chunks full some fits linked =
      let t : Strand = record { first = s.first; last = chunk; chunks = s.chunks + 1; at = 0; rest = s.rest + length piece } in
      let most = claimed.leaves.most in
      let chunks = claimed.leaves.chunks in
      let known = claimed.within in
      let within : length m.contents ≤ m.most = omega arith in
      let no_end : 0 < share m m.most → m.most ≤ link m m.most = λ some. absurd (had-there m.most some refl) in
      let had : (other : ℕ) → 0 < has m s other → 0 < share m other =
      λ other some. (let here = shared other in let lt : 0 < share m other = omega arith in lt) in
      let last_known = text-last m s within text has_chunks in
      let there : IsText mc s = text-left (share m) m.most m mc s claimed.leaves within no_end text had (λ _ same. omega arith) in
      let left = (strand-left (share m) m.most m mc s claimed.leaves within no_end text.strand had).1 in
      let f = text-filled mc s known there has_chunks in
      let count : suc (s.chunks - 1) ≡ s.chunks = omega arith in
      let fresh : times_in mc (suc (s.chunks - 1)) s.first chunk ≡ 0 =
      subst (λ n. times_in mc n s.first chunk ≡ 0) (sym count)
      (let here = shared chunk in let new = claimed.fresh in rw (left.has chunk) (omega arith)) in
      let last_had = times-last mc (s.chunks - 1) s.first s.last f.comes in
      let other : chunk ≢ s.last = λ same. (
      let again = subst (λ x. times_in mc (suc (s.chunks - 1)) s.first x ≡ 0) same fresh in
      let no : ⊥ = omega arith in no) in
      let links : IsLinked s.last chunk mc m' = record {
        chunks = let n = put.chunks in omega arith;
        there = let n = put.chunks in let here = claimed.there in omega arith;
        contents = put.contents;
        links = put.links;
        linked = linked;
      } in
      let held : length (content m' chunk) ≡ length piece = ap (λ bytes. length bytes) put.holds in
      let f' = filled-linked s.last chunk mc m' links (s.chunks - 1) s.first s.rest f (omega arith) fresh (omega arith)
      (omega arith) in
      let back : suc (s.chunks - 1) ≡ s.chunks + 1 - 1 = omega arith in
      let longer : IsFilled m' (s.chunks + 1 - 1) s.first chunk (s.rest + length piece) =
      subst (λ n. IsFilled m' n s.first chunk (s.rest + length piece)) back
      (subst (λ k. IsFilled m' (suc (s.chunks - 1)) s.first chunk (s.rest + k)) held f') in
      let again : suc (suc (s.chunks - 1)) ≡ s.chunks + 1 = omega arith in
      let bytes : chain_bytes m' (s.chunks + 1) s.first ≡ chain_bytes mc s.chunks s.first ++ piece =
      subst (λ n. chain_bytes m' n s.first ≡ chain_bytes mc s.chunks s.first ++ piece) again
      (subst (λ n. chain_bytes m' (suc (suc (s.chunks - 1))) s.first ≡ chain_bytes mc n s.first ++ piece) count
      (bytes-linked s.last chunk mc m' links (s.chunks - 1) s.first f.comes fresh
      ∙ ap (λ piece. chain_bytes mc (suc (s.chunks - 1)) s.first ++ piece) put.holds)) in
      let long = length-text mc s claimed.fits f has_chunks in
      let few : length (chain_bytes m' (s.chunks + 1) s.first) ≤ t.rest =
      rw (bytes, length-append (chain_bytes mc s.chunks s.first) piece) (omega arith) in
      let times : (x : ℕ) → times_in m' (s.chunks + 1) s.first x ≡ has m s x + (if x == chunk then 1 else 0) = λ x.
      subst (λ n. times_in m' n s.first x ≡ has m s x + (if x == chunk then 1 else 0)) again
      (times-linked s.last chunk mc m' links (s.chunks - 1) s.first x f.comes
      ∙ ap (λ n. times_in mc n s.first x + (if x == chunk then 1 else 0)) count
      ∙ ap (λ times. times + (if x == chunk then 1 else 0)) (left.has x)) in
      record {
        text = filled-text m' t longer (rw (put.links chunk other, put.most) claimed.end) refl (omega arith);
        bytes = whole-bytes m' t refl few ∙ bytes
            ∙ ap (λ bytes. bytes ++ piece) (sym (whole-bytes mc s text.whole (omega arith)) ∙ left.bytes);
        len = refl;
        shared = put-shares (s.chunks + 1) s.first shared times;
        leaves = put-leaves;
        apart = λ x some _. had-other x (omega arith);
        within = rw (put.chunks, put.most) claimed.within;
      }
