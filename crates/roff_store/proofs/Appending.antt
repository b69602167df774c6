-- What stands while the bytes of a strand are put behind a text.
use Rattle.std.proofs.Common.{◌≡◌, ℕ, ◌+◌, ◌-◌, ◌*◌, ◌≤◌, List, [], ◌∷◌, ◌++◌, length, take, drop, inl, inr, refl, sym, ap, subst, ◌∙◌, arith, append-nil, append_assoc, take-append-drop}
use Rattle.std.proofs.lemmas.Bool.{cases_lt}
use Rattle.std.proofs.lemmas.List.Elements.{All-cons, All-head, All-nil}
use Rattle.roff_store.specs.declared.strand.Strand.{Strand}
use Rattle.roff_store.specs.Chains.{Chunks, bytes_of, chain_bytes, has, others, share, shares_in, times_in, AreSameChunks, IsStrand}
use Rattle.roff_store.specs.Pool.{IsHeld, IsLeft, IsLonger}
use Rattle.roff_store.proofs.Leaving.{chunks-enough, chunks-few, is-left}
use Rattle.roff_store.proofs.Pool.{all-left, held-text, longer-beside, longer-held, longer-on, reshared}
use Rattle.roff_store.proofs.Sharing.{AreSameChunks-refl}

-- a part of a strand's bytes stands behind a text, and the strand has the others
pub record Appending (m0 : Chunks) (to0 from0 : Strand) (m : Chunks) (to from : Strand) : Type 0 where
  pub done : List ℕ
  pub longer : IsLonger m0 to0 (from0 ∷ []) done m to (from ∷ [])
  pub to_come : done ++ bytes_of m from ≡ bytes_of m0 from0
  pub rests : to.rest + from.rest ≡ to0.rest + from0.rest
  pub sum : shares_in m + (to0.chunks + from0.chunks) ≡ shares_in m0 + (to.chunks + from.chunks)

-- the strand that is read is one
pub read-strand : {m : Chunks} {to from : Strand} → IsHeld m to (from ∷ []) → IsStrand m from
read-strand {m} {to} {from} h = All-head (IsStrand m) from h.ls h.held.leases

-- at first nothing is done
pub appending-first : (m : Chunks) (to from : Strand) → Appending m to from m to from
appending-first m to from = record {
  done = [];
  longer = record {
    leaves = λ ts ls held. record {
      held = held;
      texts_left = all-left ts (AreSameChunks-refl m);
      leases_left = all-left ls (AreSameChunks-refl m);
    };
    bytes_are = sym (append-nil (bytes_of m to));
    len = omega arith;
    most = refl;
  };
  to_come = refl;
  rests = refl;
  sum = refl;
}

-- a strand without its first bytes
pub record HasPassed (m : Chunks) (from : Strand) (piece : List ℕ) (m1 : Chunks) (from1 : Strand) : Type 0 where
  pub strand : IsStrand m1 from1
  pub bytes : bytes_of m from ≡ piece ++ bytes_of m1 from1
  pub len : from1.rest + length piece ≡ from.rest
  pub shares : (chunk : ℕ) → share m1 chunk ≡ others m from chunk + has m1 from1 chunk
  pub sum : shares_in m1 + from.chunks ≡ shares_in m + from1.chunks
  pub same : AreSameChunks m m1

-- what was read of a strand is what it goes on without
pub has_passed : {m m1 : Chunks} {from from1 : Strand} {piece front : List ℕ} {count : ℕ} → IsStrand m1 from1
    → piece ≡ front → count ≡ length front → front ≡ take (length front) (bytes_of m from) → length front ≤ from.rest
    → bytes_of m1 from1 ≡ drop count (bytes_of m from) → from1.rest ≡ from.rest - count
    → ((chunk : ℕ) → share m1 chunk ≡ others m from chunk + has m1 from1 chunk)
    → shares_in m1 + from.chunks ≡ shares_in m + from1.chunks → AreSameChunks m m1 → HasPassed m from piece m1 from1
has_passed {m} {m1} {from} {from1} {piece} {front} {count} strand same_piece counted begins within behind len shares sum same =
    rw same_piece (record {
      strand = strand;
      bytes = sym (take-append-drop (length front) (bytes_of m from))
          ∙ ap (λ begun. begun ++ drop (length front) (bytes_of m from)) (sym begins)
          ∙ ap (λ rest. front ++ rest) (sym (behind ∙ ap (λ n. drop n (bytes_of m from)) counted));
      len = omega arith;
      shares = shares;
      sum = sum;
      same = same;
    })

module _ {m0 m m1 : Chunks} {to0 from0 to from from1 : Strand} {piece : List ℕ} (h : IsHeld m0 to0 (from0 ∷ []))
    (a : Appending m0 to0 from0 m to from) (passed : HasPassed m from piece m1 from1) where
  -- bytes are passed, and the text is as it was
  passed-longer : IsLonger m to (from ∷ []) [] m1 to (from1 ∷ [])
  passed-longer = record {
    leaves = λ ts ls held. record {
      held =
          reshared [] (from ∷ []) (from1 ∷ []) ls held passed.same
          (All-cons (IsStrand m1) from1 [] passed.strand (All-nil (IsStrand m1))) (λ chunk. omega (arith, passed.shares chunk))
          (omega (arith, passed.sum));
      texts_left = all-left ts passed.same;
      leases_left = all-left ls passed.same;
    };
    bytes_are = (is-left m m1 to passed.same).bytes ∙ sym (append-nil (bytes_of m to));
    len = omega arith;
    most = passed.same.most;
  }

  pub passed-held : IsHeld m1 to (from1 ∷ [])
  passed-held = longer-held (longer-held h a.longer) passed-longer

  -- the text alone is in hand
  pub text-held : IsHeld m1 to []
  text-held = record { ts = passed-held.ts; ls = from1 ∷ passed-held.ls; held = passed-held.held }

  -- there is room for what was passed
  pub passed-room : shares_in m0 + 3 ≤ m0.most → 120 * shares_in m1 + to.rest + length piece + 119 ≤ 120 * (m1.most + to.chunks)
  passed-room room =
      let text = held-text h in
      let few = chunks-few m1 from1 passed.strand in
      let start = passed.strand.start in
      omega (
        arith,
        room,
        few,
        start,
        chunks-enough m0 to0 text.strand,
        chunks-enough m0 from0 (read-strand h),
        passed.sum,
        a.sum,
        passed.len,
        a.rests,
        passed.same.most,
        a.longer.most,
      )

  -- it is put behind the text
  pub appending-next : {m2 : Chunks} {to2 : Strand} → IsLonger m1 to [] piece m2 to2 [] → shares_in m2 + to.chunks ≡ shares_in m1 + to2.chunks
      → Appending m0 to0 from0 m2 to2 from1
  appending-next {m2} {to2} more sum =
      let all = more.leaves passed-held.ts (from1 ∷ passed-held.ls) passed-held.held in
      let left : IsLeft m1 m2 from1 = All-head (IsLeft m1 m2) from1 passed-held.ls all.leases_left in
      record {
        done = a.done ++ [] ++ piece;
        longer = longer-on (longer-on a.longer passed-longer) (longer-beside more from1);
        to_come = ap (λ d. d ++ piece ++ bytes_of m2 from1) (append-nil a.done) ∙ append_assoc a.done piece (bytes_of m2 from1)
            ∙ ap (λ rest. a.done ++ rest) (ap (λ rest. piece ++ rest) left.bytes ∙ sym passed.bytes) ∙ a.to_come;
        rests = omega (arith, a.rests, passed.len, more.len);
        sum = omega (arith, a.sum, passed.sum, sum);
      }

-- a strand without bytes has no chunks
no-chunks : (m : Chunks) (s : Strand) → IsStrand m s → s.rest ≡ 0 → s.chunks ≡ 0
no-chunks m s strand none =
    elim (cases_lt 0 s.chunks) [
      | inl some ↦ (let bytes = strand.some some in absurd (omega arith))
      | inr few ↦ omega arith
    ]

-- all bytes of the strand stand behind the text
pub appending-last : {m0 m : Chunks} {to0 from0 to from : Strand} → Appending m0 to0 from0 m to from → from.rest ≡ 0
    → IsLonger m0 to0 (from0 ∷ []) (bytes_of m0 from0) m to []
appending-last {m0} {m} {to0} {from0} {to} {from} a none =
    let empty : bytes_of m from ≡ [] = ap (λ n. take n (drop from.at (chain_bytes m from.chunks from.first))) none in
    let whole : a.done ≡ bytes_of m0 from0 = sym (append-nil a.done) ∙ ap (λ rest. a.done ++ rest) (sym empty) ∙ a.to_come in
    subst (λ done. IsLonger m0 to0 (from0 ∷ []) done m to []) whole (record {
      leaves = λ ts ls held0.
          let all = a.longer.leaves ts ls held0 in
          let few = no-chunks m from (All-head (IsStrand m) from ls all.held.leases) none in
          record {
            held =
                reshared [] (from ∷ []) [] ls all.held (AreSameChunks-refl m) (All-nil (IsStrand m))
                (λ chunk. let gone : has m from chunk ≡ 0 = ap (λ n. times_in m n from.first chunk) few in omega (arith, gone))
                (omega (arith, few));
            texts_left = all.texts_left;
            leases_left = all.leases_left;
          };
      bytes_are = a.longer.bytes_are;
      len = a.longer.len;
      most = a.longer.most;
    })
