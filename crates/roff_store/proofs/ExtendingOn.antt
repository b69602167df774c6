-- While bytes are put behind a text, chunk by chunk.
use Rattle.std.proofs.Common.{◌≡◌, ◌≢◌, ℕ, ◌+◌, ◌*◌, ◌<◌, ◌≤◌, List, [], ◌++◌, length, set, get_or, inl, inr, refl, sym, ap, subst, ◌∙◌, arith, length-append, length-set, min, sum, append_assoc, append-nil, get_or-set_other, get_or-set_same}
use Rattle.std.proofs.lemmas.Bool.{cases_eq}
use Rattle.std.proofs.lemmas.List.{nil_from_length}
use Rattle.arrayvec.specs.ArrayVec.{ArrayVec as Bytes}
use Rattle.roff_store.specs.declared.strand.Strand.{Strand}
use Rattle.roff_store.specs.declared.chunks.Chunks.TheInside.{Inside}
use Rattle.roff_store.specs.Chunks.Kept.{kept_by, IsSound}
use Rattle.roff_store.specs.Chains.{Chunks, bytes_of, content, link, others, share, shares_in, IsChain, IsExtended, IsShared, IsText, LeavesOthers}
use Rattle.roff_store.specs.Pool.{IsLonger}
use Rattle.roff_store.proofs.Filling.{IsGrown}
use Rattle.roff_store.proofs.Extending.{IsClaimed, IsPut}
use Rattle.roff_store.proofs.Pool.{longer, longer-on}

-- no bytes behind a text
pub extended-none : (m : Chunks) (s : Strand) → IsText m s → IsShared m s → length m.contents ≤ m.most
    → IsExtended (others m s) m s [] m s
extended-none m s text shared within = record {
  text = text;
  bytes = sym (append-nil (bytes_of m s));
  len = omega arith;
  shared = λ chunk. let here = shared chunk in omega arith;
  leaves = record {
    most = refl;
    chunks = omega arith;
    same_bytes = λ chunk _ _. refl;
    same_link = λ chunk _ _. refl;
    grown = λ _. record { more = []; grown = sym (append-nil (content m s.last)) };
  };
  apart = λ chunk _ other. other;
  within = within;
}

-- while bytes are put behind a text: where some are left, its chunks are full
pub record Extending (m0 : Chunks) (s0 : Strand) (text : List ℕ) (m : Chunks) (s : Strand) (behind : List ℕ) : Type 0 where
  pub done : List ℕ
  pub split : done ++ behind ≡ text
  pub longer : IsLonger m0 s0 [] done m s []
  pub full : 0 < length behind → s.rest ≡ 120 * s.chunks
  pub sum : shares_in m + s0.chunks ≡ shares_in m0 + s.chunks

-- a chunk with more bytes
pub grown-set : (m : Chunks) (last : ℕ) (bytes : Bytes ℕ) (more : List ℕ) → last < length m.contents
    → bytes.items ≡ content m last ++ more → IsGrown last more m (record m { contents = set m.contents last bytes })
grown-set m last bytes more there longer = record {
  most = refl;
  chunks = length-set m.contents last bytes;
  others = λ other apart. ap (λ (b : Bytes ℕ). b.items) (get_or-set_other m.contents last other bytes _ apart);
  links = λ other. refl;
  shares = refl;
  grown = ap (λ (b : Bytes ℕ). b.items) (get_or-set_same m.contents last bytes _ there) ∙ longer;
}

-- a claimed chunk with bytes, and links of which one may be another
pub put-set : (mc : Chunks) (last chunk : ℕ) (bytes : Bytes ℕ) (piece links : List ℕ) → chunk < length mc.contents
    → bytes.items ≡ piece → ((other : ℕ) → other ≢ last → get_or links other mc.most ≡ link mc other)
    → IsPut last chunk piece mc (record mc { contents = set mc.contents chunk bytes; links = links })
put-set mc last chunk bytes piece links there holds same = record {
  most = refl;
  chunks = length-set mc.contents chunk bytes;
  contents = λ other apart. ap (λ (b : Bytes ℕ). b.items) (get_or-set_other mc.contents chunk other bytes _ apart);
  holds = ap (λ (b : Bytes ℕ). b.items) (get_or-set_same mc.contents chunk bytes _ there) ∙ holds;
  links = same;
  shares = refl;
}

-- what is known of a claimed chunk, of the fields
pub claimed-chunk : (a : Inside) (m mc : Chunks) (chunk : ℕ) → IsSound a → kept_by a ≡ mc → share m chunk ≡ 0
    → chunk < length mc.contents → mc.most ≤ link mc chunk → share mc chunk ≡ 1
    → ((other : ℕ) → other ≢ chunk → share mc other ≡ share m other) → LeavesOthers (share m) m.most m mc
    → IsClaimed m (kept_by a) chunk
claimed-chunk a m mc chunk sound is fresh there end once shares leaves =
    let contents = a.contents.ok.0 in
    let lengths = a.shares.ok.0 in
    let within = sound.within in
    let as_many = sound.shares in
    subst (λ new. length new.contents ≤ new.most → length new.shares ≤ new.most
    → ((other : ℕ) → length (content new other) ≤ 120) → IsClaimed m new chunk) (sym is)
    (λ within known fits. record {
      fresh = fresh;
      there = there;
      end = end;
      claimed = once;
      shares = shares;
      leaves = leaves;
      within = within;
      known = known;
      fits = fits;
    }) (omega arith) (omega arith) sound.fits

-- the room behind a text and its bytes are all that its chunks hold
pub room-full : (m : Chunks) (s : Strand) (room : ℕ) → IsText m s → (s.chunks ≡ 0 → room ≡ 0)
    → (0 < s.chunks → room + s.rest ≡ 120 * s.chunks) → room + s.rest ≡ 120 * s.chunks
room-full m s room text none left =
    elim (cases_eq s.chunks 0) [
      | inl e ↦ (
          let rest : s.at + s.rest ≡ 0 = subst (λ chunks. IsChain m chunks s.first (s.at + s.rest)) e text.strand.chain in
          let no = none e in
          omega arith)
      | inr e ↦ left (omega arith)
    ]

-- what stands once the last chunk has as many of the bytes as it has room for
pub extending-first : (m0 m : Chunks) (s0 s : Strand) (text front behind : List ℕ) (room : ℕ) → IsText m0 s0
    → (s0.chunks ≡ 0 → room ≡ 0) → (0 < s0.chunks → room + s0.rest ≡ 120 * s0.chunks) → front ++ behind ≡ text
    → length front ≡ min (length text) room → IsExtended (others m0 s0) m0 s0 front m s → s.chunks ≡ s0.chunks
    → m.shares ≡ m0.shares → Extending m0 s0 text m s behind
extending-first m0 m s0 s text front behind room is_text none left split count extended chunks shares =
    let full = room-full m0 s0 room is_text none left in
    let len = extended.len in
    let all : length front + length behind ≡ length text = sym (length-append front behind) ∙ ap length split in
    let all_shares : shares_in m + s0.chunks ≡ shares_in m0 + s.chunks =
    ap (λ shares. sum shares + s0.chunks) shares ∙ ap (λ n. shares_in m0 + n) (sym chunks) in
    record {
      done = front;
      split = split;
      longer = longer extended all_shares;
      full = λ some. omega arith;
      sum = all_shares;
    }

-- there is room for one more chunk
pub extending-room : (m0 m : Chunks) (s0 s : Strand) (text behind : List ℕ) → Extending m0 s0 text m s behind
    → 120 * shares_in m0 + s0.rest + length text + 119 ≤ 120 * (m0.most + s0.chunks) → 0 < length behind
    → shares_in m < m.most
extending-room m0 m s0 s text behind e room some =
    let full = e.full some in
    let sum = e.sum in
    let len = e.longer.len in
    let most = e.longer.most in
    let all : length e.done + length behind ≡ length text = sym (length-append e.done behind) ∙ ap length e.split in
    omega arith

-- and the text doesn't get too long
pub extending-short : (m0 m : Chunks) (s0 s : Strand) (text behind : List ℕ) → Extending m0 s0 text m s behind
    → s.rest + length behind ≡ s0.rest + length text
extending-short m0 m s0 s text behind e =
    let len = e.longer.len in
    let all : length e.done + length behind ≡ length text = sym (length-append e.done behind) ∙ ap length e.split in
    omega arith

-- what stands once one more chunk has the next bytes
pub extending-next : (m0 m m' : Chunks) (s0 s s' : Strand) (text behind piece later : List ℕ) → Extending m0 s0 text m s behind
    → 0 < length behind → piece ++ later ≡ behind → length piece ≡ min (length behind) 120
    → IsExtended (others m s) m s piece m' s' → s'.chunks ≡ s.chunks + 1 → shares_in m' ≡ shares_in m + 1
    → Extending m0 s0 text m' s' later
extending-next m0 m m' s0 s s' text behind piece later e some split count extended chunks more =
    let full = e.full some in
    let sum = e.sum in
    let len = extended.len in
    let all : length piece + length later ≡ length behind = sym (length-append piece later) ∙ ap length split in
    record {
      done = e.done ++ piece;
      split = append_assoc e.done piece later ∙ ap (λ behind. e.done ++ behind) split ∙ e.split;
      longer = longer-on e.longer (longer extended (omega (arith, chunks, more)));
      full = λ left. omega arith;
      sum = omega arith;
    }

-- once no bytes are left, all are behind the text
pub extending-last : (m0 m : Chunks) (s0 s : Strand) (text behind : List ℕ) → Extending m0 s0 text m s behind
    → length behind ≡ 0 → IsLonger m0 s0 [] text m s []
extending-last m0 m s0 s text behind e none =
    let all : e.done ≡ text =
    sym (append-nil e.done) ∙ ap (λ behind. e.done ++ behind) (sym (nil_from_length behind none)) ∙ e.split in
    subst (λ done. IsLonger m0 s0 [] done m s []) all e.longer
