-- The pool of chunks and the strands that it holds, while chunks are claimed, filled, shared and let go.
use Rattle.std.proofs.Common.{refl, sym, ap, subst, ◌∙◌, ◌⊎◌, ⊎_elim, arith, length-append, ◌≡◌, ◌≢◌, ℕ, ◌+◌, ◌-◌, ◌*◌, ◌<◌, ◌≤◌, List, [], ◌∷◌, ◌++◌, length, get_or, map, sum_by, All, IsPermutation, Option, Some, None, append_assoc}
use Rattle.std.proofs.lemmas.List.Elements.{All-append, All-cons, All-head, All-nil, All-tail, All-weaker}
use Rattle.std.proofs.lemmas.List.Sorted.{All-permutation, sum_by-IsPermutation}
use Rattle.std.proofs.lemmas.List.Sums.{get_or-le-sum_by, sum_by-append, sum_by-cons, sum_by-le}
use Rattle.roff_store.specs.declared.strand.Strand.{Strand}
use Rattle.roff_store.specs.declared.text_store.Meaning.{Meaning}
use Rattle.roff_store.specs.declared.text_store.Meaning.TheVariants.{Body as BodyIn, Request as RequestOf}
use Rattle.roff_store.specs.Pool.{chunks_in, ends_in, Holds, IsHeld, IsLeft, IsLonger, Leaves, rest_in, shares_by}
use Rattle.roff_store.specs.Chains.{Chunks, bytes_of, has, link, others, share, shares_in, times_in, AreSameChunks, IsChain, IsExtended, IsShared, IsStrand, IsText}
use Rattle.roff_store.specs.Leases.{living, strands_if}
use Rattle.roff_store.specs.Named.{Named}
use Rattle.roff_store.specs.Texts.{Body, bytes_in, bytes_of as bytes_in_entry, rest_of}
use Rattle.roff_store.specs.TextStore.Strands.{bodies, entries_in, entry_in, lease_in, strands_of}
use Rattle.roff_store.proofs.Ends.{HasLast-text, ends_in-cases, ends_in-last, ends_in-other, has-past}
use Rattle.roff_store.proofs.LyingSums.{map-same, sum_by-bound, sum_by-map-same, sum_by-same}
use Rattle.roff_store.proofs.Leaving.{chunks-few, is-left, length-bytes_of, strand-left, strand-same, text-left, text-same}

-- what holds of all of two lists holds of all of each
pub All-front : {X : Type 0} (P : X → Type 0) (xs ys : List X) → All P (xs ++ ys) → All P xs
All-front P [] ys all = All-nil P
All-front P (x ∷ xs) ys all = All-cons P x xs (All-head P x (xs ++ ys) all) (All-front P xs ys (All-tail P x (xs ++ ys) all))

pub All-behind : {X : Type 0} (P : X → Type 0) (xs ys : List X) → All P (xs ++ ys) → All P ys
All-behind P [] ys all = all
All-behind P (x ∷ xs) ys all = All-behind P xs ys (All-tail P x (xs ++ ys) all)

-- in any order
pub Holds-order : {m : Chunks} {ts ts' ls ls' : List Strand} → IsPermutation ts ts' → IsPermutation ls ls' → Holds m ts ls
    → Holds m ts' ls'
Holds-order {m} {ts} {ts'} {ls} {ls'} texts leases held = record {
  texts = All-permutation (IsText m) ts ts' texts held.texts;
  leases = All-permutation (IsStrand m) ls ls' leases held.leases;
  shares = λ chunk.
      omega (
        arith,
        held.shares chunk,
        sum_by-IsPermutation (λ strand. has m strand chunk) ts ts' texts,
        sum_by-IsPermutation (λ strand. has m strand chunk) ls ls' leases,
      );
  sum =
      omega (
        arith,
        held.sum,
        sum_by-IsPermutation (λ (strand : Strand). strand.chunks) ts ts' texts,
        sum_by-IsPermutation (λ (strand : Strand). strand.chunks) ls ls' leases,
      );
  apart = λ chunk. omega (arith, held.apart chunk, sum_by-IsPermutation (ends_in chunk) ts ts' texts);
  within = held.within;
}

-- each strand is left, and one that is left twice is left
pub all-left : {m m' : Chunks} (xs : List Strand) → AreSameChunks m m' → All (IsLeft m m') xs
all-left {m} {m'} xs same k d inside = is-left m m' (get_or xs k d) same

pub left-on : {m m' m'' : Chunks} (xs : List Strand) → All (IsLeft m m') xs → All (IsLeft m' m'') xs → All (IsLeft m m'') xs
left-on xs first later k d inside = record {
  bytes = (later k d inside).bytes ∙ (first k d inside).bytes;
  has = λ chunk. (later k d inside).has chunk ∙ (first k d inside).has chunk;
}

-- strands have no other chunks than there are
none-past : (m : Chunks) (xs : List Strand) (chunk : ℕ) → All (IsStrand m) xs → length m.contents ≤ chunk
    → shares_by m chunk xs ≡ 0
none-past m xs chunk strands past =
    let none = sum_by-le (λ x. has m x chunk) 0 xs
    (λ k d inside. let e = has-past m (get_or xs k d) chunk (strands k d inside) past in omega (arith, e)) in
    omega (arith, none)

module _ {m m' : Chunks} {text t : Strand} {bytes : List ℕ} (extended : IsExtended (others m text) m text bytes m' t)
    (ts ls : List Strand) (held : Holds m (text ∷ ts) ls) where
  texts : All (IsText m) ts
  texts = All-tail (IsText m) text ts held.texts

  strands : All (IsStrand m) ts
  strands = All-weaker (IsText m) (IsStrand m) (λ x is_x. is_x.strand) ts texts

  is_text : IsText m text
  is_text = All-head (IsText m) text ts held.texts

  -- the chunks of the others are claimed
  claimed : (chunk : ℕ) → others m text chunk ≡ shares_by m chunk ts + shares_by m chunk ls
  claimed chunk = omega (arith, held.shares chunk, sum_by-cons (λ x. has m x chunk) text ts)

  claimed-by : (xs : List Strand) → ((chunk : ℕ) → shares_by m chunk xs ≤ others m text chunk)
      → All (λ x. (chunk : ℕ) → 0 < has m x chunk → 0 < others m text chunk) xs
  claimed-by xs few k d inside chunk some =
      omega (arith, get_or-le-sum_by (λ x. has m x chunk) xs k d inside, few chunk, some)

  few-texts : (chunk : ℕ) → shares_by m chunk ts ≤ others m text chunk
  few-texts chunk = omega (arith, claimed chunk)

  few-leases : (chunk : ℕ) → shares_by m chunk ls ≤ others m text chunk
  few-leases chunk = omega (arith, claimed chunk)

  -- nothing comes behind the chunk that may get longer
  end : 0 < others m text text.last → m.most ≤ link m text.last
  end some =
      ⊎_elim
      (λ (e : text.chunks ≡ 0). absurd (omega (
        arith,
        some,
        claimed text.last,
        is_text.none e,
        held.within,
        none-past m ts text.last strands (omega (arith, is_text.none e, held.within)),
        none-past m ls text.last held.leases (omega (arith, is_text.none e, held.within)),
      )))
      (λ (e : 0 < text.chunks). (is_text.ends e).end)
      (let cases : (text.chunks ≡ 0) ⊎ (0 < text.chunks) = grind arith in cases)

  -- each text ends elsewhere
  elsewhere : All (λ x. 0 < x.chunks → x.last ≢ text.last) ts
  elsewhere k d inside some same =
      let x : Strand = get_or ts k d in
      let last = HasLast-text m x (texts k d inside) some in
      let one = get_or-le-sum_by (ends_in text.last) ts k d inside in
      let here = subst (λ c. ends_in c x ≡ 1) same (ends_in-last x some) in
      let all = sum_by-cons (ends_in text.last) text ts in
      ⊎_elim
      (λ (e : text.chunks ≡ 0). absurd (omega (arith, is_text.none e, last.chunk, same, held.within)))
      (λ (e : 0 < text.chunks). absurd (omega (arith, held.apart text.last, all, one, ends_in-last text e, here)))
      (let cases : (text.chunks ≡ 0) ⊎ (0 < text.chunks) = grind arith in cases)

  strands-grown : (xs : List Strand) → All (IsStrand m) xs → ((chunk : ℕ) → shares_by m chunk xs ≤ others m text chunk)
      → All (λ x. IsStrand m' x × IsLeft m m' x) xs
  strands-grown xs all few k d inside =
      strand-left (others m text) text.last m m' (get_or xs k d) extended.leaves held.within end (all k d inside)
      (claimed-by xs few k d inside)

  left-texts : All (IsLeft m m') ts
  left-texts k d inside = (strands-grown ts strands few-texts k d inside).1

  left-leases : All (IsLeft m m') ls
  left-leases k d inside = (strands-grown ls held.leases few-leases k d inside).1

  -- none of them ends where the longer one does
  apart-grown : (chunk : ℕ) → ends_in chunk t + sum_by (ends_in chunk) ts ≤ 1
  apart-grown chunk =
      let none = sum_by-le (ends_in t.last) 0 ts (λ k d inside.
      let x : Strand = get_or ts k d in
      let other = ends_in-other t.last x (λ some same.
      let last = HasLast-text m x (texts k d inside) some in
      extended.apart x.last (claimed-by ts few-texts k d inside x.last last.has) (elsewhere k d inside some) same) in
      omega (arith, other)) in
      ⊎_elim
      (λ (e : ends_in chunk t ≡ 0). omega (arith, held.apart chunk, sum_by-cons (ends_in chunk) text ts, e))
      (λ (e : (ends_in chunk t ≡ 1) × (t.last ≡ chunk)).
      let nothing = subst (λ c. sum_by (ends_in c) ts ≤ length ts * 0) e.1 none in omega (arith, nothing, e.0))
      (ends_in-cases chunk t)

  -- bytes are put behind a text
  grown : shares_in m' + text.chunks ≡ shares_in m + t.chunks → Leaves m m' (t ∷ []) [] ts ls
  grown sum = record {
    held = record {
      texts = All-cons (IsText m') t ts extended.text (λ k d inside.
          text-left (others m text) text.last m m' (get_or ts k d) extended.leaves held.within end (texts k d inside)
          (claimed-by ts few-texts k d inside) (elsewhere k d inside));
      leases = λ k d inside. (strands-grown ls held.leases few-leases k d inside).0;
      shares = λ chunk.
          omega (
            arith,
            extended.shared chunk,
            claimed chunk,
            sum_by-cons (λ x. has m' x chunk) t ts,
            sum_by-same (λ x. has m' x chunk) (λ x. has m x chunk) ts (λ k d inside. (left-texts k d inside).has chunk),
            sum_by-same (λ x. has m' x chunk) (λ x. has m x chunk) ls (λ k d inside. (left-leases k d inside).has chunk),
          );
      sum =
          let chunks : Strand → ℕ = λ x. x.chunks in
          omega (arith, sum, held.sum, sum_by-cons chunks text ts, sum_by-cons chunks t ts);
      apart = λ chunk. omega (arith, apart-grown chunk, sum_by-cons (ends_in chunk) t ts);
      within = extended.within;
    };
    texts_left = left-texts;
    leases_left = left-leases;
  }

pub longer : {m m' : Chunks} {s t : Strand} {bytes : List ℕ} → IsExtended (others m s) m s bytes m' t
    → shares_in m' + s.chunks ≡ shares_in m + t.chunks → IsLonger m s [] bytes m' t []
longer extended sum = record {
  leaves = λ ts ls held. grown extended ts ls held sum;
  bytes_are = extended.bytes;
  len = extended.len;
  most = extended.leaves.most;
}

-- what is held: a text, which has its chunks, and stays held with more bytes behind it
pub held-text : {m : Chunks} {s : Strand} {reads : List Strand} → IsHeld m s reads → IsText m s
held-text {m} {s} h = All-head (IsText m) s h.ts h.held.texts

pub longer-held : {m m' : Chunks} {s t : Strand} {was now : List Strand} {bytes : List ℕ} → IsHeld m s was → IsLonger m s was bytes m' t now → IsHeld m' t now
longer-held h more = record { ts = h.ts; ls = h.ls; held = (more.leaves h.ts h.ls h.held).held }

-- a text that is read is no text any more
pub text-read-on : {m : Chunks} {to from : Strand} {ts ls : List Strand} → Holds m (to ∷ from ∷ ts) ls → Holds m (to ∷ ts) (from ∷ ls)
text-read-on {m} {to} {from} {ts} {ls} held =
    let first = All-tail (IsText m) to (from ∷ ts) held.texts in
    let text = All-head (IsText m) from ts first in
    record {
      texts = All-cons (IsText m) to ts (All-head (IsText m) to (from ∷ ts) held.texts) (All-tail (IsText m) from ts first);
      leases = All-cons (IsStrand m) from ls text.strand held.leases;
      shares = λ chunk.
          let f : Strand → ℕ = λ x. has m x chunk in
          omega (arith, held.shares chunk, sum_by-cons f to (from ∷ ts), sum_by-cons f from ts, sum_by-cons f to ts, sum_by-cons f from ls);
      sum =
          let f : Strand → ℕ = λ x. x.chunks in
          omega (arith, held.sum, sum_by-cons f to (from ∷ ts), sum_by-cons f from ts, sum_by-cons f to ts, sum_by-cons f from ls);
      apart = λ chunk.
          let f = ends_in chunk in
          omega (arith, held.apart chunk, sum_by-cons f to (from ∷ ts), sum_by-cons f from ts, sum_by-cons f to ts);
      within = held.within;
    }

-- bytes are put behind a text twice, or beside what is read
pub longer-on : {m0 m1 m2 : Chunks} {s0 s1 s2 : Strand} {was between now : List Strand} {done more : List ℕ}
    → IsLonger m0 s0 was done m1 s1 between → IsLonger m1 s1 between more m2 s2 now → IsLonger m0 s0 was (done ++ more) m2 s2 now
longer-on {m0} {m1} {m2} {s0} {s1} {s2} {was} {between} {now} {done} {more} before behind = record {
  leaves = λ ts ls held.
      let first = before.leaves ts ls held in
      let later = behind.leaves ts ls first.held in
      record {
        held = later.held;
        texts_left = left-on ts first.texts_left later.texts_left;
        leases_left = left-on ls first.leases_left later.leases_left;
      };
  bytes_are = behind.bytes_are ∙ ap (λ bytes. bytes ++ more) before.bytes_are ∙ append_assoc (bytes_of m0 s0) done more;
  len = omega (arith, before.len, behind.len, length-append done more);
  most = behind.most ∙ before.most;
}

pub longer-beside : {m m' : Chunks} {s t : Strand} {bytes : List ℕ} → IsLonger m s [] bytes m' t [] → (read : Strand)
    → IsLonger m s (read ∷ []) bytes m' t (read ∷ [])
longer-beside {m} {m'} more read = record {
  leaves = λ ts ls held.
      let all = more.leaves ts (read ∷ ls) held in
      record { held = all.held; texts_left = all.texts_left; leases_left = All-tail (IsLeft m m') read ls all.leases_left };
  bytes_are = more.bytes_are;
  len = more.len;
  most = more.most;
}

-- texts and leases go and leases come, by shares alone
pub reshared : {m m' : Chunks} (gone : List Strand) {ts : List Strand} (ended begun ls : List Strand)
    → Holds m (gone ++ ts) (ended ++ ls) → AreSameChunks m m' → All (IsStrand m') begun
    → ((chunk : ℕ) → share m' chunk
    ≡ share m chunk - shares_by m chunk gone - shares_by m chunk ended + shares_by m' chunk begun)
    → shares_in m' + chunks_in gone + chunks_in ended ≡ shares_in m + chunks_in begun → Holds m' ts (begun ++ ls)
reshared {m} {m'} gone {ts} ended begun ls held same are_strands shares sum = record {
  texts = All-weaker (IsText m) (IsText m') (λ x. text-same m m' x same) ts (All-behind (IsText m) gone ts held.texts);
  leases =
      All-append (IsStrand m') begun ls are_strands
      (All-weaker (IsStrand m) (IsStrand m') (λ x. strand-same m m' x same) ls (All-behind (IsStrand m) ended ls held.leases));
  shares = λ chunk.
      let now : Strand → ℕ = λ x. has m' x chunk in
      let was : Strand → ℕ = λ x. has m x chunk in
      omega (
        arith,
        shares chunk,
        held.shares chunk,
        sum_by-append was gone ts,
        sum_by-append was ended ls,
        sum_by-append now begun ls,
        sum_by-same now was ts (λ k d inside. (is-left m m' (get_or ts k d) same).has chunk),
        sum_by-same now was ls (λ k d inside. (is-left m m' (get_or ls k d) same).has chunk),
      );
  sum =
      let chunks : Strand → ℕ = λ x. x.chunks in
      omega (arith, sum, held.sum, sum_by-append chunks gone ts, sum_by-append chunks ended ls, sum_by-append chunks begun ls);
  apart = λ chunk. omega (arith, held.apart chunk, sum_by-append (ends_in chunk) gone ts);
  within = let chunks = ap length same.contents in omega (arith, held.within, same.most);
}

-- strands have their chunks
pub texts-shared : {m : Chunks} {ts ls : List Strand} → Holds m ts ls → All (IsShared m) ts
texts-shared {m} {ts} held k d inside chunk =
    omega (arith, held.shares chunk, get_or-le-sum_by (λ x. has m x chunk) ts k d inside)

pub leases-shared : {m : Chunks} {ts ls : List Strand} → Holds m ts ls → All (IsShared m) ls
leases-shared {m} {ts} {ls} held k d inside chunk =
    omega (arith, held.shares chunk, get_or-le-sum_by (λ x. has m x chunk) ls k d inside)

pub held-shared : {m : Chunks} {s : Strand} {reads : List Strand} → IsHeld m s reads → IsShared m s
held-shared {m} {s} h = All-head (IsShared m) s h.ts (texts-shared h.held)

pub read-shared : {m : Chunks} {s read : Strand} → IsHeld m s (read ∷ []) → IsShared m read
read-shared {m} {s} {read} h = All-head (IsShared m) read h.ls (leases-shared h.held)

-- a text without bytes takes none
pub blank-text : (m : Chunks) (s : Strand) → m.most ≤ s.last → s.chunks ≡ 0 → s.at ≡ 0 → s.rest ≡ 0 → IsText m s
blank-text m s last none at rest = record {
  strand = record {
    chain = subst (λ (n : ℕ). IsChain m n s.first (s.at + s.rest)) (sym none) (omega (arith, at, rest));
    start = omega (arith, at);
    some = λ some. omega (arith, some, none);
  };
  whole = at;
  ends = λ some. absurd (omega (arith, some, none));
  none = λ _. last;
}

pub blank-held : {m : Chunks} {ts ls : List Strand} (s : Strand) → Holds m ts ls → IsText m s → s.chunks ≡ 0
    → Holds m (s ∷ ts) ls
blank-held {m} {ts} {ls} s held text none = record {
  texts = All-cons (IsText m) s ts text held.texts;
  leases = held.leases;
  shares = λ chunk.
      let nothing : has m s chunk ≡ 0 = ap (λ n. times_in m n s.first chunk) none in
      omega (arith, held.shares chunk, nothing, sum_by-cons (λ x. has m x chunk) s ts);
  sum = omega (arith, held.sum, none, sum_by-cons (λ (x : Strand). x.chunks) s ts);
  apart = λ chunk.
      let nothing : ends_in chunk s ≡ 0 = rw none refl in
      omega (arith, held.apart chunk, nothing, sum_by-cons (ends_in chunk) s ts);
  within = held.within;
}

-- what strands that are left give is as it was
entry-left : (m m' : Chunks) (e : Meaning) → All (IsLeft m m') (strands_of (Some e)) → entry_in m' e ≡ entry_in m e
entry-left m m' (BodyIn strand) left = ap (λ bytes. Body bytes) (All-head (IsLeft m m') strand [] left).bytes
entry-left m m' (RequestOf number) left = refl

pub entries-left : (m m' : Chunks) (names : Named Meaning) → All (IsLeft m m') (bodies names)
    → entries_in m' names ≡ entries_in m names
entries-left m m' [] left = refl
entries-left m m' (e ∷ names) left =
    let here = entry-left m m' e.1 (All-front (IsLeft m m') (strands_of (Some e.1)) (bodies names) left) in
    let others = entries-left m m' names (All-behind (IsLeft m m') (strands_of (Some e.1)) (bodies names) left) in
    cc

pub opens-left : (m m' : Chunks) (opens : List Strand) → All (IsLeft m m') opens → map (bytes_of m') opens ≡ map (bytes_of m) opens
opens-left m m' opens left = map-same (bytes_of m') (bytes_of m) opens (λ k d inside. (left k d inside).bytes)

lease-left : (m m' : Chunks) (lease : Option Strand) → All (IsLeft m m') (strands_if lease) → lease_in m' lease ≡ lease_in m lease
lease-left m m' None left = refl
lease-left m m' (Some strand) left = ap (λ bytes. Some bytes) (All-head (IsLeft m m') strand [] left).bytes

pub leases-left : (m m' : Chunks) (leases : List (Option Strand)) → All (IsLeft m m') (living leases)
    → map (lease_in m') leases ≡ map (lease_in m) leases
leases-left m m' [] left = refl
leases-left m m' (lease ∷ leases) left =
    let here = lease-left m m' lease (All-front (IsLeft m m') (strands_if lease) (living leases) left) in
    let others = leases-left m m' leases (All-behind (IsLeft m m') (strands_if lease) (living leases) left) in
    cc

-- how many bytes names, texts in the making and leases have
entry-rest : (m : Chunks) (e : Meaning) → All (IsText m) (strands_of (Some e))
    → length (bytes_in_entry (entry_in m e)) ≡ rest_in (strands_of (Some e))
entry-rest m (BodyIn strand) text = omega (arith, length-bytes_of m strand (All-head (IsText m) strand [] text).strand)
entry-rest m (RequestOf number) text = refl

pub names-rest : (m : Chunks) (names : Named Meaning) → All (IsText m) (bodies names)
    → bytes_in (entries_in m names) ≡ rest_in (bodies names)
names-rest m [] texts = refl
names-rest m (e ∷ names) texts =
    let here = entry-rest m e.1 (All-front (IsText m) (strands_of (Some e.1)) (bodies names) texts) in
    let others = names-rest m names (All-behind (IsText m) (strands_of (Some e.1)) (bodies names) texts) in
    omega (
      arith,
      here,
      others,
      sum_by-append (λ (x : Strand). x.rest) (strands_of (Some e.1)) (bodies names),
      sum_by-cons (λ e. length (bytes_in_entry e.1)) (e.0, entry_in m e.1) (entries_in m names),
    )

pub opens-rest : (m : Chunks) (opens : List Strand) → All (IsText m) opens → sum_by length (map (bytes_of m) opens) ≡ rest_in opens
opens-rest m opens texts =
    sum_by-map-same length (bytes_of m) (λ (x : Strand). x.rest) opens
    (λ k d inside. length-bytes_of m (get_or opens k d) (texts k d inside).strand)

lease-rest : (m : Chunks) (lease : Option Strand) → All (IsStrand m) (strands_if lease)
    → rest_of (lease_in m lease) ≡ rest_in (strands_if lease)
lease-rest m None strand = refl
lease-rest m (Some leased) strand = omega (arith, length-bytes_of m leased (All-head (IsStrand m) leased [] strand))

pub leases-rest : (m : Chunks) (leases : List (Option Strand)) → All (IsStrand m) (living leases)
    → sum_by rest_of (map (lease_in m) leases) ≡ rest_in (living leases)
leases-rest m [] strands = refl
leases-rest m (lease ∷ leases) strands =
    let here = lease-rest m lease (All-front (IsStrand m) (strands_if lease) (living leases) strands) in
    let others = leases-rest m leases (All-behind (IsStrand m) (strands_if lease) (living leases) strands) in
    omega (
      arith,
      here,
      others,
      sum_by-append (λ (x : Strand). x.rest) (strands_if lease) (living leases),
      sum_by-cons rest_of (lease_in m lease) (map (lease_in m) leases),
    )

-- how many chunks they have at most
pub chunks-held : {m : Chunks} {ts ls : List Strand} → Holds m ts ls
    → 120 * shares_in m ≤ rest_in ts + 120 * length ts + (rest_in ls + 240 * length ls)
chunks-held {m} {ts} {ls} held =
    let texts = sum_by-bound (λ (x : Strand). x.chunks) (λ (x : Strand). x.rest) 120 ts
    (λ k d inside. let text = held.texts k d inside in omega (arith, chunks-few m (get_or ts k d) text.strand, text.whole)) in
    let leases = sum_by-bound (λ (x : Strand). x.chunks) (λ (x : Strand). x.rest) 240 ls
    (λ k d inside. let lease = held.leases k d inside in omega (arith, chunks-few m (get_or ls k d) lease, lease.start)) in
    omega (arith, texts, leases, held.sum)
