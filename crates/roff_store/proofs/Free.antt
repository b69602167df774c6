-- The chunks that no strand has: they are listed, and the list is kept as shares change.
use Rattle.std.proofs.Common.{◌≡◌, ◌≢◌, ℕ, ◌+◌, ◌-◌, ◌<◌, ◌≤◌, cond, List, [], ◌∷◌, ◌++◌, length, set, get_or, sum, inl, inr, refl, sym, subst, ◌∙◌, arith, append-nil, length-set, get_or-set_same, get_or-set_other}
use Rattle.std.specs.Vec.{vec_len}
use Rattle.std.specs.List.{All, AllPairs, count_by}
use Rattle.std.proofs.lemmas.Grind.{get_or_default_zero}
use Rattle.std.proofs.lemmas.List.{length_push, get_or_past, get_or_append_left, get_or_push}
use Rattle.std.proofs.lemmas.Bool.{cases_eq, cases_lt, cases_order}
use Rattle.std.proofs.lemmas.Bool.Decides.{nat_tests}
use Rattle.std.proofs.lemmas.List.Elements.{All-push}
use Rattle.std.proofs.lemmas.List.Quantifiers.{all_pairs_push}
use Rattle.std.proofs.lemmas.List.Sums.{count_by-le-length, sum_by-set, sum_by_push, sum_by-cons}
use Rattle.arrayvec.specs.ArrayVec.{ArrayVec as Bytes}
use Rattle.roff_store.specs.declared.chunks.Chunks.TheInside.{Inside}
use Rattle.roff_store.specs.Chains.{Chunks, content, share, shares_in, LeavesOthers}
use Rattle.roff_store.specs.Chunks.Kept.{is_free, kept_by, IsSound}

-- the chunks with no share are those listed
pub record AreFree (shares free : List ℕ) : Type 0 where
  pub known : All (λ chunk. chunk < length shares) free
  pub unshared : All (λ chunk. get_or shares chunk 0 ≡ 0) free
  pub once : AllPairs (λ chunk later. chunk ≢ later) free
  pub all : length free ≡ count_by is_free shares

-- how many are free once a share is written
count-set : (shares : List ℕ) (chunk old new : ℕ) → chunk < length shares → get_or shares chunk 0 ≡ old
    → count_by is_free (set shares chunk new) + cond (is_free old) 1 0 ≡ count_by is_free shares + cond (is_free new) 1 0
count-set shares chunk old new inside was =
    rw was at (sum_by-set (λ s. cond (is_free s) 1 0) shares chunk new 0 inside)

-- the sum once a share is written
pub sum-set : (shares : List ℕ) (chunk new : ℕ) → chunk < length shares
    → sum (set shares chunk new) + get_or shares chunk 0 ≡ sum shares + new
sum-set shares chunk new inside = sum_by-set (λ x. x) shares chunk new 0 inside

-- what is listed last is free
pub last_free : (shares rest : List ℕ) (chunk : ℕ) → AreFree shares (rest ++ chunk ∷ [])
    → (chunk < length shares) × (get_or shares chunk 0 ≡ 0)
last_free shares rest chunk free =
    let long : length (rest ++ chunk ∷ []) ≡ length rest + 1 = length_push rest chunk in
    let at : get_or (rest ++ chunk ∷ []) (length rest) 0 ≡ chunk = get_or_push rest chunk 0 (length rest) refl in
    (rw at at (free.known (length rest) 0 (omega arith)), rw at at (free.unshared (length rest) 0 (omega arith)))

-- the free ones, once the last of them is claimed
pub AreFree-claimed : (shares rest : List ℕ) (chunk : ℕ) → AreFree shares (rest ++ chunk ∷ []) → AreFree (set shares chunk 1) rest
AreFree-claimed shares rest chunk free =
    let long : length (rest ++ chunk ∷ []) ≡ length rest + 1 = length_push rest chunk in
    let last = last_free shares rest chunk free in
    let at : (k d : ℕ) → k < length rest → get_or (rest ++ chunk ∷ []) k d ≡ get_or rest k d =
    λ k d below. get_or_append_left rest (chunk ∷ []) d k below in
    record {
      known = λ k d below. rw (length-set shares chunk 1) (rw (at k d below) at (free.known k d (omega arith)));
      unshared = λ k d below.
          let apart : get_or rest k d ≢ chunk = λ e. free.once k (length rest) d below (omega arith)
          (at k d below ∙ e ∙ sym (get_or_push rest chunk d (length rest) refl)) in
          get_or-set_other shares chunk (get_or rest k d) 1 0 apart ∙ rw (at k d below) at (free.unshared k d (omega arith));
      once = λ i j d before below. rw (at i d (omega arith), at j d below) at (free.once i j d before (omega arith));
      all = let count = count-set shares chunk 0 1 last.0 last.1 in let all = free.all in omega arith;
    }

-- the free ones, once one more is let go
pub AreFree-let_go : (shares free : List ℕ) (chunk : ℕ) → chunk < length shares → get_or shares chunk 0 ≡ 1
    → AreFree shares free → AreFree (set shares chunk 0) (free ++ chunk ∷ [])
AreFree-let_go shares free chunk inside one are =
    let apart : (k d : ℕ) → k < length free → get_or free k d ≢ chunk = λ k d below e.
    let none : get_or shares chunk 0 ≡ 0 = rw e at (are.unshared k d below) in omega arith in
    record {
      known = rw (length-set shares chunk 0) (All-push (λ c. c < length shares) free chunk are.known inside);
      unshared = All-push (λ c. get_or (set shares chunk 0) c 0 ≡ 0) free chunk
          (λ k d below. get_or-set_other shares chunk (get_or free k d) 0 0 (apart k d below) ∙ are.unshared k d below)
          (get_or-set_same shares chunk 0 0 inside);
      once = all_pairs_push (λ c later. c ≢ later) free chunk are.once apart;
      all = let count = count-set shares chunk 1 0 inside one in
          let long = length_push free chunk in
          let all = are.all in
          omega arith;
    }

-- a chunk that has a share is one of them
pub shared_known : (shares : List ℕ) (chunk : ℕ) → 0 < get_or shares chunk 0 → chunk < length shares
shared_known shares chunk shared = elim (cases_lt chunk (length shares)) [
  | inl below ↦ below
  | inr past ↦ (let none = get_or_past shares chunk 0 past in absurd (omega arith))
]

-- the free ones, where there are none, once one more chunk is made
pub AreFree-made : (shares free rest : List ℕ) → length free ≡ 0 → length rest ≡ 0 → AreFree shares free
    → AreFree (shares ++ 1 ∷ []) rest
AreFree-made shares free rest none still are = record {
  known = λ k d below. absurd (omega arith);
  unshared = λ k d below. absurd (omega arith);
  once = λ i j d before below. absurd (omega arith);
  all = let count = sum_by_push (λ s. cond (is_free s) 1 0) shares 1 in let all = are.all in omega arith;
}

-- a chunk is free or has a share
free_or_shared : (share : ℕ) → 1 ≤ share + cond (is_free share) 1 0
free_or_shared share = grind (arith, nat_tests)

-- the sum once a share is put behind the others
pub sum-push : (shares : List ℕ) (share : ℕ) → sum (shares ++ share ∷ []) ≡ sum shares + share
sum-push shares share = sum_by_push (λ x. x) shares share

-- where none is free, each chunk has a share
pub length-le-shares : (shares : List ℕ) → count_by is_free shares ≡ 0 → length shares ≤ sum shares
length-le-shares [] none = omega arith
length-le-shares (share ∷ shares) none =
    let count = sum_by-cons (λ s. cond (is_free s) 1 0) share shares in
    let all : sum (share ∷ shares) ≡ share + sum shares = sum_by-cons (λ s. s) share shares in
    let one = free_or_shared share in
    let others = length-le-shares shares (omega arith) in
    omega arith

-- what the fields list is free
pub free_kept : (a : Inside) → IsSound a → AreFree a.shares.items a.free.items
free_kept a sound =
    let long : vec_len a.contents ≡ length a.shares.items = sym sound.shares ∙ a.shares.ok.0 in
    record {
      known = rw (← long) sound.known;
      unshared = sound.unshared;
      once = sound.once;
      all = sym a.free.ok.0 ∙ sound.all;
    }

-- where nothing is listed, there is room for one more chunk
pub room_for_one : (a : Inside) (m : Chunks) → IsSound a → kept_by a ≡ m → vec_len a.free ≡ 0 → shares_in m < m.most
    → vec_len a.contents < a.most
room_for_one a m sound view none below =
    let long : vec_len a.contents ≡ length a.shares.items = sym sound.shares ∙ a.shares.ok.0 in
    let some = length-le-shares a.shares.items (sym sound.all ∙ none) in
    let room : shares_in (kept_by a) < a.most = subst (λ (n : Chunks). shares_in n < n.most) (sym view) below in
    omega arith

-- a chunk with a share that is the last one
pub last_share : (a : Inside) (m : Chunks) (chunk shares : ℕ) → kept_by a ≡ m → 0 < share m chunk
    → shares ≡ get_or a.shares.items chunk shares → shares - 1 ≡ 0
    → (chunk < length a.shares.items) × (get_or a.shares.items chunk 0 ≡ 1)
last_share a m chunk shares view some here last =
    let given : 0 < get_or a.shares.items chunk 0 = subst (λ (n : Chunks). 0 < share n chunk) (sym view) some in
    let inside = shared_known a.shares.items chunk given in
    let same = get_or_default_zero a.shares.items chunk shares inside in
    (inside, omega arith)

-- while a chunk has a share there is room for it among the free ones
pub room_for_free : (a : Inside) (chunk : ℕ) → IsSound a → chunk < length a.shares.items → get_or a.shares.items chunk 0 ≡ 1
    → vec_len a.free < a.most
room_for_free a chunk sound inside one =
    let count = count-set a.shares.items chunk 1 0 inside one in
    let less = count_by-le-length is_free (set a.shares.items chunk 0) in
    let long = length-set a.shares.items chunk 0 in
    let known : vec_len a.shares ≡ length a.shares.items = a.shares.ok.0 in
    let links = sound.shares in
    let within = sound.within in
    let all = sound.all in
    omega arith

-- the chunks are no longer than they may be once one is written
pub fits-set : (contents : List (Bytes ℕ)) (chunk : ℕ) (bytes : Bytes ℕ) → chunk < length contents → length bytes.items ≤ 120
    → ((k : ℕ) → length (get_or contents k (record { items = [] })).items ≤ 120)
    → (k : ℕ) → length (get_or (set contents chunk bytes) k (record { items = [] })).items ≤ 120
fits-set contents chunk bytes inside short fits k = elim (cases_eq k chunk) [
  | inl e ↦ rw (e, get_or-set_same contents chunk bytes (record { items = [] }) inside) short
  | inr e ↦ rw (get_or-set_other contents chunk k bytes (record { items = [] }) e) (fits k)
]

-- or one without bytes is put behind them
pub fits-push : (contents : List (Bytes ℕ)) (bytes : Bytes ℕ) → length bytes.items ≤ 120
    → ((k : ℕ) → length (get_or contents k (record { items = [] })).items ≤ 120)
    → (k : ℕ) → length (get_or (contents ++ bytes ∷ []) k (record { items = [] })).items ≤ 120
fits-push contents bytes short fits k = elim (cases_order k (length contents)) [
  | inl e ↦ rw (get_or_push contents bytes (record { items = [] }) k (sym e)) short
  | inr (inl e) ↦ rw (get_or_append_left contents (bytes ∷ []) (record { items = [] }) k e) (fits k)
  | inr (inr e) ↦ (let long : length (contents ++ bytes ∷ []) ≡ length contents + 1 = length_push contents bytes in
      rw (get_or_past (contents ++ bytes ∷ []) k (record { items = [] }) (omega arith)) (omega arith))
]

-- what strands have stays as a chunk without a share is written
pub LeavesOthers-claimed : (m old : Chunks) (chunk next : ℕ) (bytes : Bytes ℕ) (shares : List ℕ) → m ≡ old → share m chunk ≡ 0
    → LeavesOthers (share old) old.most old
    (record { contents = set m.contents chunk bytes; links = set m.links chunk next; shares = shares; most = m.most })
LeavesOthers-claimed m old chunk next bytes shares view none =
    subst (λ (o : Chunks). LeavesOthers (share o) o.most o
    (record { contents = set m.contents chunk bytes; links = set m.links chunk next; shares = shares; most = m.most })) view
    (let apart : (k : ℕ) → 0 < share m k → k ≢ chunk = λ k some e. let gone : share m k ≡ 0 = rw e none in omega arith in
    let same : (k : ℕ) → 0 < share m k
    → (get_or (set m.contents chunk bytes) k (record { items = [] })).items ≡ content m k =
    λ k some. rw (get_or-set_other m.contents chunk k bytes (record { items = [] }) (apart k some)) refl in
    record {
      most = refl;
      chunks = rw (length-set m.contents chunk bytes) (omega arith);
      same_bytes = λ k some differs. same k some;
      same_link = λ k some differs. get_or-set_other m.links chunk k next m.most (apart k some);
      grown = λ some. record { more = []; grown = same m.most some ∙ sym (append-nil (content m m.most)) };
    })
