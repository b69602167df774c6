-- A store of texts once leases begin, give bytes and end.
use Rattle.std.proofs.Common.{◌≡◌, ℕ, zero, suc, ◌+◌, ◌-◌, ◌<◌, ◌≤◌, true, false, Bool, List, [], ◌∷◌, ◌++◌, length, map, get_or, Option, Some, None, IsSome, IsTrue, ◌↔◌, refl, sym, ap, subst, ◌∙◌, arith, rules, set, slice_index, take, drop, nat_le, IsPermutation, option_map, ◌==◌, if◌then◌else◌}
use Rattle.std.proofs.lemmas.Bool.Decides.{nat_tests}
use Rattle.std.proofs.lemmas.List.{length-map, map-append, map-set}
use Rattle.std.proofs.lemmas.List.Elements.{All-cons, All-head, All-nil}
use Rattle.std.proofs.lemmas.List.Sums.{sum_by-cons}
use Rattle.roff_store.specs.declared.strand.Strand.{Strand}
use Rattle.roff_store.specs.declared.text_store.Meaning.{Meaning}
use Rattle.roff_store.specs.declared.text_store.Meaning.TheVariants.{Body as BodyIn, Request as RequestOf}
use Rattle.roff_store.specs.declared.text_store.TextStore.TheInside.{Inside}
use Rattle.roff_store.specs.Pool.{Holds, rest_in}
use Rattle.roff_store.specs.Chains.{Chunks, bytes_of, has, others, share, shares_in, AreSameChunks, IsShared, IsStrand, IsText}
use Rattle.roff_store.specs.Leases.{Leases, begun, living}
use Rattle.roff_store.specs.Named.{entry_of, without_entry}
use Rattle.roff_store.specs.Texts.{Texts, IsFree, body_if_any, body_of, has_body, is_body, kept, lease_bytes, lease_of, live, next_byte, rest_of}
use Rattle.roff_store.specs.TextCalls.{Lease, Release, Take, bytes_given, with_lease}
use Rattle.roff_store.specs.TextStore.Kept.{IsSound, kept_by, texts_in}
use Rattle.roff_store.specs.TextStore.Strands.{bodies, entry_in, lease_in, strands_of}
use Rattle.roff_store.proofs.Keeping.{Comes, comes, kept-is, live-is, out, room-left, texts-out}
use Rattle.roff_store.proofs.LeaseTables.{inside-some}
use Rattle.roff_store.proofs.Leaving.{chunks-few, is-left, length-bytes_of, strand-same}
use Rattle.roff_store.proofs.Naming.{entry-read}
use Rattle.roff_store.proofs.Places.{lease-begun, lease-in, lease-out, same-length, same-order, same-sum}
use Rattle.roff_store.proofs.Pool.{Holds-order, all-left, entries-left, leases-left, leases-shared, opens-left, reshared, texts-shared}

-- the lease of a number
lease-at : (m : Chunks) (leases : List (Option Strand)) (id : ℕ)
    → get_or (map (lease_in m) leases) id None ≡ lease_in m (get_or leases id None)
lease-at m [] id = refl
lease-at m (lease ∷ leases) zero = refl
lease-at m (lease ∷ leases) (suc id) = lease-at m leases id

-- one that lives has a strand
strand-there : (m : Chunks) (leases : List (Option Strand)) (id : ℕ) → IsSome (lease_in m (get_or leases id None)) → id < length leases
strand-there m [] id some = absurd (cc)
strand-there m (lease ∷ leases) zero some = omega arith
strand-there m (lease ∷ leases) (suc id) some = let inside = strand-there m leases id some in omega (arith, inside)

some-strand : (m : Chunks) (lease : Option Strand) → IsSome (lease_in m lease) → IsSome lease
some-strand m None some = absurd (cc)
some-strand m (Some strand) some = search rules

-- what has no strand is no body
nothing : (m : Chunks) (old : Option Meaning) → strands_of old ≡ [] → is_body (option_map (entry_in m) old) ≡ false
nothing m None none = refl
nothing m (Some (BodyIn strand)) none = absurd (cc)
nothing m (Some (RequestOf number)) none = refl

pub lease-inside : {a : Inside} {t : Texts} → IsSound a → kept_by a ≡ t → (id : ℕ) → IsSome (lease_of id t) → id < length a.leases.items
lease-inside {a} sound is id given =
    strand-there a.chunks a.leases.items id
    (subst IsSome (lease-at a.chunks a.leases.items id) (subst (λ (x : Texts). IsSome (lease_of id x)) (sym is) given))

-- it isn't one that has ended
pub lease-lives : {a : Inside} {t : Texts} → IsSound a → kept_by a ≡ t → (id : ℕ) → IsSome (lease_of id t)
    → IsSome (get_or a.leases.items id None)
lease-lives {a} sound is id given =
    some-strand a.chunks (get_or a.leases.items id None)
    (subst IsSome (lease-at a.chunks a.leases.items id) (subst (λ (x : Texts). IsSome (lease_of id x)) (sym is) given))

-- other leases on the same chunks
pub record IsLent (a : Inside) (m : Chunks) (leases : Leases) (count : ℕ) : Type 0 where
  pub held : Holds m (texts_in a) (living leases.items)
  pub same : AreSameChunks a.chunks m
  pub counted : count ≡ rest_in (living leases.items)
  pub within : count ≤ a.cap_kept
  pub few : length (living leases.items) ≤ leases.cap
  pub cap : leases.cap ≡ a.leases.cap

module _ {a : Inside} (sound : IsSound a) {m : Chunks} {leases : Leases} {count : ℕ} (lent : IsLent a m leases count) where
  abbrev now : Inside
  now = record a { chunks = m; leases = leases; kept = count }

  pub sound-lent : IsSound now
  sound-lent = record {
    held = lent.held;
    once = sound.once;
    few = sound.few;
    counted = sound.counted;
    within = sound.within;
    given = lent.counted;
    kept_within = lent.within;
    opens = sound.opens;
    opens_reserved = sound.opens_reserved;
    leases = lent.few;
    room = rw (lent.same.most, lent.cap) sound.room;
    most = rw lent.same.most sound.most;
  }

  -- their bytes
  pub texts-lent : (given : List (Option (List ℕ))) → map (lease_in a.chunks) leases.items ≡ given
      → kept_by now ≡ record (kept_by a) { leases = given }
  texts-lent given is =
      let names = entries-left a.chunks m a.names.entries (all-left (bodies a.names.entries) lent.same) in
      let opens = opens-left a.chunks m a.open.items (all-left a.open.items lent.same) in
      let gives = leases-left a.chunks m leases.items (all-left (living leases.items) lent.same) ∙ is in
      cc

module _ {a : Inside} {t : Texts} (sound : IsSound a) (is : kept_by a ≡ t) (id : ℕ) {item : Option Strand}
    (was : item ≡ get_or a.leases.items id None) {strand : Strand} (some : item ≡ Some strand) where
  lives : get_or a.leases.items id None ≡ Some strand
  lives = sym was ∙ some

  inside : id < length a.leases.items
  inside = inside-some a.leases.items id strand lives

  -- what a lease that lives gives
  given-by : lease_of id (kept_by a) ≡ Some (bytes_of a.chunks strand)
  given-by = lease-at a.chunks a.leases.items id ∙ ap (lease_in a.chunks) lives

  pub lease-read : lease_of id t ≡ Some (bytes_of a.chunks strand)
  lease-read = subst (λ (x : Texts). lease_of id x ≡ Some (bytes_of a.chunks strand)) is given-by

  -- its strand is in hand
  order : IsPermutation (living a.leases.items) (strand ∷ living (set a.leases.items id None))
  order = lease-out a.leases.items id strand lives

  held : Holds a.chunks (texts_in a) (strand ∷ living (set a.leases.items id None))
  held = Holds-order same-order order sound.held

  pub lease-strand : IsStrand a.chunks strand
  lease-strand = All-head (IsStrand a.chunks) strand (living (set a.leases.items id None)) held.leases

  pub lease-shared : IsShared a.chunks strand
  lease-shared = All-head (IsShared a.chunks) strand (living (set a.leases.items id None)) (leases-shared held)

  pub rest-read : rest_of (lease_of id t) ≡ strand.rest
  rest-read = ap rest_of lease-read ∙ length-bytes_of a.chunks strand lease-strand

  kept-out : a.kept ≡ strand.rest + rest_in (living (set a.leases.items id None))
  kept-out =
      let rest : Strand → ℕ = λ x. x.rest in
      omega (
        arith,
        sound.given,
        same-sum rest order,
        sum_by-cons rest strand (living (set a.leases.items id None)),
      )

  pub lease-kept : strand.rest ≤ a.kept
  lease-kept = omega (arith, kept-out)

  length-out : length (living a.leases.items) ≡ 1 + length (living (set a.leases.items id None))
  length-out = let long = same-length order in omega (arith, long)

  -- bytes are taken from it
  module _ {m : Chunks} {rest : Strand} {count : ℕ} (within : count ≤ rest_of (lease_of id t)) (now_strand : IsStrand m rest)
      (bytes : bytes_of m rest ≡ drop count (bytes_of a.chunks strand)) (len : rest.rest ≡ strand.rest - count)
      (shares : (chunk : ℕ) → share m chunk ≡ others a.chunks strand chunk + has m rest chunk)
      (sum : shares_in m + strand.chunks ≡ shares_in a.chunks + rest.chunks) (same : AreSameChunks a.chunks m) where
    order-in : IsPermutation (rest ∷ living (set a.leases.items id None)) (living (set a.leases.items id (Some rest)))
    order-in = lease-in a.leases.items id rest inside

    lent-passed : IsLent a m (record { items = set a.leases.items id (Some rest); cap = a.leases.cap }) (a.kept - count)
    lent-passed = record {
      held = Holds-order same-order order-in
          (reshared [] (strand ∷ []) (rest ∷ []) (living (set a.leases.items id None)) held same
          (All-cons (IsStrand m) rest [] now_strand (All-nil (IsStrand m)))
          (λ chunk. omega (arith, shares chunk)) (omega (arith, sum)));
      same = same;
      counted =
          omega (
            arith,
            kept-out,
            len,
            within,
            rest-read,
            same-sum (λ (x : Strand). x.rest) order-in,
            sum_by-cons (λ (x : Strand). x.rest) rest (living (set a.leases.items id None)),
          );
      within = omega (arith, sound.kept_within);
      few = let long = same-length order-in in omega (arith, sound.leases, length-out, long);
      cap = refl;
    }

    pub passed : {leases : Leases} → leases ≡ record { items = set a.leases.items id (Some rest); cap = a.leases.cap }
        → Comes (Take id count) t (record a { chunks = m; leases = leases; kept = a.kept - count })
    passed {leases} put =
        let one : Some (bytes_of a.chunks rest) ≡ bytes_given count (lease_of id (kept_by a)) =
        ap Some (sym (is-left a.chunks m rest same).bytes ∙ bytes) ∙ ap (bytes_given count) (sym given-by) in
        let gives : map (lease_in a.chunks) (set a.leases.items id (Some rest))
        ≡ set (map (lease_in a.chunks) a.leases.items) id (bytes_given count (lease_of id (kept_by a))) =
        map-set (lease_in a.chunks) a.leases.items id (Some rest)
        ∙ ap (λ x. set (map (lease_in a.chunks) a.leases.items) id x) one in
        subst (λ (l : Leases). Comes (Take id count) t (record a { chunks = m; leases = l; kept = a.kept - count })) (sym put)
        (comes a (Take id count) is (sound-lent sound lent-passed)
        (texts-lent sound lent-passed (set (map (lease_in a.chunks) a.leases.items) id (bytes_given count (lease_of id (kept_by a)))) gives)
        refl)

  -- it ends
  module _ {m : Chunks} (shares : (chunk : ℕ) → share m chunk ≡ others a.chunks strand chunk)
      (sum : shares_in m + strand.chunks ≡ shares_in a.chunks) (same : AreSameChunks a.chunks m) where
    lent-ended : IsLent a m (record { items = set a.leases.items id None; cap = a.leases.cap }) (a.kept - strand.rest)
    lent-ended = record {
      held =
          reshared [] (strand ∷ []) [] (living (set a.leases.items id None)) held same (All-nil (IsStrand m))
          (λ chunk. omega (arith, shares chunk)) (omega (arith, sum));
      same = same;
      counted = omega (arith, kept-out);
      within = omega (arith, sound.kept_within);
      few = omega (arith, sound.leases, length-out);
      cap = refl;
    }

    pub ended : {leases : Leases} → leases ≡ record { items = set a.leases.items id None; cap = a.leases.cap }
        → Comes (Release id) t (record a { chunks = m; leases = leases; kept = a.kept - strand.rest })
    ended {leases} put =
        subst (λ (l : Leases). Comes (Release id) t (record a { chunks = m; leases = l; kept = a.kept - strand.rest })) (sym put)
        (comes a (Release id) is (sound-lent sound lent-ended)
        (texts-lent sound lent-ended (set (map (lease_in a.chunks) a.leases.items) id None)
        (map-set (lease_in a.chunks) a.leases.items id None)) refl)

-- what becomes of a lease under its number
map-begun : (m : Chunks) (id : ℕ) (strand : Strand) (leases : List (Option Strand))
    → map (lease_in m) (begun id strand leases) ≡ with_lease id (Some (bytes_of m strand)) (map (lease_in m) leases)
map-begun m id strand leases =
    rw (length-map leases (lease_in m)) (
    elim (id == length leases) as (λ b. map (lease_in m) (if b then leases ++ Some strand ∷ [] else set leases id (Some strand))
    ≡ (if b then map (lease_in m) leases ++ Some (bytes_of m strand) ∷ [] else set (map (lease_in m) leases) id (Some (bytes_of m strand)))) [
      | true ↦ map-append (lease_in m) leases (Some strand ∷ [])
      | false ↦ map-set (lease_in m) leases id (Some strand)
    ])

module _ {a : Inside} {t : Texts} (sound : IsSound a) (is : kept_by a ≡ t) (name : List ℕ) {strand : Strand}
    (found : Some (BodyIn strand) ≡ entry_of name a.names.entries) where
  -- a name with a body
  pub has-body : has_body name t ≡ true
  has-body = ap is_body (entry-read sound is name found)

  pub lent-text : IsText a.chunks strand
  lent-text = All-head (IsText a.chunks) strand [] (texts-out sound name found)

  pub lent-shared : IsShared a.chunks strand
  lent-shared =
      All-head (IsShared a.chunks) strand (bodies (without_entry name a.names.entries) ++ a.open.items)
      (texts-shared (out sound name found))

  module _ (fewer : live t < t.cap_leases) {most : ℕ} (fits : strand.rest ≤ most) (room : kept t + most ≤ t.cap_kept) where
    pub few-lent : length (living a.leases.items) < a.leases.cap
    few-lent =
        let few : live (kept_by a) < a.leases.cap = subst (λ (x : Texts). live x < x.cap_leases) (sym is) fewer in
        omega (arith, few, live-is sound)

    pub kept-fits : a.kept + strand.rest ≤ a.cap_kept
    kept-fits =
        let all : kept (kept_by a) + most ≤ a.cap_kept = subst (λ (x : Texts). kept x + most ≤ x.cap_kept) (sym is) room in
        omega (arith, all, kept-is sound, fits)

    pub room-lent : shares_in a.chunks + strand.chunks ≤ a.chunks.most
    room-lent =
        let text = lent-text in
        omega (arith, room-left sound, few-lent, kept-fits, chunks-few a.chunks strand text.strand, text.whole)

    -- is leased
    module _ {m : Chunks} (shares : (chunk : ℕ) → share m chunk ≡ share a.chunks chunk + has a.chunks strand chunk)
        (sum : shares_in m ≡ shares_in a.chunks + strand.chunks) (same : AreSameChunks a.chunks m) {id : ℕ}
        (known : id ≤ length a.leases.items) (free : get_or a.leases.items id None ≡ None) where
      pub free-lent : IsFree id t
      free-lent =
          subst (λ (x : Texts). IsFree id x) is (record {
            known = omega (arith, known, length-map a.leases.items (lease_in a.chunks));
            free = lease-at a.chunks a.leases.items id ∙ ap (lease_in a.chunks) free;
          })

      order-begun : IsPermutation (strand ∷ living a.leases.items) (living (begun id strand a.leases.items))
      order-begun = lease-begun a.leases.items id strand known free

      lent-begun : IsLent a m (record { items = begun id strand a.leases.items; cap = a.leases.cap }) (a.kept + strand.rest)
      lent-begun = record {
        held = Holds-order same-order order-begun
            (reshared [] [] (strand ∷ []) (living a.leases.items) sound.held same
            (All-cons (IsStrand m) strand [] (strand-same a.chunks m strand same lent-text.strand) (All-nil (IsStrand m)))
            (λ chunk. omega (arith, shares chunk, (is-left a.chunks m strand same).has chunk)) (omega (arith, sum)));
        same = same;
        counted =
            omega (
              arith,
              sound.given,
              same-sum (λ (x : Strand). x.rest) order-begun,
              sum_by-cons (λ (x : Strand). x.rest) strand (living a.leases.items),
            );
        within = kept-fits;
        few = let long = same-length order-begun in omega (arith, few-lent, long);
        cap = refl;
      }

      pub lent : {leases : Leases} → leases ≡ record { items = begun id strand a.leases.items; cap = a.leases.cap }
          → Comes (Lease name id) t (record a { chunks = m; leases = leases; kept = a.kept + strand.rest })
      lent {leases} put =
          let read : body_of name (kept_by a) ≡ bytes_of a.chunks strand = ap body_if_any (entry-read sound refl name found) in
          let gives : map (lease_in a.chunks) (begun id strand a.leases.items)
          ≡ with_lease id (Some (body_of name (kept_by a))) (map (lease_in a.chunks) a.leases.items) =
          map-begun a.chunks id strand a.leases.items
          ∙ ap (λ (b : List ℕ). with_lease id (Some b) (map (lease_in a.chunks) a.leases.items)) (sym read) in
          subst (λ (l : Leases). Comes (Lease name id) t (record a { chunks = m; leases = l; kept = a.kept + strand.rest })) (sym put)
          (comes a (Lease name id) is (sound-lent sound lent-begun)
          (texts-lent sound lent-begun (with_lease id (Some (body_of name (kept_by a))) (map (lease_in a.chunks) a.leases.items)) gives)
          refl)

-- a name without a body
pub no-body : {a : Inside} {t : Texts} → IsSound a → kept_by a ≡ t → (name : List ℕ) {old : Option Meaning}
    → old ≡ entry_of name a.names.entries → strands_of old ≡ [] → has_body name t ≡ false
no-body {a} sound is name {old} was none = ap is_body (entry-read sound is name was) ∙ nothing a.chunks old none

-- how many bytes leases still give, and may give more
module _ {a : Inside} {t : Texts} (sound : IsSound a) (is : kept_by a ≡ t) where
  pub kept-read : a.kept ≡ kept t
  kept-read = subst (λ (x : Texts). a.kept ≡ kept x) is (sym (kept-is sound))

  pub cap-read : a.cap_kept ≡ t.cap_kept
  cap-read = ap (λ (x : Texts). x.cap_kept) is

  -- whether one more may live
  pub live-tested : (room : Bool) → IsTrue room ↔ (length (living a.leases.items) < a.leases.cap) → IsTrue room ↔ (live t < t.cap_leases)
  live-tested room tells =
      let count = live-is sound in
      subst (λ (x : Texts). IsTrue room ↔ (live x < x.cap_leases)) is
      ((λ yes. let few = tells.0 yes in omega (arith, few, count)), (λ few. tells.1 (omega (arith, few, count))))

  -- and give so many
  pub can-tested : (count : ℕ) → live t < t.cap_leases
      → IsTrue (nat_le count (a.cap_kept - a.kept)) ↔ ((live t < t.cap_leases) × (kept t + count ≤ t.cap_kept))
  can-tested count fewer =
      let within = sound.kept_within in
      let bytes = kept-read in
      let cap = cap-read in
      grind (arith, nat_tests)

-- the first byte in front is the next one
pub first-given : (front : List ℕ) (lease : Option (List ℕ)) → front ≡ take (length front) (lease_bytes lease) → 0 < length front
    → Some (slice_index front 0) ≡ next_byte lease
first-given [] lease is some = absurd (omega (arith, some))
first-given (byte ∷ front) None is some = absurd (cc)
first-given (byte ∷ front) (Some []) is some = absurd (cc)
first-given (byte ∷ front) (Some (next ∷ bytes)) is some = cc
