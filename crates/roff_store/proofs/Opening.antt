-- A store of texts once texts in the making change.
use Rattle.std.proofs.Common.{◌≡◌, ℕ, zero, suc, ◌+◌, ◌-◌, ◌*◌, ◌<◌, ◌≤◌, true, List, [], ◌∷◌, ◌++◌, length, map, get_or, nat_lt, Ok, Err, refl, sym, ap, subst, ◌∙◌, arith, Vec, Global, take, drop, length-append, set, remove, vec_len, vec_capacity, if◌then◌else◌}
use Rattle.std.specs.Vec.{with_item}
use Rattle.std.proofs.lemmas.Bool.Decides.{nat_tests}
use Rattle.std.proofs.lemmas.List.{get_or-map, length-map, map-append}
use Rattle.std.proofs.lemmas.List.Elements.{All-nil}
use Rattle.std.proofs.lemmas.List.Sums.{sum_by-cons, sum_by-set}
use Rattle.roff_num.specs.declared.limit.Limit.TheVariants.{Store}
use Rattle.roff_store.specs.declared.strand.Strand.{Strand}
use Rattle.roff_store.specs.declared.text_store.TextStore.TheInside.{Inside}
use Rattle.roff_store.specs.Pool.{Holds, IsHeld, IsLeft, IsLonger, rest_in}
use Rattle.roff_store.specs.Chains.{Chunks, bytes_of, chain_bytes, others, share, shares_in, AreSameChunks, IsStrand, IsText}
use Rattle.roff_store.specs.Leases.{living}
use Rattle.roff_store.specs.Texts.{Texts, used}
use Rattle.roff_store.specs.TextCalls.{DropOpen, Open, PushOpen, answered, made, open_text}
use Rattle.roff_store.specs.TextStore.Kept.{IsSound, kept_by}
use Rattle.roff_store.specs.TextStore.Strands.{bodies}
use Rattle.roff_store.proofs.Keeping.{Comes, IsChanged, changed, open-held, open-used, room-left, used-kept}
use Rattle.roff_store.proofs.Leaving.{chunks-enough}
use Rattle.roff_store.proofs.Places.{open-behind, open-in, same-order, same-sum}
use Rattle.roff_store.proofs.Pool.{All-behind, All-front, Holds-order, all-left, blank-held, blank-text, entries-left, held-text, opens-left, reshared}

-- an element is written where it is left out, or taken away
map-set-out : {X Y : Type 0} (f g : X → Y) (xs : List X) (i : ℕ) (x : X) → map f (remove xs i) ≡ map g (remove xs i)
    → map f (set xs i x) ≡ set (map g xs) i (f x)
map-set-out f g [] i x same = refl
map-set-out f g (y ∷ ys) zero x same = ap (λ l. f x ∷ l) same
map-set-out f g (y ∷ ys) (suc i) x same =
    let front : f y ≡ g y = cc in
    let rest : map f (remove ys i) ≡ map g (remove ys i) = cc in
    let others = map-set-out f g ys i x rest in cc

pub map-remove : {X Y : Type 0} (f : X → Y) (xs : List X) (i : ℕ) → map f (remove xs i) ≡ remove (map f xs) i
map-remove f [] zero = refl
map-remove f [] (suc i) = refl
map-remove f (y ∷ ys) zero = refl
map-remove f (y ∷ ys) (suc i) = ap (λ l. f y ∷ l) (map-remove f ys i)

-- a text is begun
pub begun : {a : Inside} {t : Texts} → IsSound a → kept_by a ≡ t → length t.open_texts < t.cap_open → (opens : Vec Strand Global)
    (blank : Strand) → blank.chunks ≡ 0 → blank.at ≡ 0 → blank.rest ≡ 0 → blank.last ≡ 18446744073709551615
    → opens.items ≡ a.open.items ++ blank ∷ [] → vec_len opens ≡ vec_len a.open + 1 → vec_capacity opens ≡ vec_capacity a.open
    → Comes Open t (record a { «open» = opens })
begun {a} {t} sound is given opens blank none at rest last items len capacity =
    let text = blank-text a.chunks blank (omega (arith, sound.most, last)) none at rest in
    let order = open-behind (bodies a.names.entries) a.open.items blank in
    let held : Holds a.chunks (bodies a.names.entries ++ opens.items) (living a.leases.items) =
    rw items (Holds-order order same-order (blank-held blank sound.held text none)) in
    let fewer : length (map (bytes_of a.chunks) a.open.items) < a.cap_open =
    subst (λ (x : Texts). length x.open_texts < x.cap_open) (sym is) given in
    let counted : a.used ≡ rest_in (bodies a.names.entries ++ opens.items) =
    rw items (omega (
      arith,
      sound.counted,
      rest,
      sum_by-cons (λ (x : Strand). x.rest) blank (bodies a.names.entries ++ a.open.items),
      same-sum (λ (x : Strand). x.rest) order,
    )) in
    let opened : IsChanged a a.chunks a.names.entries opens a.used = record {
      held = held;
      once = sound.once;
      few = sound.few;
      leases = λ k d inside. record { bytes = refl; has = λ chunk. refl };
      most = refl;
      counted = counted;
      within = sound.within;
      taken = omega (arith, fewer, len, length-map a.open.items (bytes_of a.chunks), a.open.ok.0);
      reserved = capacity ∙ sound.opens_reserved;
    } in
    let empty : bytes_of a.chunks blank ≡ [] = ap (λ n. take n (drop blank.at (chain_bytes a.chunks blank.chunks blank.first))) rest in
    let opens_now : map (bytes_of a.chunks) opens.items ≡ map (bytes_of a.chunks) a.open.items ++ [] ∷ [] =
    ap (map (bytes_of a.chunks)) items ∙ (map-append (bytes_of a.chunks) a.open.items (blank ∷ [])
    ∙ ap (λ (x : List ℕ). map (bytes_of a.chunks) a.open.items ++ x ∷ []) empty) in
    changed Open sound is opened (ap (λ o. record (kept_by a) { open_texts = o }) opens_now) (λ _. refl) refl

module _ {a : Inside} {t : Texts} (sound : IsSound a) (is : kept_by a ≡ t) (id : ℕ) (given : id < length t.open_texts) where
  -- the text is one of those in the making
  pub open-inside : id < length a.open.items
  open-inside =
      let all : id < length (map (bytes_of a.chunks) a.open.items) = subst (λ (x : Texts). id < length x.open_texts) (sym is) given in
      omega (arith, all, length-map a.open.items (bytes_of a.chunks))

  -- too many bytes would be put behind it
  pub push-refused : (bytes : List ℕ) → a.cap_bytes - a.used < length bytes → Err Store ≡ answered (PushOpen id bytes) t
  push-refused bytes over =
      let all = used-kept sound in
      let inside : id < length (map (bytes_of a.chunks) a.open.items) =
      omega (arith, open-inside, length-map a.open.items (bytes_of a.chunks)) in
      let set = sum_by-set (λ (x : List ℕ). length x) (map (bytes_of a.chunks) a.open.items) id
      (open_text id (kept_by a) ++ bytes) [] inside in
      let long = length-append (open_text id (kept_by a)) bytes in
      let within = sound.within in
      let test : nat_lt a.cap_bytes (used (made (PushOpen id bytes) (kept_by a))) ≡ true = grind (arith, nat_tests) in
      subst (λ (x : Texts). Err Store ≡ answered (PushOpen id bytes) x) is
      (sym (ap (λ b. if b then Err Store else Ok tt) test))

  module _ {text : Strand} (was : text ≡ get_or a.open.items id text) where
    held-text-out : Holds a.chunks (text ∷ (bodies a.names.entries ++ remove a.open.items id)) (living a.leases.items)
    held-text-out = open-held sound id open-inside was

    pub text-held : IsHeld a.chunks text []
    text-held = record { ts = bodies a.names.entries ++ remove a.open.items id; ls = living a.leases.items; held = held-text-out }

    pub open-text : IsText a.chunks text
    open-text = held-text text-held

    pub used-text : a.used ≡ text.rest + rest_in (bodies a.names.entries ++ remove a.open.items id)
    used-text = open-used sound id open-inside was

    -- its bytes
    pub text-read : open_text id (kept_by a) ≡ bytes_of a.chunks text
    text-read =
        get_or-map (bytes_of a.chunks) a.open.items id text [] open-inside ∙ ap (bytes_of a.chunks) (sym was)

    -- there is room to put bytes behind it
    pub push-room : (count : ℕ) → count ≤ a.cap_bytes - a.used
        → 120 * shares_in a.chunks + text.rest + count + 119 ≤ 120 * (a.chunks.most + text.chunks)
    push-room count fits = omega (arith, fits, room-left sound, chunks-enough a.chunks text open-text.strand)

    pub push-short : (count : ℕ) → count ≤ a.cap_bytes - a.used → text.rest + count ≤ a.cap_bytes
    push-short count fits = omega (arith, fits, used-text, sound.within)

    -- bytes are put behind it
    pub pushed : {m : Chunks} {longer : Strand} {bytes : List ℕ} → length bytes ≤ a.cap_bytes - a.used
        → IsLonger a.chunks text [] bytes m longer []
        → Comes (PushOpen id bytes) t (record a { chunks = m; «open» = with_item a.open id longer; used = a.used + length bytes })
    pushed {m} {longer} {bytes} room more =
        let had = more.leaves (bodies a.names.entries ++ remove a.open.items id) (living a.leases.items) held-text-out in
        let order = open-in (bodies a.names.entries) a.open.items id longer open-inside in
        let opened : IsChanged a m a.names.entries (with_item a.open id longer) (a.used + length bytes) = record {
          held = Holds-order order same-order had.held;
          once = sound.once;
          few = sound.few;
          leases = had.leases_left;
          most = more.most;
          counted =
              omega (
                arith,
                used-text,
                more.len,
                same-sum (λ (x : Strand). x.rest) order,
                sum_by-cons (λ (x : Strand). x.rest) longer (bodies a.names.entries ++ remove a.open.items id),
              );
          within = omega (arith, room, sound.within);
          taken = sound.opens;
          reserved = sound.opens_reserved;
        } in
        let others_same = opens-left a.chunks m (remove a.open.items id)
        (All-behind (IsLeft a.chunks m) (bodies a.names.entries) (remove a.open.items id) had.texts_left) in
        let opens_now : map (bytes_of m) (set a.open.items id longer)
        ≡ set (map (bytes_of a.chunks) a.open.items) id (open_text id (kept_by a) ++ bytes) =
        map-set-out (bytes_of m) (bytes_of a.chunks) a.open.items id longer others_same
        ∙ ap (λ x. set (map (bytes_of a.chunks) a.open.items) id x) (more.bytes_are ∙ ap (λ x. x ++ bytes) (sym text-read)) in
        let names = entries-left a.chunks m a.names.entries
        (All-front (IsLeft a.chunks m) (bodies a.names.entries) (remove a.open.items id) had.texts_left) in
        changed (PushOpen id bytes) sound is opened (cc) (λ fits. fits) refl

    -- or it is dropped
    pub dropped : {m : Chunks} {opens : Vec Strand Global} → opens.items ≡ remove a.open.items id
        → vec_len opens + 1 ≡ vec_len a.open → vec_capacity opens ≡ vec_capacity a.open
        → ((chunk : ℕ) → share m chunk ≡ others a.chunks text chunk) → shares_in m + text.chunks ≡ shares_in a.chunks
        → AreSameChunks a.chunks m → Comes (DropOpen id) t (record a { chunks = m; «open» = opens; used = a.used - text.rest })
    dropped {m} {opens} items len capacity shares sum same =
        let held : Holds m (bodies a.names.entries ++ remove a.open.items id) (living a.leases.items) =
        reshared (text ∷ []) [] [] (living a.leases.items) held-text-out same (All-nil (IsStrand m))
        (λ chunk. omega (arith, shares chunk)) (omega (arith, sum)) in
        let opened : IsChanged a m a.names.entries opens (a.used - text.rest) = record {
          held = rw items held;
          once = sound.once;
          few = sound.few;
          leases = all-left (living a.leases.items) same;
          most = same.most;
          counted = rw items (omega (arith, used-text));
          within = omega (arith, sound.within);
          taken = omega (arith, len, sound.opens);
          reserved = capacity ∙ sound.opens_reserved;
        } in
        let opens_now : map (bytes_of m) opens.items ≡ remove (map (bytes_of a.chunks) a.open.items) id =
        ap (map (bytes_of m)) items ∙ (opens-left a.chunks m (remove a.open.items id) (all-left (remove a.open.items id) same)
        ∙ map-remove (bytes_of a.chunks) a.open.items id) in
        let names = entries-left a.chunks m a.names.entries (all-left (bodies a.names.entries) same) in
        changed (DropOpen id) sound is opened (cc) (λ _. refl) refl
