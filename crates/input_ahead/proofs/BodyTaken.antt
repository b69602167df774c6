-- A byte is taken of a body in front, which stays while its lease gives something.
use Rattle.std.proofs.Common.{◌≡◌, ◌≢◌, ◌<◌, ◌≤◌, ℕ, List, [], ◌∷◌, ◌++◌, length, map, take, drop, slice_index_or, get_or, IsSome, refl, sym, ap, subst, ◌∙◌, arith, All, Some, take-append-drop}
use Rattle.std.proofs.lemmas.List.{drop_all, take-append-le}
use Rattle.std.proofs.lemmas.List.Elements.{All-cons, All-tail}
use Rattle.std.proofs.lemmas.List.Sums.{sum_by-cons}
use Rattle.input_model.specs.Input.{Ahead, ByteAhead, DoAhead, bytes_ahead, ends_ahead, events_ahead, first, frees_ahead}
use Rattle.input_ahead.specs.InputAhead.Bodies.{leases_in, with_bodies}
use Rattle.input_ahead.specs.InputAhead.Calls.{TakesFront}
use Rattle.input_ahead.specs.InputAhead.Kept.{AheadAndTexts, Gives, IsSound, kept_by}
use Rattle.input_ahead.specs.PushedTexts.Held.{Held}
use Rattle.input_model.specs.Shown.{ShowsByte}
use Rattle.input_ahead.specs.declared.input_ahead.EventOrBody.{EventOrBody}
use Rattle.input_ahead.specs.declared.input_ahead.EventOrBody.TheVariants.{Body}
use Rattle.input_ahead.proofs.Bodies.{rest_is}
use Rattle.input_model.proofs.Counts.{bytes_ahead-bytes, ends_ahead-bytes, events_ahead-bytes, frees_ahead-bytes}
use Rattle.input_ahead.proofs.Leased.{some-giving, given-bytes, given-rest, with_bodies-same, others-behind, once-behind, other-passed, other-released, lease-passed, kept-passed, kept-released, live-passed, live-released}
use Rattle.roff_store.proofs.LyingSums.{sum_by-same}
use Rattle.roff_store.specs.declared.text.LeaseId.{LeaseId}
use Rattle.roff_store.specs.Texts.{Texts, lease_bytes, lease_of, rest_of}
use Rattle.roff_store.specs.TextCalls.{Release, Take, after, bytes_given}

-- the front item, and those behind it
headed : {A : Type 0} (items : List (Ahead A)) (item : Ahead A) → Some item ≡ first items → items ≡ item ∷ drop 1 items
headed [] item is = cc
headed (front ∷ items) item is = cc

-- the byte that bytes in front begin with
byte-front : (front bytes : List ℕ) → front ≡ take (length front) bytes → 0 < length front
    → bytes ≡ slice_index_or front 0 0 ∷ drop 1 bytes
byte-front [] bytes is some = absurd (omega (arith, some))
byte-front (b ∷ front) [] is some = cc
byte-front (b ∷ front) (byte ∷ bytes) is some = cc

-- what lies together in front, as far as so many bytes, and what is behind them
pub bytes-in-front : (count : ℕ) (front bytes : List ℕ) → front ≡ take (length front) bytes → count ≤ length front
    → bytes ≡ take count front ++ drop count bytes
bytes-in-front count front bytes is few =
    let left = drop (length front) bytes in
    let whole : bytes ≡ front ++ left = sym (ap (λ (xs : List ℕ). xs ++ left) is ∙ take-append-drop (length front) bytes) in
    let same : take count bytes ≡ take count front = ap (λ (xs : List ℕ). take count xs) whole ∙ take-append-le count front left few in
    sym (take-append-drop count bytes) ∙ ap (λ (xs : List ℕ). xs ++ drop count bytes) same

-- bytes in front of others stand ahead of these
bytes-parted : {E : Type 0} (bytes left : List ℕ) (items : List (Ahead E))
    → map ByteAhead (bytes ++ left) ++ items ≡ map ByteAhead bytes ++ (map ByteAhead left ++ items)
bytes-parted [] left items = refl
bytes-parted {E} (b ∷ bytes) left items = ap (λ (rest : List (Ahead E)). ByteAhead b ∷ rest) (bytes-parted bytes left items)

-- a body in front of what slots hold
abbrev pub with_body : {E : Type 0} → LeaseId → Held (EventOrBody E) → Held (EventOrBody E)
with_body id s = record s { ahead = DoAhead (Body id) ∷ s.ahead }

module _ {E : Type 0} (full s : Held (EventOrBody E)) (id : LeaseId) where
  -- where an item was taken off, and a body was in front, it was that body
  pub with_body-taken : (item : Ahead (EventOrBody E)) → Some (DoAhead (Body id)) ≡ first full.ahead
      → full ≡ record s { ahead = item ∷ s.ahead } → full ≡ with_body id s
  with_body-taken item front taken =
      let is : Some (DoAhead (Body id)) ≡ Some item = front ∙ ap (λ (h : Held (EventOrBody E)). first h.ahead) taken in
      taken ∙ ap (λ (x : Ahead (EventOrBody E)). record s { ahead = x ∷ s.ahead }) (cc)

-- nothing was taken off, and it is in front of what is behind it
pub with_body-first : {E : Type 0} (full : Held (EventOrBody E)) (id : LeaseId) → Some (DoAhead (Body id)) ≡ first full.ahead
    → full ≡ with_body id (record full { ahead = drop 1 full.ahead })
with_body-first {E} full id front =
    ap (λ (items : List (Ahead (EventOrBody E))). record full { ahead = items }) (headed full.ahead (DoAhead (Body id)) front)

module _ {E : Type 0} (t : Texts) (full s : Held (EventOrBody E)) (id : LeaseId) (whole : full ≡ with_body id s)
    (stands : IsSound {E = E} (record { pushed_texts = full; texts = t })) where
  -- frames, as the body in front is named
  sound : IsSound {E = E} (record { pushed_texts = with_body id s; texts = t })
  sound = subst (λ (h : Held (EventOrBody E)). IsSound {E = E} (record { pushed_texts = h; texts = t })) whole stands

  -- the lease gives something, and so lives
  pub gives : 0 < rest_of (lease_of id.0 t)
  gives = sound.give 0 0 (omega arith)

  lives : IsSome (lease_of id.0 t)
  lives = some-giving (lease_of id.0 t) gives

  -- other bodies give what they gave
  others-passed : (count : ℕ) → All (λ other. lease_of other (after (Take id.0 count) t) ≡ lease_of other t) (leases_in s.ahead)
  others-passed count k d within =
      other-passed t id.0 count (get_or (leases_in s.ahead) k d) (others-behind id.0 (leases_in s.ahead) sound.once k d within)

  others-released : All (λ other. lease_of other (after (Release id.0) t) ≡ lease_of other t) (leases_in s.ahead)
  others-released k d within =
      other-released t id.0 (get_or (leases_in s.ahead) k d) (others-behind id.0 (leases_in s.ahead) sound.once k d within)

  module _ (count : ℕ) (bytes : List ℕ)
      (given : lease_bytes (lease_of id.0 t) ≡ bytes ++ drop count (lease_bytes (lease_of id.0 t))) where
    -- bytes are taken of what stands ahead, and the body stays
    ahead-passed : with_bodies t (with_body id s).ahead ≡ map ByteAhead bytes ++ with_bodies (after (Take id.0 count) t) (with_body id s).ahead
    ahead-passed =
        let u = after (Take id.0 count) t in
        let left = drop count (lease_bytes (lease_of id.0 t)) in
        let parted = ap (λ (all : List ℕ). map ByteAhead all ++ with_bodies t s.ahead) given ∙ bytes-parted bytes left (with_bodies t s.ahead) in
        let gave : lease_bytes (lease_of id.0 u) ≡ left =
        ap lease_bytes (lease-passed t id.0 lives count) ∙ given-bytes count (lease_of id.0 t) in
        let front = ap (λ (all : List ℕ). map ByteAhead all ++ with_bodies u s.ahead) gave in
        let behind = ap (λ (rest : List (Ahead E)). map ByteAhead left ++ rest) (with_bodies-same t u s.ahead (others-passed count)) in
        parted ∙ ap (λ (rest : List (Ahead E)). map ByteAhead bytes ++ rest) (sym (front ∙ behind))

    -- frames stay sound
    pub IsSound-passed : count < rest_of (lease_of id.0 t)
        → IsSound {E = E} (record { pushed_texts = full; texts = after (Take id.0 count) t })
    IsSound-passed more =
        let u = after (Take id.0 count) t in
        let ids = leases_in s.ahead in
        let rest : rest_of (lease_of id.0 u) ≡ rest_of (bytes_given count (lease_of id.0 t)) =
        ap rest_of (lease-passed t id.0 lives count) in
        let less = given-rest count (lease_of id.0 t) in
        let same = λ (k d : ℕ) (within : k < length ids). ap rest_of (others-passed count k d within) in
        let sums = sum_by-same (λ other. rest_of (lease_of other u)) (λ other. rest_of (lease_of other t)) ids same in
        let before = sum_by-cons (λ other. rest_of (lease_of other t)) id.0 ids in
        let behind = sum_by-cons (λ other. rest_of (lease_of other u)) id.0 ids in
        let items = with_bodies u (with_body id s).ahead in
        let passed : IsSound {E = E} (record { pushed_texts = with_body id s; texts = u }) = record {
          ended = sound.ended;
          give = All-cons (Gives u) id.0 ids (omega (arith, more, rest, less))
              (λ k d within. rw (others-passed count k d within) (All-tail (Gives t) id.0 ids sound.give k d within));
          once = sound.once;
          live = live-passed t id.0 lives count ∙ sound.live;
          sum = omega (arith, kept-passed t id.0 lives count, sound.sum, before, behind, sums, rest);
          cap_leases = sound.cap_leases;
          cap_kept = sound.cap_kept;
          bytes = omega (arith, ap bytes_ahead ahead-passed, bytes_ahead-bytes bytes items, sound.bytes);
          ends = omega (arith, ap ends_ahead ahead-passed, ends_ahead-bytes bytes items, sound.ends);
          events = omega (arith, ap events_ahead ahead-passed, events_ahead-bytes bytes items, sound.events);
          frees = omega (arith, ap frees_ahead ahead-passed, frees_ahead-bytes bytes items, sound.frees);
          small = sound.small;
          store = sound.store;
        } in
        subst (λ (h : Held (EventOrBody E)). IsSound {E = E} (record { pushed_texts = h; texts = u })) (sym whole) passed

    -- and the bytes were in front
    pub taken-passed : (old : AheadAndTexts E) → kept_by (record { pushed_texts = full; texts = t }) ≡ old
        → old ≡ record (kept_by (record { pushed_texts = full; texts = after (Take id.0 count) t })) {
          ahead = map ByteAhead bytes ++ with_bodies (after (Take id.0 count) t) full.ahead;
        }
    taken-passed old is =
        let u = after (Take id.0 count) t in
        let kept : Held (EventOrBody E) → AheadAndTexts E = λ h. kept_by (record { pushed_texts = h; texts = u }) in
        let before = ap (λ (h : Held (EventOrBody E)). kept_by (record { pushed_texts = h; texts = t })) whole in
        let taken = ap (λ (items : List (Ahead E)). record (kept (with_body id s)) { ahead = items }) ahead-passed in
        let behind = ap (λ (h : Held (EventOrBody E)). record (kept h) { ahead = map ByteAhead bytes ++ (kept h).ahead }) (sym whole) in
        sym is ∙ before ∙ taken ∙ behind

  -- all that it gives is taken of what stands ahead, and the body goes
  ahead-gone : with_bodies t (with_body id s).ahead ≡ map ByteAhead (lease_bytes (lease_of id.0 t)) ++ with_bodies (after (Release id.0) t) s.ahead
  ahead-gone =
      let bytes = lease_bytes (lease_of id.0 t) in
      ap (λ (rest : List (Ahead E)). map ByteAhead bytes ++ rest) (sym (with_bodies-same t (after (Release id.0) t) s.ahead others-released))

  -- frames stay sound
  pub IsSound-gone : IsSound {E = E} (record { pushed_texts = s; texts = after (Release id.0) t })
  IsSound-gone =
      let u = after (Release id.0) t in
      let ids = leases_in s.ahead in
      let bytes = lease_bytes (lease_of id.0 t) in
      let items = with_bodies u s.ahead in
      let same = λ (k d : ℕ) (within : k < length ids). ap rest_of (others-released k d within) in
      let sums = sum_by-same (λ other. rest_of (lease_of other u)) (λ other. rest_of (lease_of other t)) ids same in
      let before = sum_by-cons (λ other. rest_of (lease_of other t)) id.0 ids in
      record {
        ended = sound.ended.1;
        give = λ k d within. rw (others-released k d within) (All-tail (Gives t) id.0 ids sound.give k d within);
        once = once-behind id.0 ids sound.once;
        live = omega (arith, live-released t id.0 lives, sound.live);
        sum = omega (arith, kept-released t id.0 lives, sound.sum, before, sums);
        cap_leases = sound.cap_leases;
        cap_kept = sound.cap_kept;
        bytes = omega (arith, ap bytes_ahead ahead-gone, bytes_ahead-bytes bytes items, sound.bytes);
        ends = omega (arith, ap ends_ahead ahead-gone, ends_ahead-bytes bytes items, sound.ends);
        events = omega (arith, ap events_ahead ahead-gone, events_ahead-bytes bytes items, sound.events);
        frees = omega (arith, ap frees_ahead ahead-gone, frees_ahead-bytes bytes items, sound.frees);
        small = sound.small;
        store = sound.store;
      }

  -- and its bytes were in front
  pub taken-gone : (old : AheadAndTexts E) → kept_by (record { pushed_texts = full; texts = t }) ≡ old
      → old ≡ record (kept_by (record { pushed_texts = s; texts = after (Release id.0) t })) {
        ahead = map ByteAhead (lease_bytes (lease_of id.0 t)) ++ with_bodies (after (Release id.0) t) s.ahead;
      }
  taken-gone old is =
      let kept : AheadAndTexts E = kept_by (record { pushed_texts = s; texts = after (Release id.0) t }) in
      let before = ap (λ (h : Held (EventOrBody E)). kept_by (record { pushed_texts = h; texts = t })) whole in
      sym is ∙ before ∙ ap (λ (items : List (Ahead E)). record kept { ahead = items }) ahead-gone

  module _ (front : List ℕ) (is_front : front ≡ take (length front) (lease_bytes (lease_of id.0 t)))
      (some : 0 < rest_of (lease_of id.0 t) → 0 < length front) where
    -- the byte in front
    abbrev b : ℕ
    b = slice_index_or front 0 0

    -- the body stands for its first byte, and for what its lease gives behind it
    pub given-byte : lease_bytes (lease_of id.0 t) ≡ (b ∷ []) ++ drop 1 (lease_bytes (lease_of id.0 t))
    given-byte = byte-front front (lease_bytes (lease_of id.0 t)) is_front (some gives)

    parted : with_bodies t (with_body id s).ahead
        ≡ ByteAhead b ∷ (map ByteAhead (drop 1 (lease_bytes (lease_of id.0 t))) ++ with_bodies t s.ahead)
    parted = ap (λ (bytes : List ℕ). map ByteAhead bytes ++ with_bodies t s.ahead) given-byte

    -- where the lease gives more than the byte, the body stays
    pub IsSound-passed_byte : rest_of (lease_of id.0 t) ≢ 1 → IsSound {E = E} (record { pushed_texts = full; texts = after (Take id.0 1) t })
    IsSound-passed_byte more = IsSound-passed 1 (b ∷ []) given-byte (omega (arith, gives, more))

    pub TakesFront-passed : (old : AheadAndTexts E) → kept_by (record { pushed_texts = full; texts = t }) ≡ old
        → TakesFront old (kept_by (record { pushed_texts = full; texts = after (Take id.0 1) t })) (ShowsByte (slice_index_or front 0 0))
    TakesFront-passed old is = record { front = ByteAhead b; taken = taken-passed 1 (b ∷ []) given-byte old is; shows = refl }

    -- the last byte is taken of what stands ahead, and the body goes
    ahead-released : rest_of (lease_of id.0 t) ≡ 1
        → with_bodies t (with_body id s).ahead ≡ ByteAhead b ∷ with_bodies (after (Release id.0) t) s.ahead
    ahead-released one =
        let u = after (Release id.0) t in
        let bytes = lease_bytes (lease_of id.0 t) in
        let none : drop 1 bytes ≡ [] = drop_all 1 bytes (omega (arith, one, rest_is (lease_of id.0 t))) in
        let last = ap (λ (left : List ℕ). ByteAhead b ∷ (map ByteAhead left ++ with_bodies t s.ahead)) none in
        let behind = ap (λ (rest : List (Ahead E)). ByteAhead b ∷ rest) (with_bodies-same t u s.ahead others-released) in
        parted ∙ last ∙ sym behind

    -- frames stay sound
    pub IsSound-released : rest_of (lease_of id.0 t) ≡ 1
        → IsSound {E = E} (record { pushed_texts = s; texts = after (Release id.0) t })
    IsSound-released one = IsSound-gone

    -- and the byte was in front
    pub taken-released : rest_of (lease_of id.0 t) ≡ 1
        → (old : AheadAndTexts E) → kept_by (record { pushed_texts = full; texts = t }) ≡ old
        → old ≡ record (kept_by (record { pushed_texts = s; texts = after (Release id.0) t })) {
          ahead = ByteAhead (slice_index_or front 0 0) ∷ with_bodies (after (Release id.0) t) s.ahead;
        }
    taken-released one old is =
        let kept : AheadAndTexts E = kept_by (record { pushed_texts = s; texts = after (Release id.0) t }) in
        let before = ap (λ (h : Held (EventOrBody E)). kept_by (record { pushed_texts = h; texts = t })) whole in
        let taken = ap (λ (items : List (Ahead E)). record kept { ahead = items }) (ahead-released one) in
        sym is ∙ before ∙ taken

    -- which is the front item
    pub TakesFront-released : rest_of (lease_of id.0 t) ≡ 1
        → (old : AheadAndTexts E) → kept_by (record { pushed_texts = full; texts = t }) ≡ old
        → TakesFront old (kept_by (record { pushed_texts = s; texts = after (Release id.0) t })) (ShowsByte (slice_index_or front 0 0))
    TakesFront-released one old is = record { front = ByteAhead b; taken = taken-released one old is; shows = refl }
