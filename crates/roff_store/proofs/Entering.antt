-- A store of texts once a text in the making is entered.
use Rattle.std.proofs.Common.{◌≡◌, ℕ, ◌+◌, ◌-◌, ◌<◌, ◌≤◌, true, false, Bool, List, [], ◌∷◌, ◌++◌, length, map, get_or, Option, Some, None, Err, refl, sym, ap, subst, ◌∙◌, arith, Vec, Global, remove, vec_len, vec_capacity, IsPermutation, option_map}
use Rattle.std.proofs.lemmas.List.{nil_from_length}
use Rattle.std.proofs.lemmas.List.Elements.{All-nil}
use Rattle.std.proofs.lemmas.List.Sums.{sum_by-append, sum_by-cons}
use Rattle.roff_num.specs.declared.limit.Limit.TheVariants.{Names}
use Rattle.roff_store.specs.declared.strand.Strand.{Strand}
use Rattle.roff_store.specs.declared.text_store.Meaning.{Meaning}
use Rattle.roff_store.specs.declared.text_store.Meaning.TheVariants.{Body as BodyIn, Request as RequestOf}
use Rattle.roff_store.specs.declared.text_store.TextStore.TheInside.{Inside}
use Rattle.roff_store.specs.Pool.{chunks_in, Holds, IsHeld, IsLonger, rest_in, shares_by}
use Rattle.roff_store.specs.Chains.{Chunks, bytes_of, share, shares_in, AreSameChunks, IsStrand}
use Rattle.roff_store.specs.Leases.{living}
use Rattle.roff_store.specs.Named.{Table, entry_of, has_room, put_into, without_entry}
use Rattle.roff_store.specs.Texts.{Texts, Body, body_if_any, body_of}
use Rattle.roff_store.specs.TextCalls.{Enter, answered, open_text, text_before, with_name}
use Rattle.roff_store.specs.TextStore.Kept.{IsSound, kept_by, texts_in}
use Rattle.roff_store.specs.TextStore.Strands.{bodies, entry_in, strands_of}
use Rattle.roff_store.proofs.Keeping.{Comes, admitted-kept, body-kept, body-long, changed, order-out, room-left}
use Rattle.roff_store.proofs.Leaving.{is-left, length-bytes_of}
use Rattle.roff_store.proofs.Opening.{map-remove, open-inside, open-text, text-read}
use Rattle.roff_store.proofs.Places.{behind, onward, open-out, same-order, same-sum}
use Rattle.roff_store.proofs.Pool.{Holds-order, all-left, reshared, text-read-on}
use Rattle.roff_store.proofs.Putting.{IsReady, put-changed, put-table, put-texts}

-- the bytes of what has a strand
strands-body : (m : Chunks) (old : Option Meaning) (strand : Strand) → strands_of old ≡ strand ∷ []
    → body_if_any (option_map (entry_in m) old) ≡ bytes_of m strand
strands-body m None strand stands = cc
strands-body m (Some (BodyIn s)) strand stands = let same : s ≡ strand = cc in ap (bytes_of m) same
strands-body m (Some (RequestOf number)) strand stands = cc

-- a new name in a full table
pub enter-refused : {a : Inside} {t : Texts} → IsSound a → kept_by a ≡ t → (id : ℕ) (name : List ℕ) (append : Bool)
    → has_room name a.names ≡ false → Err Names ≡ answered (Enter id name append) t
enter-refused {a} sound is id name append full =
    subst (λ (x : Texts). Err Names ≡ answered (Enter id name append) x) is (sym (admitted-kept sound name false full))

module _ {a : Inside} {t : Texts} (sound : IsSound a) (is : kept_by a ≡ t) (id : ℕ) (given : id < length t.open_texts) {text : Strand}
    (was : text ≡ get_or a.open.items id text) (name : List ℕ) {old : Option Meaning}
    (found : old ≡ entry_of name a.names.entries) where
  -- the strands beside the text and what the name stands for
  abbrev rests : List Strand
  rests = bodies (without_entry name a.names.entries) ++ remove a.open.items id

  order : IsPermutation (texts_in a) (strands_of old ++ text ∷ rests)
  order =
      onward (order-out sound name found)
      (behind (strands_of old)
      (open-out (bodies (without_entry name a.names.entries)) a.open.items id text (open-inside sound is id given) was))

  -- both are in hand
  pub both : Holds a.chunks (strands_of old ++ text ∷ rests) (living a.leases.items)
  both = Holds-order order same-order sound.held

  pub used-both : a.used ≡ rest_in (strands_of old) + (text.rest + rest_in rests)
  used-both =
      let rest : Strand → ℕ = λ x. x.rest in
      omega (
        arith,
        sound.counted,
        same-sum rest order,
        sum_by-append rest (strands_of old) (text ∷ rests),
        sum_by-cons rest text rests,
      )

  module _ (room : has_room name a.names ≡ true) (append : Bool) {m : Chunks} {body : Strand} (opens : Vec Strand Global)
      (items : opens.items ≡ remove a.open.items id) (len : vec_len opens + 1 ≡ vec_len a.open)
      (capacity : vec_capacity opens ≡ vec_capacity a.open) (count : ℕ) where
    -- a name is given a body, and the text goes
    entered : IsReady a name (Body (text_before append name (kept_by a) ++ open_text id (kept_by a))) (BodyIn body) m (remove a.open.items id)
        → count ≡ body.rest + rest_in rests → count ≤ a.cap_bytes
        → {names : Table Meaning} → names ≡ put_into name (BodyIn body) a.names
        → Comes (Enter id name append) t (record a { names = names; chunks = m; «open» = opens; used = count })
    entered is_ready counted within {names} put =
        let entry = Body (text_before append name (kept_by a) ++ open_text id (kept_by a)) in
        let ready : IsReady a name (Body (text_before append name (kept_by a) ++ open_text id (kept_by a))) (BodyIn body) m opens.items =
        rw items is_ready in
        let rest : count ≡ rest_in (strands_of (Some (BodyIn body))) + rest_in (bodies (without_entry name a.names.entries) ++ opens.items) =
        rw items (omega (arith, counted)) in
        let taken : vec_len opens ≤ a.cap_open = omega (arith, len, sound.opens) in
        let reserved = capacity ∙ sound.opens_reserved in
        let opens_now : map (bytes_of a.chunks) opens.items ≡ remove (map (bytes_of a.chunks) a.open.items) id =
        ap (map (bytes_of a.chunks)) items ∙ map-remove (bytes_of a.chunks) a.open.items id in
        changed (Enter id name append) sound is (put-changed sound opens ready room count rest within taken reserved)
        (put-texts sound opens ready ∙ ap (λ o. record (with_name name entry (kept_by a)) { open_texts = o }) opens_now)
        (λ _. admitted-kept sound name true room) (put-table name (BodyIn body) a.names room put)

  -- the text is put behind the body
  module _ {before : Strand} (stands : strands_of old ≡ before ∷ []) where
    pub both-behind : Holds a.chunks (before ∷ text ∷ rests) (living a.leases.items)
    both-behind = subst (λ l. Holds a.chunks (l ++ text ∷ rests) (living a.leases.items)) stands both

    pub held-behind : IsHeld a.chunks before (text ∷ [])
    held-behind = record { ts = rests; ls = living a.leases.items; held = text-read-on both-behind }

    pub room-behind : shares_in a.chunks + 3 ≤ a.chunks.most
    room-behind = omega (arith, room-left sound)

    used-behind : a.used ≡ before.rest + text.rest + rest_in rests
    used-behind = let one = ap rest_in stands in omega (arith, used-both, one)

    pub short-behind : before.rest + text.rest ≤ a.cap_bytes
    short-behind = omega (arith, used-behind, sound.within)

    before-bytes : body_of name (kept_by a) ≡ bytes_of a.chunks before
    before-bytes = body-kept sound name found ∙ strands-body a.chunks old before stands

    pub entered-behind : has_room name a.names ≡ true → {append : Bool} → append ≡ true → {m : Chunks} {body : Strand}
        → IsLonger a.chunks before (text ∷ []) (bytes_of a.chunks text) m body [] → {opens : Vec Strand Global}
        → opens.items ≡ remove a.open.items id → vec_len opens + 1 ≡ vec_len a.open → vec_capacity opens ≡ vec_capacity a.open
        → {names : Table Meaning} → names ≡ put_into name (BodyIn body) a.names
        → Comes (Enter id name append) t (record a { names = names; chunks = m; «open» = opens })
    entered-behind room {append} appends {m} {body} more {opens} items len capacity put =
        let had = more.leaves rests (living a.leases.items) (text-read-on both-behind) in
        let ready : IsReady a name (Body (text_before append name (kept_by a) ++ open_text id (kept_by a))) (BodyIn body) m (remove a.open.items id) =
        record {
          held = had.held;
          texts = had.texts_left;
          leases = had.leases_left;
          entry_is =
              rw appends (ap (λ (x : List ℕ). Body x) (more.bytes_are
              ∙ ap (λ (x : List ℕ). x ++ bytes_of a.chunks text) (sym before-bytes)
              ∙ ap (λ (x : List ℕ). body_of name (kept_by a) ++ x) (sym (text-read sound is id given was))));
          most = more.most;
        } in
        let long = length-bytes_of a.chunks text (open-text sound is id given was).strand in
        entered room append opens items len capacity a.used ready (omega (arith, used-behind, more.len, long)) sound.within put

  -- nothing stands before it
  nothing-before : (append : Bool) → (append ≡ true → strands_of old ≡ []) → text_before append name (kept_by a) ≡ []
  nothing-before true alone = nil_from_length (body_of name (kept_by a)) (body-long sound name found ∙ ap rest_in (alone refl))
  nothing-before false alone = refl

  -- or it is the body
  pub entered-alone : has_room name a.names ≡ true → (append : Bool) → (append ≡ true → strands_of old ≡ []) → {m : Chunks}
      → ((chunk : ℕ) → share m chunk ≡ share a.chunks chunk - shares_by a.chunks chunk (strands_of old))
      → shares_in m + chunks_in (strands_of old) ≡ shares_in a.chunks → AreSameChunks a.chunks m → {len : ℕ}
      → len ≡ rest_in (strands_of old) → {opens : Vec Strand Global}
      → opens.items ≡ remove a.open.items id → vec_len opens + 1 ≡ vec_len a.open → vec_capacity opens ≡ vec_capacity a.open
      → {names : Table Meaning} → names ≡ put_into name (BodyIn text) a.names
      → Comes (Enter id name append) t (record a { names = names; chunks = m; «open» = opens; used = a.used - len })
  entered-alone room append alone {m} shares sum same {len} long {opens} items fewer capacity put =
      let ready : IsReady a name (Body (text_before append name (kept_by a) ++ open_text id (kept_by a))) (BodyIn text) m (remove a.open.items id) =
      record {
        held =
            reshared (strands_of old) [] [] (living a.leases.items) both same (All-nil (IsStrand m)) (λ chunk. omega (arith, shares chunk))
            (omega (arith, sum));
        texts = all-left rests same;
        leases = all-left (living a.leases.items) same;
        entry_is = ap (λ (x : List ℕ). Body x) ((is-left a.chunks m text same).bytes ∙ sym (text-read sound is id given was)
            ∙ ap (λ (x : List ℕ). x ++ open_text id (kept_by a)) (sym (nothing-before append alone)));
        most = same.most;
      } in
      entered room append opens items fewer capacity (a.used - len) ready (omega (arith, used-both, long)) (omega (arith, sound.within)) put
