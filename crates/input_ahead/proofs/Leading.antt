-- Bytes in front of what stands ahead.
use Rattle.std.proofs.Common.{◌≡◌, ℕ, zero, suc, ◌-◌, ◌≤◌, false, List, [], ◌∷◌, ◌++◌, length, map, take, drop, min, Some, refl, sym, ap, subst, ◌∙◌, arith, length-take}
use Rattle.std.proofs.lemmas.List.{length-map, take-append-le, take_min}
use Rattle.std.proofs.Math.Seq.{drop-append_seam}
use Rattle.input_ahead.specs.InputAhead.Bodies.{with_bodies}
use Rattle.input_ahead.specs.InputAhead.Kept.{AheadAndTexts}
use Rattle.input_model.specs.Input.{Ahead, ByteAhead, FreeAhead, EndAhead, ReturnAhead, DoAhead, first, is_none_ahead, leading}
use Rattle.input_ahead.specs.PushedTexts.Held.{Held}
use Rattle.input_ahead.specs.declared.input_ahead.EventOrBody.{EventOrBody}
use Rattle.input_ahead.specs.declared.input_ahead.EventOrBody.TheVariants.{Body}
use Rattle.input_ahead.proofs.BodyTaken.{with_body-first}
use Rattle.roff_store.specs.declared.text.LeaseId.{LeaseId}
use Rattle.roff_store.specs.Texts.{Texts, lease_bytes, lease_of}

-- these bytes begin others, and are no more than so many
pub record Begins (front bytes : List ℕ) (most : ℕ) : Type 0 where
  pub same : front ≡ take (length front) bytes
  pub among : length front ≤ length bytes
  pub few : length front ≤ most

-- so many of them
pub begins : (front bytes : List ℕ) (most : ℕ) → front ≡ take most bytes → Begins front bytes most
begins front bytes most is =
    let cut : length front ≡ min most (length bytes) = ap length is ∙ length-take most bytes in
    record {
      same = is ∙ sym (ap (λ n. take n bytes) cut ∙ take_min most bytes);
      among = omega (arith, cut);
      few = omega (arith, cut);
    }

module _ {E : Type 0} where
  -- bytes stand in front of what is behind them
  pub leading-parted : (count : ℕ) (items : List (Ahead E)) → count ≤ length (leading items)
      → items ≡ map ByteAhead (take count (leading items)) ++ drop count items
  leading-parted zero items few = refl
  leading-parted (suc n) [] few = absurd (omega (arith, few))
  leading-parted (suc n) (ByteAhead b ∷ items) few = ap (λ (rest : List (Ahead E)). ByteAhead b ∷ rest) (leading-parted n items (omega (arith, few)))
  leading-parted (suc n) (FreeAhead b ∷ items) few = absurd (omega (arith, few))
  leading-parted (suc n) (EndAhead ∷ items) few = absurd (omega (arith, few))
  leading-parted (suc n) (ReturnAhead back ∷ items) few = absurd (omega (arith, few))
  leading-parted (suc n) (DoAhead event ∷ items) few = absurd (omega (arith, few))

  -- as many fewer stand in front behind some of them
  pub leading-fewer : (count : ℕ) (items : List (Ahead E)) → count ≤ length (leading items)
      → length (leading (drop count items)) ≡ length (leading items) - count
  leading-fewer zero items few = omega arith
  leading-fewer (suc n) [] few = absurd (omega (arith, few))
  leading-fewer (suc n) (ByteAhead b ∷ items) few = leading-fewer n items (omega (arith, few)) ∙ omega arith
  leading-fewer (suc n) (FreeAhead b ∷ items) few = absurd (omega (arith, few))
  leading-fewer (suc n) (EndAhead ∷ items) few = absurd (omega (arith, few))
  leading-fewer (suc n) (ReturnAhead back ∷ items) few = absurd (omega (arith, few))
  leading-fewer (suc n) (DoAhead event ∷ items) few = absurd (omega (arith, few))

  -- bytes in front of items are those in front
  leading-bytes : (bytes : List ℕ) (items : List (Ahead E)) → leading (map ByteAhead bytes ++ items) ≡ bytes ++ leading items
  leading-bytes [] items = refl
  leading-bytes (b ∷ bytes) items = ap (λ (rest : List ℕ). b ∷ rest) (leading-bytes bytes items)

  -- where a byte is in front, something is ahead
  pub some-ahead : (count : ℕ) (items : List (Ahead E)) → 1 ≤ count → count ≤ length (leading items) → is_none_ahead items ≡ false
  some-ahead count [] some few = absurd (omega (arith, some, few))
  some-ahead count (item ∷ items) some few = refl

  -- what a body in front gives stands in front
  pub leading-body : (t : Texts) (full : Held (EventOrBody E)) (id : LeaseId) (front : List ℕ) → Some (DoAhead (Body id)) ≡ first full.ahead
      → front ≡ take (length front) (lease_bytes (lease_of id.0 t)) → front ≡ take (length front) (leading (with_bodies t full.ahead))
  leading-body t full id front is same =
      let bytes : List ℕ = lease_bytes (lease_of id.0 t) in
      let behind : List (Ahead E) = with_bodies t (drop 1 full.ahead) in
      let whole : leading (with_bodies t full.ahead) ≡ bytes ++ leading behind =
      ap (λ (h : Held (EventOrBody E)). leading (with_bodies t h.ahead)) (with_body-first full id is) ∙ leading-bytes bytes behind in
      let cut : Begins front bytes (length front) = begins front bytes (length front) same in
      same ∙ sym (ap (take (length front)) whole ∙ take-append-le (length front) bytes (leading behind) cut.among)

  -- a byte of a text in front stands there alone
  leading-first : (t : Texts) (items : List (Ahead (EventOrBody E))) (b : ℕ) → Some (ByteAhead b) ≡ first items → b ∷ [] ≡ take 1 (leading (with_bodies t items))
  leading-first t [] b is = absurd (cc)
  leading-first t (ByteAhead c ∷ items) b is = let same : b ≡ c = cc in ap (λ (n : ℕ). n ∷ []) same
  leading-first t (FreeAhead c ∷ items) b is = absurd (cc)
  leading-first t (EndAhead ∷ items) b is = absurd (cc)
  leading-first t (ReturnAhead back ∷ items) b is = absurd (cc)
  leading-first t (DoAhead event ∷ items) b is = absurd (cc)

  pub leading-byte : (t : Texts) (full : Held (EventOrBody E)) (b : ℕ) (front : List ℕ) → Some (ByteAhead b) ≡ first full.ahead → front ≡ b ∷ []
      → front ≡ take (length front) (leading (with_bodies t full.ahead))
  leading-byte t full b front is alone =
      subst (λ (bytes : List ℕ). bytes ≡ take (length bytes) (leading (with_bodies t full.ahead))) (sym alone) (leading-first t full.ahead b is)

  -- so many bytes in front of items
  drop-bytes : (bytes : List ℕ) (count : ℕ) (items : List (Ahead E)) → length bytes ≡ count → drop count (map ByteAhead bytes ++ items) ≡ items
  drop-bytes bytes count items is =
      let same : count ≡ length (map {B = Ahead E} ByteAhead bytes) = sym (length-map bytes ByteAhead ∙ is) in
      ap (λ (n : ℕ). drop n (map ByteAhead bytes ++ items)) same ∙ drop-append_seam (map ByteAhead bytes) items

  -- so many bytes were in front, and are taken
  pub drop-taken : (old new : AheadAndTexts E) (bytes : List ℕ) (count : ℕ) → length bytes ≡ count → old ≡ record new { ahead = map ByteAhead bytes ++ new.ahead }
      → new ≡ record old { ahead = drop count old.ahead }
  drop-taken old new bytes count is taken =
      subst (λ (f : AheadAndTexts E). new ≡ record f { ahead = drop count f.ahead }) (sym taken)
      (ap (λ (items : List (Ahead E)). record new { ahead = items }) (sym (drop-bytes bytes count new.ahead is)))

  -- one item was in front, and is taken
  pub drop-first : (old new : AheadAndTexts E) (item : Ahead E) → old ≡ record new { ahead = item ∷ new.ahead } → new ≡ record old { ahead = drop 1 old.ahead }
  drop-first old new item taken = subst (λ (f : AheadAndTexts E). new ≡ record f { ahead = drop 1 f.ahead }) (sym taken) refl
