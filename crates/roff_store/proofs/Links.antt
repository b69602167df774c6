-- How a slot is linked into its bucket.
use Rattle.std.proofs.Common.{◌≡◌, ◌≢◌, ℕ, ◌+◌, ◌<◌, ◌≤◌, List, [], ◌∷◌, ◌++◌, length, set, get_or, inl, inr, refl, sym, ◌∙◌, arith, length-append, get_or-set_same, get_or-set_other, length-set}
use Rattle.std.proofs.lemmas.List.{get_or_append_left, get_or_push, length_push}
use Rattle.std.proofs.lemmas.Bool.{cases_eq, cases_order}
use Rattle.roff_store.specs.Buckets.{bucket_count}
use Rattle.roff_store.specs.NameTable.Slots.{IsLast, AreLinked}

-- no slots, and heads that lead nowhere
pub AreLinked-none : (heads : List ℕ) → length heads ≡ bucket_count
    → ((bucket : ℕ) → bucket < bucket_count → get_or heads bucket 0 ≡ 0) → AreLinked [] [] heads
AreLinked-none heads long clear = record {
  lengths = refl;
  head_count = long;
  head = λ bucket below. rw (clear bucket below) (record {
    within = omega arith;
    same = λ place e. absurd (omega arith);
    none_behind = λ place a b. absurd (omega arith);
  });
  link = λ place below small. absurd (omega arith);
}

-- the last slot of a bucket among the first n, whatever follows them
pub IsLast-append : (bs xs : List ℕ) (n bucket last : ℕ) → n ≤ length bs → IsLast bs n bucket last → IsLast (bs ++ xs) n bucket last
IsLast-append bs xs n bucket last within l = record {
  within = l.within;
  same = λ place e. let low = l.within in rw (get_or_append_left bs xs 0 place (omega arith)) (l.same place e);
  none_behind = λ place a b. rw (get_or_append_left bs xs 0 place (omega arith)) (l.none_behind place a b);
}

-- the last slot of a bucket, once one of another bucket is added
pub IsLast-other : (bs : List ℕ) (b bucket last : ℕ) → bucket ≢ b → IsLast bs (length bs) bucket last
    → IsLast (bs ++ b ∷ []) (length bs + 1) bucket last
IsLast-other bs b bucket last differs l =
    let longer = IsLast-append bs (b ∷ []) (length bs) bucket last (omega arith) l in
    record {
      within = let low = l.within in omega arith;
      same = longer.same;
      none_behind = λ place a below. elim (cases_eq place (length bs)) [
        | inl e ↦ (λ same. differs (sym same ∙ get_or_push bs b 0 place (sym e)))
        | inr e ↦ longer.none_behind place a (omega arith)
      ];
    }

-- the last slot of a bucket, once it is added
pub IsLast-same : (bs : List ℕ) (b : ℕ) → IsLast (bs ++ b ∷ []) (length bs + 1) b (length bs + 1)
IsLast-same bs b = record {
  within = omega arith;
  same = λ place e. get_or_push bs b 0 place (omega arith);
  none_behind = λ place a below. absurd (omega arith);
}

-- a slot added in front of its bucket
pub AreLinked-push : (buckets links heads : List ℕ) (b : ℕ) → b < bucket_count → AreLinked buckets links heads
    → AreLinked (buckets ++ b ∷ []) (links ++ get_or heads b 0 ∷ []) (set heads b (length buckets + 1))
AreLinked-push buckets links heads b small l = record {
  lengths = let n = l.lengths in simp length-append (omega arith);
  head_count = length-set heads b (length buckets + 1) ∙ l.head_count;
  head = λ bucket below. rw (length_push buckets b) (elim (cases_eq bucket b) [
    | inl e ↦ (let n = l.head_count in let at_end : b < length heads = omega arith in
        rw (e, get_or-set_same heads b (length buckets + 1) 0 at_end) (IsLast-same buckets b))
    | inr e ↦ rw (get_or-set_other heads b bucket (length buckets + 1) 0 e)
        (IsLast-other buckets b bucket (get_or heads bucket 0) e (l.head bucket below))
  ]);
  link = λ place below used. elim (cases_eq place (length buckets)) [
    | inl e ↦ rw (e, get_or_push buckets b 0 (length buckets) refl, get_or_push links (get_or heads b 0) 0 (length buckets) l.lengths)
        (IsLast-append buckets (b ∷ []) (length buckets) b (get_or heads b 0) (omega arith) (l.head b small))
    | inr e ↦ (let n = l.lengths in
        let m : length (buckets ++ b ∷ []) ≡ length buckets + 1 = length_push buckets b in
        let inside : place < length buckets = omega arith in
        let inside_links : place < length links = omega arith in
        rw (get_or_append_left buckets (b ∷ []) 0 place inside, get_or_append_left links (get_or heads b 0 ∷ []) 0 place inside_links)
        (IsLast-append buckets (b ∷ []) place (get_or buckets place 0) (get_or links place 0) (omega arith)
        (l.link place inside (rw (get_or_append_left buckets (b ∷ []) 0 place inside) at used))))
  ];
}

-- the last slot of a bucket, once another one is taken out of its bucket
pub IsLast-gone : (bs : List ℕ) (n bucket last place : ℕ) → place < length bs → bucket < bucket_count → last ≢ place + 1
    → IsLast bs n bucket last → IsLast (set bs place bucket_count) n bucket last
IsLast-gone bs n bucket last place inside small apart l = record {
  within = l.within;
  same = λ k e. let differs : k ≢ place = omega arith in rw (get_or-set_other bs place k bucket_count 0 differs) (l.same k e);
  none_behind = λ k a b. elim (cases_eq k place) [
    | inl e ↦ rw (e, get_or-set_same bs place bucket_count 0 inside) (λ h. omega arith)
    | inr e ↦ rw (get_or-set_other bs place k bucket_count 0 e) (l.none_behind k a b)
  ];
}

-- the last slot of a bucket, once it is taken out: the one that it led to
pub IsLast-past : (bs : List ℕ) (n bucket last place : ℕ) → place < length bs → bucket < bucket_count
    → IsLast bs n bucket (place + 1) → IsLast bs place bucket last → IsLast (set bs place bucket_count) n bucket last
IsLast-past bs n bucket last place inside small l older = record {
  within = let low = l.within in let lower = older.within in omega arith;
  same = λ k e. let lower = older.within in let differs : k ≢ place = omega arith in
      rw (get_or-set_other bs place k bucket_count 0 differs) (older.same k e);
  none_behind = λ k a b. elim (cases_order k place) [
    | inl e ↦ rw (e, get_or-set_same bs place bucket_count 0 inside) (λ h. omega arith)
    | inr (inl e) ↦ (let differs : k ≢ place = omega arith in rw (get_or-set_other bs place k bucket_count 0 differs) (older.none_behind k a e))
    | inr (inr e) ↦ (let differs : k ≢ place = omega arith in
        rw (get_or-set_other bs place k bucket_count 0 differs) (l.none_behind k (omega arith) b))
  ];
}

module _ (buckets links heads : List ℕ) (place : ℕ) (inside : place < length buckets)
    (small : get_or buckets place 0 < bucket_count) (l : AreLinked buckets links heads) where
  -- a slot that is still in a bucket is another one
  still_other : (k : ℕ) → get_or (set buckets place bucket_count) k 0 < bucket_count → k ≢ place
  still_other k used e = let h = rw (e, get_or-set_same buckets place bucket_count 0 inside) at used in omega arith

  -- where a slot leads that doesn't lead to the one taken out
  link_gone : (k : ℕ) → k < length buckets → get_or (set buckets place bucket_count) k 0 < bucket_count → get_or links k 0 ≢ place + 1
      → IsLast (set buckets place bucket_count) k (get_or (set buckets place bucket_count) k 0) (get_or links k 0)
  link_gone k below used apart =
      let differs = still_other k used in
      let before = rw (get_or-set_other buckets place k bucket_count 0 differs) at used in
      rw (get_or-set_other buckets place k bucket_count 0 differs)
      (IsLast-gone buckets k (get_or buckets k 0) (get_or links k 0) place inside before apart (l.link k below before))

  -- the last slot of a bucket is taken out
  pub AreLinked-unlink_head : get_or heads (get_or buckets place 0) 0 ≡ place + 1
      → AreLinked (set buckets place bucket_count) links (set heads (get_or buckets place 0) (get_or links place 0))
  AreLinked-unlink_head first =
      let b : ℕ = get_or buckets place 0 in
      let last : IsLast buckets (length buckets) b (place + 1) = rw first at (l.head b small) in
      record {
        lengths = l.lengths ∙ sym (length-set buckets place bucket_count);
        head_count = length-set heads b (get_or links place 0) ∙ l.head_count;
        head = λ bucket below. rw (length-set buckets place bucket_count) (elim (cases_eq bucket b) [
          | inl e ↦ (let n = l.head_count in let at_end : b < length heads = omega arith in
              rw (e, get_or-set_same heads b (get_or links place 0) 0 at_end)
              (IsLast-past buckets (length buckets) b (get_or links place 0) place inside small last (l.link place inside small)))
          | inr e ↦ rw (get_or-set_other heads b bucket (get_or links place 0) 0 e)
              (IsLast-gone buckets (length buckets) bucket (get_or heads bucket 0) place inside below
              (λ h. e (sym ((l.head bucket below).same place h))) (l.head bucket below))
        ]);
        link = λ k below used.
            let n : k < length buckets = rw length-set at below in
            let before = rw (get_or-set_other buckets place k bucket_count 0 (still_other k used)) at used in
            link_gone k n used (λ h. let next = l.link k n before in let low = next.within in
            last.none_behind k (omega arith) n (sym (next.same place h)));
      }

  -- a slot is taken out that another one leads to
  pub AreLinked-unlink_newer : (newer : ℕ) → newer < length buckets → get_or buckets newer 0 ≡ get_or buckets place 0
      → get_or links newer 0 ≡ place + 1
      → AreLinked (set buckets place bucket_count) (set links newer (get_or links place 0)) heads
  AreLinked-unlink_newer newer within lies leads =
      let b : ℕ = get_or buckets place 0 in
      let next : IsLast buckets newer b (place + 1) =
      rw (lies, leads) at (l.link newer within (rw lies small)) in
      let above = next.within in
      record {
        lengths = length-set links newer (get_or links place 0) ∙ l.lengths ∙ sym (length-set buckets place bucket_count);
        head_count = l.head_count;
        head = λ bucket below. rw (length-set buckets place bucket_count)
            (IsLast-gone buckets (length buckets) bucket (get_or heads bucket 0) place inside below
            (λ h. (l.head bucket below).none_behind newer (omega arith) within (lies ∙ (l.head bucket below).same place h))
            (l.head bucket below));
        link = λ k below used.
            let n : k < length buckets = rw length-set at below in
            let before = rw (get_or-set_other buckets place k bucket_count 0 (still_other k used)) at used in
            elim (cases_eq k newer) [
              | inl e ↦ (let m = l.lengths in let in_links : newer < length links = omega arith in
                  let differs : newer ≢ place = omega arith in
                  rw (e, get_or-set_same links newer (get_or links place 0) 0 in_links, get_or-set_other buckets place newer bucket_count 0 differs, lies)
                  (IsLast-past buckets newer b (get_or links place 0) place inside small next (l.link place inside small)))
              | inr e ↦ rw (get_or-set_other links newer k (get_or links place 0) 0 e)
                  (link_gone k n used (λ h. let other = l.link k n before in let low = other.within in
                  elim (cases_order k newer) [
                    | inl f ↦ e f
                    | inr (inl f) ↦ next.none_behind k (omega arith) f (sym (other.same place h))
                    | inr (inr f) ↦ other.none_behind newer (omega arith) f (lies ∙ other.same place h)
                  ]))
            ];
      }
