-- Bytes that are put behind the text of a diversion, piece by piece: all together, or none of them.
use Rattle.std.proofs.Common.{◌≡◌, ℕ, ◌+◌, ◌<◌, ◌≤◌, Bool, true, false, List, [], ◌∷◌, ◌++◌, length, get_or, set, ◌^◌, Option, Some, None, Result, Ok, Err, refl, sym, ap, subst, ◌∙◌, append_assoc, append-nil, arith, min, nat_lt, sum_by, if◌then◌else◌, lt-ltb, ltb-false, ltb-true, get_or-set_same, length-append, set-set}
use Rattle.std.proofs.lemmas.List.Sums.{sum_by-set}
use Rattle.roff_num.specs.declared.limit.Limit.{Limit}
use Rattle.roff_num.specs.declared.limit.Limit.TheVariants.{Store}
use Rattle.input_model.specs.Input.Names.{adding_to, calling_on, open_numbered, stored}
use Rattle.input_model.specs.Unread.{IsWithin, changing, input_refusal, unless_passed}
use Rattle.roff_scan.proofs.AddedFronts.{length-texts_added, texts_added, texts_added-none}
use Rattle.roff_scan.proofs.Changing.{OthersWithin, changing_within}
use Rattle.page_model.specs.DueTexts.{Gets}
use Rattle.run_model.proofs.InputCounts.{IsWithin-allowed}
use Rattle.run_model.specs.Reading.Items.{PageInput, PageUnread}
use Rattle.run_items.proofs.Changes.{changed-Err, changed-Ok}
use Rattle.run_items.specs.Diverting.{ChangesText}
use Rattle.roff_store.specs.TextCalls.{PushOpen}

-- the number of a text, if it is one of these
abbrev IsAmong : Option ℕ → List (List ℕ) → Type 0
IsAmong None texts = Unit {0}
IsAmong (Some id) texts = id < length texts

-- how many bytes more there are
abbrev more_of : Option ℕ → List ℕ → ℕ
more_of None bytes = 0
more_of (Some id) bytes = length bytes

-- bytes behind bytes are both
both-added : (a b : List ℕ) (id : Option ℕ) (texts : List (List ℕ)) → IsAmong id texts → texts_added b id (texts_added a id texts) ≡ texts_added (a ++ b) id texts
both-added a b None texts inside = refl
both-added a b (Some id) texts inside =
    let text : List ℕ = get_or texts id [] in
    let one : List (List ℕ) = set texts id (text ++ a) in
    set-set texts id (text ++ a) (get_or one id [] ++ b)
    ∙ ap (λ (grown : List ℕ). set texts id (grown ++ b)) (get_or-set_same texts id (text ++ a) [] inside)
    ∙ ap (set texts id) (append_assoc text a b)

-- all texts have so many bytes more
longer-added : (bytes : List ℕ) (id : Option ℕ) (texts : List (List ℕ)) → IsAmong id texts
    → sum_by length (texts_added bytes id texts) ≡ sum_by length texts + more_of id bytes
longer-added bytes None texts inside = omega arith
longer-added bytes (Some id) texts inside =
    let text : List ℕ = get_or texts id [] in
    let size : List ℕ → ℕ = length in
    omega (arith, sum_by-set size texts id (text ++ bytes) [] inside, length-append text bytes)

-- pieces count as all of them
more-both : (id : Option ℕ) (a b : List ℕ) → more_of id a + more_of id b ≡ more_of id (a ++ b)
more-both None a b = refl
more-both (Some id) a b = sym (length-append a b)

-- no more than all of them
more_of-le : (id : Option ℕ) (bytes : List ℕ) → more_of id bytes ≤ length bytes
more_of-le None bytes = omega arith
more_of-le (Some id) bytes = omega arith

-- a limit that is the same
some-same : (a b : Limit) → Some a ≡ Some b → a ≡ b
some-same a b is = ap (λ (o : Option Limit). elim o [ None ↦ a | Some limit ↦ limit ]) is

-- what was refused wasn't made
never-refused : (r : Result (Unit {0}) Limit) (limit : Limit) → r ≡ Err limit → r ≡ Ok tt → ⊥
never-refused (Ok done) limit refused made = cc
never-refused (Err other) limit refused made = cc

-- where none are taken of bytes none are left
pub none_left : (rest : List ℕ) (taken : ℕ) → (0 < length rest → 0 < taken) → taken ≡ 0 → length rest ≡ 0
none_left [] taken some none = refl
none_left (b ∷ rest) taken some none = absurd (omega (arith, none, some (omega arith)))

-- what is refused isn't allowed
never_both : (refused : Option Limit) (limit : Limit) → refused ≡ None → refused ≡ Some limit → ⊥
never_both None limit none some = cc
never_both (Some other) limit none some = cc

-- what was changed wasn't refused
never_refused_is : (i : PageInput) (u : PageUnread) → changing i u ≡ (Ok tt, record u { input = i }) → input_refusal u.limits i ≡ None
never_refused_is i u made = (changed-Ok (input_refusal u.limits i) i u (record u { input = i }) (sym made)).0

-- what isn't refused is changed
was_changed : (old new : PageUnread) (i : PageInput) → input_refusal old.limits i ≡ None → new ≡ record old { input = i } → (Ok tt, new) ≡ changing i old
was_changed old new i none is =
    ap (λ (u : PageUnread). (Ok tt, u)) is ∙ sym (ap (λ (refused : Option Limit). unless_passed refused i old) none)

-- a text that has a number is one of those in the making
among-if : (b : Bool) (index : ℕ) (texts : List (List ℕ)) → nat_lt index (length texts) ≡ b → IsAmong (if b then Some index else None) texts
among-if true index texts is = ltb-true index (length texts) is
among-if false index texts is = tt

module _ (index : ℕ) where
  among : (i : PageInput) → IsAmong (open_numbered index i) i.open_texts
  among i = among-if (nat_lt index (length i.open_texts)) index i.open_texts refl

  -- the texts in the making change, and nothing else
  on-texts : (bytes : List ℕ) (id : Option ℕ) (i : PageInput) → calling_on (λ n. PushOpen n bytes) id i ≡ record i { open_texts = texts_added bytes id i.open_texts }
  on-texts bytes None i = refl
  on-texts bytes (Some id) i = refl

  abbrev texts_behind : List ℕ → PageInput → List (List ℕ)
  texts_behind bytes i = texts_added bytes (open_numbered index i) i.open_texts

  to-texts : (bytes : List ℕ) (i : PageInput) → adding_to index bytes i ≡ record i { open_texts = texts_behind bytes i }
  to-texts bytes i = on-texts bytes (open_numbered index i) i

  -- which has a number stays
  same-number : (texts : List (List ℕ)) (i : PageInput) → length texts ≡ length i.open_texts → open_numbered index (record i { open_texts = texts }) ≡ open_numbered index i
  same-number texts i same = ap (λ (n : ℕ). if nat_lt index n then Some index else None) same

  -- pieces that are added are added together
  pub adding_to-both : (a b : List ℕ) (i : PageInput) → adding_to index b (adding_to index a i) ≡ adding_to index (a ++ b) i
  adding_to-both a b i =
      let id : Option ℕ = open_numbered index i in
      let one : List (List ℕ) = texts_behind a i in
      ap (λ (j : PageInput). adding_to index b j) (to-texts a i)
      ∙ to-texts b (record i { open_texts = one })
      ∙ ap (λ (n : Option ℕ). record i { open_texts = texts_added b n one }) (same-number one i (length-texts_added a id i.open_texts))
      ∙ ap (λ (texts : List (List ℕ)). record i { open_texts = texts }) (both-added a b id i.open_texts (among i))
      ∙ sym (to-texts (a ++ b) i)

  -- none is nothing
  pub adding_to-none : (i : PageInput) → adding_to index [] i ≡ i
  adding_to-none i =
      to-texts [] i ∙ ap (λ (texts : List (List ℕ)). record i { open_texts = texts }) (texts_added-none (open_numbered index i) i.open_texts)

  -- so much is stored behind them
  stored-added : (bytes : List ℕ) (i : PageInput) → stored (adding_to index bytes i) ≡ stored i + more_of (open_numbered index i) bytes
  stored-added bytes i =
      let longer = longer-added bytes (open_numbered index i) i.open_texts (among i) in
      ap (λ (j : PageInput). stored j) (to-texts bytes i) ∙ omega (arith, longer)

  -- where there is room for them they are added
  pub added-within : (bytes : List ℕ) (u : PageUnread) → IsWithin u → stored u.input + more_of (open_numbered index u.input) bytes ≤ u.limits.store
      → changing (adding_to index bytes u.input) u ≡ (Ok tt, record u { input = adding_to index bytes u.input })
  added-within bytes u within room =
      let i : PageInput = record u.input { open_texts = texts_behind bytes u.input } in
      let counted : stored i ≡ stored u.input + more_of (open_numbered index u.input) bytes =
      sym (ap (λ (j : PageInput). stored j) (to-texts bytes u.input)) ∙ stored-added bytes u.input in
      let others : OthersWithin u i = record {
        charge = within.charge;
        newlines = within.newlines;
        results = within.results;
        stored = omega (arith, room, counted);
        names = within.names;
        making = omega (arith, within.making, length-texts_added bytes (open_numbered index u.input) u.input.open_texts);
      } in
      ap (λ (j : PageInput). changing j u) (to-texts bytes u.input)
      ∙ changing_within u i others within.pushed within.depth
      ∙ ap (λ (j : PageInput). (Ok tt, record u { input = j })) (sym (to-texts bytes u.input))

  -- they are refused only where there is none, by the limit on the store
  refused-store : (bytes : List ℕ) (u : PageUnread) (limit : Limit) → IsWithin u → input_refusal u.limits (adding_to index bytes u.input) ≡ Some limit
      → (limit ≡ Store) × (u.limits.store < stored (adding_to index bytes u.input))
  refused-store bytes u limit within refused = by (nat_lt u.limits.store (stored (adding_to index bytes u.input))) refl
    where
      by : (b : Bool) → nat_lt u.limits.store (stored (adding_to index bytes u.input)) ≡ b
          → (limit ≡ Store) × (u.limits.store < stored (adding_to index bytes u.input))
      by true is = (
        (let stops : input_refusal u.limits (adding_to index bytes u.input) ≡ Some Store = rw is refl in
            some-same limit Store (sym refused ∙ stops)),
        ltb-true u.limits.store (stored (adding_to index bytes u.input)) is,
      )
      by false is =
          let i : PageInput = adding_to index bytes u.input in
          let few : stored i ≤ u.limits.store = ltb-false u.limits.store (stored i) is in
          let room : stored u.input + more_of (open_numbered index u.input) bytes ≤ u.limits.store = omega (arith, few, stored-added bytes u.input) in
          let made : (Err limit, u) ≡ (Ok tt, record u { input = i }) =
          sym (ap (λ (r : Option Limit). unless_passed r i u) refused) ∙ added-within bytes u within room in
          absurd (never-refused (Err limit) limit refl (ap (λ (p : Result (Unit {0}) Limit × PageUnread). p.0) made))

  -- where pieces are, all are
  refused-more : (some more : List ℕ) (u : PageUnread) → u.limits.store < stored (adding_to index some u.input)
      → input_refusal u.limits (adding_to index (some ++ more) u.input) ≡ Some Store
  refused-more some more u full =
      let id : Option ℕ = open_numbered index u.input in
      let i : PageInput = adding_to index (some ++ more) u.input in
      let passed : nat_lt u.limits.store (stored i) ≡ true =
      lt-ltb u.limits.store (stored i) (omega (arith, full, stored-added some u.input, stored-added (some ++ more) u.input, more-both id some more)) in
      rw passed refl

  -- so far these of all bytes were added
  pub record AddedSoFar (all rest : List ℕ) (old now : PageUnread) : Type 0 where
    pub added : List ℕ
    pub is : now ≡ record old { input = adding_to index added old.input }
    pub all_is : added ++ rest ≡ all
    pub allowed : input_refusal old.limits (adding_to index added old.input) ≡ None
    pub fits : input_refusal old.limits (adding_to index all old.input) ≡ None

  pub added_none : (all : List ℕ) (old : PageUnread) → IsWithin old → input_refusal old.limits (adding_to index all old.input) ≡ None → AddedSoFar all all old old
  added_none all old within fits = record {
    added = [];
    is = ap (λ (j : PageInput). record old { input = j }) (sym (adding_to-none old.input));
    all_is = refl;
    allowed = ap (λ (j : PageInput). input_refusal old.limits j) (adding_to-none old.input) ∙ IsWithin-allowed old within;
    fits = fits;
  }

  -- a piece more
  module _ (all rest : List ℕ) (old now : PageUnread) (far : AddedSoFar all rest old now) (piece left : List ℕ) (new : PageUnread) (parts : piece ++ left ≡ rest) where
    whole : (far.added ++ piece) ++ left ≡ all
    whole = append_assoc far.added piece left ∙ ap (λ (bytes : List ℕ). far.added ++ bytes) parts ∙ far.all_is

    -- as what is added to the first
    together : adding_to index piece now.input ≡ adding_to index (far.added ++ piece) old.input
    together = ap (λ (u : PageUnread). adding_to index piece u.input) far.is ∙ adding_to-both far.added piece old.input

    refusal-together : input_refusal now.limits (adding_to index piece now.input) ≡ input_refusal old.limits (adding_to index (far.added ++ piece) old.input)
    refusal-together =
        ap (λ (i : PageInput). input_refusal now.limits i) together
        ∙ ap (λ (u : PageUnread). input_refusal u.limits (adding_to index (far.added ++ piece) old.input)) far.is

    -- was added
    pub added_next : (Ok tt, new) ≡ changing (adding_to index piece now.input) now → AddedSoFar all left old new
    added_next made =
        let changed = changed-Ok (input_refusal now.limits (adding_to index piece now.input)) (adding_to index piece now.input) now new made in record {
          added = far.added ++ piece;
          is = changed.1 ∙ ap (λ (i : PageInput). record now { input = i }) together
              ∙ ap (λ (u : PageUnread). record u { input = adding_to index (far.added ++ piece) old.input }) far.is;
          all_is = whole;
          fits = far.fits;
          allowed = sym refusal-together ∙ changed.0;
        }

    -- or refused: then all would be
    pub added_refused : (limit : Limit) → IsWithin old → (Err limit, new) ≡ changing (adding_to index piece now.input) now → ⊥
    added_refused limit within made =
        let changed = changed-Err (input_refusal now.limits (adding_to index piece now.input)) limit (adding_to index piece now.input) now new made in
        let refused = refused-store (far.added ++ piece) old limit within (sym refusal-together ∙ changed.0) in
        let all_refused : input_refusal old.limits (adding_to index all old.input) ≡ Some Store =
        subst (λ (bytes : List ℕ). input_refusal old.limits (adding_to index bytes old.input) ≡ Some Store) whole (refused-more (far.added ++ piece) left old refused.1) in
        never_both (input_refusal old.limits (adding_to index all old.input)) Store far.fits all_refused

  -- all were added
  pub added_all : (all rest : List ℕ) (old now : PageUnread) → length rest ≡ 0 → AddedSoFar all rest old now → ChangesText (Some (Gets index all)) old now (Ok tt)
  added_all all [] old now none far =
      let whole : far.added ≡ all = sym (append-nil far.added) ∙ far.all_is in
      was_changed old now (adding_to index all old.input) far.fits
      (far.is ∙ ap (λ (bytes : List ℕ). record old { input = adding_to index bytes old.input }) whole)
  added_all all (b ∷ rest) old now none far = absurd (omega (arith, none))

  -- so many bytes are refused
  pub refused_many : (bytes : List ℕ) (more : ℕ) (u : PageUnread) → nat_lt index (length u.input.open_texts) ≡ true → more ≡ min (length bytes) 18446744073709551615
      → u.limits.store < stored u.input + more → input_refusal u.limits (adding_to index bytes u.input) ≡ Some Store
  refused_many bytes more u there is full =
      let id_is : open_numbered index u.input ≡ Some index = rw there refl in
      let counted : stored (adding_to index bytes u.input) ≡ stored u.input + length bytes =
      stored-added bytes u.input ∙ ap (λ (id : Option ℕ). stored u.input + more_of id bytes) id_is in
      let passed : nat_lt u.limits.store (stored (adding_to index bytes u.input)) ≡ true =
      lt-ltb u.limits.store (stored (adding_to index bytes u.input)) (omega (arith, full, counted, is)) in
      rw passed refl

  -- so few aren't
  pub allowed_few : (bytes : List ℕ) (more : ℕ) (u : PageUnread) → IsWithin u → nat_lt index (length u.input.open_texts) ≡ true → more ≡ min (length bytes) 18446744073709551615
      → u.limits.store < 2 ^ 32 → stored u.input + more ≤ u.limits.store → input_refusal u.limits (adding_to index bytes u.input) ≡ None
  allowed_few bytes more u within there is small room =
      let id_is : open_numbered index u.input ≡ Some index = rw there refl in
      let few : stored u.input + more_of (open_numbered index u.input) bytes ≤ u.limits.store = rw id_is (omega (arith, is, small, room)) in
      never_refused_is (adding_to index bytes u.input) u (added-within bytes u within few)

  -- so it is told of bytes which are so many
  pub refusal_told : (full : Bool) (bytes : List ℕ) (more : ℕ) (u : PageUnread) → IsWithin u → nat_lt index (length u.input.open_texts) ≡ true
      → more ≡ min (length bytes) 18446744073709551615 → u.limits.store < 2 ^ 32
      → (full ≡ true → u.limits.store < stored u.input + more) → (full ≡ false → stored u.input + more ≤ u.limits.store)
      → input_refusal u.limits (adding_to index bytes u.input) ≡ (if full then Some Store else None)
  refusal_told true bytes more u within there is small many few = refused_many bytes more u there is (many refl)
  refusal_told false bytes more u within there is small many few = allowed_few bytes more u within there is small (few refl)

  -- nor are bytes that are no more than what there is room for, wherever they are put
  pub allowed_most : (bytes : List ℕ) (most : ℕ) (u : PageUnread) → IsWithin u → min (length bytes) 18446744073709551615 ≤ most
      → u.limits.store < 2 ^ 32 → stored u.input + most ≤ u.limits.store → input_refusal u.limits (adding_to index bytes u.input) ≡ None
  allowed_most bytes most u within few small room =
      let id : Option ℕ = open_numbered index u.input in
      let fits : stored u.input + more_of id bytes ≤ u.limits.store = omega (arith, few, small, room, more_of-le id bytes) in
      never_refused_is (adding_to index bytes u.input) u (added-within bytes u within fits)
