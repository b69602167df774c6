-- Bytes that are gathered of those that are pending, and given.
use Rattle.std.proofs.Common.{◌≡◌, ◌⊎◌, inl, inr, ◌∙◌, ℕ, ◌+◌, ◌<◌, ◌≤◌, List, [], ◌∷◌, ◌++◌, length, map, take, drop, get_or, Option, Some, None, IfSome, ap, append_assoc, arith, refl, sym, subst, length-drop, vec_capacity, vec_len, drop-drop, take-append-drop}
use Rattle.std.proofs.Math.Bridge.{le_prop}
use Rattle.std.proofs.lemmas.List.{drop-append-le, drop_all, drop_more, length-map, map-append}
use Rattle.input_source.specs.declared.source.ByteSource as byte_source
use Rattle.input_source.specs.BlockRead.{SomeTape}
use Rattle.input_source.specs.Tape.{Item, OneByte, Tape, Answer, Answers, Gives, Took, items_then}
use Rattle.tbl_format.specs.Parts.{IsFront}
use Rattle.tbl_core.specs.declared.gathered.GatheredSource.{GatheredSource}
use Rattle.tbl_core.specs.Gathered.{AreGathered, GathersOn, KeepsGiven, StandReady, bytes_first, bytes_or, gathered_gives, gathered_ready, inner_of, left_of, tables_of, with_bytes}
use Rattle.tbl_core.specs.NotesLeft.{noted, notes_left}
use Rattle.tbl_core.specs.Source.{Sourced, source_gives, source_ready}
use Rattle.tbl_core.specs.Tables.{TablesState, behind_given}
use Rattle.tbl_core.specs.Yields.{MayGive, yields, yields_from}
use Rattle.tbl_core.proofs.Given.{given_fewer}
use Rattle.tbl_core.proofs.Giving.{pending_given}

-- some are left, or none
pub some_left : (bytes : List ℕ) (next : ℕ) → next < length bytes → 1 ≤ length (drop next bytes)
some_left bytes next more = let left = length-drop next bytes in omega (arith, more, left)

pub none_left : (bytes : List ℕ) (next : ℕ) → length bytes ≤ next → drop next bytes ≡ []
none_left bytes next over = drop_all next bytes over

-- there are some, or none
pub cases_list : (bytes : List ℕ) → (bytes ≡ []) ⊎ (1 ≤ length bytes)
cases_list [] = inl refl
cases_list (b ∷ bytes) = inr (omega arith)

-- items of which there isn't one are none
pub none_of_items : (items : List Item) → (1 ≤ length items → ⊥) → items ≡ []
none_of_items [] none = refl
none_of_items (item ∷ items) none = absurd (none (omega arith))

-- the first that is left
pub first_left : (bytes : List ℕ) (next : ℕ) → next < length bytes → drop next bytes ≡ get_or bytes next 0 ∷ drop (next + 1) bytes
first_left bytes next more = drop_more bytes next 0 more

-- bytes, and none others
pub bytes-some : (bytes others : List ℕ) → 1 ≤ length bytes → bytes_or bytes others ≡ bytes
bytes-some [] others some = absurd (omega (arith, some))
bytes-some (b ∷ bytes) others some = refl

pub bytes-none : (bytes others : List ℕ) → bytes ≡ [] → bytes_or bytes others ≡ others
bytes-none bytes others none = ap (λ (xs : List ℕ). bytes_or xs others) none

-- bytes that were pending are to give before the others when they were gathered
piece_same : (gathered piece : List ℕ) (next : ℕ) (t : TablesState) → next ≤ length gathered → IsFront (map OneByte piece) t.at.pending
    → with_bytes (drop next (gathered ++ piece)) (behind_given (length piece) t) ≡ with_bytes (drop next gathered) t
piece_same gathered piece next t within first =
    let left = drop next gathered in
    let n = length piece in
    let rest = drop n t.at.pending in
    let front : take n t.at.pending ≡ map OneByte piece =
    ap (λ (k : ℕ). take k t.at.pending) (sym (length-map piece OneByte)) ∙ first in
    let pending : map OneByte (drop next (gathered ++ piece)) ++ rest ≡ map OneByte left ++ t.at.pending =
    ap (λ (bytes : List ℕ). map OneByte bytes ++ rest) (drop-append-le next gathered piece within)
    ∙ ap (λ (items : List Item). items ++ rest) (map-append OneByte left piece)
    ∙ append_assoc (map OneByte left) (map OneByte piece) rest
    ∙ ap (λ (items : List Item). map OneByte left ++ (items ++ rest)) (sym front)
    ∙ ap (λ (items : List Item). map OneByte left ++ items) (take-append-drop n t.at.pending) in
    ap (λ (items : List Item). record {
      limits = t.limits;
      line_length = t.line_length;
      at = record { pending = items; standing = t.at.standing };
    }) pending

-- what may be given by how far the run has come
abbrev state_gives : {S : Type 0} → (S → Tape → Type 0) → S → TablesState → Tape → Type 0
state_gives gives inner t = MayGive t.limits t.line_length t.at (gives inner)

-- bytes that are parted so are one behind another
rejoined : (n : ℕ) (left : List ℕ) (items more : List Item)
    → map OneByte (take n left) ++ ((map OneByte (drop n left) ++ items) ++ more) ≡ (map OneByte left ++ items) ++ more
rejoined n left items more =
    sym (append_assoc (map OneByte (take n left)) (map OneByte (drop n left) ++ items) more)
    ∙ ap (λ (all : List Item). all ++ more) (
    sym (append_assoc (map OneByte (take n left)) (map OneByte (drop n left)) items)
    ∙ ap (λ (front : List Item). front ++ items) (sym (map-append OneByte (take n left) (drop n left)) ∙ ap (map OneByte) (take-append-drop n left))
    )

-- so many are the first of what may be given
left_taken : {S : Type 0} (gives : S → Tape → Type 0) (inner : S) → SomeTape (gives inner) → (t : TablesState) (left : List ℕ) (n : ℕ)
    → Took (state_gives gives inner (with_bytes left t)) (state_gives gives inner (with_bytes (drop n left) t)) (map OneByte (take n left))
left_taken gives inner some t left n = record {
  before = λ tape given.
      let more = yields_from t.limits t.line_length t.at.standing given.under.items given.under.ending in record {
        under = given.under;
        given = given.given;
        is = ap (items_then (map OneByte (take n left))) given.is
            ∙ ap (λ (items : List Item). record { items = items; ending = more.ending }) (rejoined n left t.at.pending more.items);
      };
  some = yields t.limits t.line_length (bytes_first (drop n left) t.at) some.tape;
  some_given = record { under = some.tape; given = some.given; is = refl };
}

module _ {S : Type 0} {g : byte_source.Ghosts S} where
  -- so what may be given stays
  pub piece_kept : (old new : GatheredSource S g) (piece : List ℕ)
      → new.source ≡ record old.source { tables = behind_given (length piece) old.source.tables }
      → new.gathered.items ≡ old.gathered.items ++ piece → new.next ≡ old.next → old.next ≤ length old.gathered.items
      → IsFront (map OneByte piece) old.source.tables.at.pending → noted old.source.tables.at.pending ≡ 0 → KeepsGiven old new
  piece_kept old new piece source items next within first none =
      let t = old.source.tables in
      let behind = behind_given (length piece) t in record {
        inner = ap (λ (s : Sourced S). s.inner) source;
        tables = ap (λ (s : Sourced S). with_bytes (drop new.next new.gathered.items) s.tables) source
            ∙ ap (λ (n : ℕ). with_bytes (drop n new.gathered.items) behind) next
            ∙ ap (λ (bytes : List ℕ). with_bytes (drop old.next bytes) behind) items
            ∙ piece_same old.gathered.items piece old.next t within first;
        giving = ap (λ (s : Sourced S). s.giving) source;
        notes = subst (λ (s : Sourced S). notes_left s.tables ≤ notes_left t) (sym source) (given_fewer (length piece) t none);
      }

  -- so many that stand ready are left of those that were gathered, where some are
  pub gathered_room : (ready : S → List ℕ) (s : GatheredSource S g) (n : ℕ) → s.next < length s.gathered.items → n ≤ length (gathered_ready ready s)
      → s.next + n ≤ length s.gathered.items
  gathered_room ready s n more few =
      let some = some_left s.gathered.items s.next more in
      let left = length-drop s.next s.gathered.items in
      let same = ap (λ (bytes : List ℕ). length bytes) (bytes-some (left_of s) (source_ready ready s.source) some) in
      omega (arith, few, same, left, more)

  -- what has the same source, and what was gathered, is the same
  pub same_source : (s : GatheredSource S g) (source : Sourced S) (room : 1024 ≤ vec_capacity s.gathered) (within : vec_len s.gathered ≤ 1024)
      (order : s.next ≤ vec_len s.gathered) → source ≡ s.source
      → record { source = source; gathered = s.gathered; next = s.next; room = room; within = within; order = order } ≡ s
  same_source s source room within order is =
      ap (λ (t : Sourced S). record { source = t; gathered = s.gathered; next = s.next; room = room; within = within; order = order }) is
      ∙ ap (λ (p : 1024 ≤ vec_capacity s.gathered). record s { room = p; within = within; order = order }) (le_prop room s.room)
      ∙ ap (λ (p : vec_len s.gathered ≤ 1024). record s { within = p; order = order }) (le_prop within s.within)
      ∙ ap (λ (p : s.next ≤ vec_len s.gathered). record s { order = p }) (le_prop order s.order)

  -- nothing changes, or one call behind another changes nothing
  pub kept_here : (s : GatheredSource S g) → KeepsGiven s s
  kept_here s = record { inner = refl; tables = refl; giving = refl; notes = omega arith }

  pub kept_on : (old between new : GatheredSource S g) → KeepsGiven old between → KeepsGiven between new → KeepsGiven old new
  kept_on old between new first second = record {
    inner = second.inner ∙ first.inner;
    tables = second.tables ∙ first.tables;
    giving = second.giving ∙ first.giving;
    notes = omega (arith, first.notes, second.notes);
  }

  pub gathers_here : (s : GatheredSource S g) → GathersOn s s
  gathers_here s = record { kept = kept_here s; next = refl; more = omega arith }

  pub gathers_on : (old between new : GatheredSource S g) → GathersOn old between → GathersOn between new → GathersOn old new
  gathers_on old between new first second = record {
    kept = kept_on old between new first.kept second.kept;
    next = second.next ∙ first.next;
    more = omega (arith, first.more, second.more);
  }

  -- where none that were gathered were given, some stand ready if any are to come
  pub ready_gathered : (s : GatheredSource S g) → s.next ≡ 0 → AreGathered s → StandReady s
  ready_gathered s none many giving comes = elim (cases_list s.gathered.items) [
    | inl empty ↦
        let left : left_of s ≡ [] = ap (drop s.next) empty ∙ drop_all s.next [] (omega arith) in
        let few = ap (λ (bytes : List ℕ). length bytes) empty in
        let pending = many giving (omega (arith, few)) in
        let all = ap (λ (bytes : List ℕ). length (map OneByte bytes ++ s.source.tables.at.pending)) left ∙ ap (λ (items : List Item). length items) pending in
        absurd (omega (arith, all, comes))
    | inr some ↦ some_left s.gathered.items s.next (omega (arith, none, some))
  ]

  -- none was left: then none is where none was gathered
  pub emptied_kept : (old new : GatheredSource S g) → new.source ≡ old.source → left_of old ≡ [] → left_of new ≡ [] → KeepsGiven old new
  emptied_kept old new source none empty = record {
    inner = ap (λ (s : Sourced S). s.inner) source;
    tables = ap (λ (bytes : List ℕ). with_bytes bytes new.source.tables) (empty ∙ sym none)
        ∙ ap (λ (s : Sourced S). with_bytes (left_of old) s.tables) source;
    giving = ap (λ (s : Sourced S). s.giving) source;
    notes = subst (λ (s : Sourced S). notes_left s.tables ≤ notes_left old.source.tables) (sym source) (omega arith);
  }

  module _ (gives : S → Tape → Type 0) where
    -- what is given behind a call that keeps it
    answers_kept : (old : Tape → Type 0) (a : Answer) (new : GatheredSource S g) (inner : S) (t : TablesState)
        → inner_of new ≡ inner → tables_of new ≡ t → Answers old (state_gives gives inner t) a → Answers old (gathered_gives gives new) a
    answers_kept old a new inner t same is answers =
        subst (λ (i : S). Answers old (state_gives gives i (tables_of new)) a) (sym same)
        (subst (λ (here : TablesState). Answers old (state_gives gives inner here) a) (sym is) answers)

    took_kept : (old : Tape → Type 0) (items : List Item) (new : GatheredSource S g) (inner : S) (t : TablesState)
        → inner_of new ≡ inner → tables_of new ≡ t → Took old (state_gives gives inner t) items → Took old (gathered_gives gives new) items
    took_kept old items new inner t same is took =
        subst (λ (i : S). Took old (state_gives gives i (tables_of new)) items) (sym same)
        (subst (λ (here : TablesState). Took old (state_gives gives inner here) items) (sym is) took)

    -- a byte that was gathered is given
    pub byte_given : ((s : S) → SomeTape (gives s)) → (old new : GatheredSource S g) (b : ℕ) (left : List ℕ) → left_of old ≡ b ∷ left
        → inner_of new ≡ inner_of old → tables_of new ≡ with_bytes left old.source.tables
        → Answers (gathered_gives gives old) (gathered_gives gives new) (Gives (OneByte b))
    byte_given some_of old new b left split inner tables =
        let t = old.source.tables in
        let some = some_of (inner_of old) in
        let first : Answers (state_gives gives (inner_of old) (with_bytes (b ∷ left) t)) (state_gives gives (inner_of old) (with_bytes left t)) (Gives (OneByte b)) =
        pending_given t.limits t.line_length (OneByte b) (map OneByte left ++ t.at.pending) t.at.standing (gives (inner_of old)) some.tape some.given in
        subst (λ (bytes : List ℕ). Answers (state_gives gives (inner_of old) (with_bytes bytes t)) (gathered_gives gives new) (Gives (OneByte b))) (sym split)
        (answers_kept _ (Gives (OneByte b)) new (inner_of old) (with_bytes left t) inner tables first)

    -- where none is left the source answers
    pub source_answers : (old new : GatheredSource S g) (between : Sourced S) (a : Answer) → left_of old ≡ []
        → Answers (source_gives gives old.source) (source_gives gives between) a
        → inner_of new ≡ between.inner → tables_of new ≡ with_bytes (left_of old) between.tables
        → Answers (gathered_gives gives old) (gathered_gives gives new) a
    source_answers old new between a none answers inner tables =
        subst (λ (bytes : List ℕ). Answers (state_gives gives (inner_of old) (with_bytes bytes old.source.tables)) (gathered_gives gives new) a) (sym none)
        (answers_kept _ a new between.inner (with_bytes [] between.tables) inner
        (tables ∙ ap (λ (bytes : List ℕ). with_bytes bytes between.tables) none) answers)

    -- or gives a byte that stands ready there
    pub source_ready_gives : (old new : GatheredSource S g) (r : Option ℕ) → left_of old ≡ [] → left_of new ≡ left_of old
        → IfSome r (λ b. Answers (source_gives gives old.source) (source_gives gives new.source) (Gives (OneByte b)))
        → IfSome r (λ b. Answers (gathered_gives gives old) (gathered_gives gives new) (Gives (OneByte b)))
    source_ready_gives old new None none same answers = tt
    source_ready_gives old new (Some b) none same answers =
        source_answers old new new.source (Gives (OneByte b)) none answers refl
        (ap (λ (bytes : List ℕ). with_bytes bytes new.source.tables) same)

    -- bytes that were gathered are taken at once
    pub gathered_taken : ((s : S) → SomeTape (gives s)) → (ready : S → List ℕ) (old new : GatheredSource S g) (n : ℕ) → 1 ≤ length (left_of old)
        → inner_of new ≡ inner_of old → tables_of new ≡ with_bytes (drop (old.next + n) old.gathered.items) old.source.tables
        → Took (gathered_gives gives old) (gathered_gives gives new) (map OneByte (take n (gathered_ready ready old)))
    gathered_taken some_of ready old new n some inner tables =
        let t = old.source.tables in
        let left = left_of old in
        let took = left_taken gives (inner_of old) (some_of (inner_of old)) t left n in
        let behind = tables ∙ ap (λ (bytes : List ℕ). with_bytes bytes t) (sym (drop-drop n old.next old.gathered.items)) in
        subst (λ (bytes : List ℕ). Took (gathered_gives gives old) (gathered_gives gives new) (map OneByte (take n bytes)))
        (sym (bytes-some left (source_ready ready old.source) some))
        (took_kept _ (map OneByte (take n left)) new (inner_of old) (with_bytes (drop n left) t) inner behind took)

    -- or those of the source
    pub source_taken : (ready : S → List ℕ) (old new : GatheredSource S g) (n : ℕ) → left_of old ≡ [] → left_of new ≡ left_of old
        → Took (source_gives gives old.source) (source_gives gives new.source) (map OneByte (take n (source_ready ready old.source)))
        → Took (gathered_gives gives old) (gathered_gives gives new) (map OneByte (take n (gathered_ready ready old)))
    source_taken ready old new n none same took =
        let items = map OneByte (take n (source_ready ready old.source)) in
        subst (λ (bytes : List ℕ). Took (gathered_gives gives old) (gathered_gives gives new) (map OneByte (take n bytes)))
        (sym (bytes-none (left_of old) (source_ready ready old.source) none))
        (subst (λ (bytes : List ℕ). Took (state_gives gives (inner_of old) (with_bytes bytes old.source.tables)) (gathered_gives gives new) items) (sym none)
        (took_kept _ items new new.source.inner (with_bytes [] new.source.tables) refl
        (ap (λ (bytes : List ℕ). with_bytes bytes new.source.tables) (same ∙ none)) took))
