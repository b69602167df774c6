-- What sources might have given, by what they may give behind an answer.
use Rattle.std.proofs.Common.{◌≡◌, ◌<◌, ◌≤◌, ◌+◌, ℕ, List, [], ◌∷◌, ◌++◌, length, map, take, drop, get_or, refl, sym, ap, ◌∙◌, append_assoc, append-nil, arith, length-take, None, drop-drop, take-append-drop, get_or-take}
use Rattle.std.proofs.Math.Seq.{take-append_seam}
use Rattle.std.proofs.lemmas.List.{nil_from_length, drop_all, drop_more, map-append}
use Rattle.input_source.specs.BlockRead.{GivesBytes, SomeTape}
use Rattle.input_source.specs.ReadSource.Reach.{GivesBehind, MayGive, reach_ending, ready_at}
use Rattle.input_source.specs.declared.source.Reach.{Reach}
use Rattle.input_source.specs.declared.source.Reach.TheVariants.{Open, Ended as AtEnd, Failed as AtFault}
use Rattle.input_source.specs.Tape.{Tape, Item, Answers, StaysReady, Took, Ending, OneByte, Gives, Ends, answer_then, items_then, only}

-- the same answer, the same ending
ends_same : (a b : Ending) → Ends a ≡ Ends b → a ≡ b
ends_same a b same = cc

-- bytes that are told, one after another
pub told_byte : (bytes rest : List ℕ) (ending : Ending) (b : ℕ) → bytes ≡ b ∷ rest
    → Answers (λ t. t ≡ record { items = map OneByte bytes; ending = ending }) (λ t. t ≡ record { items = map OneByte rest; ending = ending }) (Gives (OneByte b))
told_byte bytes rest ending b split = record {
  before = λ t given. rw (split, given) refl;
  final = λ e ends. cc;
  some = record { items = map OneByte rest; ending = ending };
  some_given = refl;
}

-- so many of them at once
pub told_bytes : (bytes : List ℕ) (ending : Ending) (count : ℕ)
    → Took (λ t. t ≡ record { items = map OneByte bytes; ending = ending }) (λ t. t ≡ record { items = map OneByte (drop count bytes); ending = ending }) (map OneByte (take count bytes))
told_bytes bytes ending count = record {
  before = λ t given. rw given (ap (λ items. record { items = items; ending = ending }) (sym (map-append OneByte (take count bytes) (drop count bytes)) ∙ ap (map OneByte) (take-append-drop count bytes)));
  some = record { items = map OneByte (drop count bytes); ending = ending };
  some_given = refl;
}

-- an ending that was given
pub told_ending : (ending : Ending) → Answers (λ t. t ≡ only ending) (λ t. t ≡ only ending) (Ends ending)
told_ending ending = record {
  before = λ t given. refl;
  final = λ e ends t given. given ∙ ap only (ends_same ending e ends);
  some = only ending;
  some_given = refl;
}

-- the same of bytes that are told and have come to their end
pub told_end : (bytes : List ℕ) (ending e : Ending) → length bytes ≡ 0 → ending ≡ e
    → Answers (λ t. t ≡ record { items = map OneByte bytes; ending = ending }) (λ t. t ≡ record { items = map OneByte bytes; ending = ending }) (Ends e)
told_end bytes ending e empty is_e = rw (nil_from_length bytes empty, is_e) (told_ending e)

-- the first of the bytes that were read and not taken is taken
pub taken_byte : (left left' : List ℕ) (reads : Tape → Type 0) (b : ℕ) → left ≡ b ∷ left' → SomeTape reads
    → Answers (GivesBehind left reads) (GivesBehind left' reads) (Gives (OneByte b))
taken_byte left left' reads b split may = rw split record {
  before = λ t given. record {
    rest = given.rest;
    given = given.given;
    is = ap (answer_then (Gives (OneByte b))) given.is;
  };
  final = λ e ends. cc;
  some = items_then (map OneByte left') may.tape;
  some_given = record { rest = may.tape; given = may.given; is = refl };
}

-- bytes are read, and the first of them is taken
pub read_byte : (left block block' : List ℕ) (count : ℕ) (old new : Tape → Type 0) (b : ℕ) → left ≡ [] → take count block ≡ b ∷ block'
    → GivesBytes old new block count → SomeTape new → Answers (GivesBehind left old) (GivesBehind block' new) (Gives (OneByte b))
read_byte left block block' count old new b none split gave may = rw none record {
  before = λ t given. record {
    rest = items_then (map OneByte (b ∷ block')) given.rest;
    given = rw split at (gave.before given.rest given.given);
    is = ap (answer_then (Gives (OneByte b))) given.is;
  };
  final = λ e ends. cc;
  some = items_then (map OneByte block') may.tape;
  some_given = record { rest = may.tape; given = may.given; is = refl };
}

-- the reader's end, or an error of it, behind all that was read
pub read_ending : (left : List ℕ) (reads : Tape → Type 0) (ending : Ending) → left ≡ [] → reads (only ending)
    → Answers (GivesBehind left reads) (λ t. t ≡ only ending) (Ends ending)
read_ending left reads ending none given = rw none record {
  before = λ t is. record { rest = only ending; given = given; is = refl };
  final = λ e ends t is. is ∙ ap only (ends_same ending e ends);
  some = only ending;
  some_given = refl;
}

-- the first of what is left of a block, from one place on
pub block_split : (block : List ℕ) (next len : ℕ) → next < len → len ≤ length block
    → drop next (take len block) ≡ get_or block next 0 ∷ drop (next + 1) (take len block)
block_split block next len lt le =
    let inside : next < length (take len block) = rw length-take (omega (arith, lt, le)) in
    rw (← get_or-take len block next 0 lt) (drop_more (take len block) next 0 inside)

-- nothing is left of a block that was taken whole
pub block_over : (block : List ℕ) (next len : ℕ) → len ≤ next → drop next (take len block) ≡ []
block_over block next len over = drop_all next (take len block) (rw length-take (omega (arith, over)))

-- a block that was written whole
pub block_written : (n : ℕ) (ws old : List ℕ) → length ws ≡ n → take n (ws ++ drop (length ws) old) ≡ ws
block_written n ws old whole = rw (← whole) (take-append_seam ws _)

-- bytes that are parted so are one behind another
rejoined : (count : ℕ) (left : List ℕ) (items : List Item) → map OneByte (take count left) ++ (map OneByte (drop count left) ++ items) ≡ map OneByte left ++ items
rejoined count left items = sym (append_assoc (map OneByte (take count left)) (map OneByte (drop count left)) items)
    ∙ ap (λ (front : List Item). front ++ items) (sym (map-append OneByte (take count left) (drop count left)) ∙ ap (map OneByte) (take-append-drop count left))

-- so many of the bytes that were read are taken at once
bytes_taken : (count : ℕ) (left : List ℕ) (reads : Tape → Type 0) → SomeTape reads
    → Took (GivesBehind left reads) (GivesBehind (drop count left) reads) (map OneByte (take count left))
bytes_taken count left reads may = record {
  before = λ t given. record {
    rest = given.rest;
    given = given.given;
    is = ap (items_then (map OneByte (take count left))) given.is ∙ ap (λ (items : List Item). record { items = items; ending = given.rest.ending }) (rejoined count left given.rest.items);
  };
  some = items_then (map OneByte (drop count left)) may.tape;
  some_given = record { rest = may.tape; given = may.given; is = refl };
}

-- bytes of a block that stand ready are taken at once: there are some, so nothing has ended
pub ready_taken : (reach : Reach) (all : List ℕ) (next count : ℕ) (reads : Tape → Type 0) → SomeTape reads → 1 ≤ count → count ≤ length (ready_at reach (drop next all))
    → Took (MayGive (drop next all) reads (reach_ending reach)) (MayGive (drop (next + count) all) reads (reach_ending reach))
    (map OneByte (take count (ready_at reach (drop next all))))
ready_taken Open all next count reads may some within = rw (← drop-drop count next all) (bytes_taken count (drop next all) reads may)
ready_taken AtEnd all next count reads may some within = absurd (omega arith)
ready_taken AtFault all next count reads may some within = absurd (omega arith)

-- what stands ready behind bytes that are taken
pub stays_ready : (count : ℕ) (before : List ℕ) → StaysReady count before (drop count before)
stays_ready count before = record { more = []; is = sym (append-nil (drop count before)) }

pub ready_behind : (reach : Reach) (all : List ℕ) (next count : ℕ) → 1 ≤ count → count ≤ length (ready_at reach (drop next all))
    → StaysReady count (ready_at reach (drop next all)) (ready_at reach (drop (next + count) all))
ready_behind Open all next count some within = rw (← drop-drop count next all) (stays_ready count (drop next all))
ready_behind AtEnd all next count some within = absurd (omega arith)
ready_behind AtFault all next count some within = absurd (omega arith)

pub byte_behind : (reach : Reach) (bytes : List ℕ) (next : ℕ) → reach_ending reach ≡ None
    → StaysReady 1 (ready_at reach (drop next bytes)) (ready_at reach (drop (next + 1) bytes))
byte_behind Open bytes next given = rw (← drop-drop 1 next bytes) (stays_ready 1 (drop next bytes))
byte_behind AtEnd bytes next given = cc
byte_behind AtFault bytes next given = cc
