-- What a source gives: its tape, the items to come and how they end.
use Rattle.std.specs.Prelude.{◌≡◌, ℕ, List, [], ◌∷◌, ◌++◌, drop}
use Rattle.roff_num.specs.declared.limit.Limit.{Limit}
use Rattle.input_source.specs.declared.source.Taken.{Taken}
use Rattle.input_source.specs.declared.source.Taken.TheVariants.{Byte, Note, End, Fault, Stop}

-- one item: a byte, or a message of the source's own
pub data Item : Type 0 where
  OneByte : (b : ℕ) → Item
  OneNote : (message : List ℕ) → Item

-- how the items end: by the end of the input, a fault of the device, or a limit of the source's own
pub data Ending : Type 0 where
  Ended Failed : Ending
  Stopped : (limit : Limit) → Ending

-- the items to come, and how they end
pub record Tape : Type 0 where
  pub items : List Item
  pub ending : Ending

-- what a source answers: an item, or for good how the items end
pub data Answer : Type 0 where
  Gives : (item : Item) → Answer
  Ends : (ending : Ending) → Answer

-- the answer that was taken
abbrev pub answer_of : Taken → Answer
answer_of (Byte b) = Gives (OneByte b)
answer_of (Note message) = Gives (OneNote message.items)
answer_of End = Ends Ended
answer_of Fault = Ends Failed
answer_of (Stop limit) = Ends (Stopped limit)

-- what a tape answers first
abbrev pub front : Tape → Answer
front t = elim t.items [ [] ↦ Ends t.ending | item ∷ items ↦ Gives item ]

-- the tape behind its first answer: an ending stays
abbrev pub behind_front : Tape → Tape
behind_front t = elim t.items [ [] ↦ t | item ∷ items ↦ record t { items = items } ]

-- a tape that ends so at once
abbrev pub only : Ending → Tape
only ending = record { items = []; ending = ending }

-- these items, and then a tape
abbrev pub items_then : List Item → Tape → Tape
items_then items t = record { items = items ++ t.items; ending = t.ending }

-- an answer, and then a tape: behind an ending nothing comes
abbrev pub answer_then : Answer → Tape → Tape
answer_then (Gives item) t = record { items = item ∷ t.items; ending = t.ending }
answer_then (Ends ending) t = only ending

-- What a source may give changes by an answer so: what it may give behind the answer, it might have given
-- with the answer in front; there is such a tape; and behind an ending that ending alone may be given.
pub record Answers (old new : Tape → Type 0) (a : Answer) : Type 0 where
  pub before : (t : Tape) → new t → old (answer_then a t)
  pub final : (ending : Ending) → a ≡ Ends ending → (t : Tape) → new t → t ≡ only ending
  pub some : Tape
  pub some_given : new some

-- what stood ready behind so many bytes stands ready still, and perhaps more behind that
pub record StaysReady (count : ℕ) (before after : List ℕ) : Type 0 where
  pub more : List ℕ
  pub is : after ≡ drop count before ++ more

-- A source gave these items, in this order: what it may give behind them, it might have given with them in
-- front; and there is such a tape.
pub record Took (old new : Tape → Type 0) (taken : List Item) : Type 0 where
  pub before : (t : Tape) → new t → old (items_then taken t)
  pub some : Tape
  pub some_given : new some
