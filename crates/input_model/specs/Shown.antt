-- What calls show that take an item, or look ahead; a store without texts.
use Rattle.std.specs.Prelude.{ℕ, ◌+◌, List, [], ◌∷◌, Option, Some, None}
use Rattle.roff_num.specs.declared.limit.Limit.{Limit}
use Rattle.roff_num.specs.declared.limits.Limits.{Limits}
use Rattle.input_model.specs.Input.{Ahead, ByteAhead, FreeAhead, EndAhead, ReturnAhead, DoAhead}
use Rattle.roff_store.specs.Texts.{Texts}
use Rattle.input_source.specs.Tape.{Ending, Ended, Failed, Stopped}
use Rattle.input_model.specs.declared.item.Item.{Item}
use Rattle.input_model.specs.declared.item.Item.TheVariants.{Byte, End, Return, Do, Note, SourceEnd, Fault, Stop, Refused}
use Rattle.input_model.specs.declared.item.Sight.{Sight}
use Rattle.input_model.specs.declared.item.Sight.TheVariants.{Byte as SightOfByte, Nothing as SightOfNothing, Note as SightOfNote, SourceEnd as SightOfEnd, Fault as SightOfFault, Stop as SightOfStop}

-- no name stands for anything; there is room for so many that the limit doesn't count
abbrev pub no_texts : Limits → ℕ → Texts
no_texts l first_names = record {
  names = record { entries = []; cap = l.names + first_names };
  open_texts = [];
  leases = [];
  cap_bytes = l.store;
  cap_kept = l.stack;
  cap_open = l.diversions + 1;
  cap_leases = l.depth;
}

-- what a call shows that takes an item
pub data Shown (E : Type 0) : Type 0 where
  -- a byte, from wherever it comes
  ShowsByte : (b : ℕ) → Shown E
  -- the end of a pushed text
  ShowsEnd : Shown E
  -- the end of a body that a line called, or that sprang, and what is gone back to behind it
  ShowsReturn : (back : ℕ) → Shown E
  -- an event that was put back
  ShowsDo : (event : E) → Shown E
  -- a message of the source's
  ShowsNote : (message : List ℕ) → Shown E
  -- how the source's items end
  ShowsEnding : (ending : Ending) → Shown E
  -- nothing: one item more would pass a limit
  ShowsRefusal : (limit : Limit) → Shown E

-- what the code shows
abbrev pub shown : {E : Type 0} → Item E → Shown E
shown (Byte b) = ShowsByte b
shown End = ShowsEnd
shown (Return back) = ShowsReturn back
shown (Do event) = ShowsDo event
shown (Note message) = ShowsNote message.items
shown SourceEnd = ShowsEnding Ended
shown Fault = ShowsEnding Failed
shown (Stop limit) = ShowsEnding (Stopped limit)
shown (Refused limit) = ShowsRefusal limit

-- what an item ahead shows
abbrev pub shown_ahead : {E : Type 0} → Ahead E → Shown E
shown_ahead (ByteAhead b) = ShowsByte b
shown_ahead (FreeAhead b) = ShowsByte b
shown_ahead EndAhead = ShowsEnd
shown_ahead (ReturnAhead back) = ShowsReturn back
shown_ahead (DoAhead event) = ShowsDo event

-- what a call shows that looks ahead: the first byte behind any ends of texts
pub data Sighted : Type 0 where
  SeesByte : (b : ℕ) → Sighted
  -- an event that was put back hides what stands behind it
  SeesNothing : Sighted
  SeesNote : (message : List ℕ) → Sighted
  SeesEnding : (ending : Ending) → Sighted

-- what the code shows
abbrev pub sighted : Sight → Sighted
sighted (SightOfByte b) = SeesByte b
sighted SightOfNothing = SeesNothing
sighted (SightOfNote message) = SeesNote message.items
sighted SightOfEnd = SeesEnding Ended
sighted SightOfFault = SeesEnding Failed
sighted (SightOfStop limit) = SeesEnding (Stopped limit)

-- what is seen of the items ahead; none where only ends of texts are there
abbrev pub seen_ahead : {E : Type 0} → List (Ahead E) → Option Sighted
seen_ahead [] = None
seen_ahead (ByteAhead b ∷ items) = Some (SeesByte b)
seen_ahead (FreeAhead b ∷ items) = Some (SeesByte b)
seen_ahead (EndAhead ∷ items) = seen_ahead items
seen_ahead (ReturnAhead back ∷ items) = seen_ahead items
seen_ahead (DoAhead event ∷ items) = Some SeesNothing

-- the byte that is seen, if one is
abbrev pub byte_seen : Option Sighted → Option ℕ
byte_seen (Some (SeesByte b)) = Some b
byte_seen (_) = None
