-- The input: what stands in front of the source, what is half read, and what is counted (manual, section 7).
--
-- Pushed texts, each with its end, and events put back stand ahead of the source's items in one list; so do the bodies that
-- lines call, whose ends are told apart. Beside it the input has the arguments of these calls, what names stand for, whose
-- bodies are pushed, and the texts that are being made of it.
pub mod Calls
pub mod Few
pub mod Names
use Rattle.std.specs.Prelude.{ℕ, ◌+◌, ◌*◌, Bool, true, false, List, [], ◌∷◌, ◌++◌, drop, length, map, Option, Some, None, if◌then◌else◌, ◌==◌, nat_le}
use Rattle.input_source.specs.Bytes.{newline}
use Rattle.input_escapes.specs.OpenEscape.{OpenEscape, Condition, texts_held, text_held}
use Rattle.input_escapes.specs.declared.open_escape.ConditionPart.TheVariants.{Choice}
use Rattle.input_escapes.specs.declared.open_escape.CopyUnit.{CopyUnit}
use Rattle.roff_store.specs.Named.{Named}
use Rattle.roff_store.specs.Texts.{Entry}
use Rattle.input_model.specs.Arguments.{Arguments, no_arguments, only_kept, held, with_plain, live_bytes}

-- an item ahead of the source
pub data Ahead (E : Type 0) : Type 0 where
  -- a byte of a pushed text
  ByteAhead : (b : ℕ) → Ahead E
  -- a byte that was taken and stands in front again: it costs nothing
  FreeAhead : (b : ℕ) → Ahead E
  -- the end of a pushed text
  EndAhead : Ahead E
  -- the end of a body that a line called, or that sprang: what is gone back to behind it, by a code; 0 is a line's beginning
  ReturnAhead : (back : ℕ) → Ahead E
  -- an event that was put back
  DoAhead : (event : E) → Ahead E

-- the input of a run, but for the source's items
pub record Input (E : Type 0) : Type 0 where
  -- what stands ahead of them
  pub ahead : List (Ahead E)
  -- the arguments of the control line that is being read
  pub arguments : Arguments
  -- the arguments of the bodies that lines called and that haven't ended, the innermost first
  pub calls : List (List (List ℕ))
  -- what is half read, the innermost first
  pub escapes : List OpenEscape
  -- the results of conditions that are kept for their other branch, the newest first, each with how many bodies that lines
  -- called hadn't ended then
  pub results : List (Bool × ℕ)
  -- how much was taken: bytes, ends of texts, events put back
  pub charge : ℕ
  -- how many newlines were taken of the source
  pub newlines : ℕ
  -- the line of the source on which the last byte taken of it stands, 1 if none was
  pub line : ℕ
  -- what names stand for: strings, macros and requests
  pub names : Named Entry
  -- how many names stood for something before anything was read
  pub first_names : ℕ
  -- the texts in the making, the oldest first
  pub open_texts : List (List ℕ)

-- before the first item, and before any of so many names stands for something
abbrev pub initial_input : {E : Type 0} → ℕ → Input E
initial_input first_names = record {
  ahead = [];
  arguments = no_arguments;
  calls = [];
  escapes = [];
  results = [];
  charge = 0;
  newlines = 0;
  line = 1;
  names = [];
  first_names = first_names;
  open_texts = [];
}

-- whether nothing stands ahead
abbrev pub is_none_ahead : {E : Type 0} → List (Ahead E) → Bool
is_none_ahead [] = true
is_none_ahead (item ∷ items) = false

-- the unread bytes of pushed texts
abbrev pub bytes_ahead : {E : Type 0} → List (Ahead E) → ℕ
bytes_ahead [] = 0
bytes_ahead (ByteAhead b ∷ items) = bytes_ahead items + 1
bytes_ahead (FreeAhead b ∷ items) = bytes_ahead items
bytes_ahead (EndAhead ∷ items) = bytes_ahead items
bytes_ahead (ReturnAhead back ∷ items) = bytes_ahead items
bytes_ahead (DoAhead event ∷ items) = bytes_ahead items

-- the bytes of pushed texts that stand in front, up to the first other item
abbrev pub leading : {E : Type 0} → List (Ahead E) → List ℕ
leading [] = []
leading (ByteAhead b ∷ items) = b ∷ leading items
leading (FreeAhead b ∷ items) = []
leading (EndAhead ∷ items) = []
leading (ReturnAhead back ∷ items) = []
leading (DoAhead event ∷ items) = []

-- the pushed texts, and the bodies that lines called, that haven't ended
abbrev pub ends_ahead : {E : Type 0} → List (Ahead E) → ℕ
ends_ahead [] = 0
ends_ahead (ByteAhead b ∷ items) = ends_ahead items
ends_ahead (FreeAhead b ∷ items) = ends_ahead items
ends_ahead (EndAhead ∷ items) = ends_ahead items + 1
ends_ahead (ReturnAhead back ∷ items) = ends_ahead items + 1
ends_ahead (DoAhead event ∷ items) = ends_ahead items

-- the bodies that lines called that haven't ended
abbrev pub returns_ahead : {E : Type 0} → List (Ahead E) → ℕ
returns_ahead [] = 0
returns_ahead (ByteAhead b ∷ items) = returns_ahead items
returns_ahead (FreeAhead b ∷ items) = returns_ahead items
returns_ahead (EndAhead ∷ items) = returns_ahead items
returns_ahead (ReturnAhead back ∷ items) = returns_ahead items + 1
returns_ahead (DoAhead event ∷ items) = returns_ahead items

-- the events that were put back
abbrev pub events_ahead : {E : Type 0} → List (Ahead E) → ℕ
events_ahead [] = 0
events_ahead (ByteAhead b ∷ items) = events_ahead items
events_ahead (FreeAhead b ∷ items) = events_ahead items
events_ahead (EndAhead ∷ items) = events_ahead items
events_ahead (ReturnAhead back ∷ items) = events_ahead items
events_ahead (DoAhead event ∷ items) = events_ahead items + 1

-- the bytes that stand in front again
abbrev pub frees_ahead : {E : Type 0} → List (Ahead E) → ℕ
frees_ahead [] = 0
frees_ahead (ByteAhead b ∷ items) = frees_ahead items
frees_ahead (FreeAhead b ∷ items) = frees_ahead items + 1
frees_ahead (EndAhead ∷ items) = frees_ahead items
frees_ahead (ReturnAhead back ∷ items) = frees_ahead items
frees_ahead (DoAhead event ∷ items) = frees_ahead items

-- for so many events put back there is room, by the limit on the depth: five before each end, and five behind the last
abbrev pub most_events : ℕ → ℕ
most_events most_texts = 5 * (most_texts + 1)

-- for so many bytes that stand in front again there is room
abbrev pub most_frees : ℕ
most_frees = 21

-- what counts in the limit on the stack: unread pushed bytes, the texts that are held while they are read, and the arguments
-- of the bodies that lines called and that haven't ended
abbrev pub pushed : {E : Type 0} → Input E → ℕ
pushed i = bytes_ahead i.ahead + held i.arguments + texts_held i.escapes + live_bytes i.calls

-- what counts in the limit on the depth: pushed texts that haven't ended
abbrev pub depth : {E : Type 0} → Input E → ℕ
depth i = ends_ahead i.ahead

-- what counts in the limit on conditions: the results that are kept
abbrev pub result_count : {E : Type 0} → Input E → ℕ
result_count i = length i.results

-- a text and its end are put in front
abbrev pub pushing : {E : Type 0} → List ℕ → Input E → Input E
pushing text i = record i { ahead = map ByteAhead text ++ EndAhead ∷ i.ahead }

-- a line is read of which nothing was read
abbrev pub beginning_line : {E : Type 0} → Input E → Input E
beginning_line i = record i { arguments = no_arguments; escapes = [] }

-- an event is put back
abbrev pub putting_back : {E : Type 0} → E → Input E → Input E
putting_back event i = record i { ahead = DoAhead event ∷ i.ahead }

-- events are put back, the first in front
abbrev pub putting_all_back : {E : Type 0} → List E → Input E → Input E
putting_all_back events i = record i { ahead = map DoAhead events ++ i.ahead }

-- bytes that were taken stand in front again
abbrev pub freeing : {E : Type 0} → List ℕ → Input E → Input E
freeing bytes i = record i { ahead = map FreeAhead bytes ++ i.ahead }

-- what an item ahead costs
abbrev pub cost : {E : Type 0} → Ahead E → ℕ
cost (ByteAhead b) = 1
cost (FreeAhead b) = 0
cost EndAhead = 1
cost (ReturnAhead back) = 1
cost (DoAhead event) = 1

-- the front item, if there is one
abbrev pub first : {E : Type 0} → List (Ahead E) → Option (Ahead E)
first [] = None
first (item ∷ items) = Some item

-- the first item behind any ends of texts
abbrev pub first_but_ends : {E : Type 0} → List (Ahead E) → Option (Ahead E)
first_but_ends [] = None
first_but_ends (ByteAhead b ∷ items) = Some (ByteAhead b)
first_but_ends (FreeAhead b ∷ items) = Some (FreeAhead b)
first_but_ends (EndAhead ∷ items) = first_but_ends items
first_but_ends (ReturnAhead back ∷ items) = first_but_ends items
first_but_ends (DoAhead event ∷ items) = Some (DoAhead event)

-- what the front item costs, if there is one
abbrev pub front_cost : {E : Type 0} → List (Ahead E) → ℕ
front_cost [] = 0
front_cost (item ∷ items) = cost item

-- the calls that aren't over behind an item: the end of a called body is the end of its call
abbrev pub calls_behind : {E : Type 0} → Ahead E → List (List (List ℕ)) → List (List (List ℕ))
calls_behind (ReturnAhead back) calls = drop 1 calls
calls_behind (_) calls = calls

-- the results that were kept while fewer calls than so many weren't over
abbrev pub results_below : ℕ → List (Bool × ℕ) → List (Bool × ℕ)
results_below calls [] = []
results_below calls (result ∷ others) = if nat_le calls result.1 then results_below calls others else result ∷ others

-- the results that are kept behind an item: those that were kept in a called body are dropped at its end
abbrev pub results_behind : {E : Type 0} → Ahead E → List (List (List ℕ)) → List (Bool × ℕ) → List (Bool × ℕ)
results_behind (ReturnAhead back) calls results = results_below (length calls) results
results_behind (_) calls results = results

-- what is gone back to behind the outermost end of a body, by its code, or this where no such end stands ahead
abbrev pub outermost_back : {E : Type 0} → ℕ → List (Ahead E) → ℕ
outermost_back back [] = back
outermost_back back (ByteAhead b ∷ items) = outermost_back back items
outermost_back back (FreeAhead b ∷ items) = outermost_back back items
outermost_back back (EndAhead ∷ items) = outermost_back back items
outermost_back back (ReturnAhead outer ∷ items) = outermost_back outer items
outermost_back back (DoAhead event ∷ items) = outermost_back back items

-- all that stands ahead is dropped, and so are the calls of bodies and what was kept in them
abbrev pub leaving : {E : Type 0} → Input E → Input E
leaving i = record i { ahead = []; calls = []; results = results_below 1 i.results }

-- an item ahead is taken, and these stand behind it
abbrev pub item_taken : {E : Type 0} → Ahead E → List (Ahead E) → Input E → Input E
item_taken item behind i = record i {
  ahead = behind;
  charge = i.charge + cost item;
  calls = calls_behind item i.calls;
  results = results_behind item i.calls i.results;
}

-- these bytes that stand ahead are taken, one after another, and these items stand behind them
abbrev pub bytes_taken : {E : Type 0} → List ℕ → List (Ahead E) → Input E → Input E
bytes_taken [] behind i = i
bytes_taken (b ∷ bytes) behind i = bytes_taken bytes behind (item_taken (ByteAhead b) (map ByteAhead bytes ++ behind) i)

-- a byte of the source is taken: it stands on its line, and a newline on the line that it ends
abbrev pub counting : {E : Type 0} → ℕ → Input E → Input E
counting b i = record i {
  charge = i.charge + 1;
  newlines = if b == newline then i.newlines + 1 else i.newlines;
  line = i.newlines + 1;
}

-- these bytes of the source are taken, one after another
abbrev pub lines_taken : {E : Type 0} → List ℕ → Input E → Input E
lines_taken [] i = i
lines_taken (b ∷ bytes) i = lines_taken bytes (counting b i)

-- these are half read
abbrev pub with_escapes : {E : Type 0} → List OpenEscape → Input E → Input E
with_escapes half i = record i { escapes = half }

-- no argument of the line was read
abbrev pub without_arguments : {E : Type 0} → Input E → Input E
without_arguments i = record i { arguments = no_arguments }

-- these arguments were read: of those that are whole only the ones to be kept are there
abbrev pub with_arguments : {E : Type 0} → Arguments → Input E → Input E
with_arguments a i = record i { arguments = only_kept a }

-- one unit more is held of a line's text, in which nothing separates or quotes
abbrev pub holding_plain : {E : Type 0} → CopyUnit → Input E → Input E
holding_plain unit i = record i { arguments = with_plain i.arguments unit }

-- one unit more is held of the text between delimiters that is being read
abbrev pub holding_text : {E : Type 0} → CopyUnit → Input E → Input E
holding_text unit i = record i { escapes = text_held unit i.escapes }

-- a condition begins to be read, and nothing else is half read
abbrev pub choosing : {E : Type 0} → Input E → Input E
choosing i = record i { escapes = Condition (Choice false) [] ∷ [] }
