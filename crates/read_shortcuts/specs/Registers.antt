-- Registers, strings and arguments that are read at once, where their escapes stand whole in front (manual, sections 7 and 8).
use Rattle.std.specs.Prelude.{◌≡◌, ℕ, ◌+◌, ◌-◌, ◌<◌, ◌≤◌, ◌==◌, ◌++◌, Bool, true, false, List, [], ◌∷◌, length, take, Option, Some, None}
use Rattle.input_model.specs.Arguments.{Arguments, held, is_behind_quote}
use Rattle.input_model.specs.declared.place.Place.{Place}
use Rattle.run_state.specs.Composer.Standing.{StandFor}
use Rattle.run_state.specs.declared.composer.Composer.{Composer as ComposerOf}
use Rattle.input_escapes.specs.OpenEscape.{OpenEscape}
use Rattle.input_escapes.specs.OpenEscapes.{byte_read}
use Rattle.input_escapes.specs.Waiting.{is_ended_by}
use Rattle.input_escapes.specs.declared.escapes.NameUse.{NameUse}
use Rattle.input_escapes.specs.declared.escapes.NameUse.TheVariants.{Argument, Register, Text}
use Rattle.input_escapes.specs.declared.open_escape.Found.TheVariants.{Asks, GoesOn}
use Rattle.input_escapes.specs.declared.open_escape.Surroundings.{Surroundings}
use Rattle.input_escapes.specs.declared.open_escape.Waiting.TheVariants.{Takes}
use Rattle.input_model.specs.Input.{depth, pushed, pushing}
use Rattle.input_model.specs.Input.Calls.{argument_live, arguments_live}
use Rattle.input_model.specs.Input.Names.{body_named}
use Rattle.input_model.specs.Unread.{IsWithin}
use Rattle.roff_num.specs.declared.limits.Limits.{Limits}
use Rattle.roff_num.specs.ShortNames.{name_bytes}
use Rattle.roff_num.specs.declared.short_name.ShortName.{ShortName}
use Rattle.read_lines.specs.Reader.State.{ReaderState}
use Rattle.run_model.specs.Environments.{PageHistory}
use Rattle.run_model.specs.Reading.{byte_taking}
use Rattle.run_model.specs.Reading.Ends.{due}
use Rattle.run_model.specs.Reading.Escapes.{argument_named}
use Rattle.run_model.specs.Reading.Items.{PageInput, PageUnread, going_on}
use Rattle.run_model.specs.Reading.Units.{interrupted, settled_for}
use Rattle.run_model.specs.Reading.Waiting.{line_waits, waiting_in}
use Rattle.run_model.specs.Registers.{Known, text_of_register}
use Rattle.run_model.specs.Run.{known_at}
use Rattle.run_model.specs.Stages.{Stage, Turned, held_at, input_at, stage_of}
use Rattle.run_model.specs.TurnsToCome.{turns_to_come}
use Rattle.run_model.specs.declared.line_state.LineState.{LineState}
use Rattle.roff_scan.specs.Unread.Calls.{IsFront, PassesEnd, PassesFront, front_bytes}
use Rattle.input_source.specs.Bytes.{is_argument_byte, is_dropped}
use Rattle.input_source.specs.Tape.{Tape}
use Rattle.read_shortcuts.specs.Stages.{ReadsPast}
use Rattle.read_shortcuts.specs.declared.registers.TextAhead.{TextAhead}
use Rattle.read_shortcuts.specs.declared.registers.TextAhead.TheVariants.{Register as RegisterAhead, Argument as ArgumentAhead}
use Rattle.roff_store.specs.Named.{Named}
use Rattle.roff_store.specs.Texts.{Entry}

-- what is read at once in the place of its escape
pub data Asked : Type 0 where
  OfRegister : Asked
  OfString : Asked
  OfArgument : Asked

-- what its name is read for, and the letter behind the backslash
abbrev pub purpose_of : Asked → NameUse
purpose_of OfRegister = Register None
purpose_of OfString = Text
purpose_of OfArgument = Argument

abbrev pub letter_of : Asked → ℕ
letter_of OfRegister = 110
letter_of OfString = 42
letter_of OfArgument = 36

-- the text that is read
abbrev pub text_asked : Asked → Known → PageInput → List ℕ → List ℕ
text_asked OfRegister k i name = text_of_register k name
text_asked OfString k i name = body_named name i
text_asked OfArgument k i name = argument_named name (arguments_live i)

-- the bytes of the escape of a name
abbrev pub escape_behind : Asked → ℕ → Option ℕ → List ℕ
escape_behind asked first None = 92 ∷ letter_of asked ∷ first ∷ []
escape_behind asked first (Some second) = 92 ∷ letter_of asked ∷ 40 ∷ first ∷ second ∷ []

abbrev pub escape_of : Asked → ShortName → List ℕ
escape_of asked name = escape_behind asked name.first name.second

abbrev pub register_escape : ShortName → List ℕ
register_escape name = escape_of OfRegister name

-- a name of one byte is neither a sign nor a parenthesis, and each byte is one that isn't dropped, no backslash and no newline
abbrev pub IsNameOf : ℕ → Option ℕ → Type 0
IsNameOf first None =
    (is_argument_byte first ≡ true) × ((first == 40) ≡ false) × ((first == 43) ≡ false) × ((first == 45) ≡ false)
IsNameOf first (Some second) = (is_argument_byte first ≡ true) × (is_argument_byte second ≡ true)

abbrev pub IsRegisterName : ShortName → Type 0
IsRegisterName name = IsNameOf name.first name.second

-- whether it may have a name of two bytes: an argument's has one
abbrev pub HasLongNames : Asked → Type 0
HasLongNames OfRegister = Unit {0}
HasLongNames OfString = Unit {0}
HasLongNames OfArgument = ⊥

-- such a name
abbrev pub IsNameFor : Asked → ℕ → Option ℕ → Type 0
IsNameFor asked first None = IsNameOf first None
IsNameFor asked first (Some second) = IsNameOf first (Some second) × HasLongNames asked

-- the name of these bytes, which is a register's
pub record NamesRegister (first : ℕ) (second : Option ℕ) (name : ShortName) : Type 0 where
  pub named : IsRegisterName name
  pub is : name ≡ record { first = first; second = second }

-- bytes begin with the escape of a name
pub record BeginsEscape (asked : Asked) (bytes : List ℕ) (name : ShortName) : Type 0 where
  pub named : IsRegisterName name
  pub among : length (escape_of asked name) ≤ length bytes
  pub is : take (length (escape_of asked name)) bytes ≡ escape_of asked name

abbrev pub BeginsRegister : List ℕ → ShortName → Type 0
BeginsRegister bytes name = BeginsEscape OfRegister bytes name

-- the same of an argument's
pub record BeginsArgument (bytes : List ℕ) (digit : ℕ) : Type 0 where
  pub above : 49 ≤ digit
  pub below : digit ≤ 57
  pub among : 3 ≤ length bytes
  pub is : take 3 bytes ≡ escape_behind OfArgument digit None

-- Where this is read, a byte that gives nothing yet changes only what is half read, once no quote follows the one before; and behind
-- the name of a register or a string its text is read in its escape's place. Nothing is waited for but a quote behind one.
pub record ReadsNames (reading : LineState) : Type 0 where
  pub none_due : due reading ≡ None
  pub goes_on : (k : Known) (i : PageInput) (b : ℕ) (next : List OpenEscape) → is_dropped b ≡ false
      → ((base : Surroundings) → byte_read base i.escapes b ≡ (GoesOn, next))
      → byte_taking k reading i b ≡ going_on (record (interrupted reading i) { escapes = next }) reading
  pub asks : (asked : Asked) (k : Known) (i : PageInput) (b : ℕ) (rest : List OpenEscape) (name : List ℕ) → is_dropped b ≡ false
      → ((base : Surroundings) → byte_read base i.escapes b ≡ (Asks (purpose_of asked) (Some name), rest))
      → let behind : PageInput = record (interrupted reading i) { escapes = rest } in
      byte_taking k reading i b ≡ going_on (pushing (text_asked asked k behind name) behind) reading
  pub twice : (a : Arguments) → settled_for reading (settled_for reading a) ≡ settled_for reading a
  pub same_held : (a : Arguments) → held (settled_for reading a) ≡ held a
  pub takes : (place : Place) → is_behind_quote place ≡ false → line_waits reading place ≡ Takes

-- the stage behind the escape of a register, as far as bytes change it: no quote follows the one before
abbrev pub settled_at : Stage → Stage
settled_at p = record p { arguments = settled_for p.reading p.arguments }

-- These bytes lead to where the text of a name is put in front: all but the last one from stage to stage.
pub record AsksText (asked : Asked) (names : Named Entry) (p : Stage) (bytes name : List ℕ) : Type 0 where
  pub front : List ℕ
  pub last : ℕ
  pub is : bytes ≡ front ++ last ∷ []
  pub there : Stage
  pub turned : Turned names p front there
  pub none_due : due there.reading ≡ None
  pub stays : is_ended_by there.escapes (Some last) ≡ false
  pub held : held_at there ≤ held_at p
  pub texts : there.texts ≡ p.texts
  pub asks : (k : Known) (i : PageInput) → let behind : PageInput = input_at names (settled_at p) i in
      byte_taking k there.reading (input_at names there i) last ≡ going_on (pushing (text_asked asked k behind name) behind) p.reading

-- an input with a text in front
abbrev pub with_text : List ℕ → PageUnread → PageUnread
with_text text u = record u { input = pushing text u.input }

-- The escape of the register of a name stands whole in front, where it is read at once: nothing is half read, and the limits have room
-- for its bytes, for the text of any number, and for what is read of that.
pub record IsRegisterAhead (name : ShortName) (reading : LineState) (ready : List ℕ) (u : PageUnread) : Type 0 where
  pub named : IsRegisterName name
  pub reads : ReadsNames reading
  pub none_half : u.input.escapes ≡ []
  pub front : IsFront (length (register_escape name)) ready u
  pub is : front_bytes (length (register_escape name)) ready u ≡ register_escape name
  pub room : pushed u.input + 48 ≤ u.limits.stack
  pub shallow : depth u.input < u.limits.depth
  pub bytes : u.input.charge + 54 ≤ u.limits.bytes

-- the name of an argument
abbrev pub argument_name : ℕ → ShortName
argument_name digit = record { first = digit; second = None }

-- The escape of the argument of a digit stands whole in front, where it is read at once: the same, and the argument is as short as any
-- number.
pub record IsArgumentAhead (digit : ℕ) (reading : LineState) (ready : List ℕ) (u : PageUnread) : Type 0 where
  pub above : 49 ≤ digit
  pub below : digit ≤ 57
  pub reads : ReadsNames reading
  pub none_half : u.input.escapes ≡ []
  pub front : IsFront 3 ready u
  pub is : front_bytes 3 ready u ≡ escape_of OfArgument (argument_name digit)
  pub room : pushed u.input + 48 ≤ u.limits.stack
  pub shallow : depth u.input < u.limits.depth
  pub bytes : u.input.charge + 54 ≤ u.limits.bytes
  pub short : length (argument_live (digit - 49) u.input) ≤ 48

-- the text of this is no longer than any number
abbrev pub IsShort : TextAhead → PageInput → Type 0
IsShort (RegisterAhead name) i = Unit {0}
IsShort (ArgumentAhead digit) i = length (argument_live (digit - 49) i) ≤ 48

-- This is read at once where its escape stands whole in front: names are read there, nothing is half read, and the limits have room.
pub record MayRead (ahead : TextAhead) (reading : LineState) (u : PageUnread) : Type 0 where
  pub reads : ReadsNames reading
  pub none_half : u.input.escapes ≡ []
  pub room : pushed u.input + 48 ≤ u.limits.stack
  pub shallow : depth u.input < u.limits.depth
  pub bytes : u.input.charge + 54 ≤ u.limits.bytes
  pub short : IsShort ahead u.input

-- this escape stands so in front
abbrev pub IsTextAhead : TextAhead → LineState → List ℕ → PageUnread → Type 0
IsTextAhead (RegisterAhead name) reading ready u = IsRegisterAhead name reading ready u
IsTextAhead (ArgumentAhead digit) reading ready u = IsArgumentAhead digit reading ready u

-- what it asks for
abbrev pub asked_by : TextAhead → Asked
asked_by (RegisterAhead name) = OfRegister
asked_by (ArgumentAhead digit) = OfArgument

-- bytes begin with it
abbrev pub BeginsText : List ℕ → TextAhead → Type 0
BeginsText bytes (RegisterAhead name) = BeginsRegister bytes name
BeginsText bytes (ArgumentAhead digit) = BeginsArgument bytes digit

-- An escape that stood whole in front was taken at once, and its text is in front. Fewer turns are to come.
pub record PutsText (asked_for : Asked) (gave gives : Tape → Type 0) (r : ReaderState) (es : ComposerOf) (before after : PageUnread) : Type 0 where
  pub bytes : List ℕ
  pub name : List ℕ
  pub text : List ℕ
  pub passed : PageUnread
  pub asked : AsksText asked_for before.input.names (stage_of r.reading before.input) bytes name
  pub passes : PassesFront gave gives bytes before passed
  pub text_is : (limits : Limits) (h : PageHistory) → StandFor limits h es → text ≡ text_asked asked_for (known_at h r.registers.all passed.input) (interrupted r.reading passed.input) name
  pub put : after ≡ with_text text (record passed { input = interrupted r.reading passed.input })
  pub fewer : turns_to_come after < turns_to_come before
  pub half : after.input.escapes ≡ before.input.escapes
  pub within : IsWithin after

-- the same of a register
abbrev pub PutsRegister : (Tape → Type 0) → (Tape → Type 0) → ReaderState → ComposerOf → PageUnread → PageUnread → Type 0
PutsRegister gave gives r es before after = PutsText OfRegister gave gives r es before after

-- The escape of the string of a name stands whole in front, where it is read at once: nothing is half read, and the limits have room for
-- its bytes and for the text.
pub record IsStringAhead (name : ShortName) (reading : LineState) (ready : List ℕ) (u : PageUnread) : Type 0 where
  pub named : IsRegisterName name
  pub reads : ReadsNames reading
  pub none_half : u.input.escapes ≡ []
  pub front : IsFront (length (escape_of OfString name)) ready u
  pub is : front_bytes (length (escape_of OfString name)) ready u ≡ escape_of OfString name
  pub room : pushed u.input + length (body_named (name_bytes name) u.input) ≤ u.limits.stack
  pub shallow : depth u.input < u.limits.depth

-- The escape of a register or an argument was taken so, and behind it bytes of the text were read past, and the end of that too, if it
-- is said.
pub record HoldsText (gave gives : Tape → Type 0) (r : ReaderState) (es : ComposerOf) (before after : PageUnread) : Type 0 where
  pub asked : Asked
  pub put : PageUnread
  pub puts : PutsText asked gave gives r es before put
  pub read : PageUnread
  pub past : ReadsPast gives gives r r put read
  pub is_ended : Bool
  pub takes : is_ended ≡ true → waiting_in r.reading read.input ≡ Takes
  pub ends : is_ended ≡ true → PassesEnd read after
  pub stays : is_ended ≡ false → after ≡ read
  pub within : IsWithin after
  pub half : after.input.escapes ≡ before.input.escapes
