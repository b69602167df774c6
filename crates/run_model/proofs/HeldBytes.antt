-- How many bytes are held of the text or the argument that is being read, behind what reading does with the input: two more at the most.
use Rattle.std.proofs.Common.{◌≡◌, ◌≤◌, ◌+◌, ℕ, Bool, true, false, List, [], ◌∷◌, length, Option, Some, None, refl, arith, nat_le, ◌&&◌, if◌then◌else◌, ◌==◌}
use Rattle.input_escapes.specs.declared.open_escape.CopyUnit.{CopyUnit}
use Rattle.input_escapes.specs.declared.open_escape.CopyUnit.TheVariants.{Byte, Kept}
use Rattle.input_model.specs.Arguments.{Arguments, between, only_kept, settled, settled_at, with_byte, with_byte_at, with_whole}
use Rattle.input_model.specs.Input.Names.{calling, calling_on, texts_of}
use Rattle.input_model.specs.declared.place.Place.{Place}
use Rattle.input_model.specs.declared.place.Place.TheVariants.{Between, InPlain, InQuotes, BehindQuote}
use Rattle.roff_num.specs.ShortNames.{name_bytes}
use Rattle.roff_num.specs.declared.short_name.ShortName.{ShortName}
use Rattle.input_source.specs.Bytes.{blank, quote}
use Rattle.roff_store.specs.TextCalls.{Call, DropOpen, Enter, PushOpen, Set}
use Rattle.roff_store.specs.Texts.{Body, has_body, newest}
use Rattle.input_escapes.specs.OpenEscape.{unit_bytes}
use Rattle.run_model.specs.Reading.Arguments.{calling_all}
use Rattle.run_model.specs.Reading.Branches.{with_result_if}
use Rattle.run_model.specs.Reading.Calls.{called_last, holding_call, last_called}
use Rattle.run_model.specs.Reading.Definitions.{definition_dropped, definition_grown}
use Rattle.run_model.specs.Reading.Items.{PageInput}
use Rattle.run_model.specs.Reading.Strings.{string_begun, string_emptied, string_entered, string_grown}
use Rattle.run_model.specs.Reading.Units.{collects_arguments, holding, interrupted, settling}
use Rattle.run_model.specs.Requests.{called_by}
use Rattle.run_model.specs.declared.request.Called.{Called}
use Rattle.run_model.specs.declared.request.Called.TheVariants.{Request as ARequest, Body as ABody, Nothing as Unknown}
use Rattle.run_model.specs.declared.line_state.LineState.{LineState}
use Rattle.run_model.specs.declared.line_state.LineState.TheVariants.{LineStart, Branch, Braced, Text as InText, Control, Name, Deciding, Skipping, Dropped, Told, Exiting, TitleFront, Title as InTitle, Collecting}
use Rattle.run_model.specs.declared.purpose.Purpose.{Purpose}

-- the bytes held of what is being read
abbrev pub held_of : PageInput → ℕ
held_of i = length i.arguments.begun

-- either of two, by a test
held-if : (b : Bool) (x y : Arguments) (most : ℕ) → length x.begun ≤ most → length y.begun ≤ most → length (if b then x else y).begun ≤ most
held-if true x y most first second = first
held-if false x y most first second = second

-- a unit
held-settled : (place : Place) (a : Arguments) → length (settled_at place a).begun ≤ length a.begun
held-settled Between a = omega arith
held-settled InPlain a = omega arith
held-settled InQuotes a = omega arith
held-settled BehindQuote a = omega arith

held-between : (a : Arguments) (b : ℕ) → length (between a b).begun ≤ length a.begun + 1
held-between a b =
    held-if (b == blank) a _ (length a.begun + 1) (omega arith)
    (held-if (b == quote) (record a { place = InQuotes }) (with_byte a InPlain b) (length a.begun + 1) (omega arith) (omega arith))

held-byte : (place : Place) (a : Arguments) (b : ℕ) → length (with_byte_at place a b).begun ≤ length a.begun + 1
held-byte Between a b = held-between a b
held-byte InPlain a b = held-if (b == blank) (with_whole a) (with_byte a InPlain b) (length a.begun + 1) (omega arith) (omega arith)
held-byte InQuotes a b =
    held-if (b == quote) (record a { place = BehindQuote }) (with_byte a InQuotes b) (length a.begun + 1) (omega arith) (omega arith)
held-byte BehindQuote a b =
    held-if (b == quote) (with_byte a InQuotes b) (between (with_whole a) b) (length a.begun + 1) (omega arith) (omega (arith, held-between (with_whole a) b))

pub held-holding : (unit : CopyUnit) (i : PageInput) → held_of (holding unit i) ≤ held_of i + 2
held-holding (Byte b) i = omega (arith, held-byte i.arguments.place i.arguments b)
held-holding (Kept b) i = omega (arith, held-settled i.arguments.place i.arguments)

pub held-settling : (i : PageInput) → held_of (settling i) ≤ held_of i
held-settling i = held-settled i.arguments.place i.arguments

pub held-holding_call : (unit : CopyUnit) (i : PageInput) → held_of (holding_call unit i) ≤ held_of i + 2
held-holding_call unit i = by_test (nat_le 9 (length i.arguments.whole))
  where
    by_test : (full : Bool) → held_of (if full then i else holding unit i) ≤ held_of i + 2
    by_test true = omega arith
    by_test false = held-holding unit i

-- no unit
held-collecting : (purpose : Purpose) (i : PageInput) → held_of (interrupted (Collecting purpose) i) ≤ held_of i
held-collecting purpose i =
    held-if (collects_arguments purpose) (only_kept (settled i.arguments)) i.arguments (held_of i) (held-settled i.arguments.place i.arguments) (omega arith)

pub held-interrupted : (reading : LineState) (i : PageInput) → held_of (interrupted reading i) ≤ held_of i
held-interrupted (Collecting purpose) i = held-collecting purpose i
held-interrupted LineStart i = omega arith
held-interrupted Branch i = omega arith
held-interrupted Braced i = omega arith
held-interrupted (InText line) i = omega arith
held-interrupted (Control breaks) i = omega arith
held-interrupted (Name breaks first) i = omega arith
held-interrupted (Deciding keeps) i = omega arith
held-interrupted (Skipping opened closed behind) i = omega arith
held-interrupted Dropped i = omega arith
held-interrupted (Told aborts) i = omega arith
held-interrupted Exiting i = omega arith
held-interrupted TitleFront i = omega arith
held-interrupted (InTitle delimiter) i = omega arith

-- calls on what names stand for
pub held-calling_all : (calls : List Call) (i : PageInput) → held_of (calling_all calls i) ≡ held_of i
held-calling_all [] i = refl
held-calling_all (call ∷ calls) i = held-calling_all calls (calling call i)

held-calling_on : (call : ℕ → Call) (id : Option ℕ) (i : PageInput) → held_of (calling_on call id i) ≡ held_of i
held-calling_on call None i = refl
held-calling_on call (Some id) i = refl

-- texts in the making
pub held-string_begun : (name : Option ShortName) (i : PageInput) → held_of (string_begun name i) ≡ 0
held-string_begun None i = refl
held-string_begun (Some name) i = refl

pub held-string_grown : (name : Option ShortName) (unit : CopyUnit) (i : PageInput) → held_of (string_grown name unit i) ≡ held_of i
held-string_grown None unit i = refl
held-string_grown (Some name) unit i = held-calling_on (λ id. PushOpen id (unit_bytes unit)) (newest i.open_texts) i

pub held-string_entered : (name : Option ShortName) (appends : Bool) (i : PageInput) → held_of (string_entered name appends i) ≡ held_of i
held-string_entered None appends i = refl
held-string_entered (Some name) appends i = held-calling_on (λ id. Enter id (name_bytes name) appends) (newest i.open_texts) i

pub held-string_emptied : (name : Option ShortName) (appends : Bool) (i : PageInput) → held_of (string_emptied name appends i) ≤ held_of i
held-string_emptied None appends i = omega arith
held-string_emptied (Some name) appends i = by_test (appends && has_body (name_bytes name) (texts_of i))
  where
    by_test : (stays : Bool) → held_of (if stays then i else calling (Set (name_bytes name) (Body [])) i) ≤ held_of i
    by_test true = omega arith
    by_test false = omega arith

pub held-definition_grown : (name : Option ShortName) (bytes : List ℕ) (i : PageInput) → held_of (definition_grown name bytes i) ≡ held_of i
held-definition_grown None bytes i = refl
held-definition_grown (Some name) bytes i = held-calling_on (λ id. PushOpen id bytes) (newest i.open_texts) i

pub held-definition_dropped : (name : Option ShortName) (i : PageInput) → held_of (definition_dropped name i) ≡ held_of i
held-definition_dropped None i = refl
held-definition_dropped (Some name) i = held-calling_on (λ id. DropOpen id) (newest i.open_texts) i

-- a result that is kept
pub held-result : (keeps so : Bool) (i : PageInput) → held_of (with_result_if keeps so i) ≡ held_of i
held-result true so i = refl
held-result false so i = refl

-- the last macro is called without arguments
held-called_last : (called : Called) (i : PageInput) → held_of (called_last called i) ≤ held_of i
held-called_last (ABody name) i = omega arith
held-called_last (ARequest request) i = omega arith
held-called_last Unknown i = omega arith

pub held-last_called : (name : Option ShortName) (i : PageInput) → held_of (last_called name i) ≤ held_of i
held-last_called None i = omega arith
held-last_called (Some name) i = held-called_last (called_by name i.names) i
