-- Requests get the arguments that are written in quotes.
use Rattle.std.proofs.Common.{◌≡◌, ℕ, Bool, true, false, List, [], ◌∷◌, ◌++◌, refl, sym, ◌∙◌, ap, fold, All, ◌||◌, reverse, if◌then◌else◌, ◌==◌, Option, Some, None, append-nil}
use Rattle.std.specs.List.{flat_map}
use Rattle.std.proofs.lemmas.List.{reverse-reverse}
use Rattle.std.proofs.lemmas.List.Elements.{All-nil, All-cons, All-head, All-tail, All-append}
use Rattle.input_model.proofs.KeptArguments.{only_kept-finished, only_kept-with_unit}
use Rattle.input_arguments.proofs.QuotedArguments.{quoted_arguments_read_back}
use Rattle.input_model.specs.Arguments.{Arguments, no_arguments, with_argument_byte, finished, arguments_read, kept, only_kept}
use Rattle.input_model.specs.Input.Calls.{arguments_given}
use Rattle.input_source.specs.Bytes.{newline, blank, quote, backslash, is_dropped}
use Rattle.input_arguments.specs.Quoting.{quoted_byte, quoted, quoted_line}
use Rattle.input_escapes.specs.OpenEscapes.{byte_read}
use Rattle.input_escapes.specs.declared.open_escape.CopyUnit.TheVariants.{Byte}
use Rattle.input_escapes.specs.OpenEscape.{OpenEscape, Backslash}
use Rattle.input_escapes.specs.declared.open_escape.Found.TheVariants.{GoesOn, Unit as GivesUnit}
use Rattle.input_escapes.specs.declared.open_escape.Surroundings.TheVariants.{Arguments as AboveArguments}
use Rattle.law_reading.proofs.Interpolation.{IsRead, IsRead-itself}
use Rattle.run_model.proofs.ItemsTaken.{not-first, not-second}
use Rattle.run_model.specs.declared.line_state.LineState.{LineState}
use Rattle.law_reading.specs.InterpolationLaws.{StandsForItself}
use Rattle.law_reading.specs.Quoting.{both, given_taking, taking_all, RequestsGetQuotedArguments}
use Rattle.run_model.specs.Reading.{byte_taking, undropped_taking}
use Rattle.run_model.specs.Reading.Arguments.{arguments_ended}
use Rattle.run_model.specs.Reading.Definitions.{definition_named, lines_begun}
use Rattle.run_model.specs.Reading.Found.{read_in}
use Rattle.run_model.specs.Reading.Items.{PageInput, Taking, going_on}
use Rattle.run_model.specs.Reading.Units.{holding, settling}
use Rattle.roff_num.specs.ShortNames.{name_at, name_or_none}
use Rattle.run_model.specs.Registers.{Known}
use Rattle.run_model.specs.Requests.{row_of}
use Rattle.roff_num.specs.declared.short_name.ShortName.{ShortName}
use Rattle.run_model.specs.declared.request.LineReading.{LineReading}
use Rattle.run_model.specs.declared.request.LineReading.TheVariants.{ByArguments, ByCondition, ByElse, ByLastLine, ByLines, ByMessage, ByString, ByTitle}
use Rattle.run_model.specs.declared.request.LinesFor.{LinesFor}
use Rattle.run_model.specs.declared.request.LinesFor.TheVariants.{Macro, Nobody}
use Rattle.run_model.specs.declared.line_state.LineState.TheVariants.{Collecting}
use Rattle.run_model.specs.declared.purpose.Purpose.TheVariants.{Arguments as InArguments}
use Rattle.run_model.specs.declared.request.Request.{Request}

-- an input that holds what is kept of some arguments
abbrev with_kept : PageInput → Arguments → PageInput
with_kept i a = record i { escapes = []; arguments = only_kept a }

-- a byte of the arguments goes to them
taking-argument : (k : Known) (breaks : Bool) (request : Request) (i : PageInput) (a : Arguments) (b : ℕ) → StandsForItself b
    → byte_taking k (Collecting (InArguments breaks request)) (with_kept i a) b ≡ going_on (with_kept i (with_argument_byte a b)) (Collecting (InArguments breaks request))
taking-argument k breaks request i a b itself =
    let reading : LineState = Collecting (InArguments breaks request) in
    let held : PageInput = with_kept i a in
    let read : IsRead b = IsRead-itself b itself in
    let unit : byte_read AboveArguments [] b ≡ (GivesUnit (Byte b), []) =
    ap (λ (c : Bool). if c then (GoesOn, Backslash ∷ []) else (GivesUnit (Byte b), [])) (not-first (b == backslash) (is_dropped b || b == newline) itself) in
    ap (λ (c : Bool). if c then going_on (settling held) reading else undropped_taking k reading held b) (not-first (is_dropped b) (b == newline) read)
    ∙ ap (read_in k (Collecting (InArguments breaks request)) held) unit
    ∙ ap (λ (c : Bool). if c then arguments_ended k held breaks request (row_of request).line else going_on (holding (Byte b) held) reading) (not-second (is_dropped b) (b == newline) read)
    ∙ ap (λ (arguments : Arguments). going_on (record i { escapes = []; arguments = arguments }) reading) (only_kept-with_unit a (Byte b))

-- what is done by a byte's taking and by those of others
abbrev joined : Taking → Taking → Taking
joined t others = record { input = others.input; reading = others.reading; effect = both t.effect others.effect }

-- the arguments that are given at the line's end
arguments_given-with_kept : (i : PageInput) (a : Arguments) → arguments_given (with_kept i a) ≡ kept (arguments_read a)
arguments_given-with_kept i a =
    ap (λ (finished : Arguments). reverse finished.whole) (only_kept-finished a) ∙ reverse-reverse (kept (reverse (finished a).whole))

-- what the end of the line does
abbrev line_taken : Known → Bool → Request → PageInput → List (List ℕ) → Taking
line_taken k breaks request i as_given = given_taking k breaks request (record i { escapes = [] }) (row_of request).line as_given

-- lines are defined alike whatever was held
definition_named-arguments : (i : PageInput) (a : Arguments) (appends : Bool) (named : Option (Option ShortName)) (end : Option ShortName)
    → definition_named (record i { arguments = a }) appends named end ≡ definition_named i appends named end
definition_named-arguments i a appends None end = refl
definition_named-arguments i a appends (Some None) end = refl
definition_named-arguments i a appends (Some (Some name)) end = refl

lines_begun-arguments : (i : PageInput) (a : Arguments) (lines : LinesFor) (as_given : List (List ℕ))
    → lines_begun (record i { arguments = a }) lines as_given ≡ lines_begun i lines as_given
lines_begun-arguments i a (Macro appends) as_given =
    definition_named-arguments i a appends (name_at 0 as_given) (name_or_none (name_at 1 as_given))
lines_begun-arguments i a Nobody as_given = refl

arguments_ended-given : (k : Known) (breaks : Bool) (request : Request) (i : PageInput) (a : Arguments) (line : LineReading)
    → arguments_ended k (with_kept i a) breaks request line
    ≡ given_taking k breaks request (record i { escapes = [] }) line (arguments_given (with_kept i a))
arguments_ended-given k breaks request i a ByArguments = refl
arguments_ended-given k breaks request i a (ByCondition keeps) = refl
arguments_ended-given k breaks request i a (ByString appends) = refl
arguments_ended-given k breaks request i a ByLastLine = refl
arguments_ended-given k breaks request i a (ByMessage aborts) = refl
arguments_ended-given k breaks request i a ByElse = refl
arguments_ended-given k breaks request i a ByTitle = refl
arguments_ended-given k breaks request i a (ByLines lines) =
    lines_begun-arguments (record i { escapes = [] }) (only_kept a) lines (arguments_given (with_kept i a))

-- nothing is meant behind an effect
both-none : (t : Taking) → joined t (going_on t.input t.reading) ≡ t
both-none t = rw (append-nil t.effect.messages, append-nil t.effect.changes, append-nil t.effect.calls, append-nil t.effect.events) refl

-- bytes of the arguments, and a newline
taking_all-arguments : (k : Known) (breaks : Bool) (request : Request) (i : PageInput) (a : Arguments) (bytes : List ℕ) → All StandsForItself bytes
    → taking_all k (Collecting (InArguments breaks request)) (with_kept i a) (bytes ++ newline ∷ [])
    ≡ line_taken k breaks request i (kept (arguments_read (fold with_argument_byte a bytes)))
taking_all-arguments k breaks request i a [] themselves =
    both-none (arguments_ended k (with_kept i a) breaks request (row_of request).line)
    ∙ arguments_ended-given k breaks request i a (row_of request).line
    ∙ ap (line_taken k breaks request i) (arguments_given-with_kept i a)
taking_all-arguments k breaks request i a (b ∷ bytes) themselves =
    ap (λ (t : Taking). joined t (taking_all k t.reading t.input (bytes ++ newline ∷ [])))
    (taking-argument k breaks request i a b (All-head StandsForItself b bytes themselves))
    ∙ taking_all-arguments k breaks request i (with_argument_byte a b) bytes (All-tail StandsForItself b bytes themselves)

-- one quote
itself-quote : All StandsForItself (quote ∷ [])
itself-quote = All-cons StandsForItself quote [] refl (All-nil StandsForItself)

-- a byte within quotes stands for itself if the byte does
itself-quoted_byte : (b : ℕ) (is_quote : Bool) → StandsForItself b → All StandsForItself (if is_quote then quote ∷ quote ∷ [] else b ∷ [])
itself-quoted_byte b true itself = All-cons StandsForItself quote (quote ∷ []) refl itself-quote
itself-quoted_byte b false itself = All-cons StandsForItself b [] itself (All-nil StandsForItself)

-- so do bytes within quotes
itself-quoted_bytes : (argument : List ℕ) → All StandsForItself argument → All StandsForItself (flat_map quoted_byte argument)
itself-quoted_bytes [] themselves = All-nil StandsForItself
itself-quoted_bytes (b ∷ argument) themselves =
    All-append StandsForItself (quoted_byte b) (flat_map quoted_byte argument)
    (itself-quoted_byte b (b == quote) (All-head StandsForItself b argument themselves))
    (itself-quoted_bytes argument (All-tail StandsForItself b argument themselves))

-- an argument in quotes
pub itself-quoted : (argument : List ℕ) → All StandsForItself argument → All StandsForItself (quoted argument)
itself-quoted argument themselves =
    All-cons StandsForItself quote (flat_map quoted_byte argument ++ quote ∷ []) refl
    (All-append StandsForItself (flat_map quoted_byte argument) (quote ∷ []) (itself-quoted_bytes argument themselves) itself-quote)

-- and all of them
pub itself-quoted_line : (arguments : List (List ℕ)) → All (All StandsForItself) arguments → All StandsForItself (quoted_line arguments)
itself-quoted_line [] themselves = All-nil StandsForItself
itself-quoted_line (argument ∷ []) themselves = itself-quoted argument (All-head (All StandsForItself) argument [] themselves)
itself-quoted_line (argument ∷ next ∷ arguments) themselves =
    let others : All StandsForItself (quoted_line (next ∷ arguments)) =
    itself-quoted_line (next ∷ arguments) (All-tail (All StandsForItself) argument (next ∷ arguments) themselves) in
    All-append StandsForItself (quoted argument) (blank ∷ quoted_line (next ∷ arguments))
    (itself-quoted argument (All-head (All StandsForItself) argument (next ∷ arguments) themselves))
    (All-cons StandsForItself blank (quoted_line (next ∷ arguments)) refl others)

-- a request gets the arguments that bytes of a line are read as
pub gets-read : (k : Known) (breaks : Bool) (request : Request) (i : PageInput) (bytes : List ℕ) (read : List (List ℕ)) → i.escapes ≡ [] → i.arguments ≡ no_arguments
    → All StandsForItself bytes → arguments_read (fold with_argument_byte no_arguments bytes) ≡ read
    → taking_all k (Collecting (InArguments breaks request)) i (bytes ++ newline ∷ []) ≡ given_taking k breaks request i (row_of request).line (kept read)
gets-read k breaks request i bytes read half none themselves is =
    let input : record i { escapes = []; arguments = no_arguments } ≡ i =
    ap (λ (h : List OpenEscape). record i { escapes = h; arguments = no_arguments }) (sym half) ∙ ap (λ (a : Arguments). record i { arguments = a }) (sym none) in
    ap (λ (j : PageInput). taking_all k (Collecting (InArguments breaks request)) j (bytes ++ newline ∷ [])) (sym input)
    ∙ taking_all-arguments k breaks request i no_arguments bytes themselves
    ∙ ap (λ (texts : List (List ℕ)). line_taken k breaks request i (kept texts)) is
    ∙ ap (λ (h : List OpenEscape). given_taking k breaks request (record i { escapes = h }) (row_of request).line (kept read)) (sym half)

-- and so those that are written in quotes
pub requests_get_quoted_arguments : RequestsGetQuotedArguments
requests_get_quoted_arguments k breaks request i arguments half none themselves =
    gets-read k breaks request i (quoted_line arguments) arguments half none (itself-quoted_line arguments themselves) (quoted_arguments_read_back arguments)
