-- Arguments written as words and in quotes, in any order, as a called body gets them (manual, sections 7 and 7.3).
use Rattle.std.specs.Prelude.{◌≡◌, ℕ, suc, ◌+◌, List, [], ◌∷◌, ◌++◌, length, map, replicate, All}
use Rattle.std.specs.List.{flat_map}
use Rattle.roff_num.specs.declared.limits.Limits.{Limits}
use Rattle.roff_num.specs.declared.short_name.ShortName.{ShortName}
use Rattle.input_arguments.specs.Quoting.{quoted}
use Rattle.input_source.specs.Bytes.{blank}
use Rattle.input_source.specs.Tape.{Tape, OneByte, items_then}
use Rattle.input_model.specs.Input.{Ahead, ByteAhead, lines_taken}
use Rattle.law_reading.specs.CallLaws.{BeginsLine, with_call}
use Rattle.law_reading.specs.InterpolationLaws.{StandsForItself}
use Rattle.law_reading.specs.WordArguments.{IsWord}
use Rattle.law_reading.specs.WordCalls.{NamesBody, call_with, read_as}
use Rattle.run_model.specs.Reading.Items.{PageInput}
use Rattle.run_model.specs.Run.{State, after}
use Rattle.run_model.specs.Within.{IsWithin}
use Rattle.run_model.specs.PageEvents.{PageEvent}

-- an argument as it is written: a word, or a text in quotes
pub data Written : Type 0 where
  Word : List ℕ → Written
  Quoted : List ℕ → Written

-- its bytes on the line, and those of the argument
abbrev pub written_bytes : Written → List ℕ
written_bytes (Word word) = word
written_bytes (Quoted text) = quoted text

abbrev pub argument_of : Written → List ℕ
argument_of (Word word) = word
argument_of (Quoted text) = text

-- it may be written so: in quotes stand any bytes that stand for themselves
abbrev pub MayBeWritten : Written → Type 0
MayBeWritten (Word word) = IsWord word
MayBeWritten (Quoted text) = All StandsForItself text

-- an argument and the blanks behind it, of which there is one at least
abbrev pub written_and_gap : Written × ℕ → List ℕ
written_and_gap part = written_bytes part.0 ++ replicate (suc part.1) blank

-- arguments with blanks between them, blanks in front, and the last one at the line's end
abbrev pub written_line : ℕ → List (Written × ℕ) → Written → List ℕ
written_line leading parts last = (replicate leading blank ++ flat_map written_and_gap parts) ++ written_bytes last

abbrev pub AreWritten : List (Written × ℕ) → Type 0
AreWritten parts = All (λ (part : Written × ℕ). MayBeWritten part.0) parts

-- the arguments of such a line
abbrev pub arguments_of : List (Written × ℕ) → Written → List (List ℕ)
arguments_of parts last = map (λ part. argument_of part.0) parts ++ argument_of last ∷ []

-- what is written so is read as it was
abbrev pub MixedArgumentsReadBack : Type 0
MixedArgumentsReadBack =
    (leading : ℕ) (parts : List (Written × ℕ)) (last : Written) → AreWritten parts → MayBeWritten last →
    read_as (written_line leading parts last) ≡ arguments_of parts last

-- and a called body gets the first nine of them
abbrev pub BodiesGetMixedArguments : Type 0
BodiesGetMixedArguments =
    (l : Limits) (s : State) (control : ℕ) (name : ShortName) (body : List ℕ) (leading : ℕ) (parts : List (Written × ℕ))
    (last : Written) (rest : List (Ahead PageEvent)) →
    BeginsLine s → NamesBody s.input.names control name body → AreWritten parts → MayBeWritten last →
    let line : List ℕ = call_with control name (written_line leading parts last) in
    s.input.ahead ≡ map ByteAhead line ++ rest →
    let behind : PageInput = record s.input { ahead = rest; charge = s.input.charge + length line } in
    let called : State = record s { input = with_call body (arguments_of parts last) behind } in
    IsWithin l s → IsWithin l called → after l (length line) s ≡ called

-- and so it is where the line stands in the source itself, with nothing ahead of it
abbrev pub BodiesOfTheSourceGetMixedArguments : Type 0
BodiesOfTheSourceGetMixedArguments =
    (l : Limits) (s : State) (control : ℕ) (name : ShortName) (body : List ℕ) (leading : ℕ) (parts : List (Written × ℕ))
    (last : Written) (tape : Tape) →
    BeginsLine s → NamesBody s.input.names control name body → AreWritten parts → MayBeWritten last → s.input.ahead ≡ [] →
    let line : List ℕ = call_with control name (written_line leading parts last) in
    s.tape ≡ items_then (map OneByte line) tape →
    let called : State = record s { tape = tape; input = with_call body (arguments_of parts last) (lines_taken line s.input) } in
    IsWithin l s → IsWithin l called → after l (length line) s ≡ called
