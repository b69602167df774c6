-- Runs: bytes that stand in front and do alike, and what changes where they are taken together.
use Rattle.std.specs.Prelude.{◌≡◌, ℕ, ◌-◌, ◌≤◌, true, List, length, min, take, take_while}
use Rattle.std.specs.List.{AllByRecursion}
use Rattle.input_source.specs.Tape.{Tape}
use Rattle.input_escapes.specs.ConditionFronts.{HalvesTaken}
use Rattle.input_escapes.specs.EscapeFronts.{HalvesRead}
use Rattle.input_escapes.specs.EscapeTexts.{KeptEscapes}
use Rattle.input_escapes.specs.OpenEscape.{OpenEscape}
use Rattle.input_model.specs.Arguments.{HeldFewer, bytes_held, Arguments as LineArguments}
use Rattle.input_arguments.specs.ArgumentTexts.Kept.{KeptArguments}
use Rattle.input_model.specs.Input.{Input}
use Rattle.input_model.specs.Input.Names.{adding, stored}
use Rattle.roff_scan.specs.RunKinds.{goes_by_bytes, is_of, most_whole}
use Rattle.input_model.specs.Unread.{Unread, asks_to_take}
use Rattle.roff_scan.specs.Unread.Calls.{PassesFront}
use Rattle.roff_scan.specs.declared.run_kind.RunKind.{RunKind}
use Rattle.roff_scan.specs.declared.run_kind.RunKind.TheVariants.{Arguments, CallArguments, Name, Condition, Definition}

-- the arguments of the line behind such bytes
abbrev pub arguments_behind : RunKind → List ℕ → LineArguments → LineArguments
arguments_behind Arguments bytes a = bytes_held bytes a
arguments_behind (CallArguments most) bytes a = bytes_held bytes a
arguments_behind (_) bytes a = a

-- what is half read behind such bytes
abbrev pub HalvesBehind : RunKind → List OpenEscape → List ℕ → List OpenEscape → Type 0
HalvesBehind Name half bytes last = HalvesRead half bytes last
HalvesBehind Condition half bytes last = HalvesTaken half bytes last
HalvesBehind (_) half bytes last = last ≡ half

-- the texts in the making behind such bytes
abbrev pub texts_behind : {E : Type 0} → RunKind → List ℕ → Input E → List (List ℕ)
texts_behind Definition bytes i = (adding bytes i).open_texts
texts_behind (_) bytes i = i.open_texts

-- an input with what a run may change as it is in another one: what is half read, the arguments of the line, and the texts in
-- the making
abbrev pub with_stage_of : {E : Type 0} → Input E → Input E → Input E
with_stage_of before i = record i { escapes = before.escapes; arguments = before.arguments; open_texts = before.open_texts }

-- how many bytes of such a run the limits have room for
abbrev pub room_for : {E : Type 0} → RunKind → Unread E → ℕ
room_for Definition u = min (u.limits.store - stored u.input) (u.limits.bytes - u.input.charge)
room_for (_) u = u.limits.bytes - u.input.charge

-- So many bytes that came next were taken together as a run of this kind: each as if it was taken at its cost, and beside what
-- is counted they changed only what such bytes change. Of the source all that stand ready are taken, up to the first that is
-- none of the run, or as many as the limits have room for, where the bytes tell it by themselves.
pub record TakesRun {E : Type 0} (kind : RunKind) (old new : Tape → Type 0) (ready : List ℕ) (count : ℕ) (before after : Unread E) : Type 0 where
  pub bytes : List ℕ
  pub length_is : length bytes ≡ count
  pub are_of : AllByRecursion (λ b. is_of kind b ≡ true) bytes
  pub fewer : HeldFewer (most_whole kind) bytes before.input.arguments
  pub passes : PassesFront old new bytes before (record after { input = with_stage_of before.input after.input })
  pub arguments : after.input.arguments ≡ arguments_behind kind bytes before.input.arguments
  pub half_read : HalvesBehind kind before.input.escapes bytes after.input.escapes
  pub texts : after.input.open_texts ≡ texts_behind kind bytes before.input
  pub whole : goes_by_bytes kind ≡ true → asks_to_take before ≡ true → bytes ≡ take_while (is_of kind) (take (room_for kind before) ready)

-- So many of these bytes were taken of a run of this kind: they are held in arguments, or change what is half read, or nothing
-- here.
pub record TakesPart (kind : RunKind) (bytes : List ℕ) (count : ℕ) (before after : KeptArguments) (old new : KeptEscapes) : Type 0 where
  pub few : count ≤ length bytes
  pub are_of : AllByRecursion (λ b. is_of kind b ≡ true) (take count bytes)
  pub fewer : HeldFewer (most_whole kind) (take count bytes) before.arguments
  pub held : after ≡ record before { arguments = arguments_behind kind (take count bytes) before.arguments }
  pub half_read : HalvesBehind kind old.escapes (take count bytes) new.escapes
  pub room : new.room ≡ old.room
  pub whole : goes_by_bytes kind ≡ true → take count bytes ≡ take_while (is_of kind) bytes
