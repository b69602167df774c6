-- What a run gives on a small text: worked rows are computed with these.
use Rattle.std.specs.Prelude.{ℕ, List, map, take, Option, Some}
use Rattle.run_model.specs.declared.status.Status.{Status}
use Rattle.roff_num.specs.LimitValues.{default_limits}
use Rattle.roff_num.specs.declared.limits.Limits.{Limits}
use Rattle.run_model.specs.Results.{last_state}
use Rattle.run_model.specs.Run.{State, output, reported}
use Rattle.roff_num.specs.declared.num.Num.{Num}
use Rattle.run_model.specs.Starts.{nothing_given}
use Rattle.run_model.specs.declared.start.Start.{Start}
use Rattle.input_source.specs.Tape.{OneByte, Ending, Ended, Failed}

-- what a run gave: the output, the messages, and the status that it ended with
pub record Result : Type 0 where
  pub text : List ℕ
  pub messages : List ℕ
  pub status : Option Status

-- a run that ended with this status
abbrev pub gives : List ℕ → List ℕ → Status → Result
gives text messages status = record { text = text; messages = messages; status = Some status }

-- what a run over a text gives that was given this
abbrev pub result_from : Start → Limits → List ℕ → Ending → Result
result_from start l text ending =
    let s : State = last_state l start (record { items = map OneByte text; ending = ending }) in
    record { text = output s; messages = reported s; status = s.ended }

-- and one that was given nothing
abbrev pub result_of : Limits → List ℕ → Ending → Result
result_of l text ending = result_from nothing_given l text ending

-- with these registers, and this limit on them
abbrev pub formatted_from : List (ℕ × Num) → ℕ → List ℕ → Result
formatted_from registers names text =
    result_from (record nothing_given { registers = record { items = registers } }) (record default_limits { names = names }) text Ended

-- with this number of the first page, and these pages written
abbrev pub formatted_paged : Option Num → List (Num × Num) → List ℕ → Result
formatted_paged first pages text =
    result_from (record nothing_given { first_page = first; pages = record { items = pages } }) default_limits text Ended

-- with the limits as they are without an option
abbrev pub formatted : List ℕ → Result
formatted text = result_of default_limits text Ended

-- with these limits on the bytes, and on the pending line
abbrev pub formatted_within : ℕ → ℕ → List ℕ → Result
formatted_within bytes line text = result_of (record default_limits { bytes = bytes; line = line }) text Ended

-- with these limits on the pushed bytes, the pushed texts and the registers
abbrev pub formatted_with : ℕ → ℕ → ℕ → List ℕ → Result
formatted_with stack depth names text =
    result_of (record default_limits { stack = stack; depth = depth; names = names }) text Ended

-- with these limits on the traps, and on the output
abbrev pub formatted_pages_within : ℕ → ℕ → List ℕ → Result
formatted_pages_within traps output text = result_of (record default_limits { traps = traps; output = output }) text Ended

-- with this limit on the messages
abbrev pub formatted_telling : ℕ → List ℕ → Result
formatted_telling messages text = result_of (record default_limits { messages = messages }) text Ended

-- where the text ends so, with this limit on the bytes
abbrev pub formatted_up_to : ℕ → Ending → List ℕ → Result
formatted_up_to bytes ending text = result_of (record default_limits { bytes = bytes }) text ending

-- where the source fails after so many bytes
abbrev pub formatted_failing : ℕ → List ℕ → Result
formatted_failing count text = result_of default_limits (take count text) Failed
