-- The states of the run, and how it ends.
use Rattle.std.specs.Prelude.{ℕ, Bool, false, not, List, [], ◌++◌, length, Option, Some, None}
use Rattle.page_model.specs.Events.{settings_after}
use Rattle.page_model.specs.Behind.{input_place, last_width}
use Rattle.page_model.specs.Words.{is_empty}
use Rattle.roff_num.specs.LimitValues.{value_of}
use Rattle.roff_num.specs.declared.limit.Limit.{Limit}
use Rattle.roff_num.specs.declared.limits.Limits.{Limits}
use Rattle.input_model.specs.Input.{initial_input}
use Rattle.input_model.specs.Input.Calls.{arguments_live}
use Rattle.input_source.specs.Tape.{Tape}
use Rattle.input_model.specs.declared.looked.Looked.TheVariants.{Nothing as NothingLooked}
use Rattle.input_model.specs.Unread.{Unread}
use Rattle.run_model.specs.Messages.{message_line, message_lines}
use Rattle.run_model.specs.Environments.{environments, interrupted_line}
pub use Rattle.run_model.specs.Following.{Following, nothing_follows, only_sprung}
use Rattle.run_model.specs.Output.{layout_of, text_of}
use Rattle.run_model.specs.PageEvents.{PageEvent, PageHistory}
use Rattle.run_model.specs.Reading.Items.{PageInput}
use Rattle.run_model.specs.Registers.{AllRegisters, Known, no_registers, changed_by_all}
use Rattle.run_model.specs.Requests.{Effect, first_entries, requests}
use Rattle.run_model.specs.declared.message.Message.{Message}
use Rattle.run_model.specs.declared.message.Message.TheVariants.{LimitReached}
use Rattle.run_model.specs.declared.line_state.LineState.{LineState}
use Rattle.run_model.specs.declared.line_state.LineState.TheVariants.{LineStart}
use Rattle.run_model.specs.declared.status.Status.{Status}
use Rattle.run_model.specs.declared.status.Status.TheVariants.{Limit as Limited}
use Rattle.run_model.specs.declared.phase.Phase.{Phase}
use Rattle.run_model.specs.declared.phase.Phase.TheVariants.{Reading}

-- a state of the run
pub record State : Type 0 where
  -- the source's items not yet taken
  pub tape : Tape
  -- what stands ahead of them, what is half read, and what was counted
  pub input : PageInput
  -- what is being read
  pub reading : LineState
  -- the number registers
  pub registers : AllRegisters
  -- the events that the last item means and that are still to be performed
  pub to_do : List PageEvent
  -- what follows the last of them that was performed, and isn't done yet
  pub follows : Following
  -- the events that were performed, the newest first
  pub history : PageHistory
  -- the messages, as they are written
  pub messages : List ℕ
  -- how far the run has come with its input, and whether nothing more is taken of the source
  pub phase : Phase
  pub is_closed : Bool
  -- how the run ended, and the message with which it did, if there is one
  pub ended : Option Status
  pub last_message : List ℕ

-- the input before anything is read: the requests have their names
abbrev pub first_input : PageInput
first_input = record (initial_input (length requests)) { names = first_entries }

-- the same within these limits
abbrev pub first_unread : Limits → Unread PageEvent
first_unread l = record { input = first_input; looked = NothingLooked; limits = l }

-- before anything is given
abbrev pub blank_state : Tape → State
blank_state tape = record {
  tape = tape;
  input = first_input;
  reading = LineStart;
  registers = no_registers;
  to_do = [];
  follows = nothing_follows;
  history = [];
  messages = [];
  phase = Reading;
  is_closed = false;
  ended = None;
  last_message = [];
}

-- what a request or an escape may ask behind this history
abbrev pub known_at : PageHistory → AllRegisters → PageInput → Known
known_at h rs i = record {
  settings = settings_after (text_of h);
  registers = rs;
  newlines = i.newlines;
  last_width = last_width (text_of h);
  arguments = length (arguments_live i);
  place = input_place (text_of h);
  interrupted = interrupted_line h;
  has_left = not (is_empty (environments h).left);
  layout = layout_of h;
}

-- the same of a state
abbrev pub known : State → Known
known s = known_at s.history s.registers s.input

-- the run ended
abbrev pub ending_as : Status → State → State
ending_as status s = record s { ended = Some status }

-- the run ended, and says why
abbrev pub ending_with : Status → Message → State → State
ending_with status message s = record s { ended = Some status; last_message = message_line s.input.line message }

-- a limit stopped the run
abbrev pub stopped_by : Limits → Limit → State → State
stopped_by l limit s = ending_with (Limited limit) (LimitReached limit (value_of l limit)) s

-- what an item means is to be done: its messages are written, its changes made, and its events stand in front
abbrev pub meaning : Effect → State → State
meaning effect s = record s {
  messages = s.messages ++ message_lines s.input.line effect.messages;
  registers = changed_by_all effect.changes s.registers;
  to_do = effect.events ++ s.to_do;
}

-- what a step does, unless a limit refuses it
abbrev pub unless_refused : Limits → Option Limit → State → State → State
unless_refused l None s done = done
unless_refused l (Some limit) s done = stopped_by l limit s
